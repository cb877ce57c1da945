-- The groups of [POSITION] answer as `written` says: the positions that they say, in the struct, within the limits; or the first group that has a fault; or 12.
--
use mathlib.Core.Path.{◌≡◌, refl, sym, ap, ◌∙◌, subst}
use mathlib.Core.Bool.{Bool, true, false, cond}
use mathlib.Core.List.{List, [], map}
use mathlib.Core.Logic.{◌⊎◌, inl, inr}
use Prim.Native.Nat.{ℕ, ◌≤◌, ◌<◌}
use native.Mathlib.Omega.{arith}
use native.Mathlib.Decide.{dec_lt}
use borrow.Author.Tests.{ltb-true, ltb-false}
use lib.Dec.{ltb}
use lib.ListN.{length}
use Rattle.std.specs.Prelude.{Result, Ok, Err, ⊤}
use Rattle.written.specs.Bytes.{bytes, unbracket, one_of, same}
use Rattle.written.specs.HeaderText.{anything, a_pair, kind_of, Field, Entry, Section}
use Rattle.written.specs.Groups as says
use Rattle.written.specs.Groups.{Bracketed, Group, Grouped, of_group, Pointwise}
use Rattle.written.specs.Record.{position_fields, position_group, PositionSays, All, GroupSays, GroupsOf, PositionsFit}
use Rattle.written.specs.Record as record_of
use Rattle.written.specs.Faults.{NoGroup, NoGroups}
use Rattle.written.proofs.Tests.{unbracketed}
use Rattle.written_total.proofs.Total.{same_true}
use Rattle.written_apart.proofs.ApartFile.{position_whole}
use Rattle.error.specs.Numbers as error
use Rattle.error.specs.declared.Refusal.{Refusal}
use Rattle.error.specs.declared.Refusal.TheVariants as refusal
use Rattle.head_record.specs.Empty.{empty_position}
use Rattle.head_record.specs.Lists.{filled}
use Rattle.head_record.specs.Record.{position_record}
use Rattle.text_parts.specs.declared.Span.{Span}
use Rattle.head_record.specs.declared.PositionData.{PositionData}
use Rattle.head_de.proofs.Sound.{Bytes}
use Rattle.head_fields.specs.Fields.{any_missing}
use Rattle.head_lines.proofs.Kept.{missing_so, missing_not}
use Rattle.head_brackets.specs.Rows.{rows_at, Going, on, stop_with, over, no_names}
use Rattle.text_parts.specs.Parts.{bytes_of}
use Rattle.head_brackets.specs.declared.Row.{Row}
use Rattle.head_position.specs.Group.{with_line, empty_of, named, after_line, with_row, group_in}
use Rattle.head_position.specs.Group as one
use Rattle.head_position.specs.declared.Group as of-group
use Rattle.head_position.specs.declared.GroupRead.{GroupRead}
use Rattle.head_positions.specs.Groups.{no_positions, with_positions, nothing, many_over, group_of, after_group, with_group, made, judged, groups_in}
use Rattle.head_positions.specs.declared.Positions.{Positions}
use Rattle.head_positions.specs.declared.GroupsRead.{GroupsRead}
use Rattle.shown_groups.specs.Said.{span_said, row_said}
use Rattle.shown_groups.proofs.Lines.{Ungrouped, Standing, name_said, RowsSaid, section_rows}
use Rattle.shown_groups.proofs.Reading.{Keeps, GroupAnswers, keeps, no_group, Alike, both_on, both_stop, alike, group_sound, entries_kinded}
use Rattle.shown_groups.proofs.Names.{unknown, unknown_none}
use Rattle.shown_groups.proofs.Collected.{group_for, OneGroup, one_said, one_faulty, Holds, GroupsAnswer, all_said, first_faulty, groups_sound}
use Rattle.shown_groups.proofs.Limits.{all_within, some_past}
use Rattle.shown_positions.proofs.Says.{position_leads, position_room, position_says}

-- the section's own keys are the durations, which are not bracketed
unbracketed_key : (w v f n : List ℕ) → one_of v unbracket ≡ false → Bracketed w f n → same v w ≡ false
unbracketed_key w v f n h b = go (same v w) refl
  where
    go : (t : Bool) → same v w ≡ t → t ≡ false
    go true e = absurd (unbracketed v h f n (subst (λ (u : List ℕ). Bracketed u f n) (sym (same_true v w e)) b))
    go false e = refl

position_ungrouped : Ungrouped position_fields
unfolding position_fields kind_of bytes one_of
position_ungrouped =
    record {
      unknown = λ w f n b. rw (unbracketed_key w (bytes "DURATION_PDF") f n refl b, unbracketed_key w (bytes "DURATION_TREE") f n refl b);
      pairs = λ w. either (same (bytes "DURATION_PDF") w) (same (bytes "DURATION_TREE") w);
    }
  where
    either : (t u : Bool) → (cond t a_pair (cond u a_pair anything) ≡ anything) ⊎ (cond t a_pair (cond u a_pair anything) ≡ a_pair)
    either true u = inr refl
    either false true = inr refl
    either false false = inl refl

abbrev group : List Bool → PositionData → of-group.Group
group m d = record { seen = m; item = d }

-- ---- a group

module _ {s : List ℕ} (of-bytes : Bytes s) (i : ℕ) (st : All (Standing s) (rows_at s i)) where
  abbrev verdict_of : Span → Result ⊤ Refusal
  verdict_of x = (group_of s i x).verdict

  abbrev item_of : Span → PositionData
  item_of x = (group_of s i x).item

  abbrev reading : Span → Going of-group.Group
  reading x = over (with_row s (bytes_of s x)) (named x) (rows_at s i)

  read_sound : (x : Span) → GroupAnswers position_group s (λ (g : of-group.Group). g.seen) (λ (g : of-group.Group). g.item) with_line (empty_of x) (of_group (bytes_of s x) (map (row_said s) (rows_at s i))) (reading x)
  unfolding position_group with_row named
  read_sound x =
      group_sound position_group of-bytes (λ (g : of-group.Group). g.seen) (λ (g : of-group.Group). g.item) group (λ m d. refl) (λ m d. refl) with_line after_line (λ g y j. refl) (λ g q. refl) (bytes_of s x) (with_row s (bytes_of s x))
      (λ g r. refl) position_room (empty_of x) (rows_at s i) st

  one_group : (r : Row) → Standing s r → OneGroup (λ (d : record_of.Position). d.name) position_record position_group PositionSays s (rows_at s i) verdict_of item_of r
  unfolding one.judged
  one_group r h = go (reading r.name) refl (read_sound r.name)
    where
      judged_so : (g : of-group.Group) → reading r.name ≡ on g → Keeps position_group s (λ (g : of-group.Group). g.seen) (λ (g : of-group.Group). g.item) with_line (empty_of r.name) (group_for s (rows_at s i) r).rows g
          → (t : Bool) → any_missing g.seen 3 ≡ t → OneGroup (λ (d : record_of.Position). d.name) position_record position_group PositionSays s (rows_at s i) verdict_of item_of r
      judged_so g e k true f =
          let v : group_in (reading r.name) ≡ one.made (Err refusal.Field) empty_position =
          ap group_in e ∙ ap (λ (t : Bool). cond t (one.made (Err refusal.Field) empty_position) (one.made (Ok tt) g.item)) f in
          one_faulty refusal.Field (ap (λ (u : GroupRead). u.verdict) v) (NoGroup.missing k.entries (missing_so k.marks 3 position_leads f))
      judged_so g e k false f =
          let v : group_in (reading r.name) ≡ one.made (Ok tt) g.item =
          ap group_in e ∙ ap (λ (t : Bool). cond t (one.made (Err refusal.Field) empty_position) (one.made (Ok tt) g.item)) f in
          let y = position_says (entries_kinded k.entries.says) k.entries.distinct (missing_not k.marks 3 position_leads f) (span_said r.name) in
          one_said y.0 (ap (λ (u : GroupRead). u.verdict) v) (ap (λ (u : GroupRead). u.item) v ∙ k.item_is ∙ y.3) y.1
          (record { xs = k.xs; entries = k.entries; says = (y.1 ∙ sym (name_said s r h), y.2) })

      go : (z : Going of-group.Group) → reading r.name ≡ z
          → GroupAnswers position_group s (λ (g : of-group.Group). g.seen) (λ (g : of-group.Group). g.item) with_line (empty_of r.name) (group_for s (rows_at s i) r).rows z
          → OneGroup (λ (d : record_of.Position). d.name) position_record position_group PositionSays s (rows_at s i) verdict_of item_of r
      go (on g) e (keeps k) = judged_so g e k (any_missing g.seen 3) refl
      go (stop_with q) e (no_group n) = one_faulty q (ap (λ (z : Going of-group.Group). (group_in z).verdict) e) n

  item_free : (t : Bool) (d e : PositionData) → (cond t (one.made (Err refusal.Field) empty_position) (one.made (Ok tt) d)).verdict ≡ (cond t (one.made (Err refusal.Field) empty_position) (one.made (Ok tt) e)).verdict
  item_free true d e = refl
  item_free false d e = refl

  -- groups of one name have one verdict
  verdict_alike : (x y : Span) → bytes_of s x ≡ bytes_of s y → verdict_of x ≡ verdict_of y
  unfolding position_group with_row named one.judged
  verdict_alike x y e =
      go (reading x) (over (with_row s (bytes_of s x)) (named y) (rows_at s i))
      (alike position_group of-bytes (λ (g : of-group.Group). g.seen) (λ (g : of-group.Group). g.item) group (λ m d. refl) (λ m d. refl) with_line after_line (λ g y j. refl) (λ g q. refl) (bytes_of s x) (with_row s (bytes_of s x))
      (λ g r. refl) (λ g. refl) (rows_at s i) (named x) (named y) refl)
      ∙ ap (λ (w : List ℕ). (group_in (over (with_row s w) (named y) (rows_at s i))).verdict) e
    where
      go : (a b : Going of-group.Group) → Alike (λ (g : of-group.Group). g.seen) a b → (group_in a).verdict ≡ (group_in b).verdict
      go (on g) (on h) (both_on f) = ap (λ (m : List Bool). (cond (any_missing m 3) (one.made (Err refusal.Field) empty_position) (one.made (Ok tt) g.item)).verdict) f ∙ item_free (any_missing h.seen 3) g.item h.item
      go (stop_with q) (stop_with r) (both_stop p) = refl
      go (on g) (stop_with r) x3 = elim x3 [ ]
      go (stop_with q) (on h) x4 = elim x4 [ ]

-- ---- all groups

-- the positions of the groups gs, in the struct; or the first group with a fault; or a count that passes its limit
pub data PositionsAnswer (s : List ℕ) (xs : List Entry) : GroupsRead → Type 0 where
  positions_say : {x : Positions} {gs : List Group} (ds : List record_of.Position) → GroupsOf xs gs → Pointwise (GroupSays position_group PositionSays s) gs ds → PositionsFit ds
      → x.items ≡ filled 8 empty_position (map position_record ds) → x.names.count ≡ length ds → PositionsAnswer s xs (made (Ok tt) x)
  group_wrong : {q : Refusal} {gs : List Group} → GroupsOf xs gs → NoGroups position_group s gs (error.number_of q) (error.place_of q) → PositionsAnswer s xs (made (Err q) no_positions)
  too_many : {gs : List Group} (ds : List record_of.Position) → GroupsOf xs gs → Pointwise (GroupSays position_group PositionSays s) gs ds → ¬ PositionsFit ds → PositionsAnswer s xs (made (Err refusal.Limit) no_positions)

abbrev Held : Positions → List record_of.Position → Type 0
Held x ds = Holds (λ (y : Positions). y.names) (λ (y : Positions). y.items) (λ (d : record_of.Position). d.name) position_record empty_position x ds

none_held : Held no_positions []
unfolding no_positions no_names filled
none_held = record { named = refl; few = λ h. refl; many = λ h. absurd (omega arith); stored = refl }

-- none of the first eight passes its limit exactly where all keep it
windows_within : (t : List PositionData) (ds : List record_of.Position) → t ≡ filled 8 empty_position (map position_record ds) → length ds ≤ 8 → many_over t 8 ≡ false → All (λ (d : record_of.Position). length d.stream_win ≤ 8) ds
unfolding position_record empty_position many_over
windows_within t ds q l e =
    all_within (λ (d : PositionData). d.stream_win_count) (λ (d : record_of.Position). length d.stream_win) position_record empty_position nothing (λ d. refl) refl 8 many_over (λ t. refl) (λ t n. refl) t ds q l e

windows_past : (t : List PositionData) (ds : List record_of.Position) → t ≡ filled 8 empty_position (map position_record ds) → many_over t 8 ≡ true → ¬ All (λ (d : record_of.Position). length d.stream_win ≤ 8) ds
unfolding position_record empty_position many_over
windows_past t ds q e =
    some_past (λ (d : PositionData). d.stream_win_count) (λ (d : record_of.Position). length d.stream_win) position_record empty_position nothing (λ d. refl) refl 8 many_over (λ t. refl) (λ t n. refl) t ds q e

module _ {s : List ℕ} (of-bytes : Bytes s) (i : ℕ) {xs : List Entry} (section : Section position_fields s i xs) where
  rows_said : RowsSaid s xs (rows_at s i)
  rows_said = section_rows position_fields position_ungrouped of-bytes section

  collected : GroupsAnswer (λ (y : Positions). y.names) (λ (y : Positions). y.items) (λ (d : record_of.Position). d.name) position_record empty_position position_group PositionSays s [] (rows_at s i)
      (over (with_group s i) no_positions (rows_at s i))
  unfolding with_positions with_group position_record
  collected =
      groups_sound (λ (y : Positions). y.names) (λ (y : Positions). y.items) (λ (d : record_of.Position). d.name) position_record empty_position (λ (d : PositionData). d.name) with_positions (λ x d. refl) (λ x d. refl) (λ e. refl)
      position_group PositionSays (λ g ys d y. position_whole y.1) s (rows_at s i) (verdict_of of-bytes i rows_said.standing) (item_of of-bytes i rows_said.standing) (one_group of-bytes i rows_said.standing)
      (verdict_alike of-bytes i rows_said.standing) (with_group s i) after_group (λ x d. refl) (λ x d q. refl) (λ x r. refl) no_positions none_held rows_said.standing

  groups_of : {gs : List Group} → Grouped (unknown [] (map (row_said s) (rows_at s i))) gs → GroupsOf xs gs
  groups_of {gs} g = record { rows = map (row_said s) (rows_at s i); of_lines = rows_said.rows; by_name = subst (λ (l : List says.Row). Grouped l gs) (unknown_none (map (row_said s) (rows_at s i))) g }

  pub positions_sound : PositionsAnswer s xs (groups_in (over (with_group s i) no_positions (rows_at s i)))
  unfolding judged
  positions_sound = go (over (with_group s i) no_positions (rows_at s i)) collected
    where
      length_within : (x : Positions) (ds : List record_of.Position) → Held x ds → x.names.count ≤ 8 → Dec (8 < length ds) → length ds ≤ 8
      length_within x ds h l (yes k) = absurd (omega (arith, h.many k))
      length_within x ds h l (no k) = omega arith

      length_past : (x : Positions) (ds : List record_of.Position) → Held x ds → 8 < x.names.count → Dec (8 < length ds) → 8 < length ds
      length_past x ds h l (yes k) = k
      length_past x ds h l (no k) = absurd (omega (arith, h.few (omega arith)))

      limited : (x : Positions) {gs : List Group} (ds : List record_of.Position) → GroupsOf xs gs → Pointwise (GroupSays position_group PositionSays s) gs ds → Held x ds
          → (t : Bool) → ltb 8 x.names.count ≡ t → (u : Bool) → many_over x.items 8 ≡ u
          → PositionsAnswer s xs (cond t (made (Err refusal.Limit) no_positions) (cond u (made (Err refusal.Limit) no_positions) (made (Ok tt) x)))
      limited x ds g p h true e u f = too_many ds g p (λ z. let k = length_past x ds h (ltb-true 8 x.names.count e) (dec_lt 8 (length ds)) in omega (arith, z.names))
      limited x ds g p h false e true f = too_many ds g p (λ z. windows_past x.items ds h.stored f z.windows)
      limited x ds g p h false e false f =
          let l = length_within x ds h (ltb-false 8 x.names.count e) (dec_lt 8 (length ds)) in
          positions_say ds g p (record { names = l; windows = windows_within x.items ds h.stored l f }) h.stored (h.few l)

      go : (z : Going Positions) → GroupsAnswer (λ (y : Positions). y.names) (λ (y : Positions). y.items) (λ (d : record_of.Position). d.name) position_record empty_position position_group PositionSays s [] (rows_at s i) z
          → PositionsAnswer s xs (groups_in z)
      go (on x) (all_said ds g p h) = limited x ds (groups_of g) p h (ltb 8 x.names.count) refl (many_over x.items 8) refl
      go (stop_with q) (first_faulty g n) = group_wrong (groups_of g) n
