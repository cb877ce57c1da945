-- What the rows of a group of [POSITION] make of `PositionData` is the position that `written` says.
use mathlib.Core.Path.{◌≡◌, refl, ◌∙◌}
use mathlib.Core.Bool.{true}
use mathlib.Core.List.{List, [], ◌∷◌, map}
use mathlib.Core.Option.{Option, some, none}
use Prim.Native.Nat.{ℕ, ◌≤◌, ◌<◌}
use native.Mathlib.Omega.{arith}
use lib.ListN.{length, get_or}
use Rattle.written.specs.Bytes.{bytes, same, Span}
use Rattle.written.specs.HeaderText.{Range, a_pair, pairs, perhaps_a_pair, Value, flag, range, ranges, perhaps, kind_of, Entry, Distinct}
use Rattle.written.specs.Record.{position_group, Once, AtMostOnce, missing, there, SaysPosition}
use Rattle.written.specs.Record as record_of
use Rattle.written.specs.Faults.{Missing}
use Rattle.written.proofs.Tests.{both}
use Rattle.laws.proofs.Ranges.{all, at}
use Rattle.head_record.specs.Empty.{empty_position, no_range}
use Rattle.head_record.specs.Lists.{filled, span_of, range_of}
use Rattle.head_record.specs.Record.{position_record, range_or, there as is_there}
use Rattle.head_record.specs.declared.PositionData.{PositionData}
use Rattle.head_de_lists.specs.Lists.{spans_of, ranges_of}
use Rattle.head_de_values.specs.Values.{value_of}
use Rattle.head_de_values.specs.declared.Value as values
use Rattle.head_fields.specs.Fields.{field_index}
use Rattle.head_lines.specs.Lines.{kept}
use Rattle.head_lines.proofs.Kept.{Kinded, kept_none, kept_one, no_field, as_range, as_ranges, as_perhaps, Leads, leads, first?}
use Rattle.shown_groups.proofs.Fields.{once_made, Optional, not_there, stands, perhaps_made}
use Rattle.head_position.specs.Group.{stored, with_line, empty_of}

abbrev in_value : Value → values.Value
in_value v = value_of v

-- the required fields of the table are its first 3
pub position_leads : Leads position_group 3
unfolding position_group bytes same field_index
position_leads = leads position_group 3 (omega arith) refl refl

pub position_room : length position_group ≤ 10
unfolding position_group
position_room = omega arith

known : (n : ℕ) → n < 5 → n < length position_group
unfolding position_group
known n h = h

all_first : all (first? position_group) 3 0 ≡ true
unfolding position_group bytes same field_index
all_first = refl

required : (n : ℕ) → n < 3 → (get_or position_group n no_field).required ≡ true
unfolding no_field
required n h = let b = both _ _ (at (first? position_group) 3 0 all_first n (omega arith) (omega arith)) in b.0

-- ---- the fields by their numbers, kinds and names

stream_win_index : field_index position_group (bytes "STREAM_WIN") ≡ 0
unfolding position_group bytes same field_index
stream_win_index = refl

stream_win_kind : kind_of position_group (bytes "STREAM_WIN") ≡ pairs
unfolding position_group bytes same kind_of
stream_win_kind = refl

stream_win_name : bytes "STREAM_WIN" ≡ (get_or position_group 0 no_field).name
unfolding position_group bytes
stream_win_name = refl

stream_pdf_index : field_index position_group (bytes "STREAM_PDF") ≡ 1
unfolding position_group bytes same field_index
stream_pdf_index = refl

stream_pdf_kind : kind_of position_group (bytes "STREAM_PDF") ≡ a_pair
unfolding position_group bytes same kind_of
stream_pdf_kind = refl

stream_pdf_name : bytes "STREAM_PDF" ≡ (get_or position_group 1 no_field).name
unfolding position_group bytes
stream_pdf_name = refl

stream_tree_index : field_index position_group (bytes "STREAM_TREE") ≡ 2
unfolding position_group bytes same field_index
stream_tree_index = refl

stream_tree_kind : kind_of position_group (bytes "STREAM_TREE") ≡ a_pair
unfolding position_group bytes same kind_of
stream_tree_kind = refl

stream_tree_name : bytes "STREAM_TREE" ≡ (get_or position_group 2 no_field).name
unfolding position_group bytes
stream_tree_name = refl

gv_pdf_index : field_index position_group (bytes "GV_PDF") ≡ 3
unfolding position_group bytes same field_index
gv_pdf_index = refl

gv_pdf_kind : kind_of position_group (bytes "GV_PDF") ≡ perhaps_a_pair
unfolding position_group bytes same kind_of
gv_pdf_kind = refl

gv_pdf_name : bytes "GV_PDF" ≡ (get_or position_group 3 no_field).name
unfolding position_group bytes
gv_pdf_name = refl

gv_tree_index : field_index position_group (bytes "GV_TREE") ≡ 4
unfolding position_group bytes same field_index
gv_tree_index = refl

gv_tree_kind : kind_of position_group (bytes "GV_TREE") ≡ perhaps_a_pair
unfolding position_group bytes same kind_of
gv_tree_kind = refl

gv_tree_name : bytes "GV_TREE" ≡ (get_or position_group 4 no_field).name
unfolding position_group bytes
gv_tree_name = refl

-- how a range that may be absent stands in a value

perhaps_range : (o : Option Range) → (in_value (perhaps o)).range ≡ range_or o
unfolding value_of
perhaps_range none = refl
perhaps_range (some r) = refl

perhaps_there : (o : Option Range) → (in_value (perhaps o)).flag ≡ is_there o
unfolding value_of
perhaps_there none = refl
perhaps_there (some r) = refl

-- the name stays
kept_name : (d : PositionData) (xs : List Entry) → (kept with_line d xs).name ≡ d.name
unfolding kept with_line stored
kept_name d [] = refl
kept_name d (x ∷ xs) = kept_name (with_line d x) xs

-- ---- the record

module _ {xs : List Entry} (kinded : Kinded position_group xs) (distinct : Distinct position_group xs) (whole : ¬ Missing position_group xs) (name : Span) where
  abbrev start : PositionData
  start = empty_of (span_of name)

  abbrev stored_so : PositionData
  stored_so = kept with_line start xs

  stream_win_says : (x : List Range) × Once ranges xs "STREAM_WIN" x × (stored_so.stream_win ≡ filled 8 no_range (map range_of x)) × (stored_so.stream_win_count ≡ length x)
  unfolding with_line stored value_of spans_of ranges_of
  stream_win_says =
      let o = once_made kinded distinct 0 (known 0 (omega arith)) "STREAM_WIN" stream_win_name stream_win_kind ranges (λ v o. as_ranges o) whole (required 0 (omega arith)) in
      (o.0, record { value = o.1 }, kept_one with_line (λ (d : PositionData). d.stream_win) position_group (bytes "STREAM_WIN") 0 (λ (v : Value). (in_value v).ranges.items) (λ d y. refl) stream_win_index (known 0 (omega arith)) start xs o.1, kept_one with_line (λ (d : PositionData). d.stream_win_count) position_group (bytes "STREAM_WIN") 0 (λ (v : Value). (in_value v).ranges.count) (λ d y. refl) stream_win_index (known 0 (omega arith)) start xs o.1)

  stream_pdf_says : (x : Range) × Once range xs "STREAM_PDF" x × (stored_so.stream_pdf ≡ range_of x)
  unfolding with_line stored value_of spans_of ranges_of
  stream_pdf_says =
      let o = once_made kinded distinct 1 (known 1 (omega arith)) "STREAM_PDF" stream_pdf_name stream_pdf_kind range (λ v o. as_range o) whole (required 1 (omega arith)) in
      (o.0, record { value = o.1 }, kept_one with_line (λ (d : PositionData). d.stream_pdf) position_group (bytes "STREAM_PDF") 1 (λ (v : Value). (in_value v).range) (λ d y. refl) stream_pdf_index (known 1 (omega arith)) start xs o.1)

  stream_tree_says : (x : Range) × Once range xs "STREAM_TREE" x × (stored_so.stream_tree ≡ range_of x)
  unfolding with_line stored value_of spans_of ranges_of
  stream_tree_says =
      let o = once_made kinded distinct 2 (known 2 (omega arith)) "STREAM_TREE" stream_tree_name stream_tree_kind range (λ v o. as_range o) whole (required 2 (omega arith)) in
      (o.0, record { value = o.1 }, kept_one with_line (λ (d : PositionData). d.stream_tree) position_group (bytes "STREAM_TREE") 2 (λ (v : Value). (in_value v).range) (λ d y. refl) stream_tree_index (known 2 (omega arith)) start xs o.1)

  gv_pdf_says : (x : Option Range) × AtMostOnce perhaps (λ y. y) none xs "GV_PDF" x × (stored_so.gv_pdf ≡ range_or x) × (stored_so.has_gv_pdf ≡ is_there x)
  unfolding with_line stored value_of spans_of ranges_of filled empty_position
  gv_pdf_says = go (perhaps_made kinded distinct 3 (known 3 (omega arith)) "GV_PDF" gv_pdf_name gv_pdf_kind perhaps (λ v o. as_perhaps o))
    where
      go : Optional kinded distinct 3 (known 3 (omega arith)) "GV_PDF" gv_pdf_name gv_pdf_kind perhaps (λ v o. as_perhaps o) → (x : Option Range) × AtMostOnce perhaps (λ y. y) none xs "GV_PDF" x × (stored_so.gv_pdf ≡ range_or x) × (stored_so.has_gv_pdf ≡ is_there x)
      go (not_there e) = (none, missing e refl, kept_none with_line (λ (d : PositionData). d.gv_pdf) position_group (bytes "GV_PDF") 3 (λ (v : Value). (in_value v).range) (λ d y. refl) gv_pdf_index (known 3 (omega arith)) start xs e, kept_none with_line (λ (d : PositionData). d.has_gv_pdf) position_group (bytes "GV_PDF") 3 (λ (v : Value). (in_value v).flag) (λ d y. refl) gv_pdf_index (known 3 (omega arith)) start xs e)
      go (stands a e) = (a, there a e refl, kept_one with_line (λ (d : PositionData). d.gv_pdf) position_group (bytes "GV_PDF") 3 (λ (v : Value). (in_value v).range) (λ d y. refl) gv_pdf_index (known 3 (omega arith)) start xs e ∙ perhaps_range a, kept_one with_line (λ (d : PositionData). d.has_gv_pdf) position_group (bytes "GV_PDF") 3 (λ (v : Value). (in_value v).flag) (λ d y. refl) gv_pdf_index (known 3 (omega arith)) start xs e ∙ perhaps_there a)

  gv_tree_says : (x : Option Range) × AtMostOnce perhaps (λ y. y) none xs "GV_TREE" x × (stored_so.gv_tree ≡ range_or x) × (stored_so.has_gv_tree ≡ is_there x)
  unfolding with_line stored value_of spans_of ranges_of filled empty_position
  gv_tree_says = go (perhaps_made kinded distinct 4 (known 4 (omega arith)) "GV_TREE" gv_tree_name gv_tree_kind perhaps (λ v o. as_perhaps o))
    where
      go : Optional kinded distinct 4 (known 4 (omega arith)) "GV_TREE" gv_tree_name gv_tree_kind perhaps (λ v o. as_perhaps o) → (x : Option Range) × AtMostOnce perhaps (λ y. y) none xs "GV_TREE" x × (stored_so.gv_tree ≡ range_or x) × (stored_so.has_gv_tree ≡ is_there x)
      go (not_there e) = (none, missing e refl, kept_none with_line (λ (d : PositionData). d.gv_tree) position_group (bytes "GV_TREE") 4 (λ (v : Value). (in_value v).range) (λ d y. refl) gv_tree_index (known 4 (omega arith)) start xs e, kept_none with_line (λ (d : PositionData). d.has_gv_tree) position_group (bytes "GV_TREE") 4 (λ (v : Value). (in_value v).flag) (λ d y. refl) gv_tree_index (known 4 (omega arith)) start xs e)
      go (stands a e) = (a, there a e refl, kept_one with_line (λ (d : PositionData). d.gv_tree) position_group (bytes "GV_TREE") 4 (λ (v : Value). (in_value v).range) (λ d y. refl) gv_tree_index (known 4 (omega arith)) start xs e ∙ perhaps_range a, kept_one with_line (λ (d : PositionData). d.has_gv_tree) position_group (bytes "GV_TREE") 4 (λ (v : Value). (in_value v).flag) (λ d y. refl) gv_tree_index (known 4 (omega arith)) start xs e ∙ perhaps_there a)

  -- the position that the rows say, and that it stands in the struct
  pub position_says : (d : record_of.Position) × (d.name ≡ name) × SaysPosition xs d × (stored_so ≡ position_record d)
  unfolding position_record
  position_says =
      let s0 = stream_win_says in
      let s1 = stream_pdf_says in
      let s2 = stream_tree_says in
      let s3 = gv_pdf_says in
      let s4 = gv_tree_says in
      let n = kept_name start xs in (
        record { name = name; stream_win = s0.0; stream_pdf = s1.0; stream_tree = s2.0; gv_pdf = s3.0; gv_tree = s4.0 },
        refl,
        record { stream_win = s0.1; stream_pdf = s1.1; stream_tree = s2.1; gv_pdf = s3.1; gv_tree = s4.1 },
        λ i. record { name = n i; stream_win = s0.2 i; stream_win_count = s0.3 i; stream_pdf = s1.2 i; stream_tree = s2.2 i; gv_pdf = s3.2 i; has_gv_pdf = s3.3 i; gv_tree = s4.2 i; has_gv_tree = s4.3 i },
      )
