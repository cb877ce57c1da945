-- The rows of one group, read one after the other, answer as `written` says: they say entries, which are kept; or a row has a fault. Over any table of
-- fields and any struct that keeps the values.
use mathlib.Core.Path.{◌≡◌, refl, sym, ap, ap₂, ◌∙◌, subst}
use mathlib.Core.Bool.{Bool, true, false, cond}
use mathlib.Core.List.{List, [], ◌∷◌, ◌++◌, map, append-nil, append_assoc}
use Prim.Native.Nat.{ℕ, zero, suc, ◌+◌, ◌-◌, ◌≤◌, ◌<◌}
use native.Mathlib.Omega.{arith}
use native.Mathlib.Decide.{dec_lt}
use lib.ListN.{length, get_or, take}
use lib.Seq.{length-take-le, get_or-take}
use Rattle.written.specs.Bytes.{same}
use Rattle.written.specs.HeaderText.{Value, Reads, Field, kind_of, Entry, values_of}
use Rattle.written.specs.Groups as says
use Rattle.written.specs.Groups.{of_group, alone, Alone, Pointwise, none, more, Entries}
use Rattle.written.specs.Record.{All, next}
use Rattle.written.specs.Faults.{Unreadable, Repeats, NoRow, NoGroup, bad_row}
use Rattle.written.proofs.Tests.{differ}
use Rattle.written_apart.proofs.ApartFile.{same_same}
use Rattle.written_total.proofs.Total.{same_true, distinct_more}
use Rattle.error.specs.Numbers as error
use Rattle.error.specs.declared.Refusal.{Refusal}
use Rattle.error.specs.declared.Refusal.TheVariants as refusal
use Rattle.head_de.specs.Readings.{Reading, read, refused}
use Rattle.head_de.proofs.Sound.{Answers, right, wrong as fault, Bytes}
use Rattle.head_de_values.specs.Values.{read_at}
use Rattle.head_de_values.proofs.Sound.{around_nothing, value_sound}
use Rattle.head_fields.specs.Fields.{field_index}
use Rattle.head_lines.specs.Lines.{Next, entry, end, wrong, entry_of, stood_at, keyed_at, marked, unseen, kept}
use Rattle.head_lines.proofs.Marks.{Marks, marks_none, stood_repeats, new_repeats, marks_more}
use Rattle.head_lines.proofs.Kept.{Kinded, OfKind, reads_kind}
use Rattle.head_lines.proofs.Going.{kept_more}
use Rattle.head_brackets.specs.Rows.{field_name, row_line_at, Going, on, stop_with, over_next, over}
use Rattle.text_parts.specs.Parts.{bytes_of}
use Rattle.head_brackets.specs.declared.Row.{Row}
use Rattle.head_brackets.proofs.Rows.{over_on, over_stop, over_none}
use Rattle.shown_groups.specs.Said.{row_said}
use Rattle.shown_groups.proofs.Lines.{Standing}

-- ---- two names

pub same_turned : (a b : List ℕ) → same a b ≡ same b a
same_turned a b = go (same a b) refl (same b a) refl
  where
    go : (t : Bool) → same a b ≡ t → (u : Bool) → same b a ≡ u → t ≡ u
    go true e true f = refl
    go true e false f = differ (ap (λ (c : List ℕ). same c a) (sym (same_true a b e)) ∙ same_same a) f
    go false e true f = differ (ap (λ (c : List ℕ). same c b) (sym (same_true b a f)) ∙ same_same b) e
    go false e false f = refl

-- ---- texts that end early

pub bytes-front : {s : List ℕ} → Bytes s → (n : ℕ) → n ≤ length s → Bytes (take n s)
bytes-front {s} b n h = record { below = λ k. go k (dec_lt k n) }
  where
    past : (l : List ℕ) (k : ℕ) → length l ≤ k → get_or l k 0 ≡ 0
    past [] k e = refl
    past (c ∷ l) zero e = absurd (omega arith)
    past (c ∷ l) (suc k) e = past l k (omega arith)

    go : (k : ℕ) → Dec (k < n) → get_or (take n s) k 0 < 256
    go k (yes l) = omega (arith, get_or-take n s k 0 l, b.below k)
    go k (no l) = omega (arith, past (take n s) k (omega (arith, length-take-le n s h)))

-- ---- entries

pointwise_more : {A B : Type 0} {R : A → B → Type 0} {l : List A} {m : List B} {a : A} {b : B} → Pointwise R l m → R a b → Pointwise R (l ++ (a ∷ [])) (m ++ (b ∷ []))
pointwise_more none r = more r none
pointwise_more (more q p) r = more q (pointwise_more p r)

pub entries_none : (T : List Field) (s : List ℕ) → Entries T s [] []
unfolding values_of
entries_none T s = record { says = none; distinct = record { once = λ f m. omega arith } }

entries_more : {T : List Field} {s : List ℕ} {rs : List says.Row} {xs : List Entry} {r : says.Row} (x : Entry) → Entries T s rs xs → Alone T s r x → ¬ Repeats T xs x.name → Entries T s (rs ++ (r ∷ [])) (xs ++ (x ∷ []))
entries_more x e a n = record { says = pointwise_more e.says a; distinct = distinct_more x e.distinct n }

-- each entry's value is of its field's kind
pub entries_kinded : {T : List Field} {s : List ℕ} {rs : List says.Row} {xs : List Entry} → Pointwise (Alone T s) rs xs → Kinded T xs
entries_kinded none = Kinded.end
entries_kinded {T} (more {b = x} a p) = Kinded.next (subst (λ (w : List ℕ). OfKind (kind_of T w) x.value) (sym a.name) (reads_kind a.value)) (entries_kinded p)

-- ---- the rows of a group, in a struct G that has the marks and the values

module _ {G D : Type 0} (T : List Field) (s : List ℕ) (seen : G → List Bool) (item : G → D) (with : D → Entry → D) where
  -- the group's rows so far say xs, which g keeps; d is what it had before the first
  pub record Keeps (d : D) (rows : List says.Row) (g : G) : Type 0 where
    pub xs : List Entry
    pub entries : Entries T s rows xs
    pub marks : Marks T (seen g) xs
    pub item_is : item g ≡ kept with d xs

  pub data GroupAnswers (d : D) (rows : List says.Row) : Going G → Type 0 where
    keeps : {g : G} → Keeps d rows g → GroupAnswers d rows (on g)
    no_group : {q : Refusal} → NoGroup T s rows (error.number_of q) (error.place_of q) → GroupAnswers d rows (stop_with q)

module _ {G : Type 0} (seen : G → List Bool) where
  -- both are read, with the same marks, or both stop alike
  pub data Alike : Going G → Going G → Type 0 where
    both_on : {g h : G} → seen g ≡ seen h → Alike (on g) (on h)
    both_stop : (q : Refusal) → Alike (stop_with q) (stop_with q)

-- ---- a row

module _ (T : List Field) {s : List ℕ} (bytes : Bytes s) where
  pub data RowAnswers (before : List says.Row) (xs : List Entry) (r : Row) : Next → Type 0 where
    a_row : {x : Entry} {j : ℕ} → Alone T s (row_said s r) x → ¬ Repeats T xs x.name → RowAnswers before xs r (entry x j)
    no_row : {q : Refusal} → NoRow T s before (row_said s r) (error.number_of q) (error.place_of q) → RowAnswers before xs r (wrong q)

  row_sound : {before : List says.Row} {xs : List Entry} {m : List Bool} → Entries T s before xs → Marks T m xs → (r : Row) → Standing s r → RowAnswers before xs r (row_line_at T m s r)
  unfolding row_line_at keyed_at row_said
  row_sound {before} {xs} {m} e marks r st = go (stood_at m (field_index T (field_name s r))) refl
    where
      w : List ℕ
      w = field_name s r

      whole : take r.end s ≡ alone s (row_said s r)
      whole = let z : r.end ≡ r.value + (r.end - r.value) = omega (arith, st.order) in ap (λ (n : ℕ). take n s) z

      answers : Answers (take r.end s) r.value (Reads [] (take r.end s) r.value (kind_of T w)) (Unreadable [] (take r.end s) r.value (kind_of T w)) (read_at [] (take r.end s) r.value (kind_of T w))
      answers = value_sound (bytes-front bytes r.end st.inside) [] around_nothing r.value (omega (arith, length-take-le r.end s st.inside, st.order)) (kind_of T w)

      value : ¬ Repeats T xs w → (x : Reading Value) → Answers (take r.end s) r.value (Reads [] (take r.end s) r.value (kind_of T w)) (Unreadable [] (take r.end s) r.value (kind_of T w)) x
          → RowAnswers before xs r (entry_of r.field.start w x)
      value n (read v j) (right p q g) = a_row {j = j} (record { j = j; at = refl; name = refl; value = subst (λ (l : List ℕ). Reads [] l r.value (kind_of T w) v j) whole g }) n
      value n (refused q) (fault g) = no_row (NoRow.value e n (subst (λ (l : List ℕ). Unreadable [] l r.value (kind_of T w) (error.number_of q) (error.place_of q)) whole g))

      go : (t : Bool) → stood_at m (field_index T w) ≡ t → RowAnswers before xs r (cond t (wrong refusal.Field) (entry_of r.field.start w (read_at [] (take r.end s) r.value (kind_of T w))))
      go true f = no_row (NoRow.repeated e (stood_repeats marks w f))
      go false f = value (new_repeats marks w f) (read_at [] (take r.end s) r.value (kind_of T w)) answers

  -- ---- row after row

  module _ {G D : Type 0} (seen : G → List Bool) (item : G → D) (made : List Bool → D → G) (seen-made : (m : List Bool) (d : D) → seen (made m d) ≡ m) (item-made : (m : List Bool) (d : D) → item (made m d) ≡ d)
      (with : D → Entry → D) (after : G → Next → Going G)
      (after-entry : (g : G) (x : Entry) (j : ℕ) → after g (entry x j) ≡ on (made (marked (length T) (seen g) (field_index T x.name)) (with (item g) x)))
      (after-wrong : (g : G) (q : Refusal) → after g (wrong q) ≡ stop_with q)
      (w : List ℕ) (step : G → Row → Going G) (steps : (g : G) (r : Row) → step g r ≡ cond (same (bytes_of s r.name) w) (after g (row_line_at T (seen g) s r)) (on g)) where
    keeps_more : {d : D} {rows : List says.Row} {g : G} {r : says.Row} (k : Keeps T s seen item with d rows g) (x : Entry) → Alone T s r x → ¬ Repeats T k.xs x.name
        → Keeps T s seen item with d (rows ++ (r ∷ [])) (made (marked (length T) (seen g) (field_index T x.name)) (with (item g) x))
    keeps_more {d} {rows} {g} k x a n =
        record {
          xs = k.xs ++ (x ∷ []);
          entries = entries_more x k.entries a n;
          marks = subst (λ (m : List Bool). Marks T m (k.xs ++ (x ∷ []))) (sym (seen-made _ _)) (marks_more k.marks x);
          item_is = item-made _ _ ∙ ap (λ (e : D). with e x) k.item_is ∙ sym (kept_more with d k.xs x);
        }

    group_from : (d : D) (before : List says.Row) (g : G) → Keeps T s seen item with d before g → (rs : List Row) → All (Standing s) rs → GroupAnswers T s seen item with d (before ++ of_group w (map (row_said s) rs)) (over step g rs)
    unfolding of_group row_said
    group_from d before g k [] st = subst (GroupAnswers T s seen item with d (before ++ [])) (sym (over_none step g)) (subst (λ (l : List says.Row). GroupAnswers T s seen item with d l (on g)) (sym (append-nil before)) (keeps k))
    group_from d before g k (r ∷ rs) (next a st) = go (same w (bytes_of s r.name)) refl (λ p h q. group_from d p h q rs st)
      where
        rest : List says.Row
        rest = of_group w (map (row_said s) rs)

        stepped : (t : Bool) → same w (bytes_of s r.name) ≡ t → step g r ≡ cond t (after g (row_line_at T (seen g) s r)) (on g)
        stepped t e = steps g r ∙ ap (λ (u : Bool). cond u (after g (row_line_at T (seen g) s r)) (on g)) (same_turned (bytes_of s r.name) w ∙ e)

        here : (n : Next) → row_line_at T (seen g) s r ≡ n → RowAnswers before k.xs r n → step g r ≡ after g (row_line_at T (seen g) s r)
            → ((p : List says.Row) (h : G) → Keeps T s seen item with d p h → GroupAnswers T s seen item with d (p ++ of_group w (map (row_said s) rs)) (over step h rs)) → GroupAnswers T s seen item with d (before ++ (row_said s r ∷ rest)) (over step g (r ∷ rs))
        here (entry x j) e (a_row y n) f rec =
            let q = keeps_more k x y n in
            let h : G = made (marked (length T) (seen g) (field_index T x.name)) (with (item g) x) in
            let o = over_on step g r rs (f ∙ ap (after g) e ∙ after-entry g x j) in
            subst (GroupAnswers T s seen item with d (before ++ (row_said s r ∷ rest))) (sym o) (subst (λ (l : List says.Row). GroupAnswers T s seen item with d l (over step h rs)) (append_assoc before (row_said s r ∷ []) rest) (rec (before ++ (row_said s r ∷ [])) h q))
        here (wrong q) e (no_row n) f rec =
            subst (GroupAnswers T s seen item with d (before ++ (row_said s r ∷ rest))) (sym (over_stop step g r rs (f ∙ ap (after g) e ∙ after-wrong g q))) (no_group (bad_row before rest (row_said s r) refl n))
        here end e x6 f rec = elim x6 [ ]

        go : (t : Bool) → same w (bytes_of s r.name) ≡ t → ((p : List says.Row) (h : G) → Keeps T s seen item with d p h → GroupAnswers T s seen item with d (p ++ of_group w (map (row_said s) rs)) (over step h rs))
            → GroupAnswers T s seen item with d (before ++ cond t (row_said s r ∷ rest) rest) (over step g (r ∷ rs))
        go true e rec = here (row_line_at T (seen g) s r) refl (row_sound k.entries k.marks r a) (stepped true e) rec
        go false e rec = subst (GroupAnswers T s seen item with d (before ++ rest)) (sym (over_on step g r rs (stepped false e))) (rec before g k)

    -- ---- the marks alone say whether reading stops

    pub alike : (after-end : (g : G) → after g end ≡ on g) (rs : List Row) (g h : G) → seen g ≡ seen h → Alike seen (over step g rs) (over step h rs)
    unfolding over
    alike after-end [] g h e = both_on e
    alike after-end (r ∷ rs) g h e = go (same (bytes_of s r.name) w) refl (λ a b f. alike after-end rs a b f)
      where
        both : (n : Next) → ((a b : G) → seen a ≡ seen b → Alike seen (over step a rs) (over step b rs)) → Alike seen (over_next (λ a. over step a rs) (after g n)) (over_next (λ a. over step a rs) (after h n))
        both (entry x j) rec =
            rw (after-entry g x j, after-entry h x j)
            (rec (made (marked (length T) (seen g) (field_index T x.name)) (with (item g) x)) (made (marked (length T) (seen h) (field_index T x.name)) (with (item h) x))
            (seen-made _ _ ∙ ap (λ (m : List Bool). marked (length T) m (field_index T x.name)) e ∙ sym (seen-made _ _)))
        both end rec = rw (after-end g, after-end h) (rec g h e)
        both (wrong q) rec = rw (after-wrong g q, after-wrong h q) (both_stop q)

        turn : (t : Bool) → ((a b : G) → seen a ≡ seen b → Alike seen (over step a rs) (over step b rs))
            → Alike seen (over_next (λ a. over step a rs) (cond t (after g (row_line_at T (seen h) s r)) (on g))) (over_next (λ a. over step a rs) (cond t (after h (row_line_at T (seen h) s r)) (on h)))
        turn true rec = both (row_line_at T (seen h) s r) rec
        turn false rec = rec g h e

        go : (t : Bool) → same (bytes_of s r.name) w ≡ t → ((a b : G) → seen a ≡ seen b → Alike seen (over step a rs) (over step b rs))
            → Alike seen (over_next (λ a. over step a rs) (step g r)) (over_next (λ a. over step a rs) (step h r))
        go t f rec =
            let p : step g r ≡ cond t (after g (row_line_at T (seen h) s r)) (on g) = steps g r ∙ ap₂ (λ (u : Bool) (m : List Bool). cond u (after g (row_line_at T m s r)) (on g)) f e in
            let q : step h r ≡ cond t (after h (row_line_at T (seen h) s r)) (on h) = steps h r ∙ ap (λ (u : Bool). cond u (after h (row_line_at T (seen h) s r)) (on h)) f in
            subst (λ (x : Going G). Alike seen (over_next (λ a. over step a rs) x) (over_next (λ a. over step a rs) (step h r))) (sym p)
            (subst (λ (x : Going G). Alike seen (over_next (λ a. over step a rs) (cond t (after g (row_line_at T (seen h) s r)) (on g))) (over_next (λ a. over step a rs) x)) (sym q) (turn t rec))

    -- all rows of the group
    pub group_sound : length T ≤ 10 → (d : D) (rs : List Row) → All (Standing s) rs → GroupAnswers T s seen item with d (of_group w (map (row_said s) rs)) (over step (made unseen d) rs)
    unfolding kept
    group_sound l d rs st =
        group_from d [] (made unseen d)
        (record { xs = []; entries = entries_none T s; marks = subst (λ (m : List Bool). Marks T m []) (sym (seen-made unseen d)) (marks_none T l); item_is = item-made unseen d }) rs st
