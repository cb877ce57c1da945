-- Which rows stand in a table, and which are the records of a tree.
use mathlib.Core.Path.{◌≡◌, refl, sym, ap, ap₂, ◌∙◌, subst}
use mathlib.Core.Bool.{Bool, true, false, ◌&&◌}
use mathlib.Core.List.{List, [], ◌∷◌, ◌++◌, flatten}
use Prim.Native.Nat.{ℕ, zero, suc, ◌+◌, ◌-◌, ◌*◌, ◌≤◌, ◌<◌, min}
use native.Mathlib.Nat.{zero-add}
use native.Mathlib.Decide.{dec_lt}
use native.Mathlib.Omega.{arith}
use borrow.Author.Tests.{lt-ltb, le-ltb, ltb-true, ltb-false}
use lib.Dec.{ltb}
use lib.ListN.{length, get_or, take, drop, length-take, length-drop, length-append, get_or-append}
use lib.Seq.{length-take-le, get_or-take, get_or-drop, get_or-append-add}
use Rattle.written.specs.Linking.{Nth, here, there, Row}
use Rattle.written.proofs.Walk.{no_row, nth_once}
use Rattle.written.proofs.Folded.{Wide, wide_rest}
use Rattle.table_rows.specs.Rows.{tree_rows, tree_there, record_rows, record_there, tree_row, record_row, rows_from, tree_table, record_table, TreesStand, Standing}

-- ---- what stands in a part of a list

module _ {A : Type 0} where
  nth_drop : (f : ℕ) {xs : List A} {j k : ℕ} {x : A} → Nth xs j x → j ≡ f + k → Nth (drop f xs) k x
  nth_drop zero {xs} {j} {k} {x} h e = let q : j ≡ k = omega arith in subst (λ (n : ℕ). Nth xs n x) q h
  nth_drop (suc f) here e = absurd (omega arith)
  nth_drop (suc f) (there h) e = nth_drop f h (omega arith)

  nth-take : (c : ℕ) {xs : List A} {k : ℕ} {x : A} → Nth xs k x → k < c → Nth (take c xs) k x
  nth-take zero h l = absurd (omega arith)
  nth-take (suc c) here l = here
  nth-take (suc c) (there h) l = there (nth-take c h (omega arith))

  drop_nth : (f : ℕ) (xs : List A) {k : ℕ} {x : A} → Nth (drop f xs) k x → Nth xs (f + k) x
  drop_nth zero xs {k} {x} h = let q : k ≡ 0 + k = omega arith in subst (λ (n : ℕ). Nth xs n x) q h
  drop_nth (suc f) [] {k} h = absurd (no_row h)
  drop_nth (suc f) (y ∷ xs) {k} {x} h = let q : suc (f + k) ≡ suc f + k = omega arith in subst (λ (n : ℕ). Nth (y ∷ xs) n x) q (there (drop_nth f xs h))

  take_nth : (c : ℕ) (xs : List A) {k : ℕ} {x : A} → Nth (take c xs) k x → (k < c) × Nth xs k x
  take_nth zero xs h = absurd (no_row h)
  take_nth (suc c) [] h = absurd (no_row h)
  take_nth (suc c) (y ∷ xs) here = (omega arith, here)
  take_nth (suc c) (y ∷ xs) (there h) = let r = take_nth c xs h in (omega (arith, r.0), there r.1)

  -- what stands among c from f on
  pub nth_cut : (f c k : ℕ) {xs : List A} {x : A} → Nth xs (f + k) x → k < c → Nth (take c (drop f xs)) k x
  nth_cut f c k h l = nth-take c (nth_drop f h refl) l

  pub cut_nth : (f c k : ℕ) (xs : List A) {x : A} → Nth (take c (drop f xs)) k x → (k < c) × Nth xs (f + k) x
  cut_nth f c k xs h = let r = take_nth c (drop f xs) h in (r.0, drop_nth f xs r.1)

  -- what stands in a list stands below its length
  pub nth_below : {xs : List A} {k : ℕ} {x : A} → Nth xs k x → k < length xs
  nth_below here = omega arith
  nth_below (there h) = let r = nth_below h in omega arith

  pub nth_at : (xs : List A) (k : ℕ) (d : A) → k < length xs → Nth xs k (get_or xs k d)
  nth_at [] k d h = absurd (omega arith)
  nth_at (x ∷ xs) zero d h = here
  nth_at (x ∷ xs) (suc k) d h = there (nth_at xs k d (omega arith))

  -- two lists in which the same stands are the same
  pub nth_same : (xs ys : List A) → length xs ≡ length ys → ((k : ℕ) (x : A) → Nth xs k x → Nth ys k x) → xs ≡ ys
  nth_same [] [] e f = refl
  nth_same [] (y ∷ ys) e f = absurd (omega arith)
  nth_same (x ∷ xs) [] e f = absurd (omega arith)
  nth_same (x ∷ xs) (y ∷ ys) e f = ap₂ ◌∷◌ (nth_once (f 0 x here) here) (nth_same xs ys (omega arith) (λ k z h. behind (f (suc k) z (there h))))
    where
      behind : {k : ℕ} {z : A} → Nth (y ∷ ys) (suc k) z → Nth ys k z
      behind (there h) = h

-- ---- whether a row is there

module _ (rows first k : ℕ) where
  pub past_rows : rows ≤ first → false ≡ ltb (first + k) rows
  past_rows h = sym (le-ltb (first + k) rows (omega arith))

  pub in_rows : first < rows → ltb k (rows - first) ≡ ltb (first + k) rows
  in_rows l = go (dec_lt k (rows - first))
    where
      go : Dec (k < rows - first) → ltb k (rows - first) ≡ ltb (first + k) rows
      go (yes u) = lt-ltb k (rows - first) u ∙ sym (lt-ltb (first + k) rows (omega arith))
      go (no u) = le-ltb k (rows - first) (omega arith) ∙ sym (le-ltb (first + k) rows (omega arith))

-- the answer of the test, with the count by its name
pub told : (n : ℕ) {x v : Bool} {c rows : ℕ} → x ≡ ltb n c → c ≡ rows → x ≡ v → ltb n rows ≡ v
told n p q e = ap (ltb n) (sym q) ∙ sym p ∙ e

pub below : (n : ℕ) {rows : ℕ} → ltb n rows ≡ true → n < rows
below n {rows} e = ltb-true n rows e

-- ---- the rows of a table

module _ (row : ℕ → Row) where
  from_there : (i n k : ℕ) → k < n → Nth (rows_from row i n) k (row (i + k))
  unfolding rows_from
  from_there i zero k h = absurd (omega arith)
  from_there i (suc n) zero h = let q : i ≡ i + 0 = omega arith in subst (λ (m : ℕ). Nth (rows_from row i (suc n)) zero (row m)) q here
  from_there i (suc n) (suc k) h =
      let q : suc i + k ≡ i + suc k = omega arith in subst (λ (m : ℕ). Nth (rows_from row i (suc n)) (suc k) (row m)) q (there (from_there (suc i) n k (omega arith)))

  pub length_from : (i n : ℕ) → length (rows_from row i n) ≡ n
  unfolding rows_from
  length_from i zero = refl
  length_from i (suc n) = ap suc (length_from (suc i) n)

  pub all_there : (n k : ℕ) → k < n → Nth (rows_from row 0 n) k (row k)
  all_there n k h = subst (λ (m : ℕ). Nth (rows_from row 0 n) k (row m)) (zero-add k) (from_there 0 n k h)

  -- what stands in the table is a row of it
  pub row_of : (n : ℕ) {k : ℕ} {r : Row} → Nth (rows_from row 0 n) k r → (k < n) × (r ≡ row k)
  row_of n {k} h = let l : k < n = omega (arith, nth_below h, length_from 0 n) in (l, nth_once h (all_there n k l))

module _ (T : List ℕ) where
  pub tree_there_lem : (t : ℕ) → tree_there T t ≡ true → Nth (tree_table T) t (tree_row T t)
  unfolding tree_table
  tree_there_lem t e = all_there (tree_row T) (tree_rows T) t (ltb-true t (tree_rows T) e)

  pub tree_missing : (t : ℕ) → tree_there T t ≡ false → (r : Row) → ¬ Nth (tree_table T) t r
  unfolding tree_table
  tree_missing t e r h = omega (arith, nth_below h, length_from (tree_row T) 0 (tree_rows T), ltb-false t (tree_rows T) e)

module _ (R : List ℕ) where
  pub records_many : length (record_table R) ≡ record_rows R
  unfolding record_table
  records_many = length_from (record_row R) 0 (record_rows R)

  pub row_there : (i : ℕ) → i < record_rows R → Nth (record_table R) i (record_row R i)
  unfolding record_table
  row_there i h = all_there (record_row R) (record_rows R) i h

  -- ---- the records of a tree

  module _ (first count : ℕ) where
    pub record_in : (k : ℕ) → record_there R first count k ≡ true → (k < count) × (first + k < record_rows R)
    record_in k e = go (ltb k count) (ltb (first + k) (record_rows R)) refl refl e
      where
        go : (a b : Bool) → ltb k count ≡ a → ltb (first + k) (record_rows R) ≡ b → (a && b) ≡ true → (k < count) × (first + k < record_rows R)
        go true true p q h = (ltb-true k count p, ltb-true (first + k) (record_rows R) q)
        go true false p q h = let u : ◌≡◌ {A = ℕ} 0 1 = cc in absurd (omega arith)
        go false b p q h = let u : ◌≡◌ {A = ℕ} 0 1 = cc in absurd (omega arith)

    in_record : (k : ℕ) → k < count → first + k < record_rows R → record_there R first count k ≡ true
    in_record k h l = rw (lt-ltb k count h, lt-ltb (first + k) (record_rows R) l)

    pub record_stands : (k : ℕ) → record_there R first count k ≡ true → Nth (take count (drop first (record_table R))) k (record_row R (first + k))
    record_stands k e = let h = record_in k e in nth_cut first count k (row_there (first + k) h.1) h.0

    pub record_out : (k : ℕ) → record_there R first count k ≡ false → (r : Row) → ¬ Nth (take count (drop first (record_table R))) k r
    record_out k e r h =
        let c = cut_nth first count k (record_table R) h in
        let l : first + k < record_rows R = omega (arith, nth_below c.1, records_many) in
        let z : ◌≡◌ {A = Bool} true false = sym (in_record k c.0 l) ∙ e in
        let u : ◌≡◌ {A = ℕ} 0 1 = cc in
        omega arith

    pub past_count : (k : ℕ) → count ≤ k → false ≡ record_there R first count k
    past_count k h = rw (le-ltb k count h)

    pub past_table : (k : ℕ) → record_rows R ≤ first → false ≡ record_there R first count k
    past_table k h = go (ltb k count) (le-ltb (first + k) (record_rows R) (omega arith))
      where
        go : (a : Bool) {b : Bool} → b ≡ false → false ≡ (a && b)
        go true e = sym e
        go false e = refl

    pub in_table : (k : ℕ) → k < count → first < record_rows R → ltb k (record_rows R - first) ≡ record_there R first count k
    in_table k h l = go (dec_lt k (record_rows R - first))
      where
        go : Dec (k < record_rows R - first) → ltb k (record_rows R - first) ≡ record_there R first count k
        go (yes u) = rw (lt-ltb k count h, lt-ltb k (record_rows R - first) u, lt-ltb (first + k) (record_rows R) (omega arith))
        go (no u) = rw (lt-ltb k count h, le-ltb k (record_rows R - first) (omega arith), le-ltb (first + k) (record_rows R) (omega arith))

  -- records that stand in a table are cut out of it
  pub standing_cut : {first : ℕ} {rows : List Row} → Standing R first rows → take (length rows) (drop first (record_table R)) ≡ rows
  standing_cut {first} {rows} s = sym (nth_same rows (take (length rows) (drop first (record_table R))) (many rows s) stands)
    where
      stands : (k : ℕ) (r : Row) → Nth rows k r → Nth (take (length rows) (drop first (record_table R))) k r
      stands k r h =
          let e = s.each k r h in
          subst (Nth (take (length rows) (drop first (record_table R))) k) (sym e.1) (nth_cut first (length rows) k (row_there (first + k) (ltb-true (first + k) (record_rows R) e.0)) (nth_below h))

      -- the last of them stands in the table, so that as many are cut out
      many : (rows : List Row) → Standing R first rows → length rows ≡ length (take (length rows) (drop first (record_table R)))
      many [] s = refl
      many (r ∷ rows) s =
          let l = s.each (length rows) (get_or (r ∷ rows) (length rows) []) (nth_at (r ∷ rows) (length rows) [] (omega arith)) in
          sym (length-take-le (suc (length rows)) (drop first (record_table R)) (omega (arith, length-drop first (record_table R), records_many, ltb-true (first + length rows) (record_rows R) l.0)))

-- ---- rows that stand one behind the other

pub length-flat : {w : ℕ} (rows : List Row) → Wide w rows → length (flatten rows) ≡ w * length rows
unfolding flatten
length-flat [] f = omega arith
length-flat (r ∷ rows) f = omega (arith, length-append r (flatten rows), f 0 r here, length-flat rows (wide_rest f))

flat_at : (w : ℕ) (rows : List Row) → Wide w rows → {k : ℕ} {r : Row} (j : ℕ) → Nth rows k r → j < w → get_or (flatten rows) (w * k + j) 0 ≡ get_or r j 0
unfolding flatten
flat_at w (r ∷ rows) f j here h =
    let e : w * 0 + j ≡ j = omega arith in
    let l : j < length r = omega (arith, f 0 r here) in
    ap (λ (n : ℕ). get_or (r ++ flatten rows) n 0) e ∙ get_or-append r (flatten rows) 0 j l
flat_at w (x ∷ rows) f {k = suc k} j (there n) h =
    let e : w * suc k + j ≡ length x + (w * k + j) = omega (arith, f 0 x here) in
    ap (λ (n : ℕ). get_or (x ++ flatten rows) n 0) e ∙ get_or-append-add x (flatten rows) (w * k + j) 0 ∙ flat_at w rows (wide_rest f) j n h
flat_at w [] f {k = k} {r = r} j x3 h = elim x3 [ ]

-- rows of w numbers that stand in a flat table from its row `first` on: each row inside it, number by number
pub record Flat (w : ℕ) (R : List ℕ) (first : ℕ) (rows : List Row) : Type 0 where
  pub inside : (k : ℕ) (r : Row) → Nth rows k r → w * (first + k) + w ≤ length R
  pub at : (k : ℕ) (r : Row) → Nth rows k r → (j : ℕ) → j < w → get_or r j 0 ≡ get_or R (w * (first + k) + j) 0

pub flat_in : (w : ℕ) (R : List ℕ) (first : ℕ) (rows : List Row) → 0 < w → Wide w rows → take (w * length rows) (drop (w * first) R) ≡ flatten rows → Flat w R first rows
flat_in w R first rows some f e = record { inside = in_it; at = number }
  where
    room : min (w * length rows) (length R - w * first) ≡ w * length rows
    room = sym (length-take (w * length rows) (drop (w * first) R) ∙ ap (min (w * length rows)) (length-drop (w * first) R)) ∙ ap length e ∙ length-flat rows f

    -- row k and those before it are no more than all
    upto : (k n : ℕ) → k < n → w * k + w ≤ w * n
    upto k zero h = absurd (omega arith)
    upto zero (suc n) h = omega arith
    upto (suc k) (suc n) h = omega (arith, upto k n (omega arith))

    in_it : (k : ℕ) (r : Row) → Nth rows k r → w * (first + k) + w ≤ length R
    in_it k r h = omega (arith, some, room, upto k (length rows) (nth_below h))

    number : (k : ℕ) (r : Row) → Nth rows k r → (j : ℕ) → j < w → get_or r j 0 ≡ get_or R (w * (first + k) + j) 0
    number k r h j l =
        let q : w * first + (w * k + j) ≡ w * (first + k) + j = omega arith in
        sym (flat_at w rows f j h l) ∙ ap (λ (t : List ℕ). get_or t (w * k + j) 0) (sym e)
        ∙ get_or-take (w * length rows) (drop (w * first) R) (w * k + j) 0 (omega (arith, upto k (length rows) (nth_below h)))
        ∙ get_or-drop (w * first) R (w * k + j) 0 ∙ ap (λ (n : ℕ). get_or R n 0) q

-- ---- records: rows of four

pub four : (r : Row) → length r ≡ 4 → r ≡ get_or r 0 0 ∷ get_or r 1 0 ∷ get_or r 2 0 ∷ get_or r 3 0 ∷ []
four [] e = absurd (omega arith)
four (a ∷ []) e = absurd (omega arith)
four (a ∷ b ∷ []) e = absurd (omega arith)
four (a ∷ b ∷ c ∷ []) e = absurd (omega arith)
four (a ∷ b ∷ c ∷ d ∷ []) e = refl
four (a ∷ b ∷ c ∷ d ∷ x ∷ r) e = absurd (omega arith)

abbrev pub Fours : List Row → Type 0
Fours = Wide 4

pub flat-stands : (R : List ℕ) (first : ℕ) (rows : List Row) → Fours rows → take (4 * length rows) (drop (4 * first) R) ≡ flatten rows → Standing R first rows
flat-stands R first rows f e =
    record {
      each = λ k r h.
          let l : first + k < record_rows R = omega (arith, g.inside k r h) in
          let a = g.at k r h in
          let z : 4 * (first + k) + 0 ≡ 4 * (first + k) = omega arith in
          let y = a 0 (omega arith) ∙ ap (λ (n : ℕ). get_or R n 0) z in
          let b = a 1 (omega arith) in
          let c = a 2 (omega arith) in
          let d = a 3 (omega arith) in
          (lt-ltb (first + k) (record_rows R) l, four r (f k r h) ∙ cc);
    }
  where
    g : Flat 4 R first rows
    g = flat_in 4 R first rows (omega arith) f e

-- ---- trees: rows of six

six : (r : Row) → length r ≡ 6 → r ≡ get_or r 0 0 ∷ get_or r 1 0 ∷ get_or r 2 0 ∷ get_or r 3 0 ∷ get_or r 4 0 ∷ get_or r 5 0 ∷ []
six [] e = absurd (omega arith)
six (a ∷ []) e = absurd (omega arith)
six (a ∷ b ∷ []) e = absurd (omega arith)
six (a ∷ b ∷ c ∷ []) e = absurd (omega arith)
six (a ∷ b ∷ c ∷ d ∷ []) e = absurd (omega arith)
six (a ∷ b ∷ c ∷ d ∷ x ∷ []) e = absurd (omega arith)
six (a ∷ b ∷ c ∷ d ∷ x ∷ y ∷ []) e = refl
six (a ∷ b ∷ c ∷ d ∷ x ∷ y ∷ z ∷ r) e = absurd (omega arith)

pub trees_stand : (T : List ℕ) (rows : List Row) → Wide 6 rows → take (6 * length rows) T ≡ flatten rows → TreesStand T rows
trees_stand T rows f e =
    record {
      each = λ k r h.
          let l : k < tree_rows T = omega (arith, g.inside k r h) in
          let a : (j : ℕ) → j < 6 → get_or r j 0 ≡ get_or T (6 * k + j) 0 = λ j m. g.at k r h j m ∙ ap (λ (n : ℕ). get_or T n 0) (place k j) in
          let z : 6 * k + 0 ≡ 6 * k = omega arith in
          let a₀ = a 0 (omega arith) ∙ ap (λ (n : ℕ). get_or T n 0) z in
          let a₁ = a 1 (omega arith) in
          let a₂ = a 2 (omega arith) in
          let a₃ = a 3 (omega arith) in
          let a₄ = a 4 (omega arith) in
          let a₅ = a 5 (omega arith) in
          (lt-ltb k (tree_rows T) l, six r (f k r h) ∙ cc);
    }
  where
    g : Flat 6 T 0 rows
    g = flat_in 6 T 0 rows (omega arith) f e

    place : (k j : ℕ) → 6 * (0 + k) + j ≡ 6 * k + j
    place k j = omega arith
