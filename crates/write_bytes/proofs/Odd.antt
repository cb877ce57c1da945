-- The test says no exactly where a name or a pattern has an odd byte, of rows that stand inside.
use mathlib.Core.Path.{◌≡◌, refl, sym, ap, ◌∙◌}
use mathlib.Core.Bool.{Bool, true, false, cond, ◌&&◌}
use mathlib.Core.Logic.{⊎_elim}
use mathlib.Core.List.{List, [], ◌∷◌}
use Prim.Native.Nat.{ℕ, zero, suc, ◌+◌, ◌-◌, ◌<◌, min}
use native.Mathlib.Omega.{arith}
use lib.ListN.{length, get_or, drop, length-take, length-drop}
use lib.Seq.{get_or-take, get_or-drop}
use Rattle.std.specs.List.{list_all}
use Rattle.written.specs.Bytes.{in_name, in_pattern, part}
use Rattle.written.specs.Writing.{Among, OddByte, in_a_name, in_a_pattern, first_four}
use Rattle.laws.specs.Every.{all}
use Rattle.laws.proofs.Every.{first_of, second_of, all_each}
use Rattle.table_rows.specs.Rows.{question_rows, question_start, question_len, pattern_rows, pattern_start, pattern_len, question_row, pattern_row, question_table, pattern_table, tree_table, record_table}
use Rattle.table_rows.proofs.Stand.{row_of, all_there}
use Rattle.write_rows.specs.Tests.{rows_in}
use Rattle.write_rows.proofs.Outside.{either_fails, Fails, all_fails, name_in, pattern_in_lem}
use Rattle.write_bytes.specs.Tests.{fits, every, name_fits, pattern_fits, bytes_fit}

-- `every` is the library's word
pub every_list : (p : ℕ → Bool) (s : List ℕ) → list_all p s ≡ every p s
unfolding every
every_list p [] = refl
every_list p (b ∷ s) = ap (λ (r : Bool). p b && r) (every_list p s)

-- ---- a class by its name

pub fits_name : (x : ℕ) {b r : Bool} → b ≡ true → r ≡ in_name x → r ≡ fits b x
unfolding fits
fits_name x h u = u ∙ sym (ap (λ (c : Bool). cond c (in_name x) (in_pattern x)) h)

pub fits_pattern : (x : ℕ) {b r : Bool} → b ≡ false → r ≡ in_pattern x → r ≡ fits b x
unfolding fits
fits_pattern x h u = u ∙ sym (ap (λ (c : Bool). cond c (in_name x) (in_pattern x)) h)

-- ---- what it says of a byte

every_at : (p : ℕ → Bool) (s : List ℕ) → every p s ≡ true → (k : ℕ) → k < length s → p (get_or s k 0) ≡ true
unfolding every
every_at p [] e k h = absurd (omega arith)
every_at p (b ∷ s) e zero h = first_of (p b) (every p s) e
every_at p (b ∷ s) e (suc k) h = every_at p s (second_of (p b) (every p s) e) k (omega arith)

record Odd (p : ℕ → Bool) (s : List ℕ) : Type 0 where
  k : ℕ
  below : k < length s
  odd : p (get_or s k 0) ≡ false

every_fails : (p : ℕ → Bool) (s : List ℕ) → every p s ≡ false → Odd p s
unfolding every
every_fails p [] e = let u : ◌≡◌ {A = ℕ} 0 1 = cc in absurd (omega arith)
every_fails p (b ∷ s) e = ⊎_elim (λ h. record { k = 0; below = omega arith; odd = h }) (λ h. on (every_fails p s h)) (either_fails (p b) (every p s) e)
  where
    on : Odd p s → Odd p (b ∷ s)
    on f = record { k = suc f.k; below = omega (arith, f.below); odd = f.odd }

module _ (d : List ℕ) (a n : ℕ) where
  part_length : length (part d a n) ≡ min n (length d - a)
  part_length = length-take n (drop a d) ∙ ap (min n) (length-drop a d)

  part_at : (k : ℕ) → k < n → get_or (part d a n) k 0 ≡ get_or d (a + k) 0
  part_at k h = get_or-take n (drop a d) k 0 h ∙ get_or-drop a d k 0

  inside_fits : (p : ℕ → Bool) → Among a n (length d) → every p (part d a n) ≡ true → (k : ℕ) → k < n → p (get_or d (a + k) 0) ≡ true
  inside_fits p f e k h = ap p (sym (part_at k h)) ∙ every_at p (part d a n) e k (omega (arith, part_length, f k h))

  odd_there : (p : ℕ → Bool) → every p (part d a n) ≡ false → (k : ℕ) × (k < n) × (p (get_or d (a + k) 0) ≡ false)
  odd_there p e =
      let o = every_fails p (part d a n) e in
      let h : o.k < n = omega (arith, o.below, part_length) in
      (o.k, h, ap p (sym (part_at o.k h)) ∙ o.odd)

-- ---- both ways

abbrev at : ℕ → List ℕ → ℕ
at j r = get_or r j 0

module _ (d Q P T R : List ℕ) where
  abbrev OddThere : Type 0
  OddThere = OddByte d (question_table Q) (pattern_table P) (first_four (tree_table T)) (record_table R)

  pub some_odd : bytes_fit d Q P ≡ false → OddThere
  unfolding bytes_fit name_fits pattern_fits fits question_table pattern_table
  some_odd e = ⊎_elim (λ u. of_name (all_fails _ _ _ u)) (λ u. of_pattern (all_fails _ _ _ u)) (either_fails _ _ e)
    where
      of_name : Fails (name_fits d Q) 0 (question_rows Q) → OddThere
      of_name f =
          let o = odd_there d (question_start Q f.i) (question_len Q f.i) (fits true) f.fails in
          in_a_name (all_there (question_row Q) (question_rows Q) f.i (omega (arith, f.below))) o.1 o.2

      of_pattern : Fails (pattern_fits d P) 0 (pattern_rows P) → OddThere
      of_pattern f =
          let o = odd_there d (pattern_start P f.i) (pattern_len P f.i) (fits false) f.fails in
          in_a_pattern (all_there (pattern_row P) (pattern_rows P) f.i (omega (arith, f.below))) o.1 o.2

  pub none_odd : rows_in d Q P T R ≡ true → bytes_fit d Q P ≡ true → ¬ OddThere
  unfolding bytes_fit name_fits pattern_fits fits question_table pattern_table
  none_odd e b (in_a_name {i = i} {a = a} {n = n} {k = k} h l o) =
      let r = row_of (question_row Q) (question_rows Q) h in
      let u = all_each (name_fits d Q) 0 (question_rows Q) (first_of _ _ b) i (omega arith) (omega (arith, r.0)) in
      let c : k < question_len Q i = omega (arith, ap (at 1) r.1) in
      let y : in_name (get_or d (question_start Q i + k) 0) ≡ true = inside_fits d (question_start Q i) (question_len Q i) (fits true) (name_in d Q P T R e i r.0) u k c in
      let z : ◌≡◌ {A = Bool} true false = sym y ∙ ap (λ (x : ℕ). in_name (get_or d (x + k) 0)) (sym (ap (at 0) r.1)) ∙ o in
      let v : ◌≡◌ {A = ℕ} 0 1 = cc in omega arith
  none_odd e b (in_a_pattern {i = i} {a = a} {n = n} {k = k} h l o) =
      let r = row_of (pattern_row P) (pattern_rows P) h in
      let u = all_each (pattern_fits d P) 0 (pattern_rows P) (second_of (all (name_fits d Q) 0 (question_rows Q)) _ b) i (omega arith) (omega (arith, r.0)) in
      let c : k < pattern_len P i = omega (arith, ap (at 1) r.1) in
      let y : in_pattern (get_or d (pattern_start P i + k) 0) ≡ true = inside_fits d (pattern_start P i) (pattern_len P i) (fits false) (pattern_in_lem d Q P T R e i r.0) u k c in
      let z : ◌≡◌ {A = Bool} true false = sym y ∙ ap (λ (x : ℕ). in_pattern (get_or d (x + k) 0)) (sym (ap (at 0) r.1)) ∙ o in
      let v : ◌≡◌ {A = ℕ} 0 1 = cc in omega arith
