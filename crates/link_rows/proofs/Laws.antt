-- Leaves spread from the last on, and lines written from the first on.
use mathlib.Core.Path.{◌≡◌, refl, sym, ap, ap₂, ◌∙◌}
use mathlib.Core.List.{List, [], ◌∷◌}
use Prim.Native.Nat.{ℕ, suc, ◌+◌, ◌-◌, ◌*◌, ◌≤◌, ◌<◌}
use native.Mathlib.Numerals.{add-one}
use native.Mathlib.Omega.{arith}
use lib.IntN.{ℤ, pos}
use lib.ListN.{length, get_or, take, drop, length-take, length-drop, drop_of_length-le}
use lib.Seq.{sets, length-sets, drop-cons, get_or-take, get_or-drop}
use Rattle.laws.proofs.Tables.{sets-append, sets_before, sets_under, sets_past}
use Rattle.text_parts.specs.Parts.{nat_of}
use Rattle.link_rows.specs.Rows.{leaf_rows, line_rows}

-- ---- leaves

module _ (rows₀ : List ℕ) (first leaves : ℕ) where
  -- the numbers, side by side
  abbrev numbers : List ℕ
  numbers = take leaves (drop first rows₀)

  pub record Spreading (rows : List ℕ) (k : ℕ) : Type 0 where
    pub within : k ≤ leaves
    pub long : length rows ≡ length rows₀
    pub is : rows ≡ sets rows₀ (first + 4 * k) (leaf_rows (drop k numbers))

  pub spread_none : Spreading rows₀ leaves
  unfolding leaf_rows
  spread_none =
      let e : length numbers ≤ leaves = omega (arith, length-take leaves (drop first rows₀)) in
      record { within = omega arith; long = refl; is = ap (λ (l : List ℕ). sets rows₀ (first + 4 * leaves) (leaf_rows l)) (sym (drop_of_length-le numbers e)) }

  module _ (room : first + 4 * leaves ≤ length rows₀) (rows : List ℕ) (k : ℕ) (s : Spreading rows k) (h : 0 < k) where
    read : get_or rows (first + (k - 1)) 0 ≡ get_or numbers (k - 1) 0
    read =
        ap (λ (l : List ℕ). get_or l (first + (k - 1)) 0) s.is ∙ sets_under (leaf_rows (drop k numbers)) rows₀ (first + 4 * k) (first + (k - 1)) 0 (omega arith)
        ∙ sym (get_or-take leaves (drop first rows₀) (k - 1) 0 (omega (arith, s.within)) ∙ get_or-drop first rows₀ (k - 1) 0)

    pub spread_more : (rows₁ : List ℕ) → rows₁ ≡ sets rows (first + 4 * (k - 1)) (1 ∷ get_or rows (first + (k - 1)) 0 ∷ 0 ∷ 0 ∷ []) → Spreading rows₁ (k - 1)
    unfolding leaf_rows
    spread_more rows₁ e =
        let row : List ℕ = 1 ∷ get_or numbers (k - 1) 0 ∷ 0 ∷ 0 ∷ [] in
        let at : first + 4 * k ≡ first + 4 * (k - 1) + 4 = omega arith in
        let on : suc (k - 1) ≡ k = omega arith in
        let inside : k - 1 < length numbers = omega (arith, length-take leaves (drop first rows₀), length-drop first rows₀, s.within) in
        record {
          within = omega (arith, s.within);
          long = ap length e ∙ length-sets rows (first + 4 * (k - 1)) (1 ∷ get_or rows (first + (k - 1)) 0 ∷ 0 ∷ 0 ∷ []) ∙ s.long;
          is =
              e ∙ ap (λ (p : ℕ). sets rows (first + 4 * (k - 1)) (1 ∷ p ∷ 0 ∷ 0 ∷ [])) read
              ∙ ap (λ (l : List ℕ). sets l (first + 4 * (k - 1)) row) (s.is ∙ ap (λ (n : ℕ). sets rows₀ n (leaf_rows (drop k numbers))) at)
              ∙ sets_before row (leaf_rows (drop k numbers)) rows₀ (first + 4 * (k - 1))
              ∙ ap (λ (l : List ℕ). sets rows₀ (first + 4 * (k - 1)) (leaf_rows l)) (sym (drop-cons numbers (k - 1) 0 inside ∙ ap (λ (n : ℕ). get_or numbers (k - 1) 0 ∷ drop n numbers) on));
        }

  pub spread_done : (rows : List ℕ) (k : ℕ) → Spreading rows k → k ≤ 0 → rows ≡ sets rows₀ first (leaf_rows numbers)
  spread_done rows k s h =
      let z : k ≡ 0 = omega arith in
      let e : first + 4 * k ≡ first = omega arith in
      s.is ∙ ap₂ (λ n j. sets rows₀ n (leaf_rows (drop j numbers))) e z

-- ---- lines

module _ (w : List ℤ) (n : ℕ) (rows₀ : List ℕ) where
  pub record Writing (rows : List ℕ) (k : ℕ) : Type 0 where
    pub within : k ≤ n
    pub long : length rows ≡ length rows₀
    pub same : (i : ℕ) → 4 * k ≤ i → get_or rows i 0 ≡ get_or rows₀ i 0
    pub stored : sets rows (4 * k) (line_rows w rows₀ (2 * n) k (n - k)) ≡ sets rows₀ 0 (line_rows w rows₀ (2 * n) 0 n)

  pub write_more : (rows : List ℕ) (k : ℕ) → Writing rows k → k < n → (q : ℕ) → q ≡ nat_of (get_or w (6 * k + 5) (pos 0)) - 1 → (rows₁ : List ℕ)
      → rows₁ ≡ sets rows (4 * k) (0 ∷ q ∷ get_or rows (2 * n + 2 * k) 0 ∷ get_or rows (2 * n + 2 * k + 1) 0 ∷ []) → Writing rows₁ (k + 1)
  unfolding line_rows
  write_more rows k p h q qe rows₁ e =
      let row : List ℕ = 0 ∷ (nat_of (get_or w (6 * k + 5) (pos 0)) - 1) ∷ get_or rows₀ (2 * n + 2 * k) 0 ∷ get_or rows₀ (2 * n + 2 * k + 1) 0 ∷ [] in
      let is : 0 ∷ q ∷ get_or rows (2 * n + 2 * k) 0 ∷ get_or rows (2 * n + 2 * k + 1) 0 ∷ [] ≡ row =
      rw (qe, p.same (2 * n + 2 * k) (omega arith), p.same (2 * n + 2 * k + 1) (omega arith)) in
      let count : n - k ≡ suc (n - (k + 1)) = omega arith in
      let at : 4 * (k + 1) ≡ 4 * k + 4 = omega arith in
      let after = line_rows w rows₀ (2 * n) (suc k) (n - (k + 1)) in
      record {
        within = omega arith;
        long = ap length e ∙ length-sets rows (4 * k) (0 ∷ q ∷ get_or rows (2 * n + 2 * k) 0 ∷ get_or rows (2 * n + 2 * k + 1) 0 ∷ []) ∙ p.long;
        same = λ i l.
            ap (λ (t : List ℕ). get_or t i 0) e ∙ sets_past (0 ∷ q ∷ get_or rows (2 * n + 2 * k) 0 ∷ get_or rows (2 * n + 2 * k + 1) 0 ∷ []) rows (4 * k) i 0 (omega arith) ∙ p.same i (omega arith);
        stored =
            ap (λ (j : ℕ). sets rows₁ (4 * (k + 1)) (line_rows w rows₀ (2 * n) j (n - (k + 1)))) (add-one k)
            ∙ ap₂ (λ t m. sets t m after) (e ∙ ap (sets rows (4 * k)) is) at
            ∙ sets-append rows (4 * k) row after
            ∙ ap (λ (m : ℕ). sets rows (4 * k) (line_rows w rows₀ (2 * n) k m)) (sym count)
            ∙ p.stored;
      }

  pub write_done : (rows : List ℕ) (k : ℕ) → Writing rows k → n ≤ k → rows ≡ sets rows₀ 0 (line_rows w rows₀ (2 * n) 0 n)
  unfolding line_rows
  write_done rows k p h = let e : n - k ≡ 0 = omega arith in sym (ap (λ (m : ℕ). sets rows (4 * k) (line_rows w rows₀ (2 * n) k m)) e) ∙ p.stored
