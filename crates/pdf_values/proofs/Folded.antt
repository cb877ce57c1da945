-- What the text says of each tree with zeros behind it, and the blocks' numbers set into those rows afterwards, are the folded rows (02, Wish 10).
--     fold-stored      of rows that stand in a table from any row on, whatever stands beside them
use mathlib.Core.Path.{◌≡◌, refl, sym, ap, ◌∙◌}
use mathlib.Core.List.{List, [], ◌∷◌, ◌++◌, map, flatten, zip_with, append_assoc}
use Prim.Native.Nat.{ℕ, suc, ◌+◌, ◌*◌}
use native.Mathlib.Omega.{arith}
use lib.ListN.{length, length-append}
use lib.Seq.{sets}
use Rattle.written.specs.Linking.{here, Row}
use Rattle.written.specs.Blocks as block
use Rattle.written.specs.Tables.{tree_row, folded}
use Rattle.written.proofs.Folded.{Wide, wide_rest}
use Rattle.laws.proofs.Tables.{sets-append, sets_over, sets_before}
use Rattle.pdf_values.specs.Folded.{begun, with_blocks}

-- ---- one row

module _ (t : List ℕ) (i : ℕ) (r : Row) (e : length r ≡ 4) (b : block.Row) (F : List ℕ) where
  -- a row whose block is set, and the rows behind it
  set_row : sets (sets t i (begun r ++ F)) (i + 4) (b.first ∷ b.entries ∷ []) ≡ sets (sets t i (tree_row r b)) (i + 6) F
  set_row =
      let z : List ℕ = 0 ∷ 0 ∷ [] in
      let p : List ℕ = b.first ∷ b.entries ∷ [] in
      let u = sets t i r in
      let four : i + length r ≡ i + 4 = omega arith in
      let six : (i + 4) + length p ≡ i + 6 = omega arith in
      -- the row's text, then zeros, then the rest
      let opened : sets t i (begun r ++ F) ≡ sets (sets u (i + 4) z) (i + 6) F =
      ap (sets t i) (append_assoc r z F) ∙ sym (sets-append t i r (z ++ F)) ∙ ap (λ (n : ℕ). sets u n (z ++ F)) four ∙ sym (sets-append u (i + 4) z F)
      ∙ ap (λ (n : ℕ). sets (sets u (i + 4) z) n F) six in
      ap (λ (l : List ℕ). sets l (i + 4) p) (opened ∙ sym (ap (λ (n : ℕ). sets (sets u (i + 4) z) n F) six))
      ∙ sets_before p F (sets u (i + 4) z) (i + 4)
      ∙ sets_over z (p ++ F) u (i + 4) (omega (arith, length-append p F))
      ∙ sym (sets-append u (i + 4) p F)
      ∙ ap (λ (n : ℕ). sets (sets u (i + 4) p) n F) six
      ∙ ap (λ (l : List ℕ). sets l (i + 6) F) (ap (λ (n : ℕ). sets u n p) (sym four) ∙ sets-append t i r p)

-- ---- all rows

pub fold_stored : (t : List ℕ) (k : ℕ) (ts : List Row) (bs : List block.Row) → Wide 4 ts → length bs ≡ length ts
    → with_blocks (sets t (6 * k) (flatten (map begun ts))) k bs ≡ sets t (6 * k) (flatten (folded ts bs))
unfolding with_blocks flatten zip_with
fold_stored t k [] [] f e = refl
fold_stored t k [] (b ∷ bs) f e = absurd (omega arith)
fold_stored t k (r ∷ ts) [] f e = absurd (omega arith)
fold_stored t k (r ∷ ts) (b ∷ bs) f e =
    let four : length r ≡ 4 = f 0 r here in
    let six : 6 * k + 6 ≡ 6 * suc k = omega arith in
    let long : length (tree_row r b) ≡ 6 = length-append r (b.first ∷ b.entries ∷ []) ∙ omega arith in
    ap (λ (l : List ℕ). with_blocks l (suc k) bs)
    (set_row t (6 * k) r four b (flatten (map begun ts)) ∙ ap (λ (n : ℕ). sets (sets t (6 * k) (tree_row r b)) n (flatten (map begun ts))) six)
    ∙ fold_stored (sets t (6 * k) (tree_row r b)) (suc k) ts bs (wide_rest f) (omega arith)
    ∙ ap (λ (n : ℕ). sets (sets t (6 * k) (tree_row r b)) n (flatten (folded ts bs))) (sym (ap (λ (m : ℕ). 6 * k + m) long ∙ six))
    ∙ sets-append t (6 * k) (tree_row r b) (flatten (folded ts bs))
