-- Numbers of the items of a list: their sum, the largest, and whether any passes a test.
use Rattle.std.specs.Prelude.{Bool, cond, ◌||◌, List, [], ◌∷◌, ℕ, ◌+◌, ltb}

unfoldable pub larger : ℕ → ℕ → ℕ
larger m n = cond (ltb m n) n m

module _ {A : Type 0} where
  unfoldable pub total : (A → ℕ) → List A → ℕ
  total w [] = 0
  total w (x ∷ xs) = w x + total w xs

  -- the largest, and m at least
  unfoldable pub largest : (A → ℕ) → ℕ → List A → ℕ
  largest w m [] = m
  largest w m (x ∷ xs) = largest w (larger m (w x)) xs

  -- whether any passes, or b
  unfoldable pub any_of : (A → Bool) → Bool → List A → Bool
  any_of p b [] = b
  any_of p b (x ∷ xs) = any_of p (b || p x) xs
