-- The last number below n of which a test is true; the first place of a list of whose element it is.
use Rattle.std.specs.declared.option.Option.{Option}
use Rattle.std.specs.Prelude.{Bool, cond, List, [], ◌∷◌, ℕ, zero, suc, Some, None}

unfoldable pub last_below : (ℕ → Bool) → ℕ → Option ℕ
last_below p zero = None
last_below p (suc n) = cond (p n) (Some n) (last_below p n)

-- the first place from k on, where l starts at k
unfoldable pub first_from : (ℕ → Bool) → ℕ → List ℕ → Option ℕ
first_from p k [] = None
first_from p k (x ∷ l) = cond (p x) (Some k) (first_from p (suc k) l)

-- 0, 1, .., n - 1, from k on
unfoldable pub count_from : ℕ → ℕ → List ℕ
count_from k zero = []
count_from k (suc n) = k ∷ count_from (suc k) n
