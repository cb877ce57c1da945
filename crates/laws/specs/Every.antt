-- A test at each number of a range, by computation.
use Rattle.std.specs.Prelude.{Bool, true, false, ◌&&◌, ◌||◌, ℕ, zero, suc}

-- p at k and the n - 1 numbers after it
unfoldable pub all : (ℕ → Bool) → ℕ → ℕ → Bool
all p k zero = true
all p k (suc n) = p k && all p (suc k) n

-- p at k or at one of the n - 1 numbers after it
unfoldable pub some : (ℕ → Bool) → ℕ → ℕ → Bool
some p k zero = false
some p k (suc n) = p k || some p (suc k) n
