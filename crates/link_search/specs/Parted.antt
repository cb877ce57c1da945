-- A list in whose front a test is true, and behind it false.
use Rattle.std.specs.Prelude.{◌≡◌, Bool, true, false, List, ℕ, ◌≤◌, ◌<◌, length, get_or}

-- once false, it stays false
abbrev pub Falls : (ℕ → Bool) → List ℕ → Type 0
Falls p t = (i j : ℕ) → i ≤ j → j < length t → p (get_or t j 0) ≡ true → p (get_or t i 0) ≡ true

-- it is true below r, and false from r on
pub record Parted (p : ℕ → Bool) (t : List ℕ) (r : ℕ) : Type 0 where
  pub within : r ≤ length t
  pub front : (i : ℕ) → i < r → p (get_or t i 0) ≡ true
  pub behind : (i : ℕ) → r ≤ i → i < length t → p (get_or t i 0) ≡ false
