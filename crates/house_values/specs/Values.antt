-- The rules on values by computation, as comparisons of whole numbers.
use Rattle.std.specs.Prelude.{Bool, true, false, cond, ◌&&◌, List, ℕ, ◌+◌, ◌*◌, ◌/◌, ◌%◌, ltb, eqb, length, get_or}
use Rattle.laws.specs.Every.{all}

abbrev pub good_mean : ℕ → Bool
good_mean v = ltb (v % 9223372036854775808) 9218868437227405312

abbrev pub good_variance : ℕ → Bool
good_variance v = ltb 0 v && ltb v 9218868437227405312

abbrev pub good_value : Bool → ℕ → Bool
good_value true = good_variance
good_value false = good_mean

abbrev pub bit : Bool → ℕ
bit true = 1
bit false = 0

-- pair k of those that begin at a
abbrev pub pair_good : Bool → List ℕ → ℕ → ℕ → Bool
pair_good b vs a k = good_value b (get_or vs (a + 2 * k) 0)

unfoldable pub pairs_good : Bool → List ℕ → ℕ → ℕ → Bool
pairs_good b vs a n = all (pair_good b vs a) 0 n

-- entry i of width w
abbrev pub entry_good : Bool → ℕ → List ℕ → ℕ → Bool
entry_good b w vs i = pairs_good b vs (i * w + bit b) (w / 2)

-- a width of 0 has no pair
unfoldable pub values_good : Bool → ℕ → List ℕ → Bool
values_good b w vs = cond (eqb w 0) true (all (entry_good b w vs) 0 (length vs / w))
