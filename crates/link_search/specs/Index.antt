-- An index: the numbers 0, 1, .., sorted by what f says of them and then by themselves.
use Rattle.std.specs.Prelude.{◌≡◌, List, ℕ, length}
use Rattle.link_order.specs.Keys.{key_of}
use Rattle.link_sort.specs.Sorted.{sorted}
use Rattle.link_search.specs.Found.{count_from}

pub record Index (f : ℕ → ℕ) (t : List ℕ) : Type 0 where
  pub is : t ≡ sorted (key_of f) (count_from 0 (length t))

-- the numbers of a list, ascending
pub record Ascends (t : List ℕ) : Type 0 where
  pub of : List ℕ
  pub is : t ≡ sorted (key_of (λ x. 0)) of
