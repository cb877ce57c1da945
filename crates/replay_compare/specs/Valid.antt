-- What Rust calls valid_up_to: the place of the first bad sequence, or the length.
use Rattle.std.specs.declared.result.Result.{Result}
use Rattle.std.specs.Prelude.{ℕ, Ok, Err}

abbrev pub valid_up_to : ℕ → Result Unit ℕ → ℕ
valid_up_to n (Ok tt) = n
valid_up_to n (Err i) = i
