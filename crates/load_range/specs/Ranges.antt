-- A range, whose end belongs to it, in n bytes.
use Rattle.std.specs.Prelude.{cond, ◌&&◌, ℕ, ◌+◌, leb, None, Some, Option}
use Rattle.load_range.specs.declared.Bounds.{Bounds}

-- bytes from a up to b
abbrev pub bounds : ℕ → ℕ → Option Bounds
bounds a b = Some (record { start = a; end = b })

unfoldable pub within_of : ℕ → ℕ → ℕ → Option Bounds
within_of a b n = cond (leb a (b + 1) && leb (b + 1) n) (bounds a (b + 1)) None
