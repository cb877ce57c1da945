-- Equal ranges have equal ends.
use mathlib.Core.Path.{◌≡◌, ap}
use Prim.Native.Nat.{ℕ}
use Rattle.std.specs.Prelude.{Option, Some, None}
use Rattle.load_range.specs.Ranges.{bounds}
use Rattle.load_range.specs.declared.Bounds.{Bounds}

-- each end by itself
pub same_bounds : {a b a' b' : ℕ} → bounds a b ≡ bounds a' b' → (a ≡ a') × (b ≡ b')
same_bounds {a = a} {b = b} h =
    let e = ap held h in (
      ap (λ (r : Bounds). r.start) e,
      ap (λ (r : Bounds). r.end) e,
    )
  where
    held : Option Bounds → Bounds
    held (Some r) = r
    held None = record { start = a; end = b }
