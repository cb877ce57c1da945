-- Trees that end alike have equal counts, or one fault.
use mathlib.Core.Path.{◌≡◌, ap}
use Prim.Native.Nat.{ℕ}
use Rattle.std.specs.Prelude.{Result, Ok, Err}
use Rattle.error.specs.declared.LinkFault.{LinkFault}
use Rattle.load_tree.specs.Bodies.{filled, unfilled}
use Rattle.load_tree.specs.declared.Filled.{Filled}
use Rattle.error.specs.declared.LineFault.{LineFault}

-- records and lines
pub same_filled : {a b a' b' : ℕ} → filled a b ≡ filled a' b' → (a ≡ a') × (b ≡ b')
same_filled {a = a} {b = b} h =
    let e = ap held h in (
      ap (λ (r : Filled). r.records) e,
      ap (λ (r : Filled). r.lines) e,
    )
  where
    held : Result Filled LineFault → Filled
    held (Ok r) = r
    held (Err z) = record { records = a; lines = b }

-- fault and line
pub same_unfilled : {a a' : LinkFault} {b b' : ℕ} → unfilled a b ≡ unfilled a' b' → (a ≡ a') × (b ≡ b')
same_unfilled {a = a} {b = b} h =
    let e = ap held h in (
      ap (λ (r : LineFault). r.fault) e,
      ap (λ (r : LineFault). r.line) e,
    )
  where
    held : Result Filled LineFault → LineFault
    held (Err r) = r
    held (Ok z) = record { fault = a; line = b }
