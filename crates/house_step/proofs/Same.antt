-- Models that are judged alike break one rule.
use mathlib.Core.Path.{◌≡◌, ap}
use Prim.Native.Nat.{ℕ}
use Rattle.std.specs.Prelude.{Result, Ok, Err}
use Rattle.error.specs.declared.Refusal.{Refusal}
use Rattle.load_bounds.specs.declared.Held.{Held}
use Rattle.house_step.specs.Steps.{judged_as}
use Rattle.house_step.specs.declared.Judged.{Judged}

-- rule and bounds
pub same_judged : {a a' : ℕ} {b b' : Held} → judged_as a b ≡ judged_as a' b' → (a ≡ a') × (b ≡ b')
same_judged {a = a} {b = b} h =
    let e = ap held h in (
      ap (λ (r : Judged). r.rule) e,
      ap (λ (r : Judged). r.held) e,
    )
  where
    held : Result Judged Refusal → Judged
    held (Ok r) = r
    held (Err z) = record { rule = a; held = b }
