-- Texts that were read alike have equal counts.
use mathlib.Core.Path.{◌≡◌, ap}
use Prim.Native.Nat.{ℕ}
use Rattle.std.specs.Prelude.{Result, Ok, Err}
use Rattle.error.specs.declared.Refusal.{Refusal}
use Rattle.load_plan.specs.Plans.{read_as}
use Rattle.load_plan.specs.declared.Text.{Text}

-- each count by itself
pub same_read : {a b c d e f a' b' c' d' e' f' : ℕ} → read_as a b c d e f ≡ read_as a' b' c' d' e' f' → (a ≡ a') × (b ≡ b') × (c ≡ c') × (d ≡ d') × (e ≡ e') × (f ≡ f')
same_read {a = a} {b = b} {c = c} {d = d} {e = e} {f = f} h =
    let e = ap held h in (
      ap (λ (r : Text). r.first) e,
      ap (λ (r : Text). r.questions) e,
      ap (λ (r : Text). r.patterns) e,
      ap (λ (r : Text). r.trees) e,
      ap (λ (r : Text). r.records) e,
      ap (λ (r : Text). r.lines) e,
    )
  where
    held : Result Text Refusal → Text
    held (Ok r) = r
    held (Err z) = record { first = a; questions = b; patterns = c; trees = d; records = e; lines = f }
