-- Loads that end alike have equal rows.
use mathlib.Core.Path.{◌≡◌, ap}
use Prim.Native.Nat.{ℕ}
use Rattle.std.specs.Prelude.{Result, Ok, Err}
use Rattle.error.specs.declared.Refusal.{Refusal}
use Rattle.load_model.specs.Load.{loaded}
use Rattle.load_model.specs.declared.Loaded.{Loaded}

-- each table by itself
pub same_loaded : {a b c d e a' b' c' d' e' : ℕ} → loaded a b c d e ≡ loaded a' b' c' d' e' → (a ≡ a') × (b ≡ b') × (c ≡ c') × (d ≡ d') × (e ≡ e')
same_loaded {a = a} {b = b} {c = c} {d = d} {e = e} h =
    let e = ap held h in (
      ap (λ (r : Loaded). r.questions) e,
      ap (λ (r : Loaded). r.patterns) e,
      ap (λ (r : Loaded). r.trees) e,
      ap (λ (r : Loaded). r.records) e,
      ap (λ (r : Loaded). r.values) e,
    )
  where
    held : Result Loaded Refusal → Loaded
    held (Ok r) = r
    held (Err z) = record { questions = a; patterns = b; trees = c; records = d; values = e }
