-- Equal choices have equal ranges and widths.
use mathlib.Core.Path.{◌≡◌, ap}
use Prim.Native.Nat.{ℕ}
use Rattle.std.specs.Prelude.{Result, Ok, Err}
use Rattle.error.specs.declared.Refusal.{Refusal}
use Rattle.load_choose.specs.Chosen.{chosen}
use Rattle.load_choose.specs.declared.Chosen.{Chosen}

-- each number by itself
pub same_chosen : {a b c d e a' b' c' d' e' : ℕ} → chosen a b c d e ≡ chosen a' b' c' d' e' → (a ≡ a') × (b ≡ b') × (c ≡ c') × (d ≡ d') × (e ≡ e')
same_chosen {a = a} {b = b} {c = c} {d = d} {e = e} h =
    let e = ap held h in (
      ap (λ (r : Chosen). r.tree_from) e,
      ap (λ (r : Chosen). r.tree_to) e,
      ap (λ (r : Chosen). r.pdf_from) e,
      ap (λ (r : Chosen). r.pdf_to) e,
      ap (λ (r : Chosen). r.width) e,
    )
  where
    held : Result Chosen Refusal → Chosen
    held (Ok r) = r
    held (Err z) = record { tree_from = a; tree_to = b; pdf_from = c; pdf_to = d; width = e }
