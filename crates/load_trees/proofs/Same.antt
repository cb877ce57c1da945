-- Texts that linking refuses alike have one fault.
use mathlib.Core.Path.{◌≡◌, ap}
use Prim.Native.Nat.{ℕ}
use Rattle.std.specs.Prelude.{Result, Ok, Err, ⊤}
use Rattle.error.specs.declared.LinkFault.{LinkFault}
use Rattle.load_trees.specs.Trees.{unlinked}
use Rattle.load_trees.specs.declared.TreeFault.{TreeFault}

-- fault, tree and line
pub same_unlinked : {a a' : LinkFault} {b c b' c' : ℕ} → unlinked a b c ≡ unlinked a' b' c' → (a ≡ a') × (b ≡ b') × (c ≡ c')
same_unlinked {a = a} {b = b} {c = c} h =
    let e = ap held h in (
      ap (λ (r : TreeFault). r.fault) e,
      ap (λ (r : TreeFault). r.tree) e,
      ap (λ (r : TreeFault). r.line) e,
    )
  where
    held : Result ⊤ TreeFault → TreeFault
    held (Err r) = r
    held (Ok z) = record { fault = a; tree = b; line = c }
