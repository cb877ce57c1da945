-- The number, tree and line of document 01, 'Linking and tables', for each way in which linking is refused.
use Rattle.std.specs.Prelude.{ℕ, Result, ⊤}
use Rattle.error.specs.Numbers.{fault_number}
use Rattle.error.specs.declared.LinkFault.{LinkFault}
use Rattle.load_trees.specs.Trees.{unlinked}
use Rattle.load_trees.specs.declared.TreeFault.{TreeFault}

pub data RefusedAs : Result ⊤ TreeFault → ℕ → ℕ → ℕ → Type 0 where
  refused : {g : LinkFault} {a k : ℕ} → RefusedAs (unlinked g a k) (fault_number g) a k
