-- `tree_reference::same_index`: each arm is an arm of `sameIndex`.
use mathlib.Core.Path.{sym, ap₂, ◌∙◌}
use Rattle.laws.proofs.Wholes.{same_bits}
use Rattle.tree_reference.specs.References.{same_index}
use borrow.Author.Rules.{rules}
use Rattle.tree_reference.proofs.same_index.Goals as goal

pub returns-in-Node-b : goal.returns-in-Node-b
returns-in-Node-b c = same_bits _ _ (search rules) (search rules) ∙ ap₂ same_index (sym c.in-Node.is) (sym c.in-Node-b.is)

pub returns-in-Pdf-b-2 : goal.returns-in-Pdf-b-2
returns-in-Pdf-b-2 c = same_bits _ _ (search rules) (search rules) ∙ ap₂ same_index (sym c.in-Pdf.is) (sym c.in-Pdf-b-2.is)
