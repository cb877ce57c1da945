-- `load_lines::number_of` meets its contract.
use mathlib.Core.Path.{sym, ap, ◌∙◌}
use Rattle.load_lines.specs.Words.{number_of}
use borrow.Author.Rules.{rules}
use Rattle.load_lines.proofs.number_of.Goals as goal

pub returns-in-Node : goal.returns-in-Node
returns-in-Node c = (search rules) ∙ sym (ap number_of c.in-Node.is)

pub returns-in-Pdf : goal.returns-in-Pdf
returns-in-Pdf c = (search rules) ∙ sym (ap number_of c.in-Pdf.is)
