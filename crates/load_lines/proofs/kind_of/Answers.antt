-- `load_lines::kind_of` meets its contract.
use mathlib.Core.Path.{sym, ap}
use Rattle.load_lines.specs.Words.{kind_of}
use Rattle.load_lines.proofs.kind_of.Goals as goal

pub returns-in-Node : goal.returns-in-Node
returns-in-Node c = sym (ap kind_of c.in-Node.is)

pub returns-in-Pdf : goal.returns-in-Pdf
returns-in-Pdf c = sym (ap kind_of c.in-Pdf.is)
