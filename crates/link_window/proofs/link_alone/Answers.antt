-- `link_window::link_alone`: a PDF links, a node is refused.
use mathlib.Core.Path.{sym, ap, ◌∙◌}
use Rattle.link_window.specs.Windows.{fault_alone}
use Rattle.link_window.proofs.link_alone.Goals as goal

pub returns-in-Node : goal.returns-in-Node
returns-in-Node c = c.refused.ensures ∙ sym (ap fault_alone c.in-Node.is)
