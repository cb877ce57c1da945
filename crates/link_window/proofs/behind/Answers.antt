-- `link_window::behind`: by what was taken.
use mathlib.Core.Path.{sym, ap}
use Rattle.link_window.specs.Windows.{behind_of}
use Rattle.link_window.proofs.behind.Goals as goal

pub returns-in-More : goal.returns-in-More
returns-in-More c = sym (ap behind_of c.in-More.is)
