-- `link_stray::is_astray`: yes first, then no.
use mathlib.Core.Path.{sym, ap, ◌∙◌}
use Rattle.link_fits.specs.Fits.{nowhere}
use Rattle.link_stray.proofs.Laws.{or_first, or_second}
use Rattle.link_stray.proofs.is_astray.Goals as goal

pub target_of-requires : goal.target_of-requires
target_of-requires c = c.requires

pub returns-then-is_nowhere : goal.returns-then-is_nowhere
returns-then-is_nowhere c = or_first _ (sym (c.is_nowhere.ensures ∙ ap nowhere c.target_of.ensures) ∙ c.if-is_nowhere.true)

pub target_of-requires-2 : goal.target_of-requires-2
target_of-requires-2 c = c.requires

pub returns : goal.returns
returns c = or_second (sym (c.is_nowhere.ensures ∙ ap nowhere c.target_of.ensures) ∙ c.if-is_nowhere.false) (c.is_nowhere-2.ensures ∙ ap nowhere c.target_of-2.ensures)
