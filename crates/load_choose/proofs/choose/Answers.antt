-- `load_choose::choose` meets its contract.
use Rattle.load_choose.proofs.Texts.{measured}
use mathlib.Core.Path.{◌∙◌}
use Rattle.load_choose.proofs.choose.Goals as goal

pub returns : goal.returns
returns c = c.place.ensures ∙ measured _ _ _
