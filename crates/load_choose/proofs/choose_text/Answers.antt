-- `load_choose::choose_text` meets its contract.
use Rattle.load_choose.specs.Chosen.{text_chosen}
use Rattle.load_choose.proofs.choose_text.Goals as goal

pub returns : goal.returns
unfolding text_chosen
returns c = c.place.ensures
