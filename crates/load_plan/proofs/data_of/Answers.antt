-- `load_plan::data_of`: the part of the file that two words say.
use Rattle.head_words.specs.Words.{header_at}
use Rattle.load_plan.proofs.data_of.Goals as goal

pub returns : goal.returns
unfolding header_at
returns c = c.part_of.ensures
