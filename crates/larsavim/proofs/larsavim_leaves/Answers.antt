-- `larsavim::larsavim_leaves`: the bool as a number.
use mathlib.Core.Path.{ap}
use Rattle.head_words.specs.Words.{flag_word}
use Rattle.larsavim.proofs.larsavim_leaves.Goals as goal

pub returns : goal.returns
returns c = ap flag_word c.leaves_fit.ensures
