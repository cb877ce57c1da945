-- `write_questions::some_byte`: by its row.
use Rattle.write_questions.specs.Tests.{some_byte}
use lib.Dec.{ltb}
use mathlib.Core.Path.{ap}
use Rattle.write_questions.proofs.some_byte.Goals as goal

pub returns : goal.returns
unfolding some_byte
returns c = ap (ltb 0) c.pattern_len.ensures
