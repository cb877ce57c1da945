-- `trail_last::summed` meets its contract.
use Rattle.trail_last.proofs.Laws.{summed_as}
use Rattle.trail_last.proofs.summed.Goals as goal

pub returns : goal.returns
returns c = summed_as c.args.file.now c.word.ensures c.sum_on.ensures
