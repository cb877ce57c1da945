-- `trail_last::put_last`: the sum of what is stored before it.
use Rattle.trail_last.proofs.Laws.{last_stored}
use Rattle.trail_last.proofs.put_last.Goals as goal

pub returns : goal.returns
returns c = last_stored c.args.file.now c.args.trailer.now c.args.n c.requires c.put_words.ensures c.sum_on.ensures c.sum_on-sum.ensures c.put_words-2.ensures
