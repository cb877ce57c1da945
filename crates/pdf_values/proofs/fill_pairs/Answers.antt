-- `pdf_values::fill_pairs`: what is left, stored, gives the table with all of them.
use Rattle.pdf_values.proofs.Laws.{pair_more, pair_done}
use Rattle.pdf_values.proofs.fill_pairs.Goals as goal

pub loop-k-preserved : goal.loop-k-preserved
loop-k-preserved c = pair_more _ _ _ _ _ _ _ _ c.loop-k.invariant c.loop-k-test.true _ _ c.value-mean.ensures c.value-variance.ensures _ c.put2.ensures

pub returns : goal.returns
returns c = pair_done _ _ _ _ _ _ _ _ c.loop-k.invariant c.loop-k-test.false
