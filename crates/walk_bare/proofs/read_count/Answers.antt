-- `walk_bare::read_count`: once, too often, or so often.
use native.Mathlib.Omega.{arith}
use Rattle.walk_bare.proofs.Laws.{count_few, count_most, count_is, count_fits}
use Rattle.walk_bare.proofs.read_count.Goals as goal

pub returns-then-asked-le1 : goal.returns-then-asked-le1
returns-then-asked-le1 c = count_few c.args.lines c.args.asked c.if-asked-le1.true

pub returns-then-passes-lines : goal.returns-then-passes-lines
returns-then-passes-lines c = count_most c.args.lines c.args.asked (omega (arith, c.if-asked-le1.false)) c.if-passes-lines.true

pub overflow_mul-result : goal.overflow_mul-result
overflow_mul-result c = omega (arith, count_fits c.args.lines c.args.asked (omega (arith, c.if-asked-le1.false)) c.if-passes-lines.false)

pub overflow_add-result : goal.overflow_add-result
overflow_add-result c = omega (arith, count_fits c.args.lines c.args.asked (omega (arith, c.if-asked-le1.false)) c.if-passes-lines.false)

pub returns : goal.returns
returns c = count_is c.args.lines c.args.asked (omega (arith, c.if-asked-le1.false)) c.if-passes-lines.false
