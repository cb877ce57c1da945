-- `write_rows::among_them`: by what is left behind them.
use Rattle.write_rows.proofs.Outside.{among_none, among_short, among_left}
use Rattle.write_rows.proofs.among_them.Goals as goal

pub returns-then-n-eq0 : goal.returns-then-n-eq0
returns-then-n-eq0 c = among_none c.args.a c.args.n c.args.m c.if-n-eq0.true

pub returns-then-m-n : goal.returns-then-m-n
returns-then-m-n c = among_short c.args.a c.args.n c.args.m c.if-n-eq0.false c.if-m-n.true

pub returns : goal.returns
returns c = among_left c.args.a c.args.n c.args.m c.if-n-eq0.false c.if-m-n.false
