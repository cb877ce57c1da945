-- `write_links::bare_in`: each way through.
use Rattle.laws.proofs.Every.{not_first, then_second}
use Rattle.write_links.proofs.Ways.{or_first, or_second}
use Rattle.write_links.specs.Tests.{bare_in}
use borrow.Author.Tests.{eq-eqb, ne_eqb}
use Rattle.write_links.proofs.bare_in.Goals as goal

pub returns-then-count-eq0 : goal.returns-then-count-eq0
unfolding bare_in
returns-then-count-eq0 c = or_first _ (eq-eqb c.args.count 0 c.if-count-eq0.true)

pub returns-then-count-ne1 : goal.returns-then-count-ne1
unfolding bare_in
returns-then-count-ne1 c = or_second (ne_eqb c.args.count 0 c.if-count-eq0.false) (not_first _ (ne_eqb c.args.count 1 c.if-count-ne1.true))

pub returns : goal.returns
unfolding bare_in
returns c = or_second (ne_eqb c.args.count 0 c.if-count-eq0.false) (then_second (eq-eqb c.args.count 1 c.if-count-ne1.false) c.leaf_at.ensures)
