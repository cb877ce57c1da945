-- `trail_link::fill_one`: the rows where the tree is linked, else zeros.
use Rattle.trail_link.proofs.Laws.{one_kept, one_zero}
use Rattle.trail_link.proofs.fill_one.Goals as goal

pub returns-then-all_linked : goal.returns-then-all_linked
returns-then-all_linked c =
    let a = c.args in
    let l = c.link_one-linked in
    one_kept a.s.now a.at a.star a.n a.k a.questions.now a.patterns.now a.trees.now a.records.now a.work.now c.requires l.ensures l.auto.work c.zero_work.ensures c.all_linked.ensures c.if-all_linked.true c.fill_all_patterns.ensures

pub returns-else-all_linked : goal.returns-else-all_linked
returns-else-all_linked c =
    let a = c.args in
    let l = c.link_one-linked in
    one_zero a.s.now a.at a.star a.n a.k a.questions.now a.patterns.now a.trees.now a.records.now a.work.now c.requires l.ensures l.auto.work c.zero_work.ensures c.all_linked.ensures c.if-all_linked.false c.zero_text.ensures
