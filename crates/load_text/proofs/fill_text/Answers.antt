-- `load_text::fill_text`: the rows where all trees are linked, else zeros.
use Rattle.load_text.proofs.Laws.{text_kept, text_zero}
use borrow.Author.Rules.{rules}
use Rattle.load_text.proofs.fill_text.Goals as goal

pub fill_all_patterns-requires : goal.fill_all_patterns-requires
fill_all_patterns-requires c = record { done = record { end = c.args.first; done = c.requires.begins }; at_in_bounds = search rules }

pub returns-then-all_linked : goal.returns-then-all_linked
returns-then-all_linked c =
    let a = c.args in
    let l = c.link_text-linked in
    text_kept a.s.now a.at a.first a.n a.questions.now a.patterns.now a.trees.now a.records.now a.work.now c.requires l.ensures l.auto.work c.zero_work.ensures c.all_linked.ensures c.if-all_linked.true c.fill_all_patterns.ensures

pub returns-else-all_linked : goal.returns-else-all_linked
returns-else-all_linked c =
    let a = c.args in
    let l = c.link_text-linked in
    text_zero a.s.now a.at a.first a.n a.questions.now a.patterns.now a.trees.now a.records.now a.work.now c.requires l.ensures l.auto.work c.zero_work.ensures c.all_linked.ensures c.if-all_linked.false c.zero_text.ensures
