-- `write_text::put_trees`: the trees that are left, put where the loop is, are all of them.
use Rattle.write_put.proofs.Puts.{leads_more, leads_done}
use Rattle.write_parts.specs.Parts.{tree_of}
use Rattle.write_text.proofs.Laws.{flat_more, flat_done}
use Rattle.written.specs.Writing.{spelled_tree}
use Rattle.write_text.proofs.put_trees.Goals as goal

pub loop-t-preserved : goal.loop-t-preserved
loop-t-preserved c = leads_more c.loop-t.invariant _ _ (flat_more (tree_of c.args.s.now c.args.questions.now c.args.trees.now c.args.records.now) c.loop-t.t c.tree_rows-n.result spelled_tree c.loop-t-test.true) c.put_tree-i.ensures

pub returns : goal.returns
returns c = leads_done c.loop-t.invariant (flat_done (tree_of c.args.s.now c.args.questions.now c.args.trees.now c.args.records.now) c.loop-t.t c.tree_rows-n.result spelled_tree c.loop-t-test.false)
