-- `write_links::tree_in`: one test after the other.
use Rattle.write_links.proofs.Ways.{tree_large, tree_apart, tree_short, tree_body}
use native.Mathlib.Omega.{arith}
use Rattle.write_links.proofs.tree_in.Goals as goal

pub returns-then-tree_state-ge-TOO_LARGE : goal.returns-then-tree_state-ge-TOO_LARGE
returns-then-tree_state-ge-TOO_LARGE c = tree_large c.args.trees.now c.args.records.now c.args.k c.args.t c.tree_state.ensures c.if-tree_state-ge-TOO_LARGE.true

pub returns-then-first-k : goal.returns-then-first-k
returns-then-first-k c = tree_apart c.args.trees.now c.args.records.now c.args.k c.args.t c.tree_state.ensures c.if-tree_state-ge-TOO_LARGE.false c.tree_first-first.ensures c.if-first-k.true

pub overflow_sub-record_rows : goal.overflow_sub-record_rows
overflow_sub-record_rows c = omega (arith, c.record_rows.ensures, c.requires.1)

pub returns-then-record_rows-k : goal.returns-then-record_rows-k
returns-then-record_rows-k c = tree_short c.args.trees.now c.args.records.now c.args.k c.args.t c.tree_state.ensures c.if-tree_state-ge-TOO_LARGE.false c.tree_first-first.ensures c.if-first-k.false c.tree_records-count.ensures c.record_rows.ensures c.requires.1 c.if-record_rows-k.true

pub body_in-requires : goal.body_in-requires
body_in-requires c = omega (arith, c.if-record_rows-k.false, c.record_rows.ensures)

pub returns : goal.returns
returns c = tree_body c.args.trees.now c.args.records.now c.args.k c.args.t c.tree_state.ensures c.if-tree_state-ge-TOO_LARGE.false c.tree_first-first.ensures c.if-first-k.false c.tree_records-count.ensures c.record_rows.ensures c.requires.1 c.if-record_rows-k.false c.tree_lines.ensures c.body_in.ensures
