-- `trail_load::fill_entries`: the entries in the row, then their values.
use Rattle.trail_load.proofs.Laws.{values_fit, row_filled}
use Rattle.trail_load.proofs.fill_entries.Goals as goal

pub fill_values-requires : goal.fill_values-requires
fill_values-requires c = values_fit _ _ c.requires

pub returns : goal.returns
returns c = (row_filled c.args.p c.args.trees.now c.put_block.ensures, c.fill_values.ensures)
