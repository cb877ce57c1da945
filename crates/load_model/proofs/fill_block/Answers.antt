-- `load_model::fill_block`: the block's size gives the room.
use Rattle.load_model.proofs.Laws.{rows_fit, values_fit}
use Rattle.load_model.proofs.fill_block.Goals as goal

pub fill_blocks-requires : goal.fill_blocks-requires
fill_blocks-requires c = rows_fit _ _ c.requires

pub fill_values-requires : goal.fill_values-requires
fill_values-requires c = values_fit _ _ c.requires
