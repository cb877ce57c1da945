-- `load_bounds::nobody`: field by field.
use Rattle.load_bounds.proofs.Laws.{nobody_is}
use Rattle.load_bounds.proofs.nobody.Goals as goal

pub returns : goal.returns
returns c = nobody_is
