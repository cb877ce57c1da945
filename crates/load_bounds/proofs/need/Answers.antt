-- `load_bounds::need`: field by field.
use Rattle.load_bounds.proofs.Laws.{need_is}
use Rattle.load_bounds.proofs.need.Goals as goal

pub returns : goal.returns
returns c = need_is c.args.p
