-- `load_trees::ended`: each way that a tree ends.
use mathlib.Core.Path.{sym, ap}
use Rattle.load_trees.specs.Trees.{ended_at}
use Rattle.load_trees.proofs.ended.Goals as goal

pub returns-in-Err : goal.returns-in-Err
returns-in-Err c = sym (ap (ended_at c.args.row) c.in-Err.is)
