-- `walk_bare::meter_text`: the tree that is chosen, or why there is none.
use mathlib.Core.Path.{sym, ◌∙◌}
use Rattle.walk_bare.proofs.Laws.{bare_so}
use Rattle.walk_bare.proofs.meter_text.Goals as goal

pub returns-in-Ok : goal.returns-in-Ok
returns-in-Ok c = bare_so c.args.s.now c.args.tree c.args.answers.now c.args.limit (sym c.in-Ok.is ∙ c.choose_tree.ensures) c.meter_tree.ensures

pub returns-in-Err : goal.returns-in-Err
returns-in-Err c = bare_so c.args.s.now c.args.tree c.args.answers.now c.args.limit (sym c.in-Err.is ∙ c.choose_tree.ensures) c.refused_as.ensures
