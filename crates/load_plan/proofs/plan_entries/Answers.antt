-- `load_plan::plan_entries`: the block's entries, or 19.
use mathlib.Core.Path.{sym, ap, ◌∙◌}
use Rattle.load_plan.specs.Plans.{entries_for, entries_of}
use Rattle.load_plan.proofs.plan_entries.Goals as goal

pub returns-in-Some : goal.returns-in-Some
unfolding entries_of
returns-in-Some c = ap (entries_for c.args.plan) (sym c.in-Some.is ∙ c.check_block.ensures)

pub returns-in-None : goal.returns-in-None
unfolding entries_of
returns-in-None c = ap (entries_for c.args.plan) (sym c.in-None.is ∙ c.check_block.ensures)
