-- `walk_accepts::choose_tree`: by the survey of the text.
use mathlib.Core.Path.{sym, ap, ◌∙◌}
use Rattle.std.specs.Prelude.{Err}
use Rattle.walk_accepts.specs.Accepting.{surveyed, chosen_tree}
use Rattle.walk_accepts.proofs.choose_tree.Goals as goal

pub returns-in-Ok : goal.returns-in-Ok
unfolding chosen_tree
returns-in-Ok c = c.tree_in.ensures ∙ ap (surveyed c.args.s.now c.args.tree) (sym c.in-Ok.is ∙ c.survey_text.ensures)

pub returns-in-Err-Broken : goal.returns-in-Err-Broken
unfolding chosen_tree
returns-in-Err-Broken c = ap (surveyed c.args.s.now c.args.tree) (sym (c.in-Err-Broken.is ∙ ap Err c.in-Err-Broken.field-0-is) ∙ c.survey_text.ensures)

pub returns-in-Err-Negative : goal.returns-in-Err-Negative
unfolding chosen_tree
returns-in-Err-Negative c = ap (surveyed c.args.s.now c.args.tree) (sym (c.in-Err-Negative.is ∙ ap Err c.in-Err-Negative.field-0-is) ∙ c.survey_text.ensures)
