-- `trail_plan::read_tree`: the survey of the questions, then of the one tree.
use mathlib.Core.Path.{refl, sym, ◌∙◌}
use Rattle.trail_plan.proofs.Laws.{text_asked, text_broken}
use Rattle.trail_plan.proofs.read_tree.Goals as goal

pub returns-in-Next : goal.returns-in-Next
returns-in-Next c = text_asked _ _ _ (sym c.in-Ok.is ∙ c.survey_questions.ensures) (sym c.in-Next.is ∙ c.survey_tree.ensures) c.tree_read.ensures

pub returns-in-Last : goal.returns-in-Last
returns-in-Last c = text_asked _ _ _ (sym c.in-Ok.is ∙ c.survey_questions.ensures) (sym c.in-Last.is ∙ c.survey_tree.ensures) c.tree_read-in-Last.ensures

pub returns-in-Broken : goal.returns-in-Broken
returns-in-Broken c = text_asked _ _ _ (sym c.in-Ok.is ∙ c.survey_questions.ensures) (sym c.in-Broken.is ∙ c.survey_tree.ensures) refl

pub returns-in-Err : goal.returns-in-Err
returns-in-Err c = text_broken _ _ _ (sym c.in-Err.is ∙ c.survey_questions.ensures)
