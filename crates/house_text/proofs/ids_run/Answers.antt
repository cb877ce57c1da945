-- `house_text::ids_run` meets its contract.
use mathlib.Core.Path.{refl, sym, ◌∙◌}
use native.Mathlib.Omega.{arith}
use borrow.Author.Tests.{not-true, not-false}
use Rattle.tree_survey.proofs.Counting.{more_in}
use Rattle.house_text.proofs.Laws.{judge_off, judge_on, judge_last, judge_none}
use Rattle.house_text.proofs.ids_run.Goals as goal

pub loop-next-init : goal.loop-next-init
loop-next-init c = (0, record { rest = refl })

pub returns-then-not-tree_ids : goal.returns-then-not-tree_ids
returns-then-not-tree_ids c = judge_off _ _ c.loop-next.invariant.1 (sym c.in-Next.is ∙ c.survey_tree.ensures) c.tree_ids.ensures (not-true _ c.if-not-tree_ids.true-raw)

pub loop-next-smaller : goal.loop-next-smaller
loop-next-smaller c = omega (arith, more_in _ _ (sym c.in-Next.is ∙ c.survey_tree.ensures))

pub loop-next-preserved : goal.loop-next-preserved
loop-next-preserved c = (_, judge_on _ _ c.loop-next.invariant.1 (sym c.in-Next.is ∙ c.survey_tree.ensures) c.tree_ids.ensures (not-false _ c.if-not-tree_ids.false-raw))

pub returns-in-Last : goal.returns-in-Last
returns-in-Last c = judge_last _ _ c.loop-next.invariant.1 (sym c.in-Last.is ∙ c.survey_tree.ensures) c.tree_ids-in-Last.ensures

pub returns-in-Broken : goal.returns-in-Broken
returns-in-Broken c = judge_none _ _ c.loop-next.invariant.1 (sym c.in-Broken.is ∙ c.survey_tree.ensures)
