-- `link_alone::judge_lines`: what is judged, and what is still to be judged, come to the same.
use mathlib.Core.Path.{refl, sym, ◌∙◌}
use native.Mathlib.Omega.{arith}
use Rattle.tree_survey_lines.proofs.Counting.{next_in}
use Rattle.link_alone.proofs.Judging.{judged_on, judged_refused, judged_last, judged_none}
use Rattle.link_alone.proofs.judge_lines.Goals as goal

pub loop-line-init : goal.loop-line-init
loop-line-init c = record { same = refl; few = omega arith }

pub judge_line-requires : goal.judge_line-requires
judge_line-requires c = c.requires

pub overflow_add-k : goal.overflow_add-k
overflow_add-k c = omega (arith, next_in _ _ (sym c.in-Next.is ∙ c.next_line.ensures), c.loop-line.invariant.few, c.well_formed)

pub loop-line-smaller : goal.loop-line-smaller
loop-line-smaller c = omega (arith, next_in _ _ (sym c.in-Next.is ∙ c.next_line.ensures))

pub loop-line-preserved : goal.loop-line-preserved
loop-line-preserved c = judged_on _ _ _ _ c.loop-line.invariant (sym c.in-Next.is ∙ c.next_line.ensures) c.judge_line.ensures (sym c.in-Ok.is) c.both-fits.ensures (omega (arith, next_in _ _ (sym c.in-Next.is ∙ c.next_line.ensures)))

pub returns-in-Err : goal.returns-in-Err
returns-in-Err c = judged_refused _ _ _ _ c.loop-line.invariant (sym c.in-Next.is ∙ c.next_line.ensures) c.judge_line.ensures (sym c.in-Err.is)

pub judge_line-requires-in-Last : goal.judge_line-requires-in-Last
judge_line-requires-in-Last c = c.requires

pub returns-in-Last : goal.returns-in-Last
returns-in-Last c = judged_last _ _ _ _ c.loop-line.invariant (sym c.in-Last.is ∙ c.next_line.ensures) c.judge_line-in-Last.ensures c.last_judged.ensures

pub returns-in-Broken : goal.returns-in-Broken
returns-in-Broken c = judged_none _ _ _ _ c.loop-line.invariant (sym c.in-Broken.is ∙ c.next_line.ensures)
