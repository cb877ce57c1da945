-- `house_text::lines_fit` meets its contract.
use mathlib.Core.Path.{refl, sym, ◌∙◌}
use native.Mathlib.Omega.{arith}
use borrow.Author.Tests.{not-true, not-false}
use Rattle.tree_survey_lines.proofs.Counting.{items_next, items_last, items_broken, next_in}
use Rattle.house_text.proofs.Laws.{lines_off, lines_on, lines_last, lines_none}
use Rattle.house_text.proofs.lines_fit.Goals as goal

pub loop-line-init : goal.loop-line-init
loop-line-init c = refl

pub returns-then-not-line_fits : goal.returns-then-not-line_fits
returns-then-not-line_fits c = lines_off _ (items_next _ _ (sym c.in-Next.is ∙ c.next_line.ensures)) c.line_fits.ensures (not-true _ c.if-not-line_fits.true-raw) ∙ c.loop-line.invariant

pub loop-line-smaller : goal.loop-line-smaller
loop-line-smaller c = omega (arith, next_in _ _ (sym c.in-Next.is ∙ c.next_line.ensures))

pub loop-line-preserved : goal.loop-line-preserved
loop-line-preserved c = lines_on _ (items_next _ _ (sym c.in-Next.is ∙ c.next_line.ensures)) c.line_fits.ensures (not-false _ c.if-not-line_fits.false-raw) ∙ c.loop-line.invariant

pub returns-in-Last : goal.returns-in-Last
returns-in-Last c = lines_last _ (items_last _ _ (sym c.in-Last.is ∙ c.next_line.ensures)) c.line_fits-in-Last.ensures ∙ c.loop-line.invariant

pub returns-in-Broken : goal.returns-in-Broken
returns-in-Broken c = lines_none _ (items_broken _ _ (sym c.in-Broken.is ∙ c.next_line.ensures)) ∙ c.loop-line.invariant
