-- `head_words_fit::spans_fit`: k strings are left, and the answer is theirs.
use borrow.Author.Tests.{not-true, not-false}
use native.Mathlib.Omega.{arith}
use mathlib.Core.Path.{sym, ◌∙◌}
use Rattle.head_record_fits.specs.Fits.{span_fits}
use Rattle.head_record_fits.proofs.Each.{counted_over, left_all, left_none}
use Rattle.head_record_fits.proofs.Fits.{none_fits}
use Rattle.head_words_fit.proofs.Runs.{run_off, run_on}
use Rattle.head_words_fit.proofs.spans_fit.Goals as goal

pub returns-then-limit-count : goal.returns-then-limit-count
returns-then-limit-count c = sym (counted_over _ _ _ _ c.if-limit-count.true)

pub loop-k-init : goal.loop-k-init
loop-k-init c = left_all _ _ _ _ c.if-limit-count.false

pub returns-then-not-span_fits : goal.returns-then-not-span_fits
returns-then-not-span_fits c = sym (run_off _ c.loop-k.invariant _ (none_fits _) c.loop-k-test.true (sym c.span_fits.ensures ∙ not-true _ c.if-not-span_fits.true-raw))

pub loop-k-preserved : goal.loop-k-preserved
loop-k-preserved c = run_on _ c.loop-k.invariant _ (none_fits _) c.loop-k-test.true (sym c.span_fits.ensures ∙ not-false _ c.if-not-span_fits.false-raw)

pub returns : goal.returns
returns c = sym (left_none c.loop-k.invariant (omega arith))
