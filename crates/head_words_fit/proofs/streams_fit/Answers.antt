-- `head_words_fit::streams_fit`: k groups are left, and the answer is theirs.
use borrow.Author.Tests.{not-true, not-false}
use native.Mathlib.Omega.{arith}
use mathlib.Core.Path.{sym, ◌∙◌}
use Rattle.head_record_fits.specs.Fits.{stream_fits}
use Rattle.head_record_fits.proofs.Each.{counted_over, left_all, left_none}
use Rattle.head_record_fits.proofs.Fits.{stream_none_fits}
use Rattle.head_words_fit.proofs.Runs.{run_off, run_on}
use Rattle.head_words_fit.proofs.streams_fit.Goals as goal

pub returns-then-count-gt8 : goal.returns-then-count-gt8
returns-then-count-gt8 c = sym (counted_over _ _ _ _ c.if-count-gt8.true)

pub loop-k-init : goal.loop-k-init
loop-k-init c = left_all _ _ _ _ c.if-count-gt8.false

pub returns-then-not-stream_fits : goal.returns-then-not-stream_fits
returns-then-not-stream_fits c = sym (run_off _ c.loop-k.invariant _ (stream_none_fits _) c.loop-k-test.true (sym c.stream_fits.ensures ∙ not-true _ c.if-not-stream_fits.true-raw))

pub loop-k-preserved : goal.loop-k-preserved
loop-k-preserved c = run_on _ c.loop-k.invariant _ (stream_none_fits _) c.loop-k-test.true (sym c.stream_fits.ensures ∙ not-false _ c.if-not-stream_fits.false-raw)

pub returns : goal.returns
returns c = sym (left_none c.loop-k.invariant (omega arith))
