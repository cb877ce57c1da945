-- `head_words_fit::stream_fits` meets its contract.
use borrow.Author.Tests.{not-true, not-false}
use mathlib.Core.Path.{sym, ◌∙◌}
use Rattle.laws.proofs.Every.{not_first, then_second}
use Rattle.head_record_fits.specs.Fits.{stream_fits}
use Rattle.head_words.specs.Words.{stream_at}
use Rattle.head_words_fit.proofs.stream_fits.Goals as goal

pub returns-then-not-span_fits : goal.returns-then-not-span_fits
unfolding stream_fits stream_at
returns-then-not-span_fits c = not_first _ (sym c.span_fits.ensures ∙ not-true _ c.if-not-span_fits.true-raw)

pub returns : goal.returns
unfolding stream_fits stream_at
returns c = then_second (sym c.span_fits.ensures ∙ not-false _ c.if-not-span_fits.false-raw) c.spans_fit.ensures
