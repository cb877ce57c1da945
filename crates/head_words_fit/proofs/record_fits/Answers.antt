-- `head_words_fit::record_fits`: part by part.
use borrow.Author.Tests.{not-true, not-false, le-leb, lt-leb}
use mathlib.Core.Path.{sym, ◌∙◌}
use Rattle.head_record_fits.specs.Fits.{record_fits}
use Rattle.head_words.specs.Words.{header_at}
use Rattle.head_words_fit.proofs.record_fits.Goals as goal

pub returns-then-n-gt-FILE_LIMIT : goal.returns-then-n-gt-FILE_LIMIT
unfolding record_fits header_at
returns-then-n-gt-FILE_LIMIT c = rw (lt-leb _ _ c.if-n-gt-FILE_LIMIT.true)

pub returns-then-not-span_fits : goal.returns-then-not-span_fits
unfolding record_fits header_at
returns-then-not-span_fits c = rw (
  le-leb _ _ c.if-n-gt-FILE_LIMIT.false,
  sym c.span_fits.ensures ∙ not-true _ c.if-not-span_fits.true-raw,
)

pub returns-then-not-global_fits : goal.returns-then-not-global_fits
unfolding record_fits header_at
returns-then-not-global_fits c = rw (
  le-leb _ _ c.if-n-gt-FILE_LIMIT.false,
  sym c.span_fits.ensures ∙ not-false _ c.if-not-span_fits.false-raw,
  sym c.global_fits.ensures ∙ not-true _ c.if-not-global_fits.true-raw,
)

pub returns-then-not-streams_fit : goal.returns-then-not-streams_fit
unfolding record_fits header_at
returns-then-not-streams_fit c = rw (
  le-leb _ _ c.if-n-gt-FILE_LIMIT.false,
  sym c.span_fits.ensures ∙ not-false _ c.if-not-span_fits.false-raw,
  sym c.global_fits.ensures ∙ not-false _ c.if-not-global_fits.false-raw,
  sym c.streams_fit.ensures ∙ not-true _ c.if-not-streams_fit.true-raw,
)

pub returns : goal.returns
unfolding record_fits header_at
returns c = rw (
  le-leb _ _ c.if-n-gt-FILE_LIMIT.false,
  sym c.span_fits.ensures ∙ not-false _ c.if-not-span_fits.false-raw,
  sym c.global_fits.ensures ∙ not-false _ c.if-not-global_fits.false-raw,
  sym c.streams_fit.ensures ∙ not-false _ c.if-not-streams_fit.false-raw,
) c.positions_fit.ensures
