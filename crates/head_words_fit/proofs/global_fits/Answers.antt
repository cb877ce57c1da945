-- `head_words_fit::global_fits`: string by string.
use borrow.Author.Tests.{not-true, not-false, eq-eqb, ne_eqb}
use mathlib.Core.Path.{sym, ◌∙◌}
use Rattle.head_record_fits.specs.Fits.{global_fits}
use Rattle.head_words.specs.Words.{global_at}
use Rattle.head_words_fit.proofs.global_fits.Goals as goal

pub returns-then-not-span_fits : goal.returns-then-not-span_fits
unfolding global_fits global_at
returns-then-not-span_fits c = rw (sym c.span_fits.ensures ∙ not-true _ c.if-not-span_fits.true-raw)

pub returns-then-not-span_fits-2 : goal.returns-then-not-span_fits-2
unfolding global_fits global_at
returns-then-not-span_fits-2 c = rw (
  sym c.span_fits.ensures ∙ not-false _ c.if-not-span_fits.false-raw,
  sym c.span_fits-2.ensures ∙ not-true _ c.if-not-span_fits-2.true-raw,
)

pub returns-then-not-span_fits-3 : goal.returns-then-not-span_fits-3
unfolding global_fits global_at
returns-then-not-span_fits-3 c = rw (
  sym c.span_fits.ensures ∙ not-false _ c.if-not-span_fits.false-raw,
  sym c.span_fits-2.ensures ∙ not-false _ c.if-not-span_fits-2.false-raw,
  sym c.span_fits-3.ensures ∙ not-true _ c.if-not-span_fits-3.true-raw,
)

pub returns-then-not-spans_fit : goal.returns-then-not-spans_fit
unfolding global_fits global_at
returns-then-not-spans_fit c = rw (
  sym c.span_fits.ensures ∙ not-false _ c.if-not-span_fits.false-raw,
  sym c.span_fits-2.ensures ∙ not-false _ c.if-not-span_fits-2.false-raw,
  sym c.span_fits-3.ensures ∙ not-false _ c.if-not-span_fits-3.false-raw,
  sym c.spans_fit.ensures ∙ not-true _ c.if-not-spans_fit.true-raw,
)

pub returns-then-not-spans_fit-2 : goal.returns-then-not-spans_fit-2
unfolding global_fits global_at
returns-then-not-spans_fit-2 c = rw (
  sym c.span_fits.ensures ∙ not-false _ c.if-not-span_fits.false-raw,
  sym c.span_fits-2.ensures ∙ not-false _ c.if-not-span_fits-2.false-raw,
  sym c.span_fits-3.ensures ∙ not-false _ c.if-not-span_fits-3.false-raw,
  sym c.spans_fit.ensures ∙ not-false _ c.if-not-spans_fit.false-raw,
  sym c.spans_fit-2.ensures ∙ not-true _ c.if-not-spans_fit-2.true-raw,
)

pub returns-then-words-eq0 : goal.returns-then-words-eq0
unfolding global_fits global_at
returns-then-words-eq0 c = rw (
  sym c.span_fits.ensures ∙ not-false _ c.if-not-span_fits.false-raw,
  sym c.span_fits-2.ensures ∙ not-false _ c.if-not-span_fits-2.false-raw,
  sym c.span_fits-3.ensures ∙ not-false _ c.if-not-span_fits-3.false-raw,
  sym c.spans_fit.ensures ∙ not-false _ c.if-not-spans_fit.false-raw,
  sym c.spans_fit-2.ensures ∙ not-false _ c.if-not-spans_fit-2.false-raw,
  eq-eqb _ _ c.if-words-eq0.true,
)

pub returns : goal.returns
unfolding global_fits global_at
returns c = rw (
  sym c.span_fits.ensures ∙ not-false _ c.if-not-span_fits.false-raw,
  sym c.span_fits-2.ensures ∙ not-false _ c.if-not-span_fits-2.false-raw,
  sym c.span_fits-3.ensures ∙ not-false _ c.if-not-span_fits-3.false-raw,
  sym c.spans_fit.ensures ∙ not-false _ c.if-not-spans_fit.false-raw,
  sym c.spans_fit-2.ensures ∙ not-false _ c.if-not-spans_fit-2.false-raw,
  ne_eqb _ _ c.if-words-eq0.false,
) c.span_fits-4.ensures
