-- `house_text::line_fits` meets its contract.
use mathlib.Core.Path.{sym, ◌∙◌}
use borrow.Author.Tests.{not-true, not-false}
use Rattle.laws.proofs.Every.{not_first, then_second}
use Rattle.house_text.proofs.line_fits.Goals as goal

pub returns-then-not-ref_fits : goal.returns-then-not-ref_fits
returns-then-not-ref_fits c = not_first _ (sym c.ref_fits.ensures ∙ not-true _ c.if-not-ref_fits.true-raw)

pub returns : goal.returns
returns c = then_second (sym c.ref_fits.ensures ∙ not-false _ c.if-not-ref_fits.false-raw) c.ref_fits-2.ensures
