-- `write_bytes::bytes_fit`: names, then patterns.
use Rattle.laws.proofs.Every.{not_first, then_second}
use Rattle.write_bytes.specs.Tests.{bytes_fit}
use borrow.Author.Tests.{not-true, not-false}
use mathlib.Core.Path.{sym, ◌∙◌}
use Rattle.write_bytes.proofs.bytes_fit.Goals as goal

pub returns-then-not-names_fit : goal.returns-then-not-names_fit
unfolding bytes_fit
returns-then-not-names_fit c = not_first _ (sym c.names_fit.ensures ∙ not-true _ c.if-not-names_fit.true-raw)

pub returns : goal.returns
unfolding bytes_fit
returns c = then_second (sym c.names_fit.ensures ∙ not-false _ c.if-not-names_fit.false-raw) c.patterns_fit.ensures
