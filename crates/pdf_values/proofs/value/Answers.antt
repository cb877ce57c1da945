-- `pdf_values::value` meets its contract.
use mathlib.Core.Path.{ap, ◌∙◌}
use Rattle.pdf_widen.specs.Widening.{widen_of}
use Rattle.pdf_values.proofs.value.Goals as goal

pub returns : goal.returns
returns c = c.widen.ensures ∙ ap (widen_of 8 23 11 52) c.word.ensures
