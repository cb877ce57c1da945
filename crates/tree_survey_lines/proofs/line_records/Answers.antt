-- `tree_survey_lines::line_records`: by whether the references are equal.
use mathlib.Core.Path.{sym, ap, ◌∙◌}
use Prim.Native.Nat.{◌+◌}
use native.Mathlib.Omega.{arith}
use Rattle.tree_survey_lines.proofs.Counting.{line_few}
use Rattle.tree_survey_lines.proofs.line_records.Goals as goal

pub overflow_add-result : goal.overflow_add-result
overflow_add-result c = omega (arith, c.line_pdfs.ensures, line_few c.args.line)

pub returns-then-same_index : goal.returns-then-same_index
returns-then-same_index c = rw (sym c.same_index.ensures ∙ c.if-same_index.true)

pub returns-else-same_index : goal.returns-else-same_index
returns-else-same_index c = rw (sym c.same_index.ensures ∙ c.if-same_index.false) (ap (λ n. 1 + n) c.line_pdfs.ensures)
