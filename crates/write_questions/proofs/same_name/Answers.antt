-- `write_questions::same_name`: by how the names stand to each other.
use Rattle.write_questions.proofs.HiddenNames.{by_same, by_below, by_above}
use mathlib.Core.Path.{sym, ◌∙◌}
use native.Mathlib.Omega.{arith}
use Rattle.write_questions.proofs.same_name.Goals as goal

pub returns-in-Equal : goal.returns-in-Equal
returns-in-Equal c = by_same c.args.a.now c.args.b.now (λ i. omega (arith, c.shared_slice_known-1.given i)) (λ i. omega (arith, c.shared_slice_known-2-1.given i)) (sym c.in-Equal.is ∙ c.compare_names.ensures)

pub returns-in-Less : goal.returns-in-Less
returns-in-Less c = by_below c.args.a.now c.args.b.now (sym c.in-Less.is ∙ c.compare_names.ensures)

pub returns-in-Greater : goal.returns-in-Greater
returns-in-Greater c = by_above c.args.a.now c.args.b.now (sym c.in-Greater.is ∙ c.compare_names.ensures)
