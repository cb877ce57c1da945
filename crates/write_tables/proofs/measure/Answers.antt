-- `write_tables::measure`: each way through.
use mathlib.Core.Path.{refl, sym, ap, ◌∙◌}
use Rattle.std.proofs.lemmas.Result.{err_from_is_err_and}
use Rattle.std.specs.Prelude.{Err, Ok}
use Rattle.write_tables.proofs.Ways.{measured}
use Rattle.write_tables.proofs.measure.Goals as goal

pub returns-in_err-judge : goal.returns-in_err-judge
returns-in_err-judge c =
    let p = err_from_is_err_and c.from_residual.result c.from_residual.ensures.1 in
    rw (p.1, p.2) (measured c.args.s.now c.args.questions.now c.args.patterns.now c.args.trees.now c.args.records.now (Err _) (sym c.in_err-judge.was ∙ c.judge.ensures) refl)

pub returns : goal.returns
returns c = measured c.args.s.now c.args.questions.now c.args.patterns.now c.args.trees.now c.args.records.now (Ok _) (sym c.in_ok-judge.was ∙ c.judge.ensures) (ap Ok c.text_len.ensures)
