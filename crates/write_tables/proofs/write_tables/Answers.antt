-- `write_tables::write_tables`: each way through.
use mathlib.Core.Path.{sym, ◌∙◌}
use native.Mathlib.Omega.{arith}
use Rattle.std.proofs.lemmas.Result.{err_from_is_err_and}
use Rattle.write_tables.proofs.Ways.{way_refused, way_room, way_done}
use Rattle.write_tables.proofs.write_tables.Goals as goal

pub returns-in_err-judge : goal.returns-in_err-judge
returns-in_err-judge c =
    let p = err_from_is_err_and c.from_residual.result c.from_residual.ensures.1 in
    rw (p.1, p.2) (way_refused c.args.s.now c.args.questions.now c.args.patterns.now c.args.trees.now c.args.records.now c.args.b.now (sym c.in_err-judge.was ∙ c.judge.ensures))

pub returns-then-b-n : goal.returns-then-b-n
returns-then-b-n c = way_room c.args.s.now c.args.questions.now c.args.patterns.now c.args.trees.now c.args.records.now c.args.b.now (sym c.in_ok-judge.was ∙ c.judge.ensures) c.text_len-n.ensures (omega (arith, c.well_formed)) c.if-b-n.true

pub returns : goal.returns
returns c = way_done c.args.s.now c.args.questions.now c.args.patterns.now c.args.trees.now c.args.records.now c.args.b.now (sym c.in_ok-judge.was ∙ c.judge.ensures) c.text_len-n.ensures (omega (arith, c.well_formed)) c.if-b-n.false c.put_text-end.ensures
