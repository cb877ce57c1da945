-- `larsavim::larsavim_load`: too short, or written.
use mathlib.Core.Path.{ap, ◌∙◌}
use lib.Seq.{sets}
use Rattle.load_model.specs.Load.{lent}
use Rattle.face_put.specs.Put.{rows_numbers}
use Rattle.larsavim.proofs.Laws.{answer_short, answer_full, out_short, out_full, left_short, left_full, load_alone}
use Rattle.larsavim.proofs.larsavim_load.Goals as goal

pub returns-then-out-lt-LOAD_OUT : goal.returns-then-out-lt-LOAD_OUT
returns-then-out-lt-LOAD_OUT c = (answer_short _ _ _ c.if-out-lt-LOAD_OUT.true, left_short _ _ _ _ c.if-out-lt-LOAD_OUT.true, out_short _ _ _ c.if-out-lt-LOAD_OUT.true)

pub returns : goal.returns
returns c =
    let a = c.args in
    let h = c.if-out-lt-LOAD_OUT.false in
    let l = load_alone a.file.now a.words.now a.which (lent a.questions.now a.patterns.now a.trees.now a.records.now a.values.now a.work.now) c.nobody.ensures c.load_said-rows.ensures in
    (answer_full _ _ _ _ h (ap (λ x. x.number) l.0), left_full _ _ _ _ _ h l.1, out_full _ _ _ _ h (c.put_rows.ensures ∙ ap (λ x. sets a.out.now 0 (rows_numbers x)) l.0))
