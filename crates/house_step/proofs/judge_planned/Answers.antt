-- `house_step::judge_planned`: a load that is refused, or judged where it stands.
use Rattle.std.proofs.lemmas.Result.{err_from_is_err_and}
use mathlib.Core.Path.{sym, ◌∙◌}
use Rattle.load_model.specs.Load.{lent}
use Rattle.load_bounds.specs.Bounds.{side_of, held_of}
use Rattle.house_step.proofs.Laws.{loaded_in, step_refused, step_judged}
use Rattle.house_step.proofs.judge_planned.Goals as goal

pub judge_own-rule-requires : goal.judge_own-rule-requires
judge_own-rule-requires c =
    let a = c.args in
    loaded_in (side_of a.top) a.d.now a.p (held_of a.other) (lent a.questions.now a.patterns.now a.trees.now a.records.now a.values.now a.work.now) c.requires (sym c.in_ok-loaded.was ∙ c.load_planned.ensures.0) c.load_planned.ensures.1

pub returns-in_err-loaded : goal.returns-in_err-loaded
returns-in_err-loaded c =
    let a = c.args in
    let p = err_from_is_err_and c.from_residual.result c.from_residual.ensures.1 in
    rw (p.1, p.2)
    (step_refused (side_of a.top) a.d.now a.p (held_of a.other) (lent a.questions.now a.patterns.now a.trees.now a.records.now a.values.now a.work.now) (sym c.in_err-loaded.was ∙ c.load_planned.ensures.0) c.load_planned.ensures.1)

pub returns : goal.returns
returns c =
    let a = c.args in
    step_judged (side_of a.top) a.d.now a.p (held_of a.other) (lent a.questions.now a.patterns.now a.trees.now a.records.now a.values.now a.work.now) (sym c.in_ok-loaded.was ∙ c.load_planned.ensures.0) c.load_planned.ensures.1 c.judge_own-rule.ensures.0 c.judge_own-rule.ensures.1
