-- `house_step::judge_next`: what the task held is unloaded; then no plan, or the plan loaded and judged.
use Rattle.std.proofs.lemmas.Result.{err_from_is_err_and}
use mathlib.Core.Path.{sym, ◌∙◌, subst}
use Rattle.head_words.specs.Words.{header_at}
use Rattle.load_plan.specs.Plans.{Sound}
use Rattle.load_plan.proofs.Laws.{needs_sound}
use Rattle.load_model.specs.Load.{lent}
use Rattle.load_bounds.specs.Bounds.{side_of, held_of}
use Rattle.house_step.proofs.Laws.{next_refused, next_planned}
use Rattle.house_step.proofs.judge_next.Goals as goal

pub data_of-requires : goal.data_of-requires
data_of-requires c = c.requires

pub judge_planned-requires : goal.judge_planned-requires
judge_planned-requires c =
    let a = c.args in
    subst (λ d. Sound d c.in_ok-p.p) (sym c.data_of.ensures) (needs_sound a.file.now (header_at a.words.now) a.which _ (sym c.in_ok-p.was ∙ c.needs.ensures))

pub returns-in_err-p : goal.returns-in_err-p
returns-in_err-p c =
    let a = c.args in
    let p = err_from_is_err_and c.from_residual.result c.from_residual.ensures.1 in
    rw (p.1, p.2)
    (next_refused (side_of a.top) a.file.now (header_at a.words.now) a.which (held_of a.mine) (held_of a.other) (lent a.questions.now a.patterns.now a.trees.now a.records.now a.values.now a.work.now) c.unload.ensures.tables (sym c.in_err-p.was ∙ c.needs.ensures))

pub shape_of-questions : goal.shape_of-questions
shape_of-questions c = c.judge_planned.auto.questions ∙ c.unload.auto.questions

pub shape_of-patterns : goal.shape_of-patterns
shape_of-patterns c = c.judge_planned.auto.patterns ∙ c.unload.auto.patterns

pub shape_of-trees : goal.shape_of-trees
shape_of-trees c = c.judge_planned.auto.trees ∙ c.unload.auto.trees

pub returns : goal.returns
returns c =
    let a = c.args in
    next_planned (side_of a.top) a.file.now (header_at a.words.now) a.which (held_of a.mine) (held_of a.other) (lent a.questions.now a.patterns.now a.trees.now a.records.now a.values.now a.work.now) c.unload.ensures.tables (sym c.in_ok-p.was ∙ c.needs.ensures) c.data_of.ensures c.judge_planned.ensures
