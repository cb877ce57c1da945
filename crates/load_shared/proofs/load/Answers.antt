-- `load_shared::load`: refused before the tables are looked at, or as its plan is loaded.
use mathlib.Core.Path.{sym, ◌∙◌, subst}
use Rattle.std.proofs.lemmas.Result.{err_from_is_err_and}
use Rattle.head_words.specs.Words.{header_at}
use Rattle.load_plan.specs.Plans.{Sound}
use Rattle.load_plan.proofs.Laws.{needs_sound}
use Rattle.load_model.specs.Load.{lent}
use Rattle.load_bounds.specs.Bounds.{side_of, held_of}
use Rattle.load_shared.proofs.Laws.{load_refused, load_model}
use Rattle.load_shared.proofs.load.Goals as goal

pub load_planned-requires : goal.load_planned-requires
load_planned-requires c =
    let a = c.args in
    subst (λ d. Sound d c.in_ok-p.p) (sym c.data_of.ensures) (needs_sound a.file.now (header_at a.words.now) a.which _ (sym c.in_ok-p.was ∙ c.needs.ensures))

pub returns-in_err-p : goal.returns-in_err-p
returns-in_err-p c =
    let a = c.args in
    let e = err_from_is_err_and c.from_residual.result c.from_residual.ensures.1 in
    rw (e.1, e.2)
    (load_refused (side_of a.top) a.file.now (header_at a.words.now) a.which (held_of a.other) (lent a.questions.now a.patterns.now a.trees.now a.records.now a.values.now a.work.now) (sym c.in_err-p.was ∙ c.needs.ensures))

pub returns : goal.returns
returns c =
    let a = c.args in
    load_model (side_of a.top) a.file.now (header_at a.words.now) a.which (held_of a.other) (lent a.questions.now a.patterns.now a.trees.now a.records.now a.values.now a.work.now) _ (sym c.in_ok-p.was ∙ c.needs.ensures) c.data_of.ensures c.load_planned.ensures
