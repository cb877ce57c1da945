-- `trail_voice::count_trees`: the trees so far, and those of the models that are left, are all.
use Rattle.std.proofs.lemmas.Result.{err_from_is_err_and}
use mathlib.Core.Path.{sym, ◌∙◌}
use native.Mathlib.Omega.{arith}
use Rattle.head_words.specs.Words.{header_at}
use Rattle.trail_voice.proofs.Laws.{known, next_at, counting_none, counted_refused, counted_few, counting_more, counted_all}
use Rattle.trail_voice.proofs.count_trees.Goals as goal

pub loop-text-init : goal.loop-text-init
loop-text-init c = counting_none c.args.file.now (header_at c.args.words.now)

pub returns-in_err-text : goal.returns-in_err-text
returns-in_err-text c =
    let p = err_from_is_err_and c.from_residual.result c.from_residual.ensures.1 in
    rw (p.1, p.2) (counted_refused _ _ c.loop-text.invariant (sym c.in_err-text.was ∙ c.model_text.ensures))

pub overflow_add-n : goal.overflow_add-n
overflow_add-n c = omega (arith, counted_few _ _ c.loop-text.invariant (sym c.in_ok-text.was ∙ c.model_text.ensures), c.loop-text.invariant.low)

pub next_model-requires : goal.next_model-requires
next_model-requires c = record { in_bounds = (c.requires, c.loop-text.invariant.at.in_types); words_value = (known _ _ _ (sym c.in_ok-text.was ∙ c.model_text.ensures)).fitting }

pub loop-text-smaller : goal.loop-text-smaller
loop-text-smaller c =
    let l = c.loop-text in
    let z = next_at c.args.file.now (header_at c.args.words.now) (known c.args.file.now (header_at c.args.words.now) l.which (sym c.in_ok-text.was ∙ c.model_text.ensures)).fitting l.invariant.at (sym c.in-Some.is ∙ c.next_model.ensures) in
    omega (arith, z.1, z.2)

pub loop-text-preserved : goal.loop-text-preserved
loop-text-preserved c = counting_more _ _ c.loop-text.invariant (sym c.in_ok-text.was ∙ c.model_text.ensures) (sym c.in-Some.is ∙ c.next_model.ensures)

pub returns-in-None : goal.returns-in-None
returns-in-None c = counted_all _ _ c.loop-text.invariant (sym c.in_ok-text.was ∙ c.model_text.ensures) (sym c.in-None.is ∙ c.next_model.ensures)
