-- `load_questions::fill_patterns_from`: what is left, stored, gives the table with all of them.
use mathlib.Core.Path.{sym, ◌∙◌}
use native.Mathlib.Omega.{arith}
use Rattle.load_questions.proofs.Laws.{told_of, row_next, row_last, row_none}
use Rattle.load_questions.proofs.Patterns.{listing_none, next_word, listing_more, listing_last, listing_broken, standing_room, never_broken, done_next}
use Rattle.load_questions.proofs.fill_patterns_from.Goals as goal

pub loop-head-init : goal.loop-head-init
loop-head-init c = (listing_none _ _ _ c.requires.at_in_bounds, c.requires.done)

pub fill_patterns-requires : goal.fill_patterns-requires
fill_patterns-requires c = standing_room _ _ _ _ _ _ c.loop-head.invariant.0 c.loop-head.invariant.1 (sym c.in-Some.is ∙ c.question_head.ensures)

pub overflow_mul-word : goal.overflow_mul-word
overflow_mul-word c =
    let w = told_of _ _ (row_next _ c.loop-head.i (sym c.in-Some.is ∙ c.question_head.ensures) (sym c.in-Some-fill_patterns.is ∙ c.fill_patterns.ensures.0) (sym c.in-Question.is ∙ c.after_question.ensures)) in
    omega (arith, next_word _ _ _ _ _ _ c.loop-head.invariant.0 w)

pub overflow_add-word : goal.overflow_add-word
overflow_add-word c =
    let w = told_of _ _ (row_next _ c.loop-head.i (sym c.in-Some.is ∙ c.question_head.ensures) (sym c.in-Some-fill_patterns.is ∙ c.fill_patterns.ensures.0) (sym c.in-Question.is ∙ c.after_question.ensures)) in
    omega (arith, next_word _ _ _ _ _ _ c.loop-head.invariant.0 w)

pub loop-head-smaller : goal.loop-head-smaller
loop-head-smaller c =
    let w = told_of _ _ (row_next _ c.loop-head.i (sym c.in-Some.is ∙ c.question_head.ensures) (sym c.in-Some-fill_patterns.is ∙ c.fill_patterns.ensures.0) (sym c.in-Question.is ∙ c.after_question.ensures)) in
    omega (arith, w.on, w.inside)

pub loop-head-preserved : goal.loop-head-preserved
loop-head-preserved c =
    let h = sym c.in-Some.is ∙ c.question_head.ensures in
    let d = sym c.in-Some-fill_patterns.is ∙ c.fill_patterns.ensures.0 in
    let a = sym c.in-Question.is ∙ c.after_question.ensures in
    (listing_more _ _ _ _ _ _ c.loop-head.invariant.0 (told_of _ _ (row_next _ c.loop-head.i h d a)) _ c.fill_patterns.ensures.1, done_next _ _ c.loop-head.invariant.1 h d a)

pub shape_of-patterns-in-Tree : goal.shape_of-patterns-in-Tree
shape_of-patterns-in-Tree c = c.fill_patterns.auto.patterns ∙ c.loop-head.invariant.0.long

pub returns-in-Tree : goal.returns-in-Tree
returns-in-Tree c =
    let w = told_of _ _ (row_last _ c.loop-head.i (sym c.in-Some.is ∙ c.question_head.ensures) (sym c.in-Some-fill_patterns.is ∙ c.fill_patterns.ensures.0) (sym c.in-Tree.is ∙ c.after_question.ensures)) in
    listing_last _ _ _ _ _ _ c.loop-head.invariant.0 w _ c.fill_patterns.ensures.1

pub shape_of-patterns-in-None-fill_patterns : goal.shape_of-patterns-in-None-fill_patterns
shape_of-patterns-in-None-fill_patterns c = c.fill_patterns.auto.patterns ∙ c.loop-head.invariant.0.long

pub returns-in-None-fill_patterns : goal.returns-in-None-fill_patterns
returns-in-None-fill_patterns c = never_broken _ _ c.loop-head.invariant.1 (sym c.in-Some.is ∙ c.question_head.ensures) (sym c.in-None-fill_patterns.is ∙ c.fill_patterns.ensures.0)

pub shape_of-patterns-in-None : goal.shape_of-patterns-in-None
shape_of-patterns-in-None c = c.loop-head.invariant.0.long

pub returns-in-None : goal.returns-in-None
returns-in-None c = listing_broken _ _ _ _ _ _ c.loop-head.invariant.0 (told_of _ _ (row_none _ c.loop-head.i (sym c.in-None.is ∙ c.question_head.ensures)))
