-- `label_answers::any_matches`: no pattern up to k matches.
use mathlib.Core.Path.{sym, ◌∙◌}
use native.Mathlib.Omega.{arith}
use Rattle.laws.proofs.Every.{seeking_here, seeking_end}
use Rattle.label_answers.proofs.Laws.{in_table, row_each, row_matches_lem}
use Rattle.label_answers.proofs.any_matches.Goals as goal

pub overflow_add-first : goal.overflow_add-first
overflow_add-first c =
    let h = in_table _ _ _ (row_each _ _ _ _ c.question_first-first.ensures c.question_patterns-count.ensures c.requires.1 _ c.loop-k-test.true) in
    omega (arith, h)

pub pattern_matches-requires : goal.pattern_matches-requires
pattern_matches-requires c = row_each _ _ _ _ c.question_first-first.ensures c.question_patterns-count.ensures c.requires.1 _ c.loop-k-test.true

pub returns-then-pattern_matches : goal.returns-then-pattern_matches
returns-then-pattern_matches c =
    row_matches_lem _ _ _ _ _ c.question_first-first.ensures c.question_patterns-count.ensures
    (seeking_here _ _ _ c.loop-k.invariant c.loop-k-test.true (sym c.pattern_matches.ensures ∙ c.if-pattern_matches.true))

pub returns : goal.returns
returns c = row_matches_lem _ _ _ _ _ c.question_first-first.ensures c.question_patterns-count.ensures (seeking_end _ _ _ c.loop-k.invariant c.loop-k-test.false)
