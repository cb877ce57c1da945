-- `label_answers::fill_answers`: the bytes still to be written, from question q on.
use native.Mathlib.Omega.{arith}
use Rattle.label_answers.proofs.Laws.{filling_more, filling_end, filled, rows_each}
use Rattle.label_answers.proofs.fill_answers.Goals as goal

pub any_matches-requires : goal.any_matches-requires
any_matches-requires c = (omega (arith, c.question_rows-rows.ensures), rows_each _ _ _ c.requires.0 _ (omega (arith, c.question_rows-rows.ensures)))

pub loop-q-preserved : goal.loop-q-preserved
loop-q-preserved c = filling_more _ _ _ _ _ c.loop-q.invariant c.loop-q-test.true c.any_matches.ensures

pub returns : goal.returns
returns c = filled _ _ _ _ _ c.question_rows-rows.ensures (filling_end _ _ _ _ _ c.loop-q.invariant c.loop-q-test.false)
