-- `label_answers::fill_answers`: the bytes still to be written, from question q on.
use Rattle.label_answers.specs.Answering.{row_matches}
use Rattle.label_answers.proofs.Laws.{Filling}
use Rattle.label_answers.proofs.fill_answers.Given as goal

abbrev pub invariant-loop-q : goal.invariant-loop-q
invariant-loop-q l = Filling (row_matches l.label l.questions l.patterns l.data) l.rows l.initial.answers l.answers l.q
