-- `write_text::put_questions`: the questions that are left, put where the loop is, are all of them.
use Prim.Native.Nat.{◌-◌}
use Rattle.write_put.proofs.Puts.{Leads}
use Rattle.table_rows.specs.Rows.{question_rows}
use Rattle.write_parts.specs.Parts.{each, question_of}
use Rattle.written.specs.Writing.{spelled_question}
use mathlib.Core.List.{map, flatten}
use Rattle.write_text.proofs.put_questions.Given as goal

abbrev pub invariant-loop-q : goal.invariant-loop-q
invariant-loop-q l =
    Leads l.initial.b l.at (flatten (map spelled_question (each (question_of l.s l.questions l.patterns) 0 (question_rows l.questions)))) l.b l.i (flatten (map spelled_question (each (question_of l.s l.questions l.patterns) l.q (l.n - l.q))))
