-- `pdf_values::fill_values`: what is left, stored, gives the table with all of them.
use Rattle.pdf_values.proofs.Laws.{Storing}
use Rattle.pdf_values.proofs.fill_values.Given as goal

abbrev pub invariant-loop : goal.invariant-loop
invariant-loop l = Storing l.s l.at l.width l.entries l.initial.values l.values l.counter l.i l.first
