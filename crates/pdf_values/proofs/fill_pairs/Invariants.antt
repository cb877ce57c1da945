-- `pdf_values::fill_pairs`: what is left, stored, gives the table with all of them.
use Rattle.pdf_values.proofs.Laws.{Pairing}
use Rattle.pdf_values.proofs.fill_pairs.Given as goal

abbrev pub invariant-loop-k : goal.invariant-loop-k
invariant-loop-k l = Pairing l.s l.at l.behind l.pairs l.initial.values l.first l.values l.k
