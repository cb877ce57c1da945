-- `pdf_values::fill_blocks`: what is left, stored, gives the table with all rows.
use Rattle.pdf_values.proofs.Laws.{Setting}
use Rattle.pdf_values.proofs.fill_blocks.Given as goal

abbrev pub invariant-loop-k : goal.invariant-loop-k
invariant-loop-k l = Setting l.s l.at l.count l.width l.initial.trees l.trees l.k l.first
