-- `label_answers::any_matches`: no pattern up to k matches.
use Prim.Native.Nat.{◌+◌}
use Rattle.laws.proofs.Every.{Seeking}
use Rattle.label_answers.specs.Answering.{pattern_matches}
use Rattle.label_answers.proofs.any_matches.Given as goal

abbrev pub invariant-loop-k : goal.invariant-loop-k
invariant-loop-k l = Seeking (λ j. pattern_matches l.label l.patterns l.data (l.first + j)) l.count l.k
