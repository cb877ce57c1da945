-- `write_questions::last_named`: no question from q + 1 up to j has the name.
use Prim.Native.Nat.{◌+◌}
use Rattle.laws.proofs.Every.{Going}
use Rattle.write_questions.specs.Tests.{unlike_name}
use Rattle.write_questions.proofs.last_named.Given as goal

abbrev pub invariant-loop-j : goal.invariant-loop-j
invariant-loop-j l = Going (unlike_name l.s l.questions l.q) (l.q + 1) l.n l.j
