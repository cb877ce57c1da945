-- `link_names::mark`: name by name.
use Prim.Native.Nat.{ℕ}
use Rattle.written.specs.Bytes.{same}
use Rattle.link_names.specs.Names.{name_in}
use Rattle.link_names.proofs.Laws.{Marking}
use Rattle.link_names.proofs.mark.Given as goal

abbrev pub invariant-loop-j : goal.invariant-loop-j
invariant-loop-j l = Marking l.initial.keys (λ (i : ℕ). same l.name (name_in l.s l.names i)) l.keys l.j
