-- `link_names::set_keys`: name by name.
use Rattle.link_names.proofs.Laws.{Keying}
use Rattle.link_names.proofs.set_keys.Given as goal

abbrev pub invariant-loop-j : goal.invariant-loop-j
invariant-loop-j l = Keying l.s l.names l.initial.keys l.keys l.j
