-- `link_names::gone_from`: one more, as long as it is gone.
use Rattle.link_names.specs.Names.{Gone}
use Rattle.link_names.proofs.gone_from.Given as goal

abbrev pub invariant-loop-j : goal.invariant-loop-j
invariant-loop-j l = Gone l.j l.keys
