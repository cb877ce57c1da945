-- `link_names::first_unheard`: the keys, then those that are left of them, then the first.
use native.Mathlib.Omega.{arith}
use Rattle.link_names.proofs.Laws.{keys_keyed, from_keys}
use Rattle.link_names.proofs.first_unheard.Goals as goal

pub mark_all-requires : goal.mark_all-requires
mark_all-requires c = (omega (arith, c.requires.0, c.set_keys.ensures.long), c.requires.1, keys_keyed c.set_keys.ensures)

pub first_left-requires : goal.first_left-requires
first_left-requires c = omega (arith, c.requires.0, c.mark_all.ensures.long, c.set_keys.ensures.long)

pub returns : goal.returns
returns c = from_keys c.set_keys.ensures c.mark_all.ensures c.first_left.ensures
