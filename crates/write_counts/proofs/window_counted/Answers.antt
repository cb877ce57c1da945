-- `write_counts::window_counted`: counts from 0, then the references, then what is due.
use Rattle.write_counts.proofs.Laws.{zeros_of}
use native.Mathlib.Omega.{arith}
use Rattle.write_counts.proofs.window_counted.Goals as goal

pub tally_refs-requires : goal.tally_refs-requires
tally_refs-requires c = (c.requires.3, zeros_of 128)

pub window_fits-requires : goal.window_fits-requires
window_fits-requires c = (omega (arith, c.requires.0, c.tally_refs.ensures.long), c.requires.1, c.requires.2, λ j h. c.tally_refs.ensures.each j (omega (arith, c.requires.0)))
