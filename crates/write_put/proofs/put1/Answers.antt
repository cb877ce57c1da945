-- `write_put::put1`: stored where the buffer reaches, else nothing.
use lib.Seq.{set_out}
use mathlib.Core.Path.{sym}
use native.Mathlib.Omega.{arith}
use Rattle.write_put.proofs.put1.Goals as goal

pub returns : goal.returns
returns c = record { short = omega (arith, c.well_formed); next = c.past.ensures; bytes_of = sym (set_out _ _ _ c.if-at-b.false) }
