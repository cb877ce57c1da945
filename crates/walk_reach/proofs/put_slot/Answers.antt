-- `walk_reach::put_slot`: the number as a signed one.
use mathlib.Core.Path.{ap}
use Prim.Native.Nat.{◌+◌, ◌*◌}
use lib.ListN.{set}
use mir.Syntax.{w64}
use mir.ValLaws.{to_z_pos}
use Rattle.walk_reach.proofs.put_slot.Goals as goal

pub returns : goal.returns
returns c = let a = c.args in ap (set a.work.now (4 * a.i + a.part)) (to_z_pos w64 a.v c.requires.1)
