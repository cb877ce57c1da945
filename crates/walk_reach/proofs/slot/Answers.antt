-- `walk_reach::slot`: the number at its place.
use mathlib.Core.Path.{ap, ◌∙◌}
use Prim.Native.Nat.{◌+◌, ◌*◌}
use lib.IntN.{pos}
use lib.ListN.{get_or}
use Rattle.laws.proofs.Signed.{back}
use Rattle.text_parts.specs.Parts.{nat_of}
use Rattle.walk_reach.proofs.slot.Goals as goal

pub returns : goal.returns
returns c = let a = c.args in c.natural.ensures ∙ ap nat_of (back (get_or a.work.now (4 * a.i + a.part) (pos 0)) c.v-1.given)
