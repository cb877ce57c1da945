-- `write_put::put_part`: the bytes that are left, put where the loop is, are all of them.
use Rattle.write_put.proofs.Puts.{leads_none, leads_more, leads_done, put_as, next_byte}
use lib.ListN.{drop_of_length-le}
use native.Mathlib.Omega.{arith}
use Rattle.write_put.proofs.put_part.Goals as goal

pub loop-x-init : goal.loop-x-init
loop-x-init c = leads_none _ _ _ (omega (arith, c.well_formed)) (omega arith)

pub loop-x-preserved : goal.loop-x-preserved
loop-x-preserved c = leads_more c.loop-x.invariant _ _ (next_byte c.part_of-x-items.result.now c.loop-x.x-index (omega arith)) c.put1-k.ensures

pub shape_of-b : goal.shape_of-b
shape_of-b c = c.loop-x.invariant.long

pub returns : goal.returns
returns c = put_as c.part_of-x-items.ensures (leads_done c.loop-x.invariant (drop_of_length-le c.part_of-x-items.result.now (omega arith)))
