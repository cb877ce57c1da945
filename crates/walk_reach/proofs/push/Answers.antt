-- `walk_reach::push`: marked already, or marked and put behind the last.
use mathlib.Core.Path.{refl, sym, ap, ◌∙◌}
use Prim.Native.Nat.{◌+◌, ◌*◌}
use native.Mathlib.Omega.{arith}
use lib.IntN.{pos}
use lib.ListN.{length, set, length-set}
use Rattle.walk_reach.specs.Work.{known, new}
use Rattle.walk_reach.proofs.push.Goals as goal

pub returns-then-slot-ne0 : goal.returns-then-slot-ne0
returns-then-slot-ne0 c = known (λ e. c.if-slot-ne0.true (c.slot.ensures ∙ e)) refl refl

pub put_slot-requires-2 : goal.put_slot-requires-2
put_slot-requires-2 c =
    let a = c.args in
    let h = c.requires.1 (sym c.slot.ensures ∙ c.if-slot-ne0.false) in
    let l = ap length c.put_slot.ensures ∙ length-set a.work.now (4 * a.j + 0) (pos 1) in
    (omega (arith, h, l), omega (arith, c.requires.0))

pub overflow_add-result : goal.overflow_add-result
overflow_add-result c = let h = c.requires.1 (sym c.slot.ensures ∙ c.if-slot-ne0.false) in omega (arith, h)

pub returns : goal.returns
returns c = let a = c.args in new (sym c.slot.ensures ∙ c.if-slot-ne0.false) refl (c.put_slot-2.ensures ∙ ap (λ l. set l (4 * a.tail + 1) (pos a.j)) c.put_slot.ensures)
