-- `text_parts::part_of` meets its contract.
use native.Mathlib.Nat.{add-sub_cancel_left}
use lib.Seq.{take-nil, take_all}
use lib.ListN.{length, take, drop, drop_of_length-le, length-drop}
use Prim.Native.Nat.{ℕ, ◌-◌, ◌≤◌}
use native.Mathlib.Omega.{arith}
use mathlib.Core.Path.{sym, ap, ◌∙◌}
use Rattle.text_parts.proofs.part_of.Goals as goal

pub returns-then-n-start : goal.returns-then-n-start
returns-then-n-start c =
    let a = c.args in
    let h : length a.s.now ≤ a.start = c.if-n-start.true in
    let e : length a.s.now ≤ length a.s.now = omega arith in
    rw (drop_of_length-le a.s.now e, drop_of_length-le a.s.now h, take-nil (length a.s.now - length a.s.now), take-nil a.len)

pub returns-then-n-start-2 : goal.returns-then-n-start-2
returns-then-n-start-2 c =
    let a = c.args in
    let h = length-drop a.start a.s.now in
    take_all (length a.s.now - a.start) (drop a.start a.s.now) (omega arith) ∙ sym (take_all a.len (drop a.start a.s.now) (omega (arith, h, c.if-n-start-2.true)))

pub returns : goal.returns
returns c =
    let a = c.args in
    ap (λ (k : ℕ). take k (drop a.start a.s.now)) (add-sub_cancel_left a.start a.len)
