-- `replay::past_line`: a line more than what stands behind it.
use Rattle.std.proofs.Common.{◌≡◌, sym, ap, ◌∙◌, ℕ, true, false, length, suc, drop}
use native.Mathlib.Omega.{arith}
use Rattle.replay.specs.Lines.{lines_of}
use Rattle.replay.proofs.Lines.{newline, inside, either, ends}
use Rattle.replay.proofs.past_line.Goals as goal

pub loop-i-init : goal.loop-i-init
loop-i-init c = either c.args.s.now c.args.from c.requires

pub returns-then-s-i-eq10-clause-one_line : goal.returns-then-s-i-eq10-clause-one_line
returns-then-s-i-eq10-clause-one_line c = sym c.loop-i.invariant ∙ newline c.args.s.now true c.loop-i.i c.loop-i-test.true c.if-s-i-eq10.true

pub loop-i-preserved : goal.loop-i-preserved
loop-i-preserved c = sym (inside c.args.s.now true c.loop-i.i c.loop-i-test.true c.if-s-i-eq10.false) ∙ c.loop-i.invariant

pub returns-clause-one_line : goal.returns-clause-one_line
returns-clause-one_line c =
    let s = c.args.s.now in
    let over : c.loop-i.i ≡ length s = omega arith in
    sym c.loop-i.invariant ∙ ap (λ (n : ℕ). lines_of true (drop n s)) over ∙ ends s true ∙ sym (ap suc (ends s false))
