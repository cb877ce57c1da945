-- `replay::replay`: behind the end no line is left.
use Rattle.std.proofs.Common.{◌≡◌, ap, ◌∙◌, ℕ, false, length, drop}
use native.Mathlib.Omega.{arith}
use Rattle.replay.specs.Lines.{lines_of}
use Rattle.replay.proofs.Lines.{ends}
use Rattle.replay.proofs.replay.Goals as goal

pub returns-clause-every : goal.returns-clause-every
returns-clause-every g c =
    let s = c.args.s.now in
    let over : c.loop-at.at ≡ length s = omega arith in
    let none : lines_of false (drop c.loop-at.at s) ≡ 0 = ap (λ (n : ℕ). lines_of false (drop n s)) over ∙ ends s false in
    omega (arith, none, c.loop-at.invariant.every)
