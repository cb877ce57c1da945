-- `load_bounds::holding`: number by number.
use mathlib.Core.Path.{refl}
use borrow.Author.Tests.{eq-eqb, ne_eqb}
use Rattle.written.specs.Sharing.{holds}
use Rattle.load_bounds.proofs.holding.Goals as goal

pub returns-then-h-ne0 : goal.returns-then-h-ne0
unfolding holds
returns-then-h-ne0 c = rw (ne_eqb _ _ c.if-h-ne0.true) refl

pub returns-then-h-ne0-2 : goal.returns-then-h-ne0-2
unfolding holds
returns-then-h-ne0-2 c = rw (eq-eqb _ _ c.if-h-ne0.false, ne_eqb _ _ c.if-h-ne0-2.true) refl

pub returns-then-h-ne0-3 : goal.returns-then-h-ne0-3
unfolding holds
returns-then-h-ne0-3 c = rw (eq-eqb _ _ c.if-h-ne0.false, eq-eqb _ _ c.if-h-ne0-2.false, ne_eqb _ _ c.if-h-ne0-3.true) refl

pub returns-then-h-ne0-4 : goal.returns-then-h-ne0-4
unfolding holds
returns-then-h-ne0-4 c = rw (eq-eqb _ _ c.if-h-ne0.false, eq-eqb _ _ c.if-h-ne0-2.false, eq-eqb _ _ c.if-h-ne0-3.false, ne_eqb _ _ c.if-h-ne0-4.true) refl

pub returns : goal.returns
unfolding holds
returns c = rw (eq-eqb _ _ c.if-h-ne0.false, eq-eqb _ _ c.if-h-ne0-2.false, eq-eqb _ _ c.if-h-ne0-3.false, eq-eqb _ _ c.if-h-ne0-4.false) refl
