-- `label_match::passes`: any byte, or the same one.
use mathlib.Core.Path.{sym, ap, ◌∙◌}
use mathlib.Core.Bool.{Bool, ◌||◌}
use borrow.Author.Tests.{eq-eqb, ne_eqb}
use lib.Dec.{eqb}
use Rattle.label_match.specs.Matched.{passes}
use Rattle.label_match.proofs.passes.Goals as goal

pub returns-then-c-eq-ANY_ONE : goal.returns-then-c-eq-ANY_ONE
unfolding passes
returns-then-c-eq-ANY_ONE c = let a = c.args in eq-eqb a.c 63 c.if-c-eq-ANY_ONE.true ∙ sym (ap (λ (t : Bool). t || eqb a.c a.b) (eq-eqb a.c 63 c.if-c-eq-ANY_ONE.true))

pub returns-else-c-eq-ANY_ONE : goal.returns-else-c-eq-ANY_ONE
unfolding passes
returns-else-c-eq-ANY_ONE c = let a = c.args in sym (ap (λ (t : Bool). t || eqb a.c a.b) (ne_eqb a.c 63 c.if-c-eq-ANY_ONE.false))
