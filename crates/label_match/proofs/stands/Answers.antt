-- `label_match::stands`: k bytes of the part stand, and the answer is that of the others.
use mathlib.Core.Path.{sym, ◌∙◌}
use borrow.Author.Tests.{not-true, not-false}
use Rattle.label_match.proofs.Laws.{standing_more, standing_off, standing_end}
use Rattle.label_match.proofs.stands.Goals as goal

pub returns-then-not-passes : goal.returns-then-not-passes
returns-then-not-passes c =
    standing_off _ _ _ _ c.loop-k.invariant c.loop-k-test.true c.requires
    (sym c.passes.ensures ∙ not-true _ c.if-not-passes.true-raw)

pub loop-k-preserved : goal.loop-k-preserved
loop-k-preserved c =
    standing_more _ _ _ _ c.loop-k.invariant c.loop-k-test.true c.requires
    (sym c.passes.ensures ∙ not-false _ c.if-not-passes.false-raw)

pub returns : goal.returns
returns c = standing_end _ _ _ _ c.loop-k.invariant c.loop-k-test.false
