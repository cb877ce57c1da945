-- `link_find::last_bearing`: the last line of the id, among those still to come or else what was kept, is that among all.
use mathlib.Core.Path.{refl, sym, ◌∙◌}
use native.Mathlib.Omega.{arith}
use Rattle.tree_survey_lines.proofs.Counting.{items_next, items_last, items_broken, next_in}
use Rattle.link_find.proofs.Finding.{bearing_on, bearing_end, bearing_over, hit_kept, miss_kept}
use Rattle.link_find.proofs.last_bearing.Goals as goal

pub loop-line-init : goal.loop-line-init
loop-line-init c = refl

pub loop-line-smaller-then-bears_id : goal.loop-line-smaller-then-bears_id
loop-line-smaller-then-bears_id c = omega (arith, next_in _ _ (sym c.in-Next.is ∙ c.next_line.ensures))

pub loop-line-preserved-then-bears_id : goal.loop-line-preserved-then-bears_id
loop-line-preserved-then-bears_id c = bearing_on _ _ (items_next _ _ (sym c.in-Next.is ∙ c.next_line.ensures)) c.bears_id.ensures (hit_kept _ _ c.if-bears_id.true) ∙ c.loop-line.invariant

pub loop-line-smaller : goal.loop-line-smaller
loop-line-smaller c = omega (arith, next_in _ _ (sym c.in-Next.is ∙ c.next_line.ensures))

pub loop-line-preserved : goal.loop-line-preserved
loop-line-preserved c = bearing_on _ _ (items_next _ _ (sym c.in-Next.is ∙ c.next_line.ensures)) c.bears_id.ensures (miss_kept _ _ c.if-bears_id.false) ∙ c.loop-line.invariant

pub returns-then-bears_id-2 : goal.returns-then-bears_id-2
returns-then-bears_id-2 c = bearing_end _ _ (items_last _ _ (sym c.in-Last.is ∙ c.next_line.ensures)) c.bears_id-in-Last.ensures (hit_kept _ _ c.if-bears_id-2.true) ∙ c.loop-line.invariant

pub returns-in-Last : goal.returns-in-Last
returns-in-Last c = bearing_end _ _ (items_last _ _ (sym c.in-Last.is ∙ c.next_line.ensures)) c.bears_id-in-Last.ensures (miss_kept _ _ c.if-bears_id-2.false) ∙ c.loop-line.invariant

pub returns-in-Broken : goal.returns-in-Broken
returns-in-Broken c = bearing_over _ _ (items_broken _ _ (sym c.in-Broken.is ∙ c.next_line.ensures)) ∙ c.loop-line.invariant
