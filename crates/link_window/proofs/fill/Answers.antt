-- `link_window::fill`: line by line.
use mathlib.Core.Path.{refl, sym, ◌∙◌}
use native.Mathlib.Omega.{arith}
use Rattle.tree_survey_lines.proofs.Counting.{items_next, items_last, items_broken, next_in}
use Rattle.link_window.proofs.Laws.{long_as, taking_none, taking_on, taking_last, taking_broken, taking_end}
use Rattle.link_window.proofs.fill.Goals as goal

pub loop-k-init : goal.loop-k-init
loop-k-init c = taking_none _ _ _

pub put_name-requires : goal.put_name-requires
put_name-requires c = omega (arith, c.requires, c.loop-k-test.true, c.loop-k.invariant.long)

pub loop-k-preserved : goal.loop-k-preserved
loop-k-preserved c = taking_on _ _ _ c.loop-k.invariant (items_next _ _ (sym c.in-Next.is ∙ c.next_line.ensures)) (long_as _ _ (sym c.in-Next.is ∙ c.next_line.ensures)) (omega (arith, c.requires, c.loop-k-test.true, c.loop-k.invariant.long)) c.put_name.ensures refl (next_in _ _ (sym c.in-Next.is ∙ c.next_line.ensures)).0 (next_in _ _ (sym c.in-Next.is ∙ c.next_line.ensures)).1 c.loop-k-test.true

pub put_name-requires-in-Last : goal.put_name-requires-in-Last
put_name-requires-in-Last c = omega (arith, c.requires, c.loop-k-test.true, c.loop-k.invariant.long)

pub returns-in-Last : goal.returns-in-Last
returns-in-Last c = taking_last _ _ _ c.loop-k.invariant (items_last _ _ (sym c.in-Last.is ∙ c.next_line.ensures)) (long_as _ _ (sym c.in-Last.is ∙ c.next_line.ensures)) (omega (arith, c.requires, c.loop-k-test.true, c.loop-k.invariant.long)) c.put_name-in-Last.ensures refl c.loop-k-test.true

pub shape_of-names-in-Broken : goal.shape_of-names-in-Broken
shape_of-names-in-Broken c = c.loop-k.invariant.long

pub returns-in-Broken : goal.returns-in-Broken
returns-in-Broken c = taking_broken _ _ _ c.loop-k.invariant (items_broken _ _ (sym c.in-Broken.is ∙ c.next_line.ensures)) c.loop-k-test.true

pub shape_of-names : goal.shape_of-names
shape_of-names c = c.loop-k.invariant.long

pub returns : goal.returns
returns c = taking_end _ _ _ c.loop-k.invariant (omega (arith, c.loop-k-test.false))
