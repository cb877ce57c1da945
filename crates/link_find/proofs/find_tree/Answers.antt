-- `link_find::find_tree`: the tree that is left to be found from here on is the one that was looked for.
use mathlib.Core.Path.{refl, sym, ◌∙◌}
use native.Mathlib.Omega.{arith}
use Rattle.tree_survey.proofs.Counting.{more_in}
use Rattle.link_find.proofs.Finding.{seek_here, seek_on, seek_end, seek_past, seek_none}
use Rattle.link_find.proofs.find_tree.Goals as goal

pub loop-next-init : goal.loop-next-init
loop-next-init c = record { same = refl }

pub returns-then-left-eq0 : goal.returns-then-left-eq0
returns-then-left-eq0 c = seek_here _ c.loop-next.invariant (sym c.in-Next.is ∙ c.survey_tree.ensures) c.if-left-eq0.true

pub loop-next-smaller : goal.loop-next-smaller
loop-next-smaller c = omega (arith, more_in _ _ (sym c.in-Next.is ∙ c.survey_tree.ensures))

pub loop-next-preserved : goal.loop-next-preserved
loop-next-preserved c = seek_on _ c.loop-next.invariant (sym c.in-Next.is ∙ c.survey_tree.ensures) c.if-left-eq0.false

pub returns-then-left-eq0-2 : goal.returns-then-left-eq0-2
returns-then-left-eq0-2 c = seek_end _ c.loop-next.invariant (sym c.in-Last.is ∙ c.survey_tree.ensures) c.if-left-eq0-2.true

pub returns-in-Last : goal.returns-in-Last
returns-in-Last c = seek_past _ c.loop-next.invariant (sym c.in-Last.is ∙ c.survey_tree.ensures) c.if-left-eq0-2.false

pub returns-in-Broken : goal.returns-in-Broken
returns-in-Broken c = seek_none _ c.loop-next.invariant (sym c.in-Broken.is ∙ c.survey_tree.ensures)
