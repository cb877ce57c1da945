-- `link_names::mark_all`: question by question, as long as a key is left.
use mathlib.Core.Path.{refl, sym, ◌∙◌}
use native.Mathlib.Omega.{arith}
use Rattle.link_find.proofs.Finding.{named_next, named_last, named_none}
use Rattle.link_names.proofs.Laws.{gone_none, gone_fewer, marked_gone, hearing_on, hearing_last, hearing_over, hearing_none}
use Rattle.link_names.proofs.mark_all.Goals as goal

pub loop-start-init : goal.loop-start-init
loop-start-init c = (record { long = refl; keyed = c.requires.2; each = λ j h. refl }, gone_none, omega arith)

pub mark-requires : goal.mark-requires
mark-requires c = (omega (arith, c.requires.0, c.loop-start.invariant.0.long), c.requires.1, c.loop-start.invariant.0.keyed, c.loop-start.invariant.1)

pub gone_from-low-requires : goal.gone_from-low-requires
gone_from-low-requires c = (omega (arith, c.requires.0, c.loop-start.invariant.0.long, c.mark.ensures.long), marked_gone c.loop-start.invariant.1 c.mark.ensures c.loop-start.invariant.2)

pub shape_of-keys-then-n-low : goal.shape_of-keys-then-n-low
shape_of-keys-then-n-low c = c.mark.ensures.long ∙ c.loop-start.invariant.0.long

pub returns-then-n-low : goal.returns-then-n-low
returns-then-n-low c = hearing_over (hearing_on c.loop-start.invariant.0 (named_next _ _ (sym c.in-Next.is ∙ c.next_name.ensures)).2 c.part_inside.ensures c.mark.ensures) (gone_fewer c.gone_from-low.ensures c.if-n-low.true)

pub loop-start-smaller : goal.loop-start-smaller
loop-start-smaller c = omega (arith, named_next _ _ (sym c.in-Next.is ∙ c.next_name.ensures))

pub loop-start-preserved : goal.loop-start-preserved
loop-start-preserved c = ((hearing_on c.loop-start.invariant.0 (named_next _ _ (sym c.in-Next.is ∙ c.next_name.ensures)).2 c.part_inside.ensures c.mark.ensures), c.gone_from-low.ensures, omega (arith, c.if-n-low.false))

pub mark-requires-in-Last : goal.mark-requires-in-Last
mark-requires-in-Last c = (omega (arith, c.requires.0, c.loop-start.invariant.0.long), c.requires.1, c.loop-start.invariant.0.keyed, c.loop-start.invariant.1)

pub shape_of-keys-in-Last : goal.shape_of-keys-in-Last
shape_of-keys-in-Last c = c.mark-in-Last.ensures.long ∙ c.loop-start.invariant.0.long

pub returns-in-Last : goal.returns-in-Last
returns-in-Last c = hearing_last c.loop-start.invariant.0 (named_last _ _ (sym c.in-Last.is ∙ c.next_name.ensures)) c.part_inside-in-Last.ensures c.mark-in-Last.ensures refl

pub shape_of-keys-in-Broken : goal.shape_of-keys-in-Broken
shape_of-keys-in-Broken c = c.loop-start.invariant.0.long

pub returns-in-Broken : goal.returns-in-Broken
returns-in-Broken c = hearing_none c.loop-start.invariant.0 (named_none _ _ (sym c.in-Broken.is ∙ c.next_name.ensures))
