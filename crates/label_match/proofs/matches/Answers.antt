-- `label_match::matches`: the part before the first star in front, then what is behind it.
use mathlib.Core.Path.{sym, ◌∙◌}
use native.Mathlib.Omega.{arith}
use borrow.Author.Tests.{not-true, not-false}
use lib.Seq.{length-take-le}
use Rattle.label_match.proofs.Laws.{match_short, match_off, match_plain, match_parted}
use Rattle.label_match.proofs.matches.Goals as goal

pub returns-then-label-end : goal.returns-then-label-end
returns-then-label-end c = match_short _ _ c.part_end-end.ensures c.if-label-end.true

pub slice_bounds-stands-end : goal.slice_bounds-stands-end
slice_bounds-stands-end c = sym (length-take-le _ _ c.part_end-end.ensures.inside)

pub stands-requires : goal.stands-requires
stands-requires c = let a = c.args in omega (arith, length-take-le c.part_end-end.result a.pattern.now c.part_end-end.ensures.inside, c.if-label-end.false)

pub returns-then-not-stands : goal.returns-then-not-stands
returns-then-not-stands c = match_off _ _ c.part_end-end.ensures (sym c.stands.ensures ∙ not-true _ c.if-not-stands.true-raw)

pub returns-then-end-pattern : goal.returns-then-end-pattern
returns-then-end-pattern c = match_plain _ _ c.part_end-end.ensures (sym c.stands.ensures ∙ not-false _ c.if-not-stands.false-raw) c.if-end-pattern.true

pub returns : goal.returns
returns c =
    match_parted _ _ c.part_end-end.ensures (sym c.stands.ensures ∙ not-false _ c.if-not-stands.false-raw)
    (omega (arith, c.part_end-end.ensures.inside, c.if-end-pattern.false)) c.after_star.ensures
