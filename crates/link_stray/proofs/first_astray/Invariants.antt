-- `link_stray::first_astray`: the first among those still to come is the first of all.
use Rattle.tree_line.specs.Lines.{lines_at}
use Rattle.link_stray.proofs.Laws.{Going, room_behind}
use Rattle.link_stray.proofs.first_astray.Given as goal

abbrev pub invariant-loop-stray : goal.invariant-loop-stray
invariant-loop-stray l = Going l.s (lines_at l.s l.first).items l.first l.k l.stray

abbrev pub decreases-loop-stray : goal.decreases-loop-stray
decreases-loop-stray l = room_behind l.s (lines_at l.s l.first).items l.stray
