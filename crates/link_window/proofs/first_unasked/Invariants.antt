-- `link_window::first_unasked` : the first among those still to come is the first of all.
use Prim.Native.Nat.{ℕ}
use lib.ListN.{length}
use Rattle.tree_question.specs.Questions.{questions_at}
use Rattle.link_window.specs.Windows.{Windowed}
use Rattle.link_window.proofs.Laws.{Going, room_behind}
use Rattle.link_window.proofs.first_unasked.Given as goal

abbrev pub invariant-loop-window : goal.invariant-loop-window
invariant-loop-window l = (i : ℕ) × Going l.s (questions_at l.s l.at).items l.first i l.k × Windowed l.s (questions_at l.s l.at).items i l.window

abbrev pub decreases-loop-window : goal.decreases-loop-window
decreases-loop-window l = room_behind (length l.s) l.window
