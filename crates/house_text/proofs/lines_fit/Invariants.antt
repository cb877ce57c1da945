-- `house_text::lines_fit` meets its contract.
use mathlib.Core.Path.{◌≡◌}
use Prim.Native.Nat.{◌-◌}
use lib.ListN.{length}
use Rattle.tree_line.specs.Lines.{lines_at}
use Rattle.house_text.specs.Text.{lines_fit}
use Rattle.house_text.proofs.lines_fit.Given as goal

abbrev pub invariant-loop-line : goal.invariant-loop-line
invariant-loop-line l = lines_fit l.entries (lines_at l.s l.i).items ≡ lines_fit l.entries (lines_at l.s l.first).items

abbrev pub decreases-loop-line : goal.decreases-loop-line
decreases-loop-line l = length l.s - l.i
