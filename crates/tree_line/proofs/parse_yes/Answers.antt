-- `tree_line::parse_yes`: blanks, at least one, and each arm of `yesRead`.
use mathlib.Core.Path.{◌≡◌, sym, ap, ◌∙◌}
use mathlib.Core.List.{List}
use Prim.Native.Nat.{ℕ, ◌≤◌, ◌<◌}
use borrow.Author.Tests.{lt-ltb, le-ltb}
use Rattle.std.specs.Prelude.{None}
use Rattle.written.specs.Bytes.{blank}
use Rattle.laws.specs.Runs.{stop}
use Rattle.tree_reference.specs.References.{reference_at}
use Rattle.tree_reference.specs.declared.TreeIndex.{TreeIndex}
use Rattle.tree_line.specs.Lines.{yes_read, yes_at}
use Rattle.tree_line.proofs.parse_yes.Goals as goal

module _ (s : List ℕ) (i : ℕ) (n : TreeIndex) {b : ℕ} (blanks : b ≡ stop blank s i) where
  none : b ≤ i → None ≡ yes_at s i n
  unfolding yes_at
  none h = rw (← blanks, le-ltb i b h)

  one : i < b → yes_read n (reference_at s b) ≡ yes_at s i n
  unfolding yes_at
  one h = rw (← blanks, lt-ltb i b h)

pub returns-then-start-at : goal.returns-then-start-at
returns-then-start-at c = none _ _ _ c.blank_end-start.ensures c.if-start-at.true

pub returns : goal.returns
returns c = ap (yes_read _) (sym c.in_ok-yes.was ∙ c.parse_tree_index.ensures) ∙ one _ _ _ c.blank_end-start.ensures c.if-start-at.false

pub returns-in_err-yes : goal.returns-in_err-yes
returns-in_err-yes c =
    c.from_residual.ensures
    ∙ ap (yes_read _) (sym c.in_err-yes.was ∙ c.parse_tree_index.ensures)
    ∙ one _ _ _ c.blank_end-start.ensures c.if-start-at.false
