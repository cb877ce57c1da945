-- The laws of a tree's shape.
use mathlib.Core.Path.{◌≡◌, sym, ap, ◌∙◌}
use mathlib.Core.List.{List}
use Prim.Native.Nat.{ℕ}
use native.Mathlib.Omega.{arith}
use lib.ListN.{length}
use Rattle.text_parts.specs.Parts.{read_to}
use Rattle.tree_reference.specs.declared.TreeIndex.{TreeIndex}
use Rattle.std.specs.declared.option.Option.{Option}
use Rattle.std.specs.Prelude.{Some, None}
use Rattle.laws.specs.Steps.{Ending, done_at, broken_at}
use Rattle.tree_line.specs.Lines.{lines_at}
use Rattle.tree_body.specs.declared.TreeHead.{TreeHead}
use Rattle.tree_body.specs.declared.TreeHead.TheVariants as head
use Rattle.tree_survey_lines.specs.Counts.{lines_counted, line_count}
use Rattle.tree_survey_lines.proofs.Counting.{counted, not_counted}
use Rattle.link_alone.specs.Alone.{single_in}
use Rattle.link_shape.specs.declared.Shape.{Shape}
use Rattle.link_shape.specs.declared.Shape.TheVariants.{Empty, Lines, Broken}
use Rattle.link_shape.specs.Shapes.{shape_single, shape_ending, shape_braces, shape_head}

module _ (s : List ℕ) (i : ℕ) where
  module _ {n m e : ℕ} (h : Some (read_to (line_count n m) e) ≡ lines_counted 0 0 (lines_at s i)) where
    pub counted_many : n ≡ length (lines_at s i).items
    counted_many = sym (counted s i n m e h).lines

    pub braces_are : {r : Shape} (t : Option TreeIndex) → t ≡ single_in (lines_at s i).items → r ≡ shape_single i (length (lines_at s i).items) t → r ≡ shape_braces i (lines_at s i)
    unfolding shape_braces
    braces_are t p q = q ∙ ap (shape_single i (length (lines_at s i).items)) p ∙ sym (ap (shape_ending i (lines_at s i).items) (counted s i n m e h).done)

  pub braces_broken : None ≡ lines_counted 0 0 (lines_at s i) → Broken ≡ shape_braces i (lines_at s i)
  unfolding shape_braces
  braces_broken h = sym (ap (shape_ending i (lines_at s i).items) (not_counted s i h).1)

-- how many lines there are
pub lines_many : (s : List ℕ) (h : TreeHead) {f n : ℕ} → Lines f n ≡ shape_head s h → n ≡ length (lines_at s f).items
unfolding shape_braces
lines_many s (head.Lone x r e) q = let z : ◌≡◌ {A = ℕ} 0 1 = cc in absurd (omega arith)
lines_many s (head.Empty x e) q = let z : ◌≡◌ {A = ℕ} 0 1 = cc in absurd (omega arith)
lines_many s head.NoTree q = let z : ◌≡◌ {A = ℕ} 0 1 = cc in absurd (omega arith)
lines_many s (head.Lines x i) {f} {n} q = go (lines_at s i).ending q
  where
    one : (t : Option TreeIndex) → Lines f n ≡ shape_single i (length (lines_at s i).items) t → n ≡ length (lines_at s f).items
    one (Some y) q = let z : ◌≡◌ {A = ℕ} 0 1 = cc in absurd (omega arith)
    one None q = let a : f ≡ i = cc in let b : n ≡ length (lines_at s i).items = cc in b ∙ sym (ap (λ (j : ℕ). length (lines_at s j).items) a)

    go : (e : Ending) → Lines f n ≡ shape_ending i (lines_at s i).items e → n ≡ length (lines_at s f).items
    go (done_at e) q = one (single_in (lines_at s i).items) q
    go (broken_at e) q = let z : ◌≡◌ {A = ℕ} 0 1 = cc in absurd (omega arith)
