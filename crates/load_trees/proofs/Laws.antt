-- One tree, by its head.
use mathlib.Core.Path.{◌≡◌, refl, sym, subst}
use mathlib.Core.List.{List}
use Prim.Native.Nat.{ℕ, ◌+◌, ◌*◌, ◌≤◌}
use native.Mathlib.Omega.{arith}
use lib.IntN.{ℤ}
use Rattle.tree_line.specs.Lines.{lines_at}
use Rattle.laws.specs.Steps.{done_at}
use Rattle.tree_body.specs.declared.TreeHead.{TreeHead}
use Rattle.tree_body.specs.declared.TreeHead.TheVariants.{Empty, Lines, NoTree}
use Rattle.load_lines.specs.Words.{line_words}
use Rattle.tree_survey.specs.Survey.{body_records, body_lines}
use Rattle.load_tree.specs.Bodies.{filled, lines_end}
use Rattle.load_tree.specs.declared.TreeFill.{TreeFill}
use Rattle.load_trees.specs.Trees.{head_body, Whole, leaf, empty, lines, BodyFilled}

module _ (s : List ℕ) where
  -- ---- a tree whose lines can be read, by its head

  pub whole_lines : {t : TreeHead} → Whole s t → {x : ℤ} {f : ℕ} → t ≡ Lines x f → (lines_at s f).ending ≡ done_at (lines_end s f)
  whole_lines leaf q = let u : ◌≡◌ {A = ℕ} 0 1 = cc in absurd (omega arith)
  whole_lines empty q = let u : ◌≡◌ {A = ℕ} 0 1 = cc in absurd (omega arith)
  whole_lines (lines {f = g} d) {f = f} q =
      let u : g ≡ f = cc in subst (λ (k : ℕ). (lines_at s k).ending ≡ done_at (lines_end s k)) u d

  -- room for r records from first on and for l lines
  abbrev Room : ℕ → ℕ → ℕ → TreeHead → Type 0
  Room first r l t = (4 * first + 4 * body_records (head_body s t) ≤ r) × (6 * body_lines (head_body s t) ≤ l)

  pub room_by : (first r l : ℕ) {t u : TreeHead} → t ≡ u → Room first r l t → Room first r l u
  room_by first r l e p = subst (Room first r l) e p

  -- ---- what a tree's body gives, by its head

  module _ (questions : List ℕ) (n first : ℕ) (records : List ℕ) (work : List ℤ) where
    pub by_head : {t u : TreeHead} {r : TreeFill} {records₁ : List ℕ} {work₁ : List ℤ} → t ≡ u → BodyFilled s questions n u first records work r records₁ work₁ → BodyFilled s questions n t first records work r records₁ work₁
    by_head {r = r} {records₁ = records₁} {work₁ = work₁} e p = subst (λ t. BodyFilled s questions n t first records work r records₁ work₁) (sym e) p

    pub empty_head : {t : TreeHead} {x : ℤ} {e : ℕ} → t ≡ Empty x e → BodyFilled s questions n t first records work (record { filled = filled 0 0; next = e }) records work
    unfolding line_words
    empty_head q = by_head q (refl, refl, refl, refl)

    pub no_head : {t : TreeHead} → t ≡ NoTree → BodyFilled s questions n t first records work (record { filled = filled 0 0; next = 0 }) records work
    unfolding line_words
    no_head q = by_head q (refl, refl, refl, refl)
