-- A test on the trees of a text, tree by tree; on the lines of a tree, line by line.
use mathlib.Core.Path.{◌≡◌, sym, ap, ◌∙◌}
use mathlib.Core.Bool.{Bool, true, false, ◌&&◌, and-true}
use mathlib.Core.List.{List, [], ◌∷◌}
use Prim.Native.Nat.{ℕ, suc, ◌+◌}
use native.Mathlib.Numerals.{add-one}
use native.Mathlib.Omega.{arith}
use lib.ListN.{length}
use Rattle.laws.specs.Steps.{Step, next, last, broken, Reading, read_of}
use Rattle.tree_line.specs.declared.Line.{Line}
use Rattle.tree_body.specs.Trees.{Body, Tree, head_at, after_tree, tree_followed, tree_step_at, trees_at}
use Rattle.tree_body.specs.declared.TreeStep.{TreeStep}
use Rattle.tree_body.specs.declared.TreeStep.TheVariants as after
use Rattle.tree_body.proofs.Filling.{trees_are}
use Rattle.tree_survey.specs.Survey.{tree_surveyed}
use Rattle.tree_survey.specs.declared.TreeSurvey.TheVariants as surveyed
use Rattle.tree_survey.proofs.Counting.{seen_next, seen_last, seen_broken}
use Rattle.load_trees.specs.Trees.{head_body, head_end}
use Rattle.load_trees.proofs.Loop.{stands}
use Rattle.house_text.specs.Text.{bodies_hold, line_fits, lines_fit}

module _ (s : List ℕ) where
  same_tree : (i : ℕ) {t : Tree} (d : Step Tree) → tree_step_at s i ≡ d → ((j : ℕ) → ¬ (d ≡ broken j)) → ((u : Tree) (a : TreeStep) → d ≡ tree_followed s u a → u ≡ t) → t.body ≡ head_body s (head_at s i)
  same_tree i d e z only =
      let w = stands s i (λ j q. z j (sym e ∙ q)) in
      sym (ap (λ (x : Tree). x.body) (only w.0 (after_tree s (head_end s (head_at s i))) (sym e ∙ w.1.follows))) ∙ w.1.body

  body_next : (i : ℕ) {j : ℕ} {t : Tree} → tree_step_at s i ≡ next t j → t.body ≡ head_body s (head_at s i)
  body_next i {j} {t} e = same_tree i (next t j) e (λ k q. let z : ◌≡◌ {A = ℕ} 0 1 = cc in omega arith) only
    where
      only : (u : Tree) (a : TreeStep) → next t j ≡ tree_followed s u a → u ≡ t
      only u (after.Next k) q = let z : u ≡ t = cc in z
      only u after.End q = let z : ◌≡◌ {A = ℕ} 0 1 = cc in absurd (omega arith)
      only u (after.Broken k) q = let z : ◌≡◌ {A = ℕ} 0 1 = cc in absurd (omega arith)

  body_last : (i : ℕ) {j : ℕ} {t : Tree} → tree_step_at s i ≡ last t j → t.body ≡ head_body s (head_at s i)
  body_last i {j} {t} e = same_tree i (last t j) e (λ k q. let z : ◌≡◌ {A = ℕ} 0 1 = cc in omega arith) only
    where
      only : (u : Tree) (a : TreeStep) → last t j ≡ tree_followed s u a → u ≡ t
      only u (after.Next k) q = let z : ◌≡◌ {A = ℕ} 0 1 = cc in absurd (omega arith)
      only u after.End q = let z : u ≡ t = cc in z
      only u (after.Broken k) q = let z : ◌≡◌ {A = ℕ} 0 1 = cc in absurd (omega arith)

  items_of : (i : ℕ) {d : Step Tree} → tree_step_at s i ≡ d → (trees_at s i).items ≡ (read_of (trees_at s) d).items
  items_of i e = ap (λ (r : Reading Tree). r.items) (trees_are s i ∙ ap (read_of (trees_at s)) e)

  module _ (p : ℕ → Body → Bool) where
    -- the trees that are left to be judged, the next of which is the k-th
    pub record Judging (at k i : ℕ) : Type 0 where
      pub rest : bodies_hold p k (trees_at s i).items ≡ bodies_hold p 0 (trees_at s at).items

    module _ {at k i : ℕ} (v : Judging at k i) where
      -- the tree at i, and those from j on
      one_more : {b : Bool} {m n j : ℕ} → surveyed.Next b m n j ≡ tree_surveyed (tree_step_at s i)
          → (p k (head_body s (head_at s i)) && bodies_hold p (suc k) (trees_at s j).items) ≡ bodies_hold p 0 (trees_at s at).items
      unfolding bodies_hold
      one_more {b} {m} {n} {j} h =
          let t = seen_next s i b m n j h in
          sym (ap (bodies_hold p k) (items_of i t.steps) ∙ ap (λ (x : Body). p k x && bodies_hold p (suc k) (trees_at s j).items) (body_next i t.steps)) ∙ v.rest

      pub judge_off : {b c : Bool} {m n j : ℕ} → surveyed.Next b m n j ≡ tree_surveyed (tree_step_at s i) → c ≡ p k (head_body s (head_at s i)) → c ≡ false → false ≡ bodies_hold p 0 (trees_at s at).items
      judge_off {j = j} h e f = sym (ap (λ (x : Bool). x && bodies_hold p (suc k) (trees_at s j).items) (sym e ∙ f)) ∙ one_more h

      pub judge_on : {b c : Bool} {m n j : ℕ} → surveyed.Next b m n j ≡ tree_surveyed (tree_step_at s i) → c ≡ p k (head_body s (head_at s i)) → c ≡ true → Judging at (k + 1) j
      judge_on {j = j} h e f = record { rest = ap (λ (n : ℕ). bodies_hold p n (trees_at s j).items) (add-one k) ∙ sym (ap (λ (x : Bool). x && bodies_hold p (suc k) (trees_at s j).items) (sym e ∙ f)) ∙ one_more h }

      pub judge_last : {b c : Bool} {m n : ℕ} → surveyed.Last b m n ≡ tree_surveyed (tree_step_at s i) → c ≡ p k (head_body s (head_at s i)) → c ≡ bodies_hold p 0 (trees_at s at).items
      unfolding bodies_hold
      judge_last {b} {c} {m} {n} h e =
          let t = seen_last s i b m n h in
          e ∙ sym (and-true (p k (head_body s (head_at s i)))) ∙ sym (ap (bodies_hold p k) (items_of i t.steps.1) ∙ ap (λ (x : Body). p k x && true) (body_last i t.steps.1)) ∙ v.rest

      pub judge_none : {j : ℕ} → surveyed.Broken j ≡ tree_surveyed (tree_step_at s i) → true ≡ bodies_hold p 0 (trees_at s at).items
      unfolding bodies_hold
      judge_none {j} h = sym (ap (bodies_hold p k) (items_of i (seen_broken s i j h))) ∙ v.rest

  -- how many trees are left
  pub one_left : (i : ℕ) {b : Bool} {m n j : ℕ} → surveyed.Next b m n j ≡ tree_surveyed (tree_step_at s i) → length (trees_at s i).items ≡ suc (length (trees_at s j).items)
  one_left i {b} {m} {n} {j} h = ap length (items_of i (seen_next s i b m n j h).steps)

  pub last_left : (i : ℕ) {b : Bool} {m n : ℕ} → surveyed.Last b m n ≡ tree_surveyed (tree_step_at s i) → length (trees_at s i).items ≡ 1
  last_left i {b} {m} {n} h = ap length (items_of i (seen_last s i b m n h).steps.1)

-- ---- lines

module _ (e : ℕ) {l : Line} {ls ks : List Line} {b : Bool} where
  pub lines_off : ks ≡ l ∷ ls → b ≡ line_fits e l → b ≡ false → false ≡ lines_fit e ks
  unfolding lines_fit
  lines_off q h f = sym (ap (lines_fit e) q ∙ ap (λ (x : Bool). x && lines_fit e ls) (sym h ∙ f))

  pub lines_on : ks ≡ l ∷ ls → b ≡ line_fits e l → b ≡ true → lines_fit e ls ≡ lines_fit e ks
  unfolding lines_fit
  lines_on q h f = sym (ap (lines_fit e) q ∙ ap (λ (x : Bool). x && lines_fit e ls) (sym h ∙ f))

module _ (e : ℕ) {l : Line} {ks : List Line} {b : Bool} where
  pub lines_last : ks ≡ l ∷ [] → b ≡ line_fits e l → b ≡ lines_fit e ks
  unfolding lines_fit
  lines_last q h = h ∙ sym (and-true (line_fits e l)) ∙ sym (ap (lines_fit e) q)

pub lines_none : (e : ℕ) {ks : List Line} → ks ≡ [] → true ≡ lines_fit e ks
unfolding lines_fit
lines_none e q = sym (ap (lines_fit e) q)
