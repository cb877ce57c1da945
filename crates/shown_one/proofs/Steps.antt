-- The k-th tree of a text is read where it stands: its step, and its head.
use mathlib.Core.Path.{◌≡◌, refl, sym, ap, ◌∙◌, subst}
use mathlib.Core.List.{List, [], zip_with}
use Prim.Native.Nat.{ℕ, zero, suc}
use native.Mathlib.Omega.{arith}
use lib.ListN.{length}
use Rattle.written.specs.Said as said
use Rattle.written.specs.Linking.{Nth, here, there}
use Rattle.written.proofs.Walk.{no_row}
use Rattle.laws.specs.Steps.{Ending, done_at, broken_at, Step, next, last, broken, Reading, read_of}
use Rattle.tree_line.specs.Lines.{lines_at}
use Rattle.tree_body.specs.Trees.{Tree, lone, braces, tree_of, head_at, after_tree, tree_followed, tree_read, tree_headed, tree_step_at, trees_at}
use Rattle.tree_body.specs.declared.TreeHead.{TreeHead}
use Rattle.tree_body.specs.declared.TreeHead.TheVariants as head
use Rattle.tree_body.specs.declared.TreeStep.{TreeStep}
use Rattle.tree_body.specs.declared.TreeStep.TheVariants as after
use Rattle.tree_body.proofs.Filling.{trees_are}
use Rattle.load_trees.specs.Trees.{head_end}
use Rattle.load_trees.proofs.Loop.{Facts, stands}

clash : {A : Type 0} → ◌≡◌ {A = ℕ} 0 1 → A
clash e = absurd (omega arith)

module _ (s : List ℕ) where
  -- the tree z is read at i
  pub data Stepped (i : ℕ) (z : Tree) : Type 0 where
    goes : {j : ℕ} → tree_step_at s i ≡ next z j → Stepped i z
    ends : {j : ℕ} → tree_step_at s i ≡ last z j → Stepped i z

  never : {i j : ℕ} {z : Tree} → Stepped i z → ¬ (tree_step_at s i ≡ broken j)
  never (goes e) f = let u = sym e ∙ f in clash cc
  never (ends e) f = let u = sym e ∙ f in clash cc

  only : {i : ℕ} {z x : Tree} → Stepped i z → (a : TreeStep) → tree_step_at s i ≡ tree_followed s x a → x ≡ z
  only {z = z} {x} (goes {j} e) (after.Next k) f = let u : next x k ≡ next z j = sym f ∙ e in cc
  only (goes e) after.End f = let u = sym f ∙ e in clash cc
  only (goes e) (after.Broken k) f = let u = sym f ∙ e in clash cc
  only (ends e) (after.Next k) f = let u = sym f ∙ e in clash cc
  only {z = z} {x} (ends {j} e) after.End f = let u : last x (length s) ≡ last z j = sym f ∙ e in cc
  only (ends e) (after.Broken k) f = let u = sym f ∙ e in clash cc

  -- what its head says
  pub facts_of : {i : ℕ} {z : Tree} → Stepped i z → Facts s i z
  facts_of {i} e =
      let w = stands s i (λ j. never e) in
      subst (Facts s i) (only e (after_tree s (head_end s (head_at s i))) w.1.follows) w.1

  -- it stands there
  star_is : {i : ℕ} {z : Tree} → Stepped i z → z.star ≡ i
  unfolding tree_step_at
  star_is {i} {z} e = go (head_at s i) refl
    where
      at : (x : Tree) (a : TreeStep) → tree_step_at s i ≡ tree_followed s x a → x.star ≡ i → z.star ≡ i
      at x a f g = sym (ap (λ (t : Tree). t.star) (only e a f)) ∙ g

      go : (h : TreeHead) → head_at s i ≡ h → z.star ≡ i
      go (head.Lone x r k) q = at (record { star = i; state = x; body = lone r }) (after_tree s k) (ap (tree_headed s i) q) refl
      go (head.Empty x k) q = at (record { star = i; state = x; body = braces [] }) (after_tree s k) (ap (tree_headed s i) q) refl
      go (head.Lines x f) q = read (lines_at s f).ending refl
        where
          read : (d : Ending) → (lines_at s f).ending ≡ d → z.star ≡ i
          read (done_at k) h = at (record { star = i; state = x; body = braces (lines_at s f).items }) (after_tree s k) (ap (tree_headed s i) q ∙ ap (tree_read s i x (lines_at s f).items) h) refl
          read (broken_at k) h = absurd (never e (ap (tree_headed s i) q ∙ ap (tree_read s i x (lines_at s f).items) h))
      go head.NoTree q = absurd (never e (ap (tree_headed s i) q))

  -- the first of those that are read from i on, and the others
  first : (i : ℕ) (u : Step Tree) → tree_step_at s i ≡ u → {z : Tree} → Nth (read_of (trees_at s) u).items 0 z → (j : ℕ) × Stepped j z
  first i (next x j) e here = (i, goes e)
  first i (last x j) e here = (i, ends e)
  first i (broken j) e h = absurd (no_row h)

  later : (u : Step Tree) {k : ℕ} {z : Tree} → ((j : ℕ) → Nth (trees_at s j).items k z → (i : ℕ) × Stepped i z) → Nth (read_of (trees_at s) u).items (suc k) z → (i : ℕ) × Stepped i z
  later (next x j) rest (there h) = rest j h
  later (last x j) rest (there h) = absurd (no_row h)
  later (broken j) rest h = absurd (no_row h)

  steps : (k i : ℕ) {z : Tree} → Nth (trees_at s i).items k z → (j : ℕ) × Stepped j z
  steps zero i {z} h = first i (tree_step_at s i) refl (subst (λ (l : List Tree). Nth l 0 z) (ap (λ (r : Reading Tree). r.items) (trees_are s i)) h)
  steps (suc k) i {z} h = later (tree_step_at s i) (λ j g. steps k j g) (subst (λ (l : List Tree). Nth l (suc k) z) (ap (λ (r : Reading Tree). r.items) (trees_are s i)) h)

  -- where its star is
  pub stepped : (k i : ℕ) {z : Tree} → Nth (trees_at s i).items k z → Stepped z.star z
  stepped k i {z} h = let w = steps k i h in subst (λ (j : ℕ). Stepped j z) (sym (star_is w.1)) w.1

-- of the trees that a text says, laid out so
pub nth_trees : {ts : List said.Tree} {us : List said.TreePlace} {k : ℕ} {x : said.Tree} {y : said.TreePlace} → Nth ts k x → Nth us k y → Nth (zip_with tree_of ts us) k (tree_of x y)
unfolding zip_with
nth_trees here here = here
nth_trees (there a) (there b) = there (nth_trees a b)
