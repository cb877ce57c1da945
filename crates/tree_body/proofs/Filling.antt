-- What a pass that reads in order knows at each answer of this crate's readers: what is read of trees from there on.
use mathlib.Core.Path.{◌≡◌, sym, ap, ◌∙◌}
use mathlib.Core.List.{List, [], ◌∷◌}
use Prim.Native.Nat.{ℕ}
use lib.IntN.{ℤ}
use lib.ListN.{length}
use Rattle.laws.specs.Steps.{done_at, broken_at, read_of}
use Rattle.laws.proofs.Steps.{read_is}
use Rattle.laws.proofs.Parted.{onward}
use Rattle.tree_reference.specs.declared.TreeIndex.{TreeIndex}
use Rattle.tree_line.specs.Lines.{lines_at}
use Rattle.tree_body.specs.Trees.{Body, lone, braces, Tree, head_at, after_tree, tree_followed, tree_read, tree_headed, tree_step_at, trees_at}
use Rattle.tree_body.specs.declared.TreeHead.TheVariants as head
use Rattle.tree_body.specs.declared.TreeStep.TheVariants as after
use Rattle.tree_body.proofs.Joined.{reads}

abbrev pub tree_at : ℕ → ℤ → Body → Tree
tree_at i x t = record { star = i; state = x; body = t }

module _ (s : List ℕ) where
  pub trees_are : (i : ℕ) → trees_at s i ≡ read_of (trees_at s) (tree_step_at s i)
  unfolding trees_at
  trees_are i = read_is (tree_step_at s) (length s) (onward (reads s)) i

  -- ---- the tree at i, by its head; it ends at e

  -- its body is read, up to e
  pub record Grown (i e : ℕ) (t : Tree) : Type 0 where
    pub steps : tree_step_at s i ≡ tree_followed s t (after_tree s e)

  pub grown_lone : (i : ℕ) {x : ℤ} {r : TreeIndex} {e : ℕ} → head.Lone x r e ≡ head_at s i → Grown i e (tree_at i x (lone r))
  unfolding tree_step_at
  grown_lone i h = record { steps = ap (tree_headed s i) (sym h) }

  pub grown-empty : (i : ℕ) {x : ℤ} {e : ℕ} → head.Empty x e ≡ head_at s i → Grown i e (tree_at i x (braces []))
  unfolding tree_step_at
  grown-empty i h = record { steps = ap (tree_headed s i) (sym h) }

  pub grown_lines : (i : ℕ) {x : ℤ} {f e : ℕ} → head.Lines x f ≡ head_at s i → (lines_at s f).ending ≡ done_at e → Grown i e (tree_at i x (braces (lines_at s f).items))
  unfolding tree_step_at
  grown_lines i {x} {f} h d = record { steps = ap (tree_headed s i) (sym h) ∙ ap (tree_read s i x (lines_at s f).items) d }

  -- ---- the trees from i on

  module _ {i e : ℕ} {t : Tree} (g : Grown i e t) where
    pub trees_next : {j : ℕ} → after.Next j ≡ after_tree s e → trees_at s i ≡ record { items = t ∷ (trees_at s j).items; ending = (trees_at s j).ending }
    trees_next a = trees_are i ∙ ap (read_of (trees_at s)) (g.steps ∙ ap (tree_followed s t) (sym a))

    pub trees_last : after.End ≡ after_tree s e → trees_at s i ≡ record { items = t ∷ []; ending = done_at (length s) }
    trees_last a = trees_are i ∙ ap (read_of (trees_at s)) (g.steps ∙ ap (tree_followed s t) (sym a))

    pub trees_other : {j : ℕ} → after.Broken j ≡ after_tree s e → trees_at s i ≡ record { items = []; ending = broken_at j }
    trees_other a = trees_are i ∙ ap (read_of (trees_at s)) (g.steps ∙ ap (tree_followed s t) (sym a))

  pub trees_stopped : (i : ℕ) {x : ℤ} {f e : ℕ} → head.Lines x f ≡ head_at s i → (lines_at s f).ending ≡ broken_at e → trees_at s i ≡ record { items = []; ending = broken_at i }
  unfolding tree_step_at
  trees_stopped i {x} {f} h d = trees_are i ∙ ap (read_of (trees_at s)) (ap (tree_headed s i) (sym h) ∙ ap (tree_read s i x (lines_at s f).items) d)

  pub trees_broken : (i : ℕ) → head.NoTree ≡ head_at s i → trees_at s i ≡ record { items = []; ending = broken_at i }
  unfolding tree_step_at
  trees_broken i h = trees_are i ∙ ap (λ t. read_of (trees_at s) (tree_headed s i t)) (sym h)
