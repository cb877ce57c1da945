-- `tree_body::after_tree`: the end of the text, or an arm of `treeParted`.
use mathlib.Core.Path.{◌≡◌, sym, ap, ◌∙◌}
use mathlib.Core.List.{List}
use Prim.Native.Nat.{ℕ, ◌≤◌, ◌<◌}
use borrow.Author.Tests.{eq-eqb, ne_eqb, lt-ltb, le-ltb}
use lib.ListN.{length}
use Rattle.std.specs.Prelude.{Some, None}
use Rattle.written.specs.Bytes.{blank}
use Rattle.laws.specs.Runs.{stop}
use Rattle.text_spaces.specs.Spaces.{parting_at}
use Rattle.tree_body.specs.Trees.{tree_parted, after_tree}
use Rattle.tree_body.specs.declared.TreeStep.TheVariants.{Next, End, Broken}
use Rattle.tree_body.proofs.after_tree.Goals as goal

module _ (s : List ℕ) (e : ℕ) {p : ℕ} (blanks : p ≡ stop blank s e) where
  ended : p ≡ length s → End ≡ after_tree s e
  unfolding after_tree
  ended h = rw (← blanks, eq-eqb _ _ h)

  module _ (n : p ≡ length s → ⊥) where
    on : tree_parted s p (parting_at s e) ≡ after_tree s e
    unfolding after_tree
    on = rw (← blanks, ne_eqb _ _ n)

    further : (i : ℕ) → Some i ≡ parting_at s e → i < length s → Next i ≡ after_tree s e
    further i q h = rw (lt-ltb i (length s) h) at (ap (tree_parted s p) q ∙ on)

    nothing : (i : ℕ) → Some i ≡ parting_at s e → length s ≤ i → Broken p ≡ after_tree s e
    nothing i q h = rw (le-ltb i (length s) h) at (ap (tree_parted s p) q ∙ on)

    unparted : None ≡ parting_at s e → Broken p ≡ after_tree s e
    unparted q = ap (tree_parted s p) q ∙ on

pub returns-then-end-s : goal.returns-then-end-s
returns-then-end-s c = ended _ _ c.blank_end-end.ensures c.if-end-s.true

pub returns-then-next-s : goal.returns-then-next-s
returns-then-next-s c = further _ _ c.blank_end-end.ensures c.if-end-s.false _ (sym c.in-Some.is ∙ c.past_parting.ensures) c.if-next-s.true

pub returns-else-next-s : goal.returns-else-next-s
returns-else-next-s c = nothing _ _ c.blank_end-end.ensures c.if-end-s.false _ (sym c.in-Some.is ∙ c.past_parting.ensures) c.if-next-s.false

pub returns-in-None : goal.returns-in-None
returns-in-None c = unparted _ _ c.blank_end-end.ensures c.if-end-s.false (sym c.in-None.is ∙ c.past_parting.ensures)
