-- `link_find::same_name`: names are the same where their keys are.
use mathlib.Core.Path.{◌≡◌, refl, sym, ap, ◌∙◌}
use mathlib.Core.Bool.{Bool, true, false, cond}
use mathlib.Core.List.{List}
use Prim.Native.Nat.{ℕ}
use native.Mathlib.Omega.{arith}
use borrow.Author.Tests.{ltb-true, ltb-false, eq-eqb, ne_eqb}
use lib.Dec.{ltb, eqb}
use Rattle.std.specs.declared.cmp.Ordering.TheVariants.{Less, Equal, Greater}
use Rattle.std.specs.declared.cmp.Ordering.{Ordering}
use Rattle.written.specs.Bytes.{same}
use Rattle.link_order.specs.Keys.{name_key}
use Rattle.link_order.specs.Sides.{side_of}
use Rattle.link_order.proofs.Names.{Small}
use Rattle.link_search.proofs.Ids.{same_name}
use Rattle.link_find.proofs.same_name.Goals as goal

abbrev level : Ordering → Bool
level Less = false
level Equal = true
level Greater = false

side_same : (a b : ℕ) → level (side_of a b) ≡ eqb a b
unfolding side_of
side_same a b = go (ltb a b) refl (ltb b a) refl
  where
    go : (x : Bool) → ltb a b ≡ x → (y : Bool) → ltb b a ≡ y → level (cond x Less (cond y Greater Equal)) ≡ eqb a b
    go true p y q = sym (ne_eqb a b (λ e. omega (arith, ltb-true a b p)))
    go false p true q = sym (ne_eqb a b (λ e. omega (arith, ltb-true b a q)))
    go false p false q = sym (eq-eqb a b (omega (arith, ltb-false a b p, ltb-false b a q)))

of : {r k : Ordering} (a b : List ℕ) → Small a → Small b → r ≡ side_of (name_key a) (name_key b) → r ≡ k → level k ≡ same a b
of a b h g e q = ap level (sym q ∙ e) ∙ side_same (name_key a) (name_key b) ∙ sym (same_name a b h g)

pub returns-in-Equal : goal.returns-in-Equal
returns-in-Equal c = of _ _ (λ k. (c.shared_slice_known-1.given k).fits) (λ k. (c.shared_slice_known-2-1.given k).fits) c.compare_names.ensures c.in-Equal.is

pub returns-in-Less : goal.returns-in-Less
returns-in-Less c = of _ _ (λ k. (c.shared_slice_known-1.given k).fits) (λ k. (c.shared_slice_known-2-1.given k).fits) c.compare_names.ensures c.in-Less.is

pub returns-in-Greater : goal.returns-in-Greater
returns-in-Greater c = of _ _ (λ k. (c.shared_slice_known-1.given k).fits) (λ k. (c.shared_slice_known-2-1.given k).fits) c.compare_names.ensures c.in-Greater.is
