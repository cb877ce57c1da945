-- `link_search::not_above` meets its contract.
use mathlib.Core.Path.{◌≡◌, refl, sym, ap, ◌∙◌}
use mathlib.Core.Bool.{Bool, true, false, cond}
use Prim.Native.Nat.{ℕ, ◌≤◌}
use native.Mathlib.Omega.{arith}
use borrow.Author.Tests.{ltb-true, ltb-false, le-leb, lt-leb}
use lib.Dec.{leb, ltb}
use Rattle.std.specs.declared.cmp.Ordering.TheVariants.{Less, Equal, Greater}
use Rattle.std.specs.declared.cmp.Ordering.{Ordering}
use Rattle.link_order.specs.Sides.{side_of}
use Rattle.link_search.proofs.not_above.Goals as goal

-- whether the side is not above
abbrev up_to : Ordering → Bool
up_to Less = true
up_to Equal = true
up_to Greater = false

side_up : (a b : ℕ) → up_to (side_of a b) ≡ leb a b
unfolding side_of
side_up a b = go (ltb a b) refl (ltb b a) refl
  where
    go : (x : Bool) → ltb a b ≡ x → (y : Bool) → ltb b a ≡ y → up_to (cond x Less (cond y Greater Equal)) ≡ leb a b
    go true p y q = let l : a ≤ b = omega (arith, ltb-true a b p) in sym (le-leb a b l)
    go false p true q = sym (lt-leb a b (ltb-true b a q))
    go false p false q = sym (le-leb a b (ltb-false b a q))

of : {r k : Ordering} (a b : ℕ) → r ≡ side_of a b → r ≡ k → up_to k ≡ leb a b
of a b e q = ap up_to (sym q ∙ e) ∙ side_up a b

pub returns-in-Less : goal.returns-in-Less
returns-in-Less c = of _ _ c.compare_names.ensures c.in-Less.is

pub returns-in-Equal : goal.returns-in-Equal
returns-in-Equal c = of _ _ c.compare_names.ensures c.in-Equal.is

pub returns-in-Greater : goal.returns-in-Greater
returns-in-Greater c = of _ _ c.compare_names.ensures c.in-Greater.is
