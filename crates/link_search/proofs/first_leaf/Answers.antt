-- `link_search::first_leaf`: what stands where the leaves are parted.
use mathlib.Core.Path.{sym}
use native.Mathlib.Omega.{arith}
use Rattle.link_search.proofs.First.{ascend_falls, first_found, first_other}
use Rattle.link_search.proofs.first_leaf.Goals as goal

pub before_leaf-before-requires : goal.before_leaf-before-requires
before_leaf-before-requires c = ascend_falls _ c.requires (λ i. (c.shared_slice_known-1.given i).fits) _

pub returns-then-leaves-before : goal.returns-then-leaves-before
returns-then-leaves-before c = sym (first_found _ c.requires (λ i. (c.shared_slice_known-1.given i).fits) _ _ c.before_leaf-before.ensures c.if-before-leaves.true c.if-leaves-before.true)

pub returns-else-leaves-before : goal.returns-else-leaves-before
returns-else-leaves-before c = sym (first_other _ c.requires (λ i. (c.shared_slice_known-1.given i).fits) _ _ c.before_leaf-before.ensures (λ h q. c.if-leaves-before.false q))

pub returns-else-before-leaves : goal.returns-else-before-leaves
returns-else-before-leaves c = sym (first_other _ c.requires (λ i. (c.shared_slice_known-1.given i).fits) _ _ c.before_leaf-before.ensures (λ h q. omega (arith, c.if-before-leaves.false)))
