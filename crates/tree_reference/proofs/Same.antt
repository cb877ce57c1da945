-- Two references of the text are the same exactly where `sameIndex` says so.
use mathlib.Core.Path.{◌≡◌, refl, ap}
use mathlib.Core.Bool.{true}
use Prim.Native.Nat.{ℕ}
use native.Mathlib.Omega.{arith}
use lib.IntN.{pos}
use Rattle.written.specs.Said.{Ref, node, pdf}
use Rattle.laws.proofs.Wholes.{eq-eq_z, eq_z-true}
use Rattle.tree_reference.specs.References.{index_of, same_index}

pub same_index_lem : (r : Ref) → same_index (index_of r) (index_of r) ≡ true
same_index_lem (node x) = eq-eq_z x x refl
same_index_lem (pdf n) = eq-eq_z (pos n) (pos n) refl

pub index_same : (r q : Ref) → same_index (index_of r) (index_of q) ≡ true → r ≡ q
index_same (node x) (node y) e = ap node (eq_z-true x y e)
index_same (node x) (pdf n) e = let u : ◌≡◌ {A = ℕ} 0 1 = cc in absurd (omega arith)
index_same (pdf n) (node x) e = let u : ◌≡◌ {A = ℕ} 0 1 = cc in absurd (omega arith)
index_same (pdf m) (pdf n) e = let h = eq_z-true (pos m) (pos n) e in let k : m ≡ n = cc in ap pdf k
