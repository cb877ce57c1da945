-- Values that are finite or above zero, and models that break a rule of the house or none.
use mathlib.Core.Path.{◌≡◌, refl, sym, ap, ◌∙◌, subst}
use mathlib.Core.List.{List, [], ◌∷◌}
use Prim.Native.Nat.{ℕ, ◌+◌, ◌*◌, ◌≤◌, ◌<◌}
use native.Mathlib.Omega.{arith}
use lib.ListN.{length}
use lib.IntN.{pos}
use Rattle.written.specs.Blocks as block
use Rattle.written.specs.Said.{Ref, pdf, Body, lone, braces, Tree}
use Rattle.written.specs.Linking.{Nth, here, there}
use Rattle.written.specs.Writing.{Numbered}
use Rattle.written.specs.Loading.{ModelSaid}
use Rattle.written.specs.House.{IdsRun, Leaf, Finite, AboveZero, Ids, Names, Leaves, Means, Variances, HouseModel, ModelBreaks}
use Rattle.written.proofs.Walk.{no_row}
use Rattle.written_house.proofs.Housed.{infinity, finite_below, below_finite, above_zero_below, below_above_zero}

-- ---- means and variances

one : AboveZero 0x3FF0_0000_0000_0000
one = below_above_zero 0x3FF0_0000_0000_0000 (omega arith) (omega arith)

-- the least number above zero
least : AboveZero 1
least = below_above_zero 1 (omega arith) (omega arith)

no_zero : ¬ AboveZero 0
no_zero a = omega (arith, (above_zero_below 0 a).0)

no_minus_zero : ¬ AboveZero 0x8000_0000_0000_0000
no_minus_zero a = omega (arith, (above_zero_below 0x8000_0000_0000_0000 a).1)

no_minus_one : ¬ AboveZero 0xBFF0_0000_0000_0000
no_minus_one a = omega (arith, (above_zero_below 0xBFF0_0000_0000_0000 a).1)

no_nan : ¬ Finite 0x7FF8_0000_0000_0000
no_nan a = omega (arith, finite_below 0x7FF8_0000_0000_0000 a)

no_minus_infinity : ¬ Finite 0xFFF0_0000_0000_0000
no_minus_infinity a = omega (arith, finite_below 0xFFF0_0000_0000_0000 a)

minus_one : Finite 0xBFF0_0000_0000_0000
minus_one = below_finite 0xBFF0_0000_0000_0000 (omega arith)

-- ---- models: one tree with one entry of width 3: mean, variance and an msd that is a NaN

abbrev model : Body → ℕ → ℕ → ModelSaid
model b m v =
    record {
      text = record { questions = record { name = 65 ∷ []; patterns = [] } ∷ []; trees = record { state = pos 2; body = b } ∷ [] };
      rows = record { first = 0; entries = 1 } ∷ [];
      width = 3;
      values = m ∷ v ∷ 0x7FF8_0000_0000_0000 ∷ [];
    }

abbrev unit : ℕ
unit = 0x3FF0_0000_0000_0000

only : {A : Type 0} {x y : A} {k : ℕ} → Nth (x ∷ []) k y → (x ≡ y) × (k ≡ 0)
only here = (refl, refl)
only (there n) = absurd (no_row n)

inside : {l : List ℕ} {k v : ℕ} → Nth l k v → k < length l
inside here = omega arith
inside (there n) = omega (arith, inside n)

first : {a v : ℕ} {l : List ℕ} → Nth (a ∷ l) 0 v → a ≡ v
first here = refl

second : {a b v : ℕ} {l : List ℕ} → Nth (a ∷ b ∷ l) 1 v → b ≡ v
second (there here) = refl

-- {*}[2]p_n
module _ (n m v : ℕ) where
  lone_ids : Ids (model (lone (pdf n)) m v)
  lone_ids k t h = subst (λ (x : Tree). IdsRun x.body) (only h).0 IdsRun.alone

  names : Names (model (lone (pdf n)) m v)
  names i j x y p q e = (only p).1 ∙ sym (only q).1

  leaf_is : {r : Ref} {j : ℕ} → Leaf (lone r) j → r ≡ pdf j
  leaf_is Leaf.alone = refl

  leaves : 1 ≤ n → n ≤ 1 → Leaves (model (lone (pdf n)) m v)
  leaves a b k j t r h g l =
      let e : pdf n ≡ pdf j = leaf_is (subst (λ (x : Tree). Leaf x.body j) (sym (only h).0) l) in
      let f : n ≡ j = cc in
      let c : 1 ≡ r.entries = ap (λ (x : block.Row). x.entries) (only g).0 in
      (omega arith, omega (arith, c))

  means : Finite m → Means (model (lone (pdf n)) m v)
  means f i k x l h =
      let z = inside h in
      let c : k ≡ 0 = omega arith in
      let d : i ≡ 0 = omega arith in
      let e : i * 3 + 2 * k ≡ 0 = omega arith in
      subst Finite (first (subst (λ (j : ℕ). Nth (m ∷ v ∷ 0x7FF8_0000_0000_0000 ∷ []) j x) e h)) f

  variances : AboveZero v → Variances (model (lone (pdf n)) m v)
  variances f i k x l h =
      let z = inside h in
      let c : k ≡ 0 = omega arith in
      let d : i ≡ 0 = omega arith in
      let e : i * 3 + 2 * k + 1 ≡ 1 = omega arith in
      subst AboveZero (second (subst (λ (j : ℕ). Nth (m ∷ v ∷ 0x7FF8_0000_0000_0000 ∷ []) j x) e h)) f

good : HouseModel (model (lone (pdf 1)) unit unit)
good = record { ids = lone_ids 1 unit unit; names = names 1 unit unit; leaves = leaves 1 unit unit (omega arith) (omega arith); means = means 1 unit unit (below_finite unit (omega arith)); variances = variances 1 unit unit one }

-- a leaf 0
leaf-zero : ModelBreaks (model (lone (pdf 0)) unit unit) 34
leaf-zero = ModelBreaks.leaves (lone_ids 0 unit unit) (names 0 unit unit) (λ f. omega (arith, (f 0 0 _ _ here here Leaf.alone).0))

-- a leaf 2 where there is one entry
leaf_past : ModelBreaks (model (lone (pdf 2)) unit unit) 34
leaf_past = ModelBreaks.leaves (lone_ids 2 unit unit) (names 2 unit unit) (λ f. omega (arith, (f 0 2 _ _ here here Leaf.alone).1))

-- a mean that is infinite comes before a variance of 0
mean_infinite : ModelBreaks (model (lone (pdf 1)) infinity 0) 35
mean_infinite =
    ModelBreaks.means (lone_ids 1 infinity 0) (names 1 infinity 0) (leaves 1 infinity 0 (omega arith) (omega arith))
    (λ f. omega (arith, finite_below infinity (f 0 0 infinity (omega arith) here)))

variance_zero : ModelBreaks (model (lone (pdf 1)) unit 0) 36
variance_zero =
    ModelBreaks.variances (lone_ids 1 unit 0) (names 1 unit 0) (leaves 1 unit 0 (omega arith) (omega arith)) (means 1 unit 0 (below_finite unit (omega arith)))
    (λ f. omega (arith, (above_zero_below 0 (f 0 0 0 (omega arith) (there here))).0))

-- {*}[2]{ 5 A p_1 p_1 } bears an id, though its tree is a bare leaf
abbrev five : Body
five = braces (record { id = pos 5; question = 65 ∷ []; no = pdf 1; yes = pdf 1 } ∷ [])

wrong_id : ModelBreaks (model five unit unit) 32
wrong_id = ModelBreaks.ids (λ f. bad (f 0 _ here))
  where
    bad : IdsRun five → ⊥
    bad (IdsRun.lines (Numbered.more e n)) = let z : ◌≡◌ {A = ℕ} 5 0 = cc in omega arith
