-- The four numbers of a record: one is stored, the others stay; and for how many of the first n one is 0.
use mathlib.Core.Path.{◌≡◌, refl, sym, ap, ap₂, ◌∙◌}
use mathlib.Core.Bool.{Bool, true, false, cond}
use mathlib.Core.List.{List}
use Prim.Native.Nat.{ℕ, zero, suc, ◌+◌, ◌*◌, ◌<◌}
use native.Mathlib.Decide.{ℕ_discrete}
use native.Mathlib.Omega.{arith}
use borrow.Author.Tests.{eq-eqb, ne_eqb}
use lib.Dec.{eqb}
use lib.IntN.{ℤ, pos}
use lib.ListN.{length, get_or, set, replicate, get_or-replicate}
use lib.Seq.{get_or-set_same, get_or-set_other}
use Rattle.text_parts.specs.Parts.{nat_of}
use Rattle.walk_reach.specs.Work.{slot_at, zeros}

-- ---- one number of one record

pub slot_same : (p : ℕ) (w : List ℤ) (i v : ℕ) → 4 * i + p < length w → slot_at p (set w (4 * i + p) (pos v)) i ≡ v
slot_same p w i v h = ap nat_of (get_or-set_same w (4 * i + p) (pos v) (pos 0) h)

pub slot_other : (p q : ℕ) (w : List ℤ) (i j v : ℕ) → (4 * j + q ≡ 4 * i + p → ⊥) → slot_at q (set w (4 * i + p) (pos v)) j ≡ slot_at q w j
slot_other p q w i j v h = ap nat_of (get_or-set_other w (4 * i + p) (4 * j + q) (pos v) (pos 0) h)

-- in work that is zero, inside it
pub slot_zero : (p : ℕ) (w : List ℤ) (i : ℕ) → w ≡ replicate (length w) (pos 0) → 4 * i + p < length w → slot_at p w i ≡ 0
slot_zero p w i e h = ap nat_of (ap (λ (l : List ℤ). get_or l (4 * i + p) (pos 0)) e ∙ get_or-replicate (length w) (4 * i + p) (pos 0) (pos 0) h)

-- ---- how many are 0

pub zeros_same : (f g : ℕ → ℕ) (n : ℕ) → ((j : ℕ) → j < n → g j ≡ f j) → zeros g n ≡ zeros f n
unfolding zeros
zeros_same f g zero h = refl
zeros_same f g (suc n) h = ap₂ (λ (a b : ℕ). cond (eqb a 0) 1 0 + b) (h n (omega arith)) (zeros_same f g n (λ j l. h j (omega arith)))

-- one that was 0 is not any more
pub zeros_fewer : (f g : ℕ → ℕ) (n i : ℕ) → i < n → f i ≡ 0 → (g i ≡ 0 → ⊥) → ((j : ℕ) → j < n → (j ≡ i → ⊥) → g j ≡ f j) → suc (zeros g n) ≡ zeros f n
unfolding zeros
zeros_fewer f g zero i l e d h = absurd (omega arith)
zeros_fewer f g (suc n) i l e d h = go (ℕ_discrete i n) (λ m. zeros_fewer f g n i m e d (λ j k. h j (omega arith)))
  where
    go : Dec (i ≡ n) → (i < n → suc (zeros g n) ≡ zeros f n) → suc (cond (eqb (g n) 0) 1 0 + zeros g n) ≡ cond (eqb (f n) 0) 1 0 + zeros f n
    go (yes q) r =
        let x : zeros g n ≡ zeros f n = zeros_same f g n (λ j k. h j (omega arith) (λ z. omega arith)) in
        let y : eqb (g n) 0 ≡ false = ne_eqb (g n) 0 (λ z. d (ap g q ∙ z)) in
        let z : eqb (f n) 0 ≡ true = eq-eqb (f n) 0 (ap f (sym q) ∙ e) in
        let u : ◌≡◌ {A = ℕ} (cond (eqb (g n) 0) 1 0) 0 = ap (λ (b : Bool). cond b 1 0) y in
        let v : ◌≡◌ {A = ℕ} (cond (eqb (f n) 0) 1 0) 1 = ap (λ (b : Bool). cond b 1 0) z in
        omega arith
    go (no q) r =
        let x : suc (zeros g n) ≡ zeros f n = r (omega (arith, q)) in
        let y : ◌≡◌ {A = ℕ} (cond (eqb (g n) 0) 1 0) (cond (eqb (f n) 0) 1 0) = ap (λ (a : ℕ). cond (eqb a 0) 1 0) (h n (omega arith) (λ z. q (sym z))) in
        omega arith

pub zeros_all : (f : ℕ → ℕ) (n : ℕ) → ((j : ℕ) → j < n → f j ≡ 0) → zeros f n ≡ n
unfolding zeros
zeros_all f zero h = refl
zeros_all f (suc n) h =
    let x : zeros f n ≡ n = zeros_all f n (λ j l. h j (omega arith)) in
    let y : ◌≡◌ {A = ℕ} (cond (eqb (f n) 0) 1 0) 1 = ap (λ (b : Bool). cond b 1 0) (eq-eqb (f n) 0 (h n (omega arith))) in
    omega arith
