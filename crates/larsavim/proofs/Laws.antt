-- How answers are written, and what a slice that is too short leaves.
use mathlib.Core.Path.{◌≡◌, sym, ap, ◌∙◌, subst}
use mathlib.Core.Bool.{Bool, cond}
use mathlib.Core.List.{List}
use Prim.Native.Nat.{ℕ, ◌≤◌, ◌<◌}
use borrow.Author.Tests.{lt-ltb, le-ltb}
use lib.ListN.{length}
use lib.Seq.{sets}
use Rattle.written.specs.Sharing.{bottom, Held, nothing}
use Rattle.load_model.specs.Load.{Tables}
use Rattle.face_model.specs.declared.Rows.{Rows}
use Rattle.face_load.specs.Answers.{LoadSaid}
use Rattle.larsavim.specs.Face.{answered, written, left}

module _ (k n : ℕ) where
  pub answer_short : (x : ℕ) → k < n → 20 ≡ answered k n x
  unfolding answered
  answer_short x h = sym (ap (λ (b : Bool). cond b 20 x) (lt-ltb k n h))

  pub answer_full : (y x : ℕ) → n ≤ k → y ≡ x → y ≡ answered k n x
  unfolding answered
  answer_full y x h e = e ∙ sym (ap (λ (b : Bool). cond b 20 x) (le-ltb k n h))

module _ (out : List ℕ) (n : ℕ) where
  pub out_short : (l : List ℕ) → length out < n → out ≡ written out n l
  unfolding written
  out_short l h = sym (ap (λ (b : Bool). cond b out (sets out 0 l)) (lt-ltb (length out) n h))

  pub out_full : (o l : List ℕ) → n ≤ length out → o ≡ sets out 0 l → o ≡ written out n l
  unfolding written
  out_full o l h e = e ∙ sym (ap (λ (b : Bool). cond b out (sets out 0 l)) (le-ltb (length out) n h))

  module _ {A : Type 0} (t u : A) where
    pub left_short : length out < n → t ≡ left out n t u
    unfolding left
    left_short h = sym (ap (λ (b : Bool). cond b t u) (lt-ltb (length out) n h))

    pub left_full : (v : A) → n ≤ length out → v ≡ u → v ≡ left out n t u
    unfolding left
    left_full v h e = e ∙ sym (ap (λ (b : Bool). cond b t u) (le-ltb (length out) n h))

  -- a call that writes its answer alone
  pub short : (x : ℕ) (l : List ℕ) → length out < n → (20 ≡ answered (length out) n x) × (out ≡ written out n l)
  short x l h = (answer_short (length out) n x h, out_short l h)

  pub full : {A : Type 0} (number : A → ℕ) (numbers : A → List ℕ) (a b : A) (o : List ℕ) → n ≤ length out → a ≡ b → o ≡ sets out 0 (numbers a)
      → (number a ≡ answered (length out) n (number b)) × (o ≡ written out n (numbers b))
  full {A} number numbers a b o h e q =
      (answer_full (length out) n (number a) (number b) h (ap number e), out_full o (numbers b) h (q ∙ ap (λ (x : A). sets out 0 (numbers x)) e))

-- bounds of nobody are nothing
pub load_alone : (s w : List ℕ) (n : ℕ) (T : Tables) {o : Held} {r : Rows} {T₁ : Tables} → o ≡ nothing → LoadSaid s w n bottom o T r T₁ → LoadSaid s w n bottom nothing T r T₁
load_alone s w n T {r = r} {T₁} e l = subst (λ (o : Held). LoadSaid s w n bottom o T r T₁) e l
