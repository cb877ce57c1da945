-- The last of a list of which a test is true, or none: what is found in code is what `written` says of it.
use mathlib.Core.Path.{◌≡◌, refl, sym, ap, ◌∙◌, subst}
use mathlib.Core.Bool.{Bool, true, false, cond}
use mathlib.Core.List.{List, ◌∷◌, Forall₂}
use Prim.Native.Nat.{ℕ, suc, ◌+◌, ◌<◌}
use native.Mathlib.Omega.{arith}
use Rattle.std.specs.declared.option.Option.{Option}
use Rattle.std.specs.Prelude.{Some}
use Rattle.written.specs.Linking.{Nth, here, there, Last}
use Rattle.written.proofs.Walk.{no_row}
use Rattle.link_find.specs.Find.{last_from}

module _ {A : Type 0} {P : A → Type 0} where
  every : {y : A} {xs : List A} {m : ℕ} {x : A} → ¬ P y → ((m : ℕ) (x : A) → Nth xs m x → ¬ P x) → Nth (y ∷ xs) m x → ¬ P x
  every q f here = q
  every q f (there {x = x} {k = k} n) = f k x n

  later : {y : A} {xs : List A} {k m : ℕ} {x : A} → ((m : ℕ) (x : A) → k < m → Nth xs m x → ¬ P x) → Nth (y ∷ xs) m x → suc k < m → ¬ P x
  later f here h = absurd (omega arith)
  later f (there {x = x} {k = k} n) h = f k x (omega arith) n

  behind : {y : A} {xs : List A} {m : ℕ} {x : A} → ((m : ℕ) (x : A) → Nth xs m x → ¬ P x) → Nth (y ∷ xs) m x → 0 < m → ¬ P x
  behind f here h = absurd (omega arith)
  behind f (there {x = x} {k = k} n) h = f k x n

-- what was looked for from k on, after f was found
pub data Seeks {A : Type 0} (P : A → Type 0) (xs : List A) (k : ℕ) (f : Option ℕ) : Option ℕ → Type 0 where
  hit : (m : ℕ) → Last P xs m → Seeks P xs k f (Some (k + m))
  miss : ((m : ℕ) (x : A) → Nth xs m x → ¬ P x) → Seeks P xs k f f

module _ {A B : Type 0} (R : A → B → Type 0) (P : A → Type 0) (p : B → Bool) (to : (x : A) (y : B) → R x y → p y ≡ true → P x) (from : (x : A) (y : B) → R x y → P x → p y ≡ true) where
  pub seeks : {xs : List A} {ys : List B} → Forall₂ R xs ys → (k : ℕ) (f : Option ℕ) → Seeks P xs k f (last_from p k f ys)
  unfolding last_from
  seeks Forall₂.nil k f = miss (λ m x h. absurd (no_row h))
  seeks (Forall₂.cons {a = x} {b = y} {l₁ = xs} {l₂ = ys} h t) k f = go (p y) refl (seeks t (suc k) (cond (p y) (Some k) f))
    where
      go : (b : Bool) → p y ≡ b → {r : Option ℕ} → Seeks P xs (suc k) (cond (p y) (Some k) f) r → Seeks P (x ∷ xs) k f r
      go b e (hit m l) =
          let z : k + suc m ≡ suc k + m = omega arith in
          subst (λ (i : ℕ). Seeks P (x ∷ xs) k f (Some i)) z
          (hit (suc m) (record { at = l.at; stands = there l.stands; true_of = l.true_of; after = λ j u g n. later l.after n g }))
      go true e (miss n) =
          let z : k + 0 ≡ k = omega arith in
          subst (Seeks P (x ∷ xs) k f) (ap Some z ∙ sym (ap (λ (b : Bool). cond b (Some k) f) e))
          (hit 0 (record { at = x; stands = here; true_of = to x y h e; after = λ j u g o. behind n o g }))
      go false e (miss n) = subst (Seeks P (x ∷ xs) k f) (sym (ap (λ (b : Bool). cond b (Some k) f) e)) (miss (λ m u o. every (λ q. clash (sym e ∙ from x y h q)) n o))
        where
          clash : false ≡ true → ⊥
          clash e = let z : ◌≡◌ {A = ℕ} 0 1 = cc in omega arith
