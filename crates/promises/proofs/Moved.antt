-- What holds of what things are equal to holds of the things.
use mathlib.Core.Path.{◌≡◌, sym, subst}

module _ {A B : Type 0} (P : A → B → Type 0) where
  pub moved₂ : {a a' : A} {b b' : B} → a ≡ a' → b ≡ b' → P a' b' → P a b
  moved₂ {a} {a'} {b} {b'} p q x = subst (λ (y : A). P y b) (sym p) (subst (P a') (sym q) x)

module _ {A B C : Type 0} (P : A → B → C → Type 0) where
  pub moved₃ : {a a' : A} {b b' : B} {c c' : C} → a ≡ a' → b ≡ b' → c ≡ c' → P a' b' c' → P a b c
  moved₃ {a} {a'} {b} {b'} {c} {c'} p q r x = subst (λ (y : A). P y b c) (sym p) (moved₂ (P a') q r x)

module _ {A B C D : Type 0} (P : A → B → C → D → Type 0) where
  pub moved₄ : {a a' : A} {b b' : B} {c c' : C} {d d' : D} → a ≡ a' → b ≡ b' → c ≡ c' → d ≡ d' → P a' b' c' d' → P a b c d
  moved₄ {a} {a'} {b} {b'} {c} {c'} {d} {d'} p q r s x = subst (λ (y : A). P y b c d) (sym p) (moved₃ (P a') q r s x)

module _ {A B C D E : Type 0} (P : A → B → C → D → E → Type 0) where
  pub moved₅ : {a a' : A} {b b' : B} {c c' : C} {d d' : D} {e e' : E} → a ≡ a' → b ≡ b' → c ≡ c' → d ≡ d' → e ≡ e' → P a' b' c' d' e' → P a b c d e
  moved₅ {a} {a'} {b} {b'} {c} {c'} {d} {d'} {e} {e'} p q r s t x = subst (λ (y : A). P y b c d e) (sym p) (moved₄ (P a') q r s t x)
