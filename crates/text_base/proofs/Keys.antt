-- Two tests that are the same at each of some bytes, and a test that goes by the class: antt computes them over the bytes at hand.
use Rattle.std.proofs.Common.{◌≡◌, ℕ, ◌+◌, ◌<◌, ◌≤◌, Bool, true, false, sym, refl, ap, ◌∙◌, arith}
use Rattle.laws.proofs.Ranges.{all, at}
use Rattle.text_base.specs.Classes.{class_of}
use Rattle.text_base.specs.declared.Class.{Class}

-- ---- two tests, computed over a range

abbrev pub agree : Bool → Bool → Bool
agree true b = b
agree false true = false
agree false false = true

agreed : (a b : Bool) → agree a b ≡ true → a ≡ b
agreed true b e = sym e
agreed false true e = e
agreed false false e = refl

-- f and g are the same at lo and the n - 1 numbers after it
pub same_at : (f g : ℕ → Bool) (n lo : ℕ) → all (λ b. agree (f b) (g b)) n lo ≡ true → (b : ℕ) → lo ≤ b → b < lo + n → f b ≡ g b
same_at f g n lo h b l u = agreed (f b) (g b) (at (λ b. agree (f b) (g b)) n lo h b l u)

-- ---- a test that goes by the class

-- f is g of the class, at each byte
abbrev pub by_class : (ℕ → Bool) → (ℕ → Class → Bool) → ℕ → Bool
by_class f g b = agree (f b) (g b (class_of b))

pub told : (f : ℕ → Bool) (g : ℕ → Class → Bool) (b : ℕ) → all (by_class f g) 256 0 ≡ true → b < 256 → {x k : Class} → x ≡ k → x ≡ class_of b → g b k ≡ f b
told f g b e h p q = ap (g b) (sym p ∙ q) ∙ sym (same_at f (λ b. g b (class_of b)) 256 0 e b (omega arith) (omega arith))
