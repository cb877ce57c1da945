-- What a label's answers are is said in one way: number and slice of the call are fixed by its arguments.
use mathlib.Core.Path.{◌≡◌, refl, ap, ap₂}
use mathlib.Core.List.{List, ◌∷◌, ◌++◌, Forall₂}
use Prim.Native.Nat.{ℕ}
use native.Mathlib.Omega.{arith}
use lib.ListN.{length, drop}
use Rattle.written.specs.Linking.{Row}
use Rattle.written.specs.Matching.{AnswerByte, yes_byte, no_byte, Answered, outside, short, filled}

module _ {patterns : List Row} {d label : List ℕ} where
  pub byte_once : {row : Row} {a b : ℕ} → AnswerByte patterns d label row a → AnswerByte patterns d label row b → a ≡ b
  byte_once (yes_byte y) (yes_byte z) = refl
  byte_once (yes_byte y) (no_byte n) = absurd (n y)
  byte_once (no_byte n) (yes_byte y) = absurd (n y)
  byte_once (no_byte n) (no_byte m) = refl

  bytes_once : {questions : List Row} {a b : List ℕ} → Forall₂ (AnswerByte patterns d label) questions a → Forall₂ (AnswerByte patterns d label) questions b → a ≡ b
  bytes_once Forall₂.nil Forall₂.nil = refl
  bytes_once (Forall₂.cons x xs) (Forall₂.cons y ys) = ap₂ ◌∷◌ (byte_once x y) (bytes_once xs ys)

  pub answered_once : {questions : List Row} {before a b : List ℕ} {m n : ℕ}
      → Answered patterns d label questions before m a → Answered patterns d label questions before n b → (m ≡ n) × (a ≡ b)
  answered_once (outside h f) (outside i g) = (refl, refl)
  answered_once (outside h f) (short all l) = absurd (f (all _ _ h))
  answered_once (outside h f) (filled all l bs) = absurd (f (all _ _ h))
  answered_once (short all l) (outside h f) = absurd (f (all _ _ h))
  answered_once (short all l) (short every k) = (refl, refl)
  answered_once (short all l) (filled every k bs) = absurd (omega arith)
  answered_once (filled all l bs) (outside h f) = absurd (f (all _ _ h))
  answered_once (filled all l bs) (short every k) = absurd (omega arith)
  answered_once {questions} {before} (filled all l bs) (filled every k cs) = (refl, ap (λ (x : List ℕ). x ++ drop (length questions) before) (bytes_once bs cs))
