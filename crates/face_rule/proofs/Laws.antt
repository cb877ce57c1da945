-- The rules on the whole voice come first.
use mathlib.Core.Path.{◌≡◌, sym, ap}
use mathlib.Core.Bool.{Bool, cond}
use Prim.Native.Nat.{ℕ}
use borrow.Author.Tests.{ne_eqb, eq-eqb}
use Rattle.house_voice.specs.declared.Broken.{Broken}
use Rattle.face_rule.specs.Answers.{house, ruled_by}

pub ruled_type : (n : ℕ) (b : Broken) → ¬ (n ≡ 0) → house n 0 0 0 ≡ ruled_by n b
ruled_type n b h = sym (ap (λ (c : Bool). cond c (house b.rule 0 0 b.model) (house n 0 0 0)) (ne_eqb n 0 h))

pub ruled_model : (n : ℕ) (b : Broken) → n ≡ 0 → house b.rule 0 0 b.model ≡ ruled_by n b
ruled_model n b h = sym (ap (λ (c : Bool). cond c (house b.rule 0 0 b.model) (house n 0 0 0)) (eq-eqb n 0 h))
