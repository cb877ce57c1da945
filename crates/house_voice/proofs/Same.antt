-- Voices that are judged alike break one rule, or have one refusal.
use mathlib.Core.Path.{◌≡◌, ap}
use Prim.Native.Nat.{ℕ}
use Rattle.std.specs.Prelude.{Result, Ok, Err}
use Rattle.error.specs.declared.Refusal.{Refusal}
use Rattle.load_bounds.specs.declared.Held.{Held}
use Rattle.house_voice.specs.Voice.{all_judged, one_refused}
use Rattle.house_voice.specs.declared.Broken.{Broken}
use Rattle.house_voice.specs.declared.VoiceJudged.{VoiceJudged}
use Rattle.house_voice.specs.declared.ModelRefused.{ModelRefused}

-- rule and bounds
pub same_voice : {a a' : Broken} {b b' : Held} → all_judged a b ≡ all_judged a' b' → (a ≡ a') × (b ≡ b')
same_voice {a = a} {b = b} h =
    let e = ap held h in (
      ap (λ (r : VoiceJudged). r.first) e,
      ap (λ (r : VoiceJudged). r.held) e,
    )
  where
    held : Result VoiceJudged ModelRefused → VoiceJudged
    held (Ok r) = r
    held (Err z) = record { first = a; held = b }

-- refusal and model
pub same_voice_refused : {a a' : Refusal} {b b' : ℕ} → one_refused a b ≡ one_refused a' b' → (a ≡ a') × (b ≡ b')
same_voice_refused {a = a} {b = b} h =
    let e = ap held h in (
      ap (λ (r : ModelRefused). r.refusal) e,
      ap (λ (r : ModelRefused). r.model) e,
    )
  where
    held : Result VoiceJudged ModelRefused → ModelRefused
    held (Err r) = r
    held (Ok z) = record { refusal = a; model = b }
