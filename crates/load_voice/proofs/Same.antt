-- Texts that are equal stand alike.
use mathlib.Core.Path.{◌≡◌, ap}
use Prim.Native.Nat.{ℕ}
use Rattle.std.specs.Prelude.{Result, Ok, Err}
use Rattle.error.specs.declared.Refusal.{Refusal}
use Rattle.load_voice.specs.Voice.{text_as}
use Rattle.load_voice.specs.declared.VoiceText.{VoiceText}

-- each number by itself
pub same_text : {a b c d a' b' c' d' : ℕ} → text_as a b c d ≡ text_as a' b' c' d' → (a ≡ a') × (b ≡ b') × (c ≡ c') × (d ≡ d')
same_text {a = a} {b = b} {c = c} {d = d} h =
    let e = ap held h in (
      ap (λ (r : VoiceText). r.text) e,
      ap (λ (r : VoiceText). r.text_end) e,
      ap (λ (r : VoiceText). r.first) e,
      ap (λ (r : VoiceText). r.trees) e,
    )
  where
    held : Result VoiceText Refusal → VoiceText
    held (Ok r) = r
    held (Err z) = record { text = a; text_end = b; first = c; trees = d }
