-- The text of a model, stage by stage; the model behind a stream, by whether it uses a GV.
use mathlib.Core.Path.{◌≡◌, sym, ap, ◌∙◌}
use mathlib.Core.Bool.{true, false, cond, Bool}
use mathlib.Core.List.{List}
use Prim.Native.Nat.{ℕ, ◌+◌}
use lib.ListN.{length, take}
use Rattle.error.specs.declared.Refusal.{Refusal}
use Rattle.error.specs.declared.Refusal.TheVariants as refusal
use Rattle.head_record.specs.declared.Header.{Header}
use Rattle.load_choose.specs.Chosen.{chosen, text_chosen, uses_gv}
use Rattle.load_range.specs.Ranges.{bounds, within_of}
use Rattle.load_choose.specs.declared.Which.{Which}
use Rattle.load_choose.specs.declared.Which.TheVariants.{Stream, Gv}
use Rattle.load_plan.specs.Plans.{text_of, data_of}
use Rattle.load_voice.specs.Voice.{next_stream, next_model, text_by, text_within, text_in, text_for, voice_text}
use Rattle.load_plan.specs.declared.Text.{Text}
use Rattle.load_voice.specs.declared.VoiceText.{VoiceText}
use Rattle.std.specs.Prelude.{Err, None, Some, Result}

module _ (s : List ℕ) (h : Header) (i : ℕ) where
  pub uses : uses_gv s h i ≡ true → Some (Gv i) ≡ next_model s h (Stream i)
  uses e = sym (ap (λ (b : Bool). cond b (Some (Gv i)) (next_stream h (i + 1))) e)

  pub uses_none : uses_gv s h i ≡ false → next_stream h (i + 1) ≡ next_model s h (Stream i)
  uses_none e = sym (ap (λ (b : Bool). cond b (Some (Gv i)) (next_stream h (i + 1))) e)

module _ (d : List ℕ) (u v : ℕ) where
  pub text_outside : None ≡ within_of u v (length d) → Err refusal.Range ≡ text_in d u v
  unfolding text_in
  text_outside e = ap (text_within d) e

  pub text_inside : {a e : ℕ} {c : List ℕ} {t : Result Text Refusal} {r : Result VoiceText Refusal} → bounds a e ≡ within_of u v (length d) → c ≡ take e d → t ≡ text_of c a → r ≡ text_by a e t → r ≡ text_in d u v
  unfolding text_in
  text_inside {a} {e} i j k r = r ∙ ap (text_by a e) (k ∙ ap (λ (x : List ℕ). text_of x a) j) ∙ ap (text_within d) i

module _ (s : List ℕ) (h : Header) (w : Which) where
  pub model_refused : {z : Refusal} → Err z ≡ text_chosen s h w → Err z ≡ voice_text s h w
  unfolding voice_text
  model_refused e = ap (text_for (data_of s h)) e

  pub model_in : {u v x y n : ℕ} {d : List ℕ} {r : Result VoiceText Refusal} → chosen u v x y n ≡ text_chosen s h w → d ≡ data_of s h → r ≡ text_in d u v → r ≡ voice_text s h w
  unfolding voice_text
  model_in {u} {v} e k r = r ∙ ap (λ (l : List ℕ). text_in l u v) k ∙ ap (text_for (data_of s h)) e
