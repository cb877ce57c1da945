-- The models of a voice in a task's rows, one in place of the other, and the first rule that one breaks, by computation (02, Wish 11).
use Rattle.std.specs.Prelude.{◌≡◌, cond, List, [], ◌∷◌, ℕ, eqb, Err, Ok, Result}
use Rattle.written.specs.Sharing.{Side, Held}
use Rattle.head_record.specs.declared.Header.{Header}
use Rattle.load_choose.specs.declared.Which.{Which}
use Rattle.load_model.specs.Load.{Tables as Lent}
use Rattle.load_bounds.specs.Bounds.{held_of}
use Rattle.load_bounds.specs.declared.Held.{Held as Bounds}
use Rattle.load_voice.specs.Voice.{models_of}
use Rattle.trail_voice.specs.Voice.{which_number}
use Rattle.house_step.specs.Steps.{bounds_of, step_of}
use Rattle.house_voice.specs.declared.Broken.{Broken}
use Rattle.house_step.specs.declared.Judged.{Judged}
use Rattle.house_voice.specs.declared.ModelRefused.{ModelRefused}
use Rattle.error.specs.declared.Refusal.{Refusal}
use Rattle.house_voice.specs.declared.VoiceJudged.{VoiceJudged}

-- the first broken rule, and the bounds of the last model
abbrev pub all_judged : Broken → Bounds → Result VoiceJudged ModelRefused
all_judged b l = Ok (record { first = b; held = l })

-- the load that is refused, and its model's number
abbrev pub one_refused : Refusal → ℕ → Result VoiceJudged ModelRefused
one_refused r m = Err (record { refusal = r; model = m })

-- the answer, and what was lent after the call
pub record After : Type 0 where
  pub answer : Result VoiceJudged ModelRefused
  pub tables : Lent

abbrev pub broken : ℕ → ℕ → Broken
broken n m = record { rule = n; model = m }

-- what is known, or else rule n of model m
unfoldable pub first_of : Broken → ℕ → ℕ → Broken
first_of b n m = cond (eqb b.rule 0) (cond (eqb n 0) b (broken n m)) b

-- a model whose step answers so and leaves T, and the rest
abbrev pub voice_on : (Broken → Bounds → Lent → After) → Which → Broken → Lent → Result Judged Refusal → After
voice_on rest w b T (Ok j) = rest (first_of b j.rule (which_number w)) j.held T
voice_on rest w b T (Err z) = record { answer = one_refused z (which_number w); tables = T }

-- models one after the other, of a task with bounds l
unfoldable pub voice_from : Side → List ℕ → Header → Held → List Which → Broken → Bounds → Lent → After
voice_from x s h other [] b l T = record { answer = all_judged b l; tables = T }
voice_from x s h other (w ∷ ws) b l T =
    voice_on (voice_from x s h other ws) w b (step_of x s h w (held_of l) other T).tables (step_of x s h w (held_of l) other T).answer

-- all, of a task that holds nothing
unfoldable pub voice_of : Side → List ℕ → Header → Held → Lent → After
voice_of x s h other T = voice_from x s h other (models_of s h) (broken 0 0) (bounds_of 0 0 0 0 0) T

-- ---- the contract: r is answered, and T₁ left

abbrev pub Is : After → Result VoiceJudged ModelRefused → Lent → Type 0
Is x r T₁ = (r ≡ x.answer) × (T₁ ≡ x.tables)

abbrev pub JudgesVoice : Side → List ℕ → Header → Held → Lent → Result VoiceJudged ModelRefused → Lent → Type 0
JudgesVoice x s h other T = Is (voice_of x s h other T)
