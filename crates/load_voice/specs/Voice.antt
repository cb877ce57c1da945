-- The models of a voice in order, by its record, and the text of each, or why it has none, in 01's order: 16 for the record, 13, 14, 15, 16, 17, 18.
use Rattle.std.specs.Prelude.{cond, List, [], ◌∷◌, ℕ, zero, suc, ◌+◌, ◌≤◌, ◌<◌, ltb, length, take, Err, None, Ok, Some, Option, Result}
use Rattle.error.specs.declared.Refusal.TheVariants as refusal
use Rattle.head_record.specs.declared.Header.{Header}
use Rattle.load_choose.specs.Chosen.{text_chosen, uses_gv}
use Rattle.load_range.specs.Ranges.{within_of}
use Rattle.load_choose.specs.declared.Which.{Which}
use Rattle.load_choose.specs.declared.Which.TheVariants.{Duration, Stream, Gv}
use Rattle.load_plan.specs.Plans.{text_of, data_of}
use Rattle.load_range.specs.declared.Bounds.{Bounds}
use Rattle.load_choose.specs.declared.Chosen.{Chosen}
use Rattle.error.specs.declared.Refusal.{Refusal}
use Rattle.load_plan.specs.declared.Text.{Text}
use Rattle.load_voice.specs.declared.VoiceText.{VoiceText}

-- a text from a up to e, with n trees from f on
abbrev pub text_as : ℕ → ℕ → ℕ → ℕ → Result VoiceText Refusal
text_as a e f n = Ok (record { text = a; text_end = e; first = f; trees = n })

-- ---- the models

-- stream i, if there is one
unfoldable pub next_stream : Header → ℕ → Option Which
next_stream h i = cond (ltb i h.global.stream_type_count) (Some (Stream i)) None

-- a stream's GV where it uses one, else the next stream
abbrev pub next_model : List ℕ → Header → Which → Option Which
next_model s h Duration = next_stream h 0
next_model s h (Stream i) = cond (uses_gv s h i) (Some (Gv i)) (next_stream h (i + 1))
next_model s h (Gv i) = next_stream h (i + 1)

-- a model is of a name that STREAM_TYPE has
abbrev pub InTypes : Header → Which → Type 0
InTypes h Duration = 0 ≤ 0
InTypes h (Stream i) = i < h.global.stream_type_count
InTypes h (Gv i) = i < h.global.stream_type_count

-- the models behind one, at most so many
unfoldable pub models_after : ℕ → List ℕ → Header → Option Which → List Which
models_after zero s h e = []
models_after (suc n) s h None = []
models_after (suc n) s h (Some w) = w ∷ models_after n s h (next_model s h w)

-- all: duration, and for each of at most 8 names a stream and its GV
abbrev pub models_of : List ℕ → Header → List Which
models_of s h = models_after 17 s h (Some Duration)

-- ---- the text of a model

abbrev pub text_by : ℕ → ℕ → Result Text Refusal → Result VoiceText Refusal
text_by a e (Ok t) = text_as a e t.first t.trees
text_by a e (Err z) = Err z

abbrev pub text_within : List ℕ → Option Bounds → Result VoiceText Refusal
text_within d (Some b) = text_by b.start b.end (text_of (take b.end d) b.start)
text_within d None = Err refusal.Range

unfoldable pub text_in : List ℕ → ℕ → ℕ → Result VoiceText Refusal
text_in d u v = text_within d (within_of u v (length d))

abbrev pub text_for : List ℕ → Result Chosen Refusal → Result VoiceText Refusal
text_for d (Ok m) = text_in d m.tree_from m.tree_to
text_for d (Err z) = Err z

unfoldable pub voice_text : List ℕ → Header → Which → Result VoiceText Refusal
voice_text s h w = text_for (data_of s h) (text_chosen s h w)
