-- The rows of a voice: of each of its models the rows of the trees of its text; and how many trees there are, or the first refusal.
use Rattle.std.specs.Prelude.{Bool, true, false, List, [], ◌∷◌, ◌++◌, ℕ, ◌+◌, ◌*◌, take, Err, None, Ok, Some, Option, Result}
use Rattle.head_record.specs.declared.Header.{Header}
use Rattle.tree_body.specs.Trees.{trees_at}
use Rattle.load_choose.specs.declared.Which.{Which}
use Rattle.load_choose.specs.declared.Which.TheVariants.{Duration, Stream, Gv}
use Rattle.load_plan.specs.Plans.{data_of}
use Rattle.load_voice.specs.Voice.{voice_text}
use Rattle.trail_rows.specs.Rows.{rows_of}
use Rattle.error.specs.declared.Refusal.{Refusal}
use Rattle.load_voice.specs.declared.VoiceText.{VoiceText}

-- 0 duration, 2i + 1 stream i, 2i + 2 its GV
abbrev pub which_number : Which → ℕ
which_number Duration = 0
which_number (Stream i) = 2 * i + 1
which_number (Gv i) = 2 * i + 2

-- ---- rows

-- of the data d and a model's text
abbrev pub text_rows : List ℕ → ℕ → Result VoiceText Refusal → List ℕ
text_rows d m (Ok t) = rows_of m (trees_at (take t.text_end d) t.first).items
text_rows d m (Err z) = []

unfoldable pub model_rows : List ℕ → Header → Which → List ℕ
model_rows s h w = text_rows (data_of s h) (which_number w) (voice_text s h w)

-- of models, one after the other
unfoldable pub voice_rows : List ℕ → Header → List Which → List ℕ
voice_rows s h [] = []
voice_rows s h (w ∷ ws) = model_rows s h w ++ voice_rows s h ws

-- ---- how many trees, after n; or the first text that is refused

abbrev pub trees_on : (ℕ → Result ℕ Refusal) → ℕ → Result VoiceText Refusal → Result ℕ Refusal
trees_on rest n (Ok t) = rest (n + t.trees)
trees_on rest n (Err z) = Err z

unfoldable pub voice_trees : List ℕ → Header → List Which → ℕ → Result ℕ Refusal
voice_trees s h [] n = Ok n
voice_trees s h (w ∷ ws) n = trees_on (voice_trees s h ws) n (voice_text s h w)

-- ---- compared

-- whether a model's rows stand there; k is the place behind them
abbrev pub compared_as : ℕ → Bool → Option ℕ
compared_as k true = Some k
compared_as k false = None
