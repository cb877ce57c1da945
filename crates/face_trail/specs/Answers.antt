-- What the calls on a trailer answer in numbers, and what they leave in the buffer (02, Wish 7; host/larsavim.h).
use Rattle.std.specs.Prelude.{Bool, cond, ◌&&◌, List, [], ◌∷◌, ◌++◌, ℕ, ◌+◌, ◌-◌, ◌*◌, ltb, eqb, length, Err, Ok, Result}
use Rattle.std.proofs.lemmas.List.Edits.{sets}
use Rattle.written.specs.Blocks.{little_endian}
use Rattle.written.specs.Trailer.{sum32, unsummed}
use Rattle.error.specs.Numbers.{number_of, place_of}
use Rattle.head_record.specs.declared.Header.{Header}
use Rattle.head_words.specs.Words.{header_at}
use Rattle.pdf_blocks.specs.Values.{word_at}
use Rattle.load_plan.specs.Plans.{data_of}
use Rattle.load_voice.specs.Voice.{models_of}
use Rattle.trail_bytes.specs.Numbers.{same_words}
use Rattle.trail_voice.specs.Voice.{voice_rows, voice_trees}
use Rattle.face_open.specs.Answers.{open_said, open_words}
use Rattle.face_record.specs.declared.Said.{Said}
use Rattle.trail_last.specs.Last.{has_room, summed_of}
use Rattle.face_trail.specs.declared.Written.{Written}
use Rattle.face_trail.specs.declared.Found.{Found}
use Rattle.error.specs.declared.Refusal.{Refusal}

-- ---- writing

abbrev pub wrote : ℕ → ℕ → ℕ → Written
wrote n p b = record { number = n; place = p; bytes = b }

-- the rows of all models
abbrev pub all_rows : List ℕ → Header → List ℕ
all_rows s h = voice_rows s h (models_of s h)

-- the trailer of a voice of n trees
unfoldable pub trailer_bytes : List ℕ → Header → ℕ → List ℕ
trailer_bytes s h n = unsummed s (all_rows s h) n ++ little_endian (sum32 (s ++ unsummed s (all_rows s h) n) ∷ [])

abbrev pub written_by : ℕ → ℕ → Result ℕ Refusal → Written
written_by file buffer (Ok n) = cond (has_room (12 * n + 12) buffer file) (wrote 0 0 (12 * n + 12)) (wrote 26 0 (12 * n + 12))
written_by file buffer (Err z) = wrote (number_of z) (place_of z) 0

unfoldable pub written_of : List ℕ → Header → ℕ → Written
written_of s h buffer = written_by (length s) buffer (voice_trees s h (models_of s h) 0)

-- the buffer after it
abbrev pub left_by : List ℕ → Header → List ℕ → Result ℕ Refusal → List ℕ
left_by s h t (Ok n) = cond (has_room (12 * n + 12) (length t) (length s)) (sets t 0 (trailer_bytes s h n)) t
left_by s h t (Err z) = t

unfoldable pub written_left : List ℕ → Header → List ℕ → List ℕ
written_left s h t = left_by s h t (voice_trees s h (models_of s h) 0)

-- of a file that opened so, with the words after it
abbrev pub trailer_by : List ℕ → List ℕ → ℕ → Said → Written
trailer_by s w buffer x = cond (eqb x.number 0) (written_of s (header_at w) buffer) (wrote x.number x.place 0)

unfoldable pub trailer_said : List ℕ → List ℕ → ℕ → Written
trailer_said s w buffer = trailer_by s (open_words s w) buffer (open_said s (length w))

unfoldable pub trailer_left : List ℕ → List ℕ → List ℕ → List ℕ
trailer_left s w t = cond (eqb (open_said s (length w)).number 0) (written_left s (header_at (open_words s w)) t) t

-- ---- reading

abbrev pub found : ℕ → ℕ → ℕ → ℕ → Found
found n p r b = record { number = n; place = p; rows = r; begin = b }

-- the rows of a voice of n trees end where the last three numbers begin, and are the text's
unfoldable pub rows_stand : List ℕ → Header → ℕ → Bool
rows_stand s h n =
    eqb (word_at s (length s - 12)) n
    && (eqb (word_at s (length s - 12 + 4) + 12 * n) (length s - 12) && same_words s (word_at s (length s - 12 + 4)) (all_rows s h))

unfoldable pub rows_found : List ℕ → Header → ℕ → Found
rows_found s h n = cond (rows_stand s h n) (found 0 0 n (word_at s (length s - 12 + 4))) (found 28 0 0 0)

abbrev pub found_by : List ℕ → Header → Result ℕ Refusal → Found
found_by s h (Ok n) = rows_found s h n
found_by s h (Err z) = found (number_of z) (place_of z) 0 0

unfoldable pub found_of : List ℕ → Header → Found
found_of s h =
    cond (ltb (length (data_of s h)) 12) (found 26 0 0 0) (cond (summed_of s) (found_by s h (voice_trees s h (models_of s h) 0)) (found 27 0 0 0))

abbrev pub trailed_by : List ℕ → List ℕ → Said → Found
trailed_by s w x = cond (eqb x.number 0) (found_of s (header_at w)) (found x.number x.place 0 0)

unfoldable pub trailed_said : List ℕ → List ℕ → Found
trailed_said s w = trailed_by s (open_words s w) (open_said s (length w))
