-- What opening answers in numbers, and the words after it (host/larsavim.h).
use Rattle.std.specs.Prelude.{cond, List, ℕ, ltb, length, Result, Ok, Err, ⊤}
use Rattle.std.proofs.lemmas.List.Edits.{sets}
use Rattle.error.specs.declared.Refusal.{Refusal}
use Rattle.error.specs.Numbers.{number_of, place_of}
use Rattle.head_record.specs.declared.Header.{Header}
use Rattle.head_words.specs.Words.{header_words}
use Rattle.head_open.specs.Open.{open_of}
use Rattle.face_record.specs.declared.Said.{Said}
use Rattle.face_record.specs.Answers.{said}

-- of a file that opens, with so many words lent
abbrev pub said_in : ℕ → Said
said_in n = cond (ltb n 647) (said 20 0) (said 0 0)

abbrev pub open_said_by : ℕ → Result ⊤ Refusal → Said
open_said_by n (Ok _) = said_in n
open_said_by n (Err r) = said (number_of r) (place_of r)

unfoldable pub open_said : List ℕ → ℕ → Said
open_said s n = open_said_by n (open_of s).verdict

-- the words after it
abbrev pub open_words_by : List ℕ → Header → Result ⊤ Refusal → List ℕ
open_words_by w h (Ok _) = cond (ltb (length w) 647) w (sets w 0 (header_words h))
open_words_by w h (Err r) = w

unfoldable pub open_words : List ℕ → List ℕ → List ℕ
open_words s w = open_words_by w (open_of s).header (open_of s).verdict
