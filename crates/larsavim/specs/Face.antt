-- How an answer crosses to C (host/larsavim.h, 'Answers'): its numbers go to the front of a lent slice, all of them in every case, and the first is returned.
-- A slice shorter than the answer is 20, with nothing written anywhere.
use Rattle.std.specs.Prelude.{◌≡◌, cond, List, [], ◌∷◌, ℕ, ◌<◌, ltb, length, get_or}
use Rattle.std.proofs.lemmas.List.Edits.{sets}
use Rattle.face_record.specs.declared.Said.{Said}
use Rattle.face_record.specs.declared.Part.{Part}
use Rattle.face_record.specs.declared.Pair.{Pair}
use Rattle.face_model.specs.declared.Ended.{Ended}
use Rattle.face_put.specs.Put.{needed_numbers, rows_numbers}
use Rattle.head_words.specs.Words.{flag_word}
use Rattle.written.specs.Sharing.{bottom, nothing}
use Rattle.load_model.specs.Load.{Tables}
use Rattle.walk_leaves.specs.Checks.{leaves_fit}
use Rattle.face_open.specs.Answers.{open_said, open_words}
use Rattle.face_record.specs.Answers.{comment_said, get_said, pair_said}
use Rattle.face_model.specs.Answers.{needed_of, ended_of}
use Rattle.face_load.specs.Answers.{filled_of}

-- what is returned: x, where a slice of k numbers has room for n
unfoldable pub answered : ℕ → ℕ → ℕ → ℕ
answered k n x = cond (ltb k n) 20 x

-- the slice after the call
unfoldable pub written : List ℕ → ℕ → List ℕ → List ℕ
written out n l = cond (ltb (length out) n) out (sets out 0 l)

-- another slice t, or all that is lent, which the call leaves as u
unfoldable pub left : {A : Type 0} → List ℕ → ℕ → A → A → A
left out n t u = cond (ltb (length out) n) t u

-- ---- the numbers of each answer

abbrev pub said_numbers : Said → List ℕ
said_numbers x = x.number ∷ x.place ∷ []

abbrev pub part_numbers : Part → List ℕ
part_numbers x = x.number ∷ x.slice ∷ x.start ∷ x.len ∷ []

abbrev pub pair_numbers : Pair → List ℕ
pair_numbers x = x.number ∷ x.first ∷ x.second ∷ []

abbrev pub ended_numbers : Ended → List ℕ
ended_numbers x = x.number ∷ x.pdf ∷ x.asked ∷ []

-- ---- the contracts: what each call returns, and every lent slice after it

-- of a call that writes its answer alone: n numbers, the first of them x
abbrev pub Answers : List ℕ → ℕ → ℕ → List ℕ → ℕ → List ℕ → Type 0
Answers out n x l r o = (r ≡ answered (length out) n x) × (o ≡ written out n l)

-- larsavim_open; last, that a file is bytes
abbrev pub Opens : List ℕ → List ℕ → List ℕ → ℕ → List ℕ → List ℕ → Type 0
Opens s w out r w₁ o =
    (r ≡ answered (length out) 2 (open_said s (length w)).number) × (w₁ ≡ left out 2 w (open_words s w)) × (o ≡ written out 2 (said_numbers (open_said s (length w))))
    × ((k : ℕ) → get_or s k 0 < 256)

-- larsavim_comment, of a file and a fallback of so many bytes
abbrev pub Comments : ℕ → List ℕ → ℕ → List ℕ → ℕ → List ℕ → Type 0
Comments n w f out = Answers out 4 (comment_said n w f).number (part_numbers (comment_said n w f))

-- larsavim_get
abbrev pub Gets : List ℕ → ℕ → List ℕ → ℕ → List ℕ → Type 0
Gets w i out = Answers out 2 (get_said w i).number (said_numbers (get_said w i))

-- larsavim_pair
abbrev pub Pairs : List ℕ → ℕ → List ℕ → ℕ → List ℕ → Type 0
Pairs w i out = Answers out 3 (pair_said w i).number (pair_numbers (pair_said w i))

-- larsavim_needs
abbrev pub Needs : List ℕ → List ℕ → ℕ → List ℕ → ℕ → List ℕ → Type 0
Needs s w n out = Answers out 10 (needed_of s w n).number (needed_numbers (needed_of s w n))

-- larsavim_load, the bottom task's beside nobody: of a file, words, a model and what is lent, it returns x and leaves T₁ and o
abbrev pub Loads : List ℕ → List ℕ → ℕ → Tables → List ℕ → ℕ → Tables → List ℕ → Type 0
Loads s u n T out x T₁ o =
    (x ≡ answered (length out) 8 (filled_of s u n bottom nothing T).rows.number) × (T₁ ≡ left out 8 T (filled_of s u n bottom nothing T).tables) × (o ≡ written out 8 (rows_numbers (filled_of s u n bottom nothing T).rows))

-- larsavim_walk
abbrev pub Walks : List ℕ → List ℕ → ℕ → List ℕ → ℕ → List ℕ → ℕ → List ℕ → Type 0
Walks T R t bytes limit out = Answers out 3 (ended_of T R t bytes limit).number (ended_numbers (ended_of T R t bytes limit))

-- larsavim_leaves
abbrev pub Leaves : List ℕ → List ℕ → List ℕ → List ℕ → ℕ → ℕ → Type 0
Leaves Q T R X width r = r ≡ flag_word (leaves_fit Q T R X width)
