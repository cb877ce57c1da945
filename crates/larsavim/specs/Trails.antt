-- The two calls on a trailer (host/larsavim.h): what they return, and each slice after them. Where `out` is too short, 20, and nothing is written anywhere.
use Rattle.std.specs.Prelude.{◌≡◌, List, [], ◌∷◌, ℕ, ◌<◌, length, get_or}
use Rattle.face_open.specs.Answers.{open_words}
use Rattle.face_trail.specs.declared.Written.{Written}
use Rattle.face_trail.specs.declared.Found.{Found}
use Rattle.face_trail.specs.Answers.{trailer_said, trailer_left, trailed_said}
use Rattle.larsavim.specs.Face.{answered, written, left}

abbrev pub written_numbers : Written → List ℕ
written_numbers x = x.number ∷ x.place ∷ x.bytes ∷ []

abbrev pub found_numbers : Found → List ℕ
found_numbers x = x.number ∷ x.place ∷ x.rows ∷ x.begin ∷ []

-- larsavim_trailer, of a file s, words w and a buffer t
pub record TrailerTells (s w t out : List ℕ) (r : ℕ) (w₁ t₁ o : List ℕ) : Type 0 where
  pub number : r ≡ answered (length out) 3 (trailer_said s w (length t)).number
  pub words : w₁ ≡ left out 3 w (open_words s w)
  pub buffer : t₁ ≡ left out 3 t (trailer_left s w t)
  pub answer : o ≡ written out 3 (written_numbers (trailer_said s w (length t)))
  -- a file is bytes
  pub bytes : (k : ℕ) → get_or s k 0 < 256

-- larsavim_trailed
pub record TrailedTells (s w out : List ℕ) (r : ℕ) (w₁ o : List ℕ) : Type 0 where
  pub number : r ≡ answered (length out) 4 (trailed_said s w).number
  pub words : w₁ ≡ left out 4 w (open_words s w)
  pub answer : o ≡ written out 4 (found_numbers (trailed_said s w))
  pub bytes : (k : ℕ) → get_or s k 0 < 256
