-- The two calls of the writer (host/larsavim.h): what they return, and each slice after them.
use Rattle.std.specs.Prelude.{◌≡◌, List, [], ◌∷◌, ℕ, ◌*◌, ◌^◌, ◌<◌, length}
use Rattle.face_write.specs.declared.Wrote.{Wrote}
use Rattle.face_write.specs.Answers.{length_said, write_said, write_left}
use Rattle.larsavim.specs.Face.{answered, written, left}

abbrev pub wrote_numbers : Wrote → List ℕ
wrote_numbers x = x.number ∷ x.len ∷ []

-- of data d and the question, pattern, tree and record tables
pub record Measures (d Q P T R out : List ℕ) (r : ℕ) (o : List ℕ) : Type 0 where
  pub number : r ≡ answered (length out) 2 (length_said d Q P T R).number
  pub answer : o ≡ written out 2 (wrote_numbers (length_said d Q P T R))
  -- as every slice is: fewer than 2^63 bytes
  pub short : length R * 8 < 2 ^ 63

-- into a buffer b, which becomes e
pub record Writes (d Q P T R b out : List ℕ) (r : ℕ) (e o : List ℕ) : Type 0 where
  pub number : r ≡ answered (length out) 2 (write_said b d Q P T R).number
  pub buffer : e ≡ left out 2 b (write_left b d Q P T R)
  pub answer : o ≡ written out 2 (wrote_numbers (write_said b d Q P T R))
  pub short : length R * 8 < 2 ^ 63
