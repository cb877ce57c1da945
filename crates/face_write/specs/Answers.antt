-- What the writer answers in numbers (host/larsavim.h), and the buffer after it.
use Rattle.std.specs.Prelude.{◌≡◌, List, ℕ, length, Result}
use Rattle.write_tables.specs.Answers.{judged_of, bytes_of, measure_of, answer_of, buffer_of, number_of, length_of}
use Rattle.face_write.specs.declared.Wrote.{Wrote}
use Rattle.write_tables.specs.declared.WriteFault.{WriteFault}

abbrev pub wrote_by : Result ℕ WriteFault → Wrote
wrote_by a = record { number = number_of a; len = length_of a }

unfoldable pub length_said : List ℕ → List ℕ → List ℕ → List ℕ → List ℕ → Wrote
length_said d Q P T R = wrote_by (measure_of d Q P T R)

unfoldable pub write_said : List ℕ → List ℕ → List ℕ → List ℕ → List ℕ → List ℕ → Wrote
write_said b d Q P T R = wrote_by (answer_of (length b) (bytes_of d Q P T R) (judged_of d Q P T R))

unfoldable pub write_left : List ℕ → List ℕ → List ℕ → List ℕ → List ℕ → List ℕ → List ℕ
write_left b d Q P T R = buffer_of b (bytes_of d Q P T R) (judged_of d Q P T R)

pub record WriteSaid (b d Q P T R : List ℕ) (r : Wrote) (e : List ℕ) : Type 0 where
  pub said : r ≡ write_said b d Q P T R
  pub left : e ≡ write_left b d Q P T R
