-- What the writer answers, and the buffer behind it (02, Wish 6): 24, 22, 17 and 20 in that order, or the text's length.
use Rattle.std.specs.Prelude.{◌≡◌, Bool, cond, List, ℕ, min, leb, length, Err, Ok, Result, ⊤}
use Rattle.std.proofs.lemmas.List.Edits.{sets}
use Rattle.written.specs.Writing.{spelled}
use Rattle.write_rows.specs.Tests.{rows_in}
use Rattle.write_bytes.specs.Tests.{bytes_fit}
use Rattle.write_links.specs.Tests.{links_fit}
use Rattle.write_text.specs.Text.{text_of}
use Rattle.write_tables.specs.declared.WriteFault.{WriteFault}
use Rattle.write_tables.specs.declared.WriteFault.TheVariants as fault

-- by the three tests, one after the other
abbrev pub judged_by : Bool → Bool → Bool → Result ⊤ WriteFault
judged_by inside even linked = cond inside (cond even (cond linked (Ok tt) (Err fault.Unread)) (Err fault.OddByte)) (Err fault.Outside)

unfoldable pub judged_of : List ℕ → List ℕ → List ℕ → List ℕ → List ℕ → Result ⊤ WriteFault
judged_of d Q P T R = judged_by (rows_in d Q P T R) (bytes_fit d Q P) (links_fit d Q P T R)

-- the text's bytes
unfoldable pub bytes_of : List ℕ → List ℕ → List ℕ → List ℕ → List ℕ → List ℕ
bytes_of d Q P T R = spelled (text_of d Q P T R)

-- ---- how long it is

abbrev pub measured_by : List ℕ → Result ⊤ WriteFault → Result ℕ WriteFault
measured_by w (Ok _) = Ok (min (length w) 18446744073709551615)
measured_by w (Err z) = Err z

unfoldable pub measure_of : List ℕ → List ℕ → List ℕ → List ℕ → List ℕ → Result ℕ WriteFault
measure_of d Q P T R = measured_by (bytes_of d Q P T R) (judged_of d Q P T R)

-- ---- written into so much room

abbrev pub answer_of : ℕ → List ℕ → Result ⊤ WriteFault → Result ℕ WriteFault
answer_of room w (Ok _) = cond (leb (length w) room) (Ok (length w)) (Err fault.Room)
answer_of room w (Err z) = Err z

-- the buffer: the text at its front where it is done, else as it was
abbrev pub buffer_of : List ℕ → List ℕ → Result ⊤ WriteFault → List ℕ
buffer_of b w (Ok _) = cond (leb (length w) (length b)) (sets b 0 w) b
buffer_of b w (Err z) = b

pub record Answered (b d Q P T R : List ℕ) (r : Result ℕ WriteFault) (e : List ℕ) : Type 0 where
  pub answer_is : r ≡ answer_of (length b) (bytes_of d Q P T R) (judged_of d Q P T R)
  pub buffer_is : e ≡ buffer_of b (bytes_of d Q P T R) (judged_of d Q P T R)

-- ---- in numbers

abbrev pub number_of : Result ℕ WriteFault → ℕ
number_of (Ok n) = 0
number_of (Err fault.Outside) = 24
number_of (Err fault.OddByte) = 22
number_of (Err fault.Unread) = 17
number_of (Err fault.Room) = 20

abbrev pub length_of : Result ℕ WriteFault → ℕ
length_of (Ok n) = n
length_of (Err z) = 0
