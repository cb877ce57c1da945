-- What the functions of this crate answer.
use Rattle.std.specs.Prelude.{Bool, ◌&&◌, List, ℕ, ◌+◌, ◌-◌, leb, eqb, length, take}
use Rattle.written.specs.Trailer.{sum32}
use Rattle.pdf_blocks.specs.Values.{word_at}

-- so many bytes fit the buffer, and behind the file its limit
unfoldable pub has_room : ℕ → ℕ → ℕ → Bool
has_room bytes buffer file = leb bytes buffer && leb (file + bytes) 16777216

-- the last four bytes are the sum of every earlier one
unfoldable pub summed_of : List ℕ → Bool
summed_of s = eqb (word_at s (length s - 4)) (sum32 (take (length s - 4) s))
