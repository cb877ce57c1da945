-- Parts of slices, and numbers that are not negative, by computation.
use Rattle.std.specs.Prelude.{cond, ◌&&◌, List, [], ℕ, ◌-◌, leb, ℤ, pos, negsuc, length}
use Rattle.written.specs.Bytes.{part}
use Rattle.text_parts.specs.declared.Read.{Read}
use Rattle.text_parts.specs.declared.Span.{Span}

-- n bytes from i on
abbrev pub cut : ℕ → ℕ → Span
cut i n = record { start = i; len = n }

-- what was read, and the place behind it
abbrev pub read_to : {T : Type 0} → T → ℕ → Read T
read_to x i = record { value = x; next = i }

-- the bytes of a part
abbrev pub bytes_of : List ℕ → Span → List ℕ
bytes_of s x = part s x.start x.len

-- the n bytes from i on where the data has them, else none
unfoldable pub part_inside : List ℕ → ℕ → ℕ → List ℕ
part_inside s i n = cond (leb i (length s) && leb n (length s - i)) (part s i n) []

-- a number that is not negative; 0 for one that is
abbrev pub nat_of : ℤ → ℕ
nat_of (pos n) = n
nat_of (negsuc n) = 0
