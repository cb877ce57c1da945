-- What the readers of this crate answer, on the list of bytes and the place.
use Rattle.text_parts.specs.declared.Span.{Span}
use Rattle.text_numbers.specs.declared.NumberError.TheVariants as fault
use Rattle.text_numbers.specs.declared.NumberError.{NumberError}
use Rattle.std.specs.declared.result.Result.{Result}
use Rattle.text_parts.specs.declared.Read.{Read}
use Rattle.text_parts.specs.Parts.{read_to, cut}
use Rattle.std.specs.declared.option.Option.{Option}
use Rattle.std.specs.Prelude.{Bool, cond, List, ℕ, ◌+◌, ◌-◌, ◌^◌, ltb, leb, eqb, drop, ℤ, pos, neg_ℤ, Some, None, Ok, Err}
use Rattle.written.specs.Bytes.{quote, dash, digit, in_pattern, byte_at, decimal}
use Rattle.laws.specs.Runs.{run, stop}

-- ---- decimal digits to u64

-- the answer for digits that say n and end at e
unfoldable pub unsigned_of : ℕ → ℕ → Result (Read ℕ) NumberError
unsigned_of n e = cond (ltb n (2 ^ 64)) (Ok (read_to n e)) (Err fault.TooLarge)

-- the answer where the digits before i said n
unfoldable pub unsigned_from : ℕ → List ℕ → ℕ → Result (Read ℕ) NumberError
unsigned_from n s i = unsigned_of (decimal n (run digit (drop i s))) (stop digit s i)

-- digits as far as they go
unfoldable pub unsigned_at : List ℕ → ℕ → Result (Read ℕ) NumberError
unsigned_at s i = cond (digit (byte_at s i)) (unsigned_from 0 s i) (Err fault.NoDigit)

-- ---- after an optional -, to i64

-- the digits' number, where it passes a test, as z has it
abbrev pub signed_of : (ℕ → Bool) → (ℕ → ℤ) → Result (Read ℕ) NumberError → Option (Read ℤ)
signed_of fits z (Ok r) = cond (fits r.value) (Some (read_to (z r.value) r.next)) None
signed_of fits z (Err e) = None

-- at most 2^63 after -, else at most 2^63 - 1
unfoldable pub signed_at : List ℕ → ℕ → Option (Read ℤ)
signed_at s i =
    cond (eqb (byte_at s i) dash)
    (signed_of (λ n. leb n (2 ^ 63)) (λ n. neg_ℤ (pos n)) (unsigned_at s (i + 1)))
    (signed_of (λ n. ltb n (2 ^ 63)) pos (unsigned_at s i))

-- ---- a pattern, bare or in "

-- bytes of the first four classes from i up to e, at least one
unfoldable pub pattern_of : ℕ → ℕ → ℕ → Option (Read Span)
pattern_of i e next = cond (ltb i e) (Some (read_to (cut i (e - i)) next)) None

unfoldable pub pattern_at : List ℕ → ℕ → Option (Read Span)
pattern_at s i =
    cond (eqb (byte_at s i) quote)
    (cond (eqb (byte_at s (stop in_pattern s (i + 1))) quote) (pattern_of (i + 1) (stop in_pattern s (i + 1)) (stop in_pattern s (i + 1) + 1)) None)
    (pattern_of i (stop in_pattern s i) (stop in_pattern s i))
