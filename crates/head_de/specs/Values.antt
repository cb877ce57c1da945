-- What reading a string, a number, a bool and a pair answers, on the list of bytes and the place.
use Rattle.text_parts.specs.declared.Read.{Read as Found}
use Rattle.text_numbers.specs.declared.NumberError.TheVariants as fault
use Rattle.text_numbers.specs.declared.NumberError.{NumberError}
use Rattle.std.specs.Prelude.{Bool, true, false, cond, List, [], ◌∷◌, ℕ, ◌+◌, ◌-◌, ltb, eqb, length, Result, Ok, Err}
use Rattle.written.specs.Bytes.{newline, quote, comma, dash, colon, bracket, one_of, none_of, byte_at}
use Rattle.laws.specs.Runs.{stop}
use Rattle.error.specs.declared.Refusal.{Refusal}
use Rattle.error.specs.declared.Refusal.TheVariants as refusal
use Rattle.text_parts.specs.declared.Span.{Span}
use Rattle.head_record.specs.declared.Range.{Range}
use Rattle.head_record.specs.Empty.{span, range}
use Rattle.text_numbers.specs.Answers.{unsigned_at}
use Rattle.head_de.specs.declared.Cursor.{Cursor}
use Rattle.head_de.specs.declared.Delimiters.{Delimiters}
use Rattle.head_de.specs.declared.Delimiters.TheVariants as delimiters
use Rattle.head_de.specs.declared.Read.{Read}
use Rattle.head_de.specs.declared.Delimiter.{Delimiter}
use Rattle.head_de.specs.declared.Delimiter.TheVariants as delimiter

-- the cursor at a place
abbrev pub cursor : ℕ → Cursor
cursor n = record { at = n }

-- the bytes that are open
abbrev pub delimiters_of : Delimiters → List ℕ
delimiters_of delimiters.Nothing = []
delimiters_of delimiters.Newline = newline ∷ []
delimiters_of delimiters.NewlineColon = newline ∷ colon ∷ []
delimiters_of delimiters.Comma = comma ∷ []
delimiters_of delimiters.CommaNewline = comma ∷ newline ∷ []
delimiters_of delimiters.Quote = quote ∷ []
delimiters_of delimiters.Bracket = bracket ∷ []

-- an open delimiter or the end stands at i
unfoldable pub ends_at : List ℕ → List ℕ → ℕ → Bool
ends_at D s i = cond (eqb (byte_at s i) 256) true (one_of D (byte_at s i))

-- what a reader answers that has read a, up to j
abbrev pub got : {A : Type 0} → A → ℕ → Result (Read A) Refusal
got a j = Ok (record { value = a; next = cursor j })

-- ---- strings

-- the text from i to the closing quote at e, if there is one
abbrev pub quoted_to : List ℕ → ℕ → ℕ → Result (Read Span) Refusal
quoted_to s i e = cond (ltb e (length s)) (got (span i (e - i)) (e + 1)) (Err (refusal.Eof (length s)))

-- the text from i to e
abbrev pub bare_to : ℕ → ℕ → Result (Read Span) Refusal
bare_to i e = got (span i (e - i)) e

unfoldable pub text_at : List ℕ → List ℕ → ℕ → Result (Read Span) Refusal
text_at D s i = cond (eqb (byte_at s i) quote) (quoted_to s (i + 1) (stop (none_of (quote ∷ [])) s (i + 1))) (bare_to i (stop (none_of D) s i))

-- ---- numbers and bools

abbrev pub number_of : List ℕ → ℕ → Result (Found ℕ) NumberError → Result (Read ℕ) Refusal
number_of s i (Ok r) = got r.value r.next
number_of s i (Err fault.TooLarge) = Err (refusal.Number i)
number_of s i (Err fault.NoDigit) = cond (eqb (byte_at s i) 256) (Err (refusal.Eof (length s))) (Err (refusal.ExpectedInteger i))

unfoldable pub number_at : List ℕ → ℕ → Result (Read ℕ) Refusal
number_at s i = number_of s i (unsigned_at s i)

unfoldable pub flag_at : List ℕ → ℕ → Result (Read Bool) Refusal
flag_at s i =
    cond (eqb (byte_at s i) 256)
    (Err (refusal.Eof (length s)))
    (cond (eqb (byte_at s i) 48)
    (got false (i + 1))
    (cond (eqb (byte_at s i) 49) (got true (i + 1)) (Err (refusal.ExpectedBool i))))

-- ---- pairs

-- the delimiter a of a sequence, or one of those around it, or the end, or none of them
unfoldable pub delimiter_at : ℕ → List ℕ → List ℕ → ℕ → Delimiter
delimiter_at a D s i =
    cond (eqb (byte_at s i) 256)
    delimiter.Closed
    (cond (eqb (byte_at s i) a)
    (delimiter.Passed (cursor (i + 1)))
    (cond (one_of D (byte_at s i)) delimiter.Closed delimiter.Missing))

-- a number of a pair, by what stands before it
abbrev pub element_of : Bool → List ℕ → ℕ → Delimiter → Result (Read ℕ) Refusal
element_of first s i (delimiter.Passed c) = number_at s c.at
element_of first s i delimiter.Closed = Err refusal.Field
element_of first s i delimiter.Missing = cond first (number_at s i) (Err (refusal.ExpectedArrayComma i))

unfoldable pub element_at : List ℕ → Bool → List ℕ → ℕ → Result (Read ℕ) Refusal
element_at D first s i = element_of first s i (delimiter_at dash D s i)

-- a pair, once its first number is read, and once its second is
abbrev pub second_of : ℕ → Result (Read ℕ) Refusal → Result (Read Range) Refusal
second_of a (Ok x) = got (range a x.value) x.next.at
second_of a (Err r) = Err r

abbrev pub first_of : List ℕ → List ℕ → Result (Read ℕ) Refusal → Result (Read Range) Refusal
first_of D s (Ok x) = second_of x.value (element_at D false s x.next.at)
first_of D s (Err r) = Err r

unfoldable pub pair_at : List ℕ → List ℕ → ℕ → Result (Read Range) Refusal
pair_at D s i = first_of D s (element_at D true s i)
