-- What going through the lines of groups answers.
use Rattle.std.specs.Prelude.{Bool, true, false, cond, List, [], ◌∷◌, ℕ, zero, suc, ◌+◌, ◌-◌, eqb, ltb, leb, length, get_or, set, take, replicate, Option, Some, None, Result, Ok, Err}
use Rattle.written.specs.Bytes.{newline, colon, bracket, unbracket, none_of, same, byte_at, part}
use Rattle.written.specs.HeaderText.{Field, kind_of}
use Rattle.laws.specs.Runs.{stop}
use Rattle.error.specs.declared.Refusal.{Refusal}
use Rattle.head_record.specs.Empty.{span, no_span}
use Rattle.text_parts.specs.declared.Span.{Span}
use Rattle.text_parts.specs.Parts.{bytes_of}
use Rattle.head_de.specs.Values.{cursor}
use Rattle.head_de_values.specs.Values.{read_at}
use Rattle.head_de.specs.declared.Read.{Read}
use Rattle.head_lines.specs.Lines.{key_at, Next, keyed_at}
use Rattle.head_brackets.specs.declared.Brackets.{Brackets}
use Rattle.head_brackets.specs.declared.Row.{Row}
use Rattle.head_brackets.specs.declared.RowAt.{RowAt}
use Rattle.head_brackets.specs.declared.RowAt.TheVariants as found
use Rattle.head_brackets.specs.declared.Names.{Names}

-- ---- a key

-- a field's name of b bytes, and a group's of n in brackets
abbrev pub bracketed : ℕ → ℕ → Option Brackets
bracketed b n = Some (record { field = b; name = n })

-- a key of n bytes whose first bracket stands at b
abbrev pub split_at : ℕ → ℕ → Option Brackets
split_at n b = cond (leb n (b + 1)) None (bracketed b (n - b - 2))

unfoldable pub split_of : List ℕ → Option Brackets
split_of w = cond (eqb (byte_at w (length w - 1)) unbracket) (split_at (length w) (stop (none_of (bracket ∷ [])) w 0)) None

-- ---- a line

-- the line with a key of n bytes from a on, and a value from v up to e
abbrev pub split_row : ℕ → ℕ → ℕ → Option Brackets → RowAt
split_row a v e (Some k) = found.Found (record { field = span a k.field; name = span (a + k.field + 1) k.name; value = v; end = e })
split_row a v e None = found.Other (cursor e)

unfoldable pub key_row : List ℕ → ℕ → ℕ → ℕ → RowAt
key_row s a n k = cond (eqb (byte_at s k) colon) (split_row a (k + 1) (stop (none_of (newline ∷ [])) s (k + 1)) (split_of (part s a n))) found.End

abbrev pub row_of : List ℕ → Result (Option (Read Span)) Refusal → RowAt
row_of s (Ok (Some x)) = key_row s x.value.start x.value.len x.next.at
row_of s (Ok None) = found.End
row_of s (Err r) = found.End

unfoldable pub row_at : List ℕ → ℕ → RowAt
row_at s i = row_of s (key_at s i)

-- the lines of groups from i on, in order; at most f lines
abbrev pub onward_row : (ℕ → List Row) → RowAt → List Row
onward_row more (found.Found r) = r ∷ more r.end
onward_row more (found.Other c) = more c.at
onward_row more found.End = []

unfoldable pub rows_from : ℕ → List ℕ → ℕ → List Row
rows_from zero s i = []
rows_from (suc f) s i = onward_row (rows_from f s) (row_at s i)

unfoldable pub rows_at : List ℕ → ℕ → List Row
rows_at s i = rows_from (suc (length s)) s i

-- ---- a line of a group

-- the name of a row's field
abbrev pub field_name : List ℕ → Row → List ℕ
field_name s r = bytes_of s r.field

-- a row's value, read alone
unfoldable pub row_line_at : List Field → List Bool → List ℕ → Row → Next
row_line_at T m s r = keyed_at T m r.field.start (field_name s r) (read_at [] (take r.end s) r.value (kind_of T (field_name s r)))

-- ---- going through rows

-- what is made of them up to here, or a refusal
pub data Going (A : Type 0) : Type 0 where
  on : A → Going A
  stop_with : Refusal → Going A

abbrev pub over_next : {A : Type 0} → (A → Going A) → Going A → Going A
over_next more (on a) = more a
over_next more (stop_with r) = stop_with r

-- f makes something of one row
unfoldable pub over : {A : Type 0} → (A → Row → Going A) → A → List Row → Going A
over f a [] = on a
over f a (r ∷ rs) = over_next (λ b. over f b rs) (f a r)

-- what is made of them when they end, or when one is refused
abbrev pub last_next : {A : Type 0} → (A → A) → A → Going A → A
last_next more a (on b) = more b
last_next more a (stop_with r) = a

unfoldable pub last_of : {A : Type 0} → (A → Row → Going A) → A → List Row → A
last_of f a [] = a
last_of f a (r ∷ rs) = last_next (λ b. last_of f b rs) a (f a r)

-- ---- names

unfoldable pub no_names : Names
no_names = record { items = replicate 8 no_span; count = 0 }

unfoldable pub names_with : Names → Span → Names
names_with x y = cond (ltb x.count 8) (record { items = set x.items x.count y; count = x.count + 1 }) (record { items = x.items; count = 9 })

-- one of the n - k names from k on, of the first 8, has the bytes w
unfoldable pub known_from : ℕ → List ℕ → List Span → ℕ → List ℕ → Bool
known_from zero s t k w = false
known_from (suc n) s t k w = cond (leb 8 k) false (cond (same (bytes_of s (get_or t k no_span)) w) true (known_from n s t (k + 1) w))

unfoldable pub known_in : List ℕ → List Span → ℕ → List ℕ → Bool
known_in s t n w = known_from n s t 0 w
