-- What reading the lines of a section answers, in the words of `written`, and how a line stands in `Line`.
use Rattle.std.specs.Prelude.{Bool, true, false, cond, List, [], ◌∷◌, ◌++◌, ℕ, zero, suc, ◌+◌, eqb, ltb, length, get_or, set, Option, Some, None, Result, Ok, Err}
use Rattle.written.specs.Bytes.{newline, colon, is_newline, byte_at}
use Rattle.written.specs.HeaderText.{Kind, Value, Field, kind_of, Entry}
use Rattle.laws.specs.Runs.{stop}
use Rattle.error.specs.declared.Refusal.{Refusal}
use Rattle.error.specs.declared.Refusal.TheVariants as refusal
use Rattle.text_parts.specs.declared.Span.{Span}
use Rattle.text_parts.specs.Parts.{bytes_of}
use Rattle.head_de.specs.Values.{cursor, ends_at, text_at}
use Rattle.head_de.specs.Readings.{Reading, read, refused}
use Rattle.head_de.specs.declared.Read.{Read}
use Rattle.head_de_values.specs.Values.{read_at, value_of}
use Rattle.head_fields.specs.Fields.{field_index}
use Rattle.head_lines.specs.declared.Line.{Line}

-- ---- a key

-- what is read stands; or the refusal
abbrev pub some_of : {A : Type 0} → Result A Refusal → Result (Option A) Refusal
some_of (Ok a) = Ok (Some a)
some_of (Err r) = Err r

-- the key at k, where no newline stands; none at the end
abbrev pub key_from : List ℕ → ℕ → Result (Option (Read Span)) Refusal
key_from s k = cond (eqb (byte_at s k) 256) (Ok None) (some_of (text_at (newline ∷ colon ∷ []) s k))

-- blank lines are passed over
unfoldable pub key_at : List ℕ → ℕ → Result (Option (Read Span)) Refusal
key_at s i = key_from s (stop is_newline s i)

-- ---- the value behind it

-- behind a value is a newline or the end
abbrev pub ended_of : List ℕ → Reading Value → Reading Value
ended_of s (read v j) = cond (ends_at (newline ∷ []) s j) (read v j) (refused (refusal.ExpectedMapNewline j))
ended_of s (refused r) = refused r

unfoldable pub line_value_at : List ℕ → ℕ → Kind → Reading Value
line_value_at s k t =
    cond (eqb (byte_at s k) 256)
    (refused (refusal.Eof (length s)))
    (cond (eqb (byte_at s k) colon) (ended_of s (read_at (newline ∷ []) s (k + 1) t)) (refused (refusal.ExpectedMapColon k)))

-- ---- a line

-- the next line and the place behind it; the end; or a refusal
pub data Next : Type 0 where
  entry : Entry → ℕ → Next
  end : Next
  wrong : Refusal → Next

abbrev pub entry_of : ℕ → List ℕ → Reading Value → Next
entry_of at w (read v j) = entry (record { at = at; name = w; value = v }) j
entry_of at w (refused r) = wrong r

-- the field of the number k stood before; an unknown key never did
unfoldable pub stood_at : List Bool → ℕ → Bool
stood_at m k = cond (ltb k 10) (get_or m k false) false

-- the line with the key w, which starts at `at`, and the value x; m says which fields stood before, and a field that repeats is refused at its key
unfoldable pub keyed_at : List Field → List Bool → ℕ → List ℕ → Reading Value → Next
keyed_at T m at w x = cond (stood_at m (field_index T w)) (wrong refusal.Field) (entry_of at w x)

-- behind its key
abbrev pub behind_key : List Field → List Bool → List ℕ → Read Span → Next
behind_key T m s x = keyed_at T m x.value.start (bytes_of s x.value) (line_value_at s x.next.at (kind_of T (bytes_of s x.value)))

abbrev pub line_of : List Field → List Bool → List ℕ → Result (Option (Read Span)) Refusal → Next
line_of T m s (Ok (Some x)) = behind_key T m s x
line_of T m s (Ok None) = end
line_of T m s (Err r) = wrong r

unfoldable pub line_at : List Field → List Bool → List ℕ → ℕ → Next
line_at T m s i = line_of T m s (key_at s i)

-- how it stands in `Line`
abbrev pub line_in : List Field → Next → Result (Option Line) Refusal
line_in T (entry x j) = Ok (Some (record { field = field_index T x.name; value = value_of x.value; next = cursor j }))
line_in T end = Ok None
line_in T (wrong r) = Err r

-- ---- the lines of a section

-- which fields stood, with the field of the number k, of the first n
unfoldable pub marked : ℕ → List Bool → ℕ → List Bool
marked n m k = cond (ltb k n) (set m k true) m

-- which fields stood, and what the lines say; or a refusal
pub data Lines : Type 0 where
  whole : List Bool → List Entry → Lines
  faulty : Refusal → Lines

abbrev pub onward : (List Bool → List Entry → ℕ → Lines) → List Field → List Bool → List Entry → Next → Lines
onward more T m xs (entry x j) = more (marked (length T) m (field_index T x.name)) (xs ++ (x ∷ [])) j
onward more T m xs end = whole m xs
onward more T m xs (wrong r) = faulty r

-- the lines from i on, at most f, behind the lines xs
unfoldable pub lines_from : ℕ → List Field → List ℕ → List Bool → List Entry → ℕ → Lines
lines_from zero T s m xs i = whole m xs
lines_from (suc f) T s m xs i = onward (lines_from f T s) T m xs (line_at T m s i)

-- no field stood
unfoldable pub unseen : List Bool
unseen = false ∷ false ∷ false ∷ false ∷ false ∷ false ∷ false ∷ false ∷ false ∷ false ∷ []

-- each line has a byte of its own, so there are no more than bytes
unfoldable pub lines_at : List Field → List ℕ → ℕ → Lines
lines_at T s i = lines_from (suc (length s)) T s unseen [] i

-- the lines before the end, or before one that is refused
abbrev pub onward_read : (List Bool → List Entry → ℕ → List Entry) → List Field → List Bool → List Entry → Next → List Entry
onward_read more T m xs (entry x j) = more (marked (length T) m (field_index T x.name)) (xs ++ (x ∷ [])) j
onward_read more T m xs end = xs
onward_read more T m xs (wrong r) = xs

unfoldable pub read_from : ℕ → List Field → List ℕ → List Bool → List Entry → ℕ → List Entry
read_from zero T s m xs i = xs
read_from (suc f) T s m xs i = onward_read (read_from f T s) T m xs (line_at T m s i)

unfoldable pub lines_read : List Field → List ℕ → ℕ → List Entry
lines_read T s i = read_from (suc (length s)) T s unseen [] i

-- what is kept of lines, one after the other
unfoldable pub kept : {A : Type 0} → (A → Entry → A) → A → List Entry → A
kept f a [] = a
kept f a (x ∷ xs) = kept f (f a x) xs
