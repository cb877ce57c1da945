-- What a reader that holds its section answers, in the answers of `head_de`.
use Rattle.std.specs.Prelude.{Bool, false, List, ℕ, Result, Ok, Err}
use Rattle.std.specs.Borrow.{Bor}
use Rattle.error.specs.declared.Refusal.{Refusal}
use Rattle.head_record.specs.Empty.{no_span, no_range}
use Rattle.text_parts.specs.declared.Span.{Span}
use Rattle.head_record.specs.declared.Range.{Range}
use Rattle.head_de.specs.Values.{text_at, number_at, flag_at, pair_at}
use Rattle.head_de.specs.declared.Cursor.{Cursor}
use Rattle.head_de.specs.declared.Delimiters.{Delimiters}
use Rattle.head_de.specs.declared.Read.{Read}
use Rattle.head_deserializer.specs.declared.Deserializer.{Deserializer}
use Rattle.head_deserializer.specs.declared.Asked.{Asked}
use Rattle.head_deserializer.specs.declared.Asked.TheVariants as asked
use Rattle.head_deserializer.specs.declared.Scalar.{Scalar}

-- the reader that holds a section, a cursor in it and the delimiters now open
abbrev pub holding : Bor (List ℕ) → Cursor → Delimiters → Deserializer
holding s c d = record { section = s; cursor = c; delimiters = d }

-- ---- an answer of `head_de` as a scalar

abbrev pub scalar_of : Result Cursor Refusal → ℕ → Bool → Span → Range → Scalar
scalar_of o n b x r = record { outcome = o; number = n; flag = b; span = x; range = r }

abbrev pub with_text : Result (Read Span) Refusal → Scalar
with_text (Ok x) = scalar_of (Ok x.next) 0 false x.value no_range
with_text (Err r) = scalar_of (Err r) 0 false no_span no_range

abbrev pub with_number : Result (Read ℕ) Refusal → Scalar
with_number (Ok x) = scalar_of (Ok x.next) x.value false no_span no_range
with_number (Err r) = scalar_of (Err r) 0 false no_span no_range

abbrev pub with_flag : Result (Read Bool) Refusal → Scalar
with_flag (Ok x) = scalar_of (Ok x.next) 0 x.value no_span no_range
with_flag (Err r) = scalar_of (Err r) 0 false no_span no_range

abbrev pub with_pair : Result (Read Range) Refusal → Scalar
with_pair (Ok x) = scalar_of (Ok x.next) 0 false no_span x.value
with_pair (Err r) = scalar_of (Err r) 0 false no_span no_range

-- what is asked for, at i, where D are the open delimiters
abbrev pub scalar_at : Asked → List ℕ → List ℕ → ℕ → Scalar
scalar_at asked.Text D s i = with_text (text_at D s i)
scalar_at asked.Number D s i = with_number (number_at s i)
scalar_at asked.Flag D s i = with_flag (flag_at s i)
scalar_at asked.Pair D s i = with_pair (pair_at D s i)
