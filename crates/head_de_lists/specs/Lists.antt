-- What reading a comma list answers, over any reader of its items; and how a list of strings or pairs stands in an array.
use Rattle.std.specs.Prelude.{cond, List, [], ◌∷◌, ◌++◌, map, ℕ, zero, suc, ◌+◌, ltb, length, set, get_or, Result, Err}
use Rattle.written.specs.Bytes as written
use Rattle.written.specs.Bytes.{comma}
use Rattle.written.specs.HeaderText as says
use Rattle.error.specs.declared.Refusal.{Refusal}
use Rattle.error.specs.declared.Refusal.TheVariants as refusal
use Rattle.head_record.specs.Empty.{no_span, no_range}
use Rattle.head_record.specs.Lists.{filled, span_of, range_of}
use Rattle.text_parts.specs.declared.Span.{Span}
use Rattle.head_record.specs.declared.Range.{Range}
use Rattle.head_de.specs.Values.{got, delimiter_at}
use Rattle.head_de.specs.Readings.{Reading, read, refused}
use Rattle.head_de.specs.declared.Read.{Read}
use Rattle.head_de.specs.declared.Delimiter.{Delimiter}
use Rattle.head_de.specs.declared.Delimiter.TheVariants as delimiter
use Rattle.head_de_lists.specs.declared.Spans.{Spans}
use Rattle.head_de_lists.specs.declared.Ranges.{Ranges}

-- ---- the list, once its items up to here are l

-- behind an item that ends at j: the next one, the end of the list, or COMMA
abbrev pub after_item : {A : Type 0} → (ℕ → List A → Reading (List A)) → ℕ → List A → Delimiter → Reading (List A)
after_item more j l (delimiter.Passed c) = more c.at l
after_item more j l delimiter.Closed = read l j
after_item more j l delimiter.Missing = refused (refusal.ExpectedArrayComma j)

abbrev pub item_of : {A : Type 0} → (ℕ → List A → Reading (List A)) → List ℕ → List ℕ → List A → Reading A → Reading (List A)
item_of more D s l (read a j) = after_item more j (l ++ (a ∷ [])) (delimiter_at comma D s j)
item_of more D s l (refused r) = refused r

-- the items from i on, at most f; each but the last passes a comma, so there are no more than one for each byte and one
unfoldable pub items_from : {A : Type 0} → ℕ → (ℕ → Reading A) → List ℕ → List ℕ → ℕ → List A → Reading (List A)
items_from zero item D s i l = read l i
items_from (suc f) item D s i l = item_of (items_from f item D s) D s l (item i)

unfoldable pub items_at : {A : Type 0} → (ℕ → Reading A) → List ℕ → List ℕ → ℕ → Reading (List A)
items_at item D s i = items_from (suc (length s)) item D s i []

-- one leading comma is swallowed; empty text is no item
abbrev pub list_of : {A : Type 0} → (ℕ → Reading A) → List ℕ → List ℕ → ℕ → Delimiter → Reading (List A)
list_of item D s i (delimiter.Passed c) = items_at item D s c.at
list_of item D s i delimiter.Closed = read [] i
list_of item D s i delimiter.Missing = items_at item D s i

unfoldable pub list_at : {A : Type 0} → (ℕ → Reading A) → List ℕ → List ℕ → ℕ → Reading (List A)
list_at item D s i = list_of item D s i (delimiter_at comma D s i)

-- ---- in arrays

unfoldable pub spans_of : List written.Span → Spans
spans_of l = record { items = filled 32 no_span (map span_of l); count = length l }

unfoldable pub ranges_of : List says.Range → Ranges
ranges_of l = record { items = filled 8 no_range (map range_of l); count = length l }

-- one more
unfoldable pub spans_with : Spans → Span → Spans
spans_with x y = record { items = cond (ltb x.count 32) (set x.items x.count y) x.items; count = x.count + 1 }

unfoldable pub ranges_with : Ranges → Range → Ranges
ranges_with x y = record { items = cond (ltb x.count 8) (set x.items x.count y) x.items; count = x.count + 1 }

-- the n items from i on
unfoldable pub firsts : ℕ → List Span → ℕ → List Span
firsts zero t i = []
firsts (suc n) t i = get_or t i no_span ∷ firsts n t (i + 1)

abbrev pub strings_in : Reading (List written.Span) → Result (Read Spans) Refusal
strings_in (read l j) = got (spans_of l) j
strings_in (refused r) = Err r

abbrev pub pairs_in : Reading (List says.Range) → Result (Read Ranges) Refusal
pairs_in (read l j) = got (ranges_of l) j
pairs_in (refused r) = Err r
