-- How what a text says stands in the record: a string, a range, and a list in an array of n places.
use Rattle.std.specs.Prelude.{List, [], ◌∷◌, ℕ, zero, suc}
use Rattle.written.specs.Bytes as written
use Rattle.written.specs.HeaderText as says
use Rattle.text_parts.specs.declared.Span.{Span}
use Rattle.head_record.specs.declared.Range.{Range}

-- the n first of a list; where it has fewer, d follows
unfoldable pub filled : {A : Type 0} → ℕ → A → List A → List A
filled zero d l = []
filled (suc n) d [] = d ∷ filled n d []
filled (suc n) d (a ∷ l) = a ∷ filled n d l

abbrev pub span_of : written.Span → Span
span_of x = record { start = x.start; len = x.len }

abbrev pub range_of : says.Range → Range
range_of x = record { from = x.from; to = x.to }
