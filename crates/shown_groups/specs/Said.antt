-- What a row of the reader says, in the words of `written`.
use Rattle.std.specs.Prelude.{List, ℕ, ◌-◌}
use Rattle.written.specs.Bytes as written
use Rattle.written.specs.Groups as says
use Rattle.text_parts.specs.declared.Span.{Span}
use Rattle.text_parts.specs.Parts.{bytes_of}
use Rattle.head_brackets.specs.declared.Row.{Row}

abbrev pub span_said : Span → written.Span
span_said x = record { start = x.start; len = x.len }

unfoldable pub row_said : List ℕ → Row → says.Row
row_said s r = record { at = r.field.start; field = bytes_of s r.field; group = bytes_of s r.name; value = record { start = r.value; len = r.end - r.value } }
