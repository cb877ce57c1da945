-- What reading a value of a kind answers, in the words of `written`, and how it stands in `Value`.
use Rattle.std.specs.Prelude.{Bool, true, false, cond, List, [], ◌∷◌, ℕ, ◌-◌, Result, Err}
use Rattle.std.proofs.Math.Option.{some, none}
use Rattle.written.specs.Bytes.{newline, comma, none_of}
use Rattle.written.specs.HeaderText as says
use Rattle.written.specs.HeaderText.{a_string, a_number, a_bool, strings, a_pair, pairs, perhaps_a_pair, anything, text, number, flag, texts, range, ranges, perhaps, unread}
use Rattle.laws.specs.Runs.{stop}
use Rattle.error.specs.declared.Refusal.{Refusal}
use Rattle.head_record.specs.Empty.{no_span, no_range}
use Rattle.head_record.specs.Lists.{span_of, range_of}
use Rattle.text_parts.specs.declared.Span.{Span}
use Rattle.head_record.specs.declared.Range.{Range}
use Rattle.head_de.specs.Values.{got, ends_at, text_at, number_at, flag_at, pair_at}
use Rattle.head_de.specs.Readings.{Reading, read, refused, mapped, of_text, of_plain, of_pair}
use Rattle.head_de.specs.declared.Read.{Read}
use Rattle.head_de_lists.specs.Lists.{spans_of, ranges_of, list_at}
use Rattle.head_de_lists.specs.declared.Spans.{Spans}
use Rattle.head_de_lists.specs.declared.Ranges.{Ranges}
use Rattle.head_deserializer.specs.declared.Asked.{Asked}
use Rattle.head_deserializer.specs.declared.Asked.TheVariants as asked
use Rattle.head_deserializer.specs.declared.Scalar.{Scalar}
use Rattle.head_de_values.specs.declared.Kind.{Kind}
use Rattle.head_de_values.specs.declared.Kind.TheVariants as kind
use Rattle.head_de_values.specs.declared.Around.{Around}
use Rattle.head_de_values.specs.declared.Around.TheVariants as around
use Rattle.head_de_values.specs.declared.Value.{Value}

-- the delimiters around a value
abbrev pub around_of : Around → List ℕ
around_of around.Line = newline ∷ []
around_of around.Alone = []

-- the kinds of `written`
abbrev pub kind_from : Kind → says.Kind
kind_from kind.Text = a_string
kind_from kind.Number = a_number
kind_from kind.Flag = a_bool
kind_from kind.Strings = strings
kind_from kind.Pair = a_pair
kind_from kind.Pairs = pairs
kind_from kind.PerhapsPair = perhaps_a_pair
kind_from kind.Anything = anything

-- the kind of a scalar that is asked for
abbrev pub kind_asked : Asked → says.Kind
kind_asked asked.Text = a_string
kind_asked asked.Number = a_number
kind_asked asked.Flag = a_bool
kind_asked asked.Pair = a_pair

-- ---- what is read

-- the part from i up to e
abbrev pub up_to : ℕ → ℕ → Reading says.Value
up_to i e = read (unread (record { start = i; len = e - i })) e

unfoldable pub read_at : List ℕ → List ℕ → ℕ → says.Kind → Reading says.Value
read_at D s i a_string = mapped text (of_text (text_at D s i))
read_at D s i a_number = mapped number (of_plain (number_at s i))
read_at D s i a_bool = mapped flag (of_plain (flag_at s i))
read_at D s i strings = mapped texts (list_at (λ k. of_text (text_at (comma ∷ D) s k)) D s i)
read_at D s i a_pair = mapped range (of_pair (pair_at D s i))
read_at D s i pairs = mapped ranges (list_at (λ k. of_pair (pair_at (comma ∷ D) s k)) D s i)
read_at D s i perhaps_a_pair = cond (ends_at (newline ∷ []) s i) (read (perhaps none) i) (mapped (λ r. perhaps (some r)) (of_pair (pair_at D s i)))
read_at D s i anything = up_to i (stop (none_of D) s i)

-- ---- how it stands in `Value`

abbrev pub made : ℕ → Bool → Span → Range → Spans → Ranges → Value
made n b x r l m = record { number = n; flag = b; span = x; range = r; spans = l; ranges = m }

unfoldable pub blank_value : Value
blank_value = made 0 false no_span no_range (spans_of []) (ranges_of [])

unfoldable pub value_of : says.Value → Value
value_of (text x) = made 0 false (span_of x) no_range (spans_of []) (ranges_of [])
value_of (number n) = made n false no_span no_range (spans_of []) (ranges_of [])
value_of (flag b) = made 0 b no_span no_range (spans_of []) (ranges_of [])
value_of (texts l) = made 0 false no_span no_range (spans_of l) (ranges_of [])
value_of (range r) = made 0 false no_span (range_of r) (spans_of []) (ranges_of [])
value_of (ranges l) = made 0 false no_span no_range (spans_of []) (ranges_of l)
value_of (perhaps none) = made 0 false no_span no_range (spans_of []) (ranges_of [])
value_of (perhaps (some r)) = made 0 true no_span (range_of r) (spans_of []) (ranges_of [])
value_of (unread x) = made 0 false (span_of x) no_range (spans_of []) (ranges_of [])

abbrev pub of_scalar : Scalar → Value
of_scalar x = made x.number x.flag x.span x.range (spans_of []) (ranges_of [])

abbrev pub value_in : Reading says.Value → Result (Read Value) Refusal
value_in (read v j) = got (value_of v) j
value_in (refused r) = Err r
