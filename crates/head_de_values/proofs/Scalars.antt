-- A scalar that the reader of a section answers, as it stands in `Value`, is the value of its kind; and a pair, flagged where it was read, is the pair that may be absent.
use mathlib.Core.Bool.{Bool, true}
use mathlib.Core.List.{List}
use mathlib.Core.Option.{some}
use mathlib.Core.Path.{◌≡◌, refl, ap, ◌∙◌}
use Prim.Native.Nat.{ℕ}
use Rattle.std.specs.Prelude.{Result, Ok, Err}
use Rattle.written.specs.HeaderText as says
use Rattle.written.specs.HeaderText.{text, number, flag, range, perhaps}
use Rattle.error.specs.declared.Refusal.{Refusal}
use Rattle.head_de.specs.Values.{text_at, number_at, flag_at, pair_at}
use Rattle.head_de.specs.Readings.{mapped, of_text, of_plain, of_pair}
use Rattle.text_parts.specs.declared.Span.{Span}
use Rattle.head_record.specs.declared.Range.{Range}
use Rattle.head_de.specs.declared.Cursor.{Cursor}
use Rattle.head_de.specs.declared.Read.{Read}
use Rattle.head_deserializer.specs.Scalars.{with_text, with_number, with_flag, with_pair, scalar_at}
use Rattle.head_deserializer.specs.declared.Asked.{Asked}
use Rattle.head_deserializer.specs.declared.Asked.TheVariants as asked
use Rattle.head_deserializer.specs.declared.Scalar.{Scalar}
use Rattle.head_de_values.specs.declared.Value.{Value}
use Rattle.head_de_values.specs.Values.{kind_asked, read_at, made, value_of, of_scalar, value_in}

-- ---- scalars

-- the value, where it was read
abbrev pub value_to : Value → Result Cursor Refusal → Result (Read Value) Refusal
value_to v (Ok c) = Ok (record { value = v; next = c })
value_to v (Err r) = Err r

-- the value that the scalar makes
abbrev pub scalar_value : Scalar → Result (Read Value) Refusal
scalar_value x = value_to (of_scalar x) x.outcome

text_value : (x : Result (Read Span) Refusal) → scalar_value (with_text x) ≡ value_in (mapped text (of_text x))
unfolding value_of
text_value (Ok x) = refl
text_value (Err r) = refl

number_value : (x : Result (Read ℕ) Refusal) → scalar_value (with_number x) ≡ value_in (mapped number (of_plain x))
unfolding value_of
number_value (Ok x) = refl
number_value (Err r) = refl

flag_value : (x : Result (Read Bool) Refusal) → scalar_value (with_flag x) ≡ value_in (mapped flag (of_plain x))
unfolding value_of
flag_value (Ok x) = refl
flag_value (Err r) = refl

pair_value : (x : Result (Read Range) Refusal) → scalar_value (with_pair x) ≡ value_in (mapped range (of_pair x))
unfolding value_of
pair_value (Ok x) = refl
pair_value (Err r) = refl

scalar_value_lem : (a : Asked) (D s : List ℕ) (i : ℕ) → scalar_value (scalar_at a D s i) ≡ value_in (read_at D s i (kind_asked a))
unfolding read_at
scalar_value_lem asked.Text D s i = text_value (text_at D s i)
scalar_value_lem asked.Number D s i = number_value (number_at s i)
scalar_value_lem asked.Flag D s i = flag_value (flag_at s i)
scalar_value_lem asked.Pair D s i = pair_value (pair_at D s i)

pub scalar_stands : {D D' : List ℕ} (a : Asked) (s : List ℕ) (i : ℕ) {x : Scalar} → D ≡ D' → x ≡ scalar_at a D s i → scalar_value x ≡ value_in (read_at D' s i (kind_asked a))
scalar_stands {D} {D'} a s i d e = ap scalar_value e ∙ (scalar_value_lem a D s i ∙ ap (λ (E : List ℕ). value_in (read_at E s i (kind_asked a))) d)

-- ---- a pair that may be absent

-- the value, flagged as there
abbrev pub flagged : Result (Read Value) Refusal → Result (Read Value) Refusal
flagged (Ok x) = Ok (record { value = made x.value.number true x.value.span x.value.range x.value.spans x.value.ranges; next = x.next })
flagged (Err r) = Err r

pub pair_flagged : (x : Result (Read Range) Refusal) → flagged (value_in (mapped range (of_pair x))) ≡ value_in (mapped (λ (r : says.Range). perhaps (some r)) (of_pair x))
unfolding value_of
pair_flagged (Ok x) = refl
pair_flagged (Err r) = refl
