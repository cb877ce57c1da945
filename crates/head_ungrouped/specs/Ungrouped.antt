-- What the lines of [POSITION] make of the two duration ranges, and whether those of [STREAM] are whole.
use Rattle.std.specs.Prelude.{Bool, cond, List, ℕ, eqb, Result, Ok, Err, ⊤}
use Rattle.written.specs.HeaderText.{Entry}
use Rattle.written.specs.Record.{position_fields}
use Rattle.error.specs.declared.Refusal.{Refusal}
use Rattle.error.specs.declared.Refusal.TheVariants as refusal
use Rattle.head_record.specs.Empty.{no_range}
use Rattle.head_de_values.specs.Values.{value_of}
use Rattle.head_de_values.specs.declared.Value.{Value}
use Rattle.head_fields.specs.Fields.{field_index, any_missing}
use Rattle.head_lines.specs.Lines.{Lines, whole, faulty, kept}
use Rattle.head_ungrouped.specs.declared.Durations.{Durations}

unfoldable pub no_durations : Durations
no_durations = record { pdf = no_range; tree = no_range }

-- the value v in the field of the number k
unfoldable pub stored : Durations → ℕ → Value → Durations
stored d k v = record { pdf = cond (eqb k 0) v.range d.pdf; tree = cond (eqb k 1) v.range d.tree }

-- a line's value in its field
unfoldable pub with_line : Durations → Entry → Durations
with_line d x = stored d (field_index position_fields x.name) (value_of x.value)

-- a field is missing (9)
unfoldable pub judged : List Bool → Durations → Result Durations Refusal
judged m d = cond (any_missing m 2) (Err refusal.Field) (Ok d)

abbrev pub durations_in : Lines → Result Durations Refusal
durations_in (whole m xs) = judged m (kept with_line no_durations xs)
durations_in (faulty r) = Err r

abbrev pub verdict_in : Lines → Result ⊤ Refusal
verdict_in (whole m xs) = Ok tt
verdict_in (faulty r) = Err r
