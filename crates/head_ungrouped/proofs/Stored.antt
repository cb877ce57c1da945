-- A line's value is stored as its field has it, wherever the line ends.
use mathlib.Core.Path.{◌≡◌}
use Prim.Native.Nat.{ℕ}
use Rattle.written.specs.HeaderText.{Entry}
use Rattle.written.specs.Record.{position_fields}
use Rattle.head_ungrouped.specs.declared.Durations.{Durations}
use Rattle.head_de_values.specs.Values.{value_of}
use Rattle.head_de_values.specs.declared.Value.{Value}
use Rattle.head_fields.specs.Fields.{field_index}
use Rattle.head_ungrouped.specs.Ungrouped.{stored, with_line}

pub stored_line : (g : Durations) (x : Entry) {k : ℕ} {u : Value} → k ≡ field_index position_fields x.name → u ≡ value_of x.value → stored g k u ≡ with_line g x
unfolding with_line
stored_line g x e f = rw (e, f)
