-- The fields of each section and its groups by their number, the place in the tables of `written`.
use Rattle.std.specs.Prelude.{Bool, true, false, cond, List, [], ◌∷◌, ℕ, zero, suc, get_or}
use Rattle.written.specs.Bytes.{same}
use Rattle.written.specs.HeaderText.{Kind, anything, Field}
use Rattle.written.specs.Record.{global_fields, stream_fields, stream_group, position_fields, position_group}
use Rattle.head_fields.specs.declared.Table.{Table}
use Rattle.head_fields.specs.declared.Table.TheVariants as table

abbrev pub fields_of : Table → List Field
fields_of table.Global = global_fields
fields_of table.Stream = stream_fields
fields_of table.StreamGroup = stream_group
fields_of table.Position = position_fields
fields_of table.PositionGroup = position_group

-- the number of the field that a key names; behind the last where it names none
unfoldable pub field_index : List Field → List ℕ → ℕ
field_index [] w = 0
field_index (f ∷ T) w = cond (same f.name w) 0 (suc (field_index T w))

-- how the value of a field is read
unfoldable pub kind_at : List Field → ℕ → Kind
kind_at [] k = anything
kind_at (f ∷ T) zero = f.kind
kind_at (f ∷ T) (suc k) = kind_at T k

-- one of the first n was not seen
unfoldable pub any_missing : List Bool → ℕ → Bool
any_missing m zero = false
any_missing m (suc n) = cond (get_or m n false) (any_missing m n) true
