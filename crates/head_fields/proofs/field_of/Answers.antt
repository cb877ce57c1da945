-- `head_fields::field_of`: each text of names is that of its table.
use mathlib.Core.Path.{refl, ◌∙◌}
use Rattle.written.specs.Bytes.{bytes}
use Rattle.written.specs.Record.{global_fields, stream_fields, stream_group, position_fields, position_group}
use Rattle.head_fields.specs.Fields.{field_index}
use Rattle.head_fields.proofs.Listed.{index_listed}
use Rattle.head_fields.proofs.field_of.Goals as goal

pub returns-in-Global : goal.returns-in-Global
unfolding global_fields bytes
returns-in-Global c = rw c.in-Global.is (c.name_index.ensures ∙ index_listed global_fields _ refl)

pub returns-in-Stream : goal.returns-in-Stream
unfolding field_index stream_fields
returns-in-Stream c = rw c.in-Stream.is

pub returns-in-StreamGroup : goal.returns-in-StreamGroup
unfolding stream_group bytes
returns-in-StreamGroup c = rw c.in-StreamGroup.is (c.name_index-in-StreamGroup.ensures ∙ index_listed stream_group _ refl)

pub returns-in-Position : goal.returns-in-Position
unfolding position_fields bytes
returns-in-Position c = rw c.in-Position.is (c.name_index-in-Position.ensures ∙ index_listed position_fields _ refl)

pub returns-in-PositionGroup : goal.returns-in-PositionGroup
unfolding position_group bytes
returns-in-PositionGroup c = rw c.in-PositionGroup.is (c.name_index-in-PositionGroup.ensures ∙ index_listed position_group _ refl)
