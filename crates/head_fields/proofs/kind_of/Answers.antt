-- `head_fields::kind_of` meets its contract.
use Rattle.written.specs.Record.{stream_fields}
use Rattle.head_fields.specs.Fields.{kind_at}
use Rattle.head_fields.proofs.kind_of.Goals as goal

pub returns-in-Global : goal.returns-in-Global
returns-in-Global c = rw c.in-Global.is c.global_kind.ensures

pub returns-in-Stream : goal.returns-in-Stream
unfolding kind_at stream_fields
returns-in-Stream c = rw c.in-Stream.is

pub returns-in-StreamGroup : goal.returns-in-StreamGroup
returns-in-StreamGroup c = rw c.in-StreamGroup.is c.stream_group_kind.ensures

pub returns-in-Position : goal.returns-in-Position
returns-in-Position c = rw c.in-Position.is c.position_kind.ensures

pub returns-in-PositionGroup : goal.returns-in-PositionGroup
returns-in-PositionGroup c = rw c.in-PositionGroup.is c.position_group_kind.ensures
