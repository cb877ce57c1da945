-- `table_rows::row_there`: past the rows, or by what is left of them.
use Rattle.table_rows.proofs.Stand.{past_rows, in_rows}
use Rattle.table_rows.proofs.row_there.Goals as goal

pub returns-then-many-first : goal.returns-then-many-first
returns-then-many-first c = past_rows _ _ _ c.if-many-first.true

pub returns : goal.returns
returns c = in_rows _ _ _ c.if-many-first.false
