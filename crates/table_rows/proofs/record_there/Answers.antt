-- `table_rows::record_there`: past the count, past the table, or by what is left of the table.
use Rattle.table_rows.proofs.Stand.{past_count, past_table, in_table}
use Rattle.table_rows.proofs.record_there.Goals as goal

pub returns-then-count-k : goal.returns-then-count-k
returns-then-count-k c = let a = c.args in past_count a.records.now a.first a.count a.k c.if-count-k.true

pub returns-then-rows-first : goal.returns-then-rows-first
returns-then-rows-first c = let a = c.args in past_table a.records.now a.first a.count a.k c.if-rows-first.true

pub returns : goal.returns
returns c = let a = c.args in in_table a.records.now a.first a.count a.k c.if-count-k.false c.if-rows-first.false
