-- `write_records::goes_no`: what the row says.
use mathlib.Core.Path.{sym, ◌∙◌}
use Rattle.table_rows.specs.Rows.{record_no}
use Rattle.write_records.proofs.Laws.{row_says}
use Rattle.write_records.proofs.goes_no.Goals as goal

pub returns-in-Some : goal.returns-in-Some
returns-in-Some c = row_says record_no _ _ _ c.record_no.ensures (sym c.row_of.ensures.row ∙ c.in-Some.is)
