-- `write_records::goes_yes`: what the row says.
use mathlib.Core.Path.{sym, ◌∙◌}
use Rattle.table_rows.specs.Rows.{record_yes}
use Rattle.write_records.proofs.Laws.{row_says}
use Rattle.write_records.proofs.goes_yes.Goals as goal

pub returns-in-Some : goal.returns-in-Some
returns-in-Some c = row_says record_yes _ _ _ c.record_yes.ensures (sym c.row_of.ensures.row ∙ c.in-Some.is)
