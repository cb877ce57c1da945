-- `write_records::kind`: what the row says.
use mathlib.Core.Path.{sym, ◌∙◌}
use Rattle.table_rows.specs.Rows.{record_kind}
use Rattle.write_records.proofs.Laws.{row_says}
use Rattle.write_records.proofs.kind.Goals as goal

pub returns-in-Some : goal.returns-in-Some
returns-in-Some c = row_says record_kind _ _ _ c.record_kind.ensures (sym c.row_of.ensures.row ∙ c.in-Some.is)
