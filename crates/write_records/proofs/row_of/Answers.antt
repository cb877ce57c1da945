-- `write_records::row_of`: the row, or none.
use Prim.Native.Nat.{◌+◌}
use native.Mathlib.Omega.{arith}
use Rattle.table_rows.proofs.Stand.{told, below}
use Rattle.write_records.proofs.row_of.Goals as goal

pub overflow_add-result : goal.overflow_add-result
overflow_add-result c = omega (arith, below (c.args.first + c.args.k) (told (c.args.first + c.args.k) c.row_there.ensures c.record_rows.ensures c.if-row_there.true))

pub returns-then-row_there : goal.returns-then-row_there
returns-then-row_there c =
    let h = told (c.args.first + c.args.k) c.row_there.ensures c.record_rows.ensures c.if-row_there.true in
    record { row = rw h; there = below (c.args.first + c.args.k) h }

pub returns-clause-row : goal.returns-clause-row
returns-clause-row c = rw (told (c.args.first + c.args.k) c.row_there.ensures c.record_rows.ensures c.if-row_there.false)
