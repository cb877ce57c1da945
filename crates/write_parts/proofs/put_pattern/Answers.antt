-- `write_parts::put_pattern`: the part that its row says, or nothing.
use Prim.Native.Nat.{◌+◌}
use Rattle.write_put.proofs.Puts.{put_as, put_none}
use Rattle.table_rows.proofs.Stand.{told, below}
use Rattle.write_parts.proofs.Laws.{pattern_there, pattern_missing}
use native.Mathlib.Omega.{arith}
use Rattle.write_parts.proofs.put_pattern.Goals as goal

pub overflow_add-first : goal.overflow_add-first
overflow_add-first c = omega (arith, below (c.args.first + c.args.k) (told (c.args.first + c.args.k) c.row_there.ensures c.pattern_rows.ensures c.if-row_there.true))

pub pattern_start-start-requires : goal.pattern_start-start-requires
pattern_start-start-requires c = below (c.args.first + c.args.k) (told (c.args.first + c.args.k) c.row_there.ensures c.pattern_rows.ensures c.if-row_there.true)

pub overflow_add-first-then-row_there : goal.overflow_add-first-then-row_there
overflow_add-first-then-row_there c = omega (arith, below (c.args.first + c.args.k) (told (c.args.first + c.args.k) c.row_there.ensures c.pattern_rows.ensures c.if-row_there.true))

pub pattern_len-len-requires : goal.pattern_len-len-requires
pattern_len-len-requires c = below (c.args.first + c.args.k) (told (c.args.first + c.args.k) c.row_there.ensures c.pattern_rows.ensures c.if-row_there.true)

pub returns-then-row_there : goal.returns-then-row_there
returns-then-row_there c = put_as (pattern_there c.args.s.now c.args.patterns.now c.args.first c.args.k (told (c.args.first + c.args.k) c.row_there.ensures c.pattern_rows.ensures c.if-row_there.true) c.pattern_start-start.ensures c.pattern_len-len.ensures) c.put_part.ensures

pub returns : goal.returns
returns c = put_as (pattern_missing c.args.s.now c.args.patterns.now c.args.first c.args.k (told (c.args.first + c.args.k) c.row_there.ensures c.pattern_rows.ensures c.if-row_there.false)) (put_none (omega (arith, c.well_formed)) (omega arith))
