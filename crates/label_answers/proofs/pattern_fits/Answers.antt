-- `label_answers::pattern_fits`: no such row, or by its bytes.
use Prim.Native.Nat.{◌+◌, ◌<◌}
use native.Mathlib.Omega.{arith}
use borrow.Author.Tests.{not-true, not-false}
use Rattle.table_rows.specs.Rows.{pattern_rows}
use Rattle.table_rows.proofs.Stand.{told, below}
use Rattle.label_answers.proofs.Laws.{no_pattern, by_bytes}
use Rattle.label_answers.proofs.pattern_fits.Goals as goal

pub returns-then-not-row_there : goal.returns-then-not-row_there
returns-then-not-row_there c = no_pattern _ _ _ (told _ c.row_there.ensures c.pattern_rows.ensures (not-true _ c.if-not-row_there.true-raw))

pub overflow_add-p : goal.overflow_add-p
overflow_add-p c = let a = c.args in let l : a.first + a.k < pattern_rows a.patterns.now = below _ (told _ c.row_there.ensures c.pattern_rows.ensures (not-false _ c.if-not-row_there.false-raw)) in omega (arith, l)

pub pattern_start-requires : goal.pattern_start-requires
pattern_start-requires c = below _ (told _ c.row_there.ensures c.pattern_rows.ensures (not-false _ c.if-not-row_there.false-raw))

pub pattern_len-requires : goal.pattern_len-requires
pattern_len-requires c = below _ (told _ c.row_there.ensures c.pattern_rows.ensures (not-false _ c.if-not-row_there.false-raw))

pub returns : goal.returns
returns c =
    by_bytes _ _ _ (told _ c.row_there.ensures c.pattern_rows.ensures (not-false _ c.if-not-row_there.false-raw)) c.pattern_start.ensures c.pattern_len.ensures c.bytes_fit.ensures
