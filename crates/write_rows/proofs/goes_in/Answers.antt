-- `write_rows::goes_in`: each way through.
use Prim.Native.Nat.{ℕ, ◌+◌}
use Rattle.table_rows.proofs.Stand.{told, below}
use Rattle.table_rows.specs.Rows.{record_yes, record_no}
use Rattle.write_rows.proofs.Outside.{goes_missing, goes_other, goes_out, goes_both}
use borrow.Author.Tests.{not-true, not-false}
use lib.Dec.{ltb}
use mathlib.Core.Path.{sym, ap, ◌∙◌}
use native.Mathlib.Omega.{arith}
use Rattle.write_rows.proofs.goes_in.Goals as goal

pub returns-then-not-row_there : goal.returns-then-not-row_there
returns-then-not-row_there c = goes_missing c.args.records.now c.args.first c.args.k (told (c.args.first + c.args.k) c.row_there.ensures c.record_rows-rows.ensures (not-true _ c.if-not-row_there.true-raw))

pub overflow_add-i : goal.overflow_add-i
overflow_add-i c = omega (arith, below (c.args.first + c.args.k) (told (c.args.first + c.args.k) c.row_there.ensures c.record_rows-rows.ensures (not-false _ c.if-not-row_there.false-raw)))

pub record_kind-requires : goal.record_kind-requires
record_kind-requires c = below (c.args.first + c.args.k) (told (c.args.first + c.args.k) c.row_there.ensures c.record_rows-rows.ensures (not-false _ c.if-not-row_there.false-raw))

pub record_yes-requires : goal.record_yes-requires
record_yes-requires c = below (c.args.first + c.args.k) (told (c.args.first + c.args.k) c.row_there.ensures c.record_rows-rows.ensures (not-false _ c.if-not-row_there.false-raw))

pub returns-then-not-row_there-2 : goal.returns-then-not-row_there-2
returns-then-not-row_there-2 c = goes_out c.args.records.now c.args.first c.args.k (told (c.args.first + c.args.k) c.row_there.ensures c.record_rows-rows.ensures (not-false _ c.if-not-row_there.false-raw)) (sym c.record_kind.ensures ∙ c.if-record_kind-eq0.true) (told (c.args.first + record_yes c.args.records.now (c.args.first + c.args.k)) (c.row_there-then-record_kind-eq0.ensures ∙ ap (λ (y : ℕ). ltb (c.args.first + y) c.record_rows-rows.result) c.record_yes.ensures) c.record_rows-rows.ensures (not-true _ c.if-not-row_there-2.true-raw))

pub record_no-requires : goal.record_no-requires
record_no-requires c = below (c.args.first + c.args.k) (told (c.args.first + c.args.k) c.row_there.ensures c.record_rows-rows.ensures (not-false _ c.if-not-row_there.false-raw))

pub returns-then-record_kind-eq0 : goal.returns-then-record_kind-eq0
returns-then-record_kind-eq0 c = goes_both c.args.records.now c.args.first c.args.k (told (c.args.first + c.args.k) c.row_there.ensures c.record_rows-rows.ensures (not-false _ c.if-not-row_there.false-raw)) (sym c.record_kind.ensures ∙ c.if-record_kind-eq0.true) (told (c.args.first + record_yes c.args.records.now (c.args.first + c.args.k)) (c.row_there-then-record_kind-eq0.ensures ∙ ap (λ (y : ℕ). ltb (c.args.first + y) c.record_rows-rows.result) c.record_yes.ensures) c.record_rows-rows.ensures (not-false _ c.if-not-row_there-2.false-raw))
    (c.row_there-then-record_kind-eq0-2.ensures ∙ ap (λ (y : ℕ). ltb (c.args.first + y) c.record_rows-rows.result) c.record_no.ensures ∙ ap (ltb (c.args.first + record_no c.args.records.now (c.args.first + c.args.k))) c.record_rows-rows.ensures)

pub returns : goal.returns
returns c = goes_other c.args.records.now c.args.first c.args.k (told (c.args.first + c.args.k) c.row_there.ensures c.record_rows-rows.ensures (not-false _ c.if-not-row_there.false-raw)) (λ z. c.if-record_kind-eq0.false (c.record_kind.ensures ∙ z))
