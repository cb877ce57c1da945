-- `walk_reach::look`: missing, a line, a leaf, or of another kind.
use mathlib.Core.Path.{sym, ◌∙◌}
use native.Mathlib.Omega.{arith}
use borrow.Author.Tests.{not-true, not-false}
use Rattle.walk_reach.proofs.Laws.{seen_missing, row_inside, seen_line, seen-leaf, seen_wrong}
use Rattle.walk_reach.proofs.look.Goals as goal

pub returns-then-not-record_there : goal.returns-then-not-record_there
returns-then-not-record_there c = seen_missing _ _ _ _ (sym c.record_there.ensures ∙ not-true _ c.if-not-record_there.true-raw)

pub overflow_add-i : goal.overflow_add-i
overflow_add-i c =
    let a = c.args in
    let h = row_inside a.records.now a.first a.count a.k (sym c.record_there.ensures ∙ not-false _ c.if-not-record_there.false-raw) in
    omega (arith, h)

pub record_kind-kind-requires : goal.record_kind-kind-requires
record_kind-kind-requires c = let a = c.args in row_inside a.records.now a.first a.count a.k (sym c.record_there.ensures ∙ not-false _ c.if-not-record_there.false-raw)

pub record_yes-requires : goal.record_yes-requires
record_yes-requires c = let a = c.args in row_inside a.records.now a.first a.count a.k (sym c.record_there.ensures ∙ not-false _ c.if-not-record_there.false-raw)

pub record_no-requires : goal.record_no-requires
record_no-requires c = let a = c.args in row_inside a.records.now a.first a.count a.k (sym c.record_there.ensures ∙ not-false _ c.if-not-record_there.false-raw)

pub returns-then-kind-eq0 : goal.returns-then-kind-eq0
returns-then-kind-eq0 c =
    seen_line _ _ _ _ (sym c.record_there.ensures ∙ not-false _ c.if-not-record_there.false-raw) c.record_kind-kind.ensures c.if-kind-eq0.true c.record_yes.ensures c.record_no.ensures

pub returns-then-kind-eq1 : goal.returns-then-kind-eq1
returns-then-kind-eq1 c = seen-leaf _ _ _ _ (sym c.record_there.ensures ∙ not-false _ c.if-not-record_there.false-raw) c.record_kind-kind.ensures c.if-kind-eq0.false c.if-kind-eq1.true

pub returns-else-kind-eq1 : goal.returns-else-kind-eq1
returns-else-kind-eq1 c = seen_wrong _ _ _ _ (sym c.record_there.ensures ∙ not-false _ c.if-not-record_there.false-raw) c.record_kind-kind.ensures c.if-kind-eq0.false c.if-kind-eq1.false
