-- `walk::meet`: no record there, a line, a leaf, or another kind.
use mathlib.Core.Path.{◌≡◌, sym, ◌∙◌}
use mathlib.Core.Bool.{true}
use native.Mathlib.Omega.{arith}
use borrow.Author.Tests.{not-true, not-false}
use Rattle.table_rows.specs.Rows.{record_there}
use Rattle.table_rows.proofs.Stand.{record_in}
use Rattle.walk.proofs.Judged.{meet_outside, meet_line, meet_leaf, meet_other}
use Rattle.walk.proofs.meet.Goals.{Else-not-record_there}
use Rattle.walk.proofs.meet.Goals as goal

there : (c : Else-not-record_there) → let a = c.args in record_there a.records.now a.first a.count a.k ≡ true
there c = sym c.record_there.ensures ∙ not-false _ c.if-not-record_there.false-raw

pub returns-then-not-record_there : goal.returns-then-not-record_there
returns-then-not-record_there c =
    let a = c.args in
    meet_outside a.records.now a.first a.count a.answers.now a.k (sym c.record_there.ensures ∙ not-true _ c.if-not-record_there.true-raw)

pub overflow_add-i : goal.overflow_add-i
overflow_add-i c =
    let a = c.args in
    let h = record_in a.records.now a.first a.count a.k (there c) in
    omega (arith, h.1)

pub record_kind-kind-requires : goal.record_kind-kind-requires
record_kind-kind-requires c = let a = c.args in (record_in a.records.now a.first a.count a.k (there c)).1

pub ask-requires : goal.ask-requires
ask-requires c = let a = c.args in (record_in a.records.now a.first a.count a.k (there (goal.at.ask-requires c).Else-not-record_there)).1

pub record_pdf-requires : goal.record_pdf-requires
record_pdf-requires c =
    let a = c.args in (record_in a.records.now a.first a.count a.k (there (goal.at.record_pdf-requires c).Else-not-record_there)).1

pub returns-then-kind-eq0 : goal.returns-then-kind-eq0
returns-then-kind-eq0 c =
    let a = c.args in
    meet_line a.records.now a.first a.count a.answers.now a.k (there (goal.at.returns-then-kind-eq0 c).Else-not-record_there) c.record_kind-kind.ensures c.if-kind-eq0.true c.ask.ensures

pub returns-then-kind-eq1 : goal.returns-then-kind-eq1
returns-then-kind-eq1 c =
    let a = c.args in
    meet_leaf a.records.now a.first a.count a.answers.now a.k (there (goal.at.returns-then-kind-eq1 c).Else-not-record_there) c.record_kind-kind.ensures c.if-kind-eq1.true c.record_pdf.ensures

pub returns-else-kind-eq1 : goal.returns-else-kind-eq1
returns-else-kind-eq1 c =
    let a = c.args in
    meet_other a.records.now a.first a.count a.answers.now a.k (there (goal.at.returns-else-kind-eq1 c).Else-not-record_there) c.record_kind-kind.ensures c.if-kind-eq0.false c.if-kind-eq1.false
