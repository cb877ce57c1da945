-- `link_fits::row_fits`: the five tests, one after the other.
use mathlib.Core.Path.{sym, ap, ◌∙◌}
use native.Mathlib.Omega.{arith}
use borrow.Author.Tests.{lt-ltb, le-ltb, eq-eqb, ne_eqb, not-true, not-false}
use Rattle.laws.proofs.Every.{not_first, then_second}
use Rattle.table_rows.specs.Rows.{record_rows, record_kind, record_question}
use Rattle.link_fits.specs.Fits.{leads_to, row_fits}
use Rattle.link_fits.proofs.row_fits.Goals as goal

pub returns-then-record_rows-k : goal.returns-then-record_rows-k
unfolding row_fits
returns-then-record_rows-k c = not_first _ (le-ltb c.args.k (record_rows c.args.records.now) (omega (arith, c.record_rows.ensures, c.if-record_rows-k.true)))

pub record_kind-requires : goal.record_kind-requires
record_kind-requires c = omega (arith, c.record_rows.ensures, c.if-record_rows-k.false)

pub returns-then-record_kind-ne0 : goal.returns-then-record_kind-ne0
unfolding row_fits
returns-then-record_kind-ne0 c = then_second (lt-ltb c.args.k (record_rows c.args.records.now) (omega (arith, c.record_rows.ensures, c.if-record_rows-k.false))) (not_first _ (ne_eqb (record_kind c.args.records.now c.args.k) 0 (λ q. c.if-record_kind-ne0.true (c.record_kind.ensures ∙ q))))

pub record_question-requires : goal.record_question-requires
record_question-requires c = omega (arith, c.record_rows.ensures, c.if-record_rows-k.false)

pub returns-then-record_question-question : goal.returns-then-record_question-question
unfolding row_fits
returns-then-record_question-question c = then_second (lt-ltb c.args.k (record_rows c.args.records.now) (omega (arith, c.record_rows.ensures, c.if-record_rows-k.false))) (then_second (eq-eqb (record_kind c.args.records.now c.args.k) 0 (sym c.record_kind.ensures ∙ c.if-record_kind-ne0.false)) (not_first _ (ne_eqb (record_question c.args.records.now c.args.k) c.args.question (λ q. c.if-record_question-question.true (c.record_question.ensures ∙ q)))))

pub record_yes-requires : goal.record_yes-requires
record_yes-requires c = omega (arith, c.record_rows.ensures, c.if-record_rows-k.false)

pub returns-then-not-leads_to : goal.returns-then-not-leads_to
unfolding row_fits
returns-then-not-leads_to c = then_second (lt-ltb c.args.k (record_rows c.args.records.now) (omega (arith, c.record_rows.ensures, c.if-record_rows-k.false))) (then_second (eq-eqb (record_kind c.args.records.now c.args.k) 0 (sym c.record_kind.ensures ∙ c.if-record_kind-ne0.false)) (then_second (eq-eqb (record_question c.args.records.now c.args.k) c.args.question (sym c.record_question.ensures ∙ c.if-record_question-question.false)) (not_first _ (ap (leads_to c.args.records.now c.args.yes) (sym c.record_yes.ensures) ∙ sym c.leads_to.ensures ∙ not-true _ c.if-not-leads_to.true-raw))))

pub record_no-requires : goal.record_no-requires
record_no-requires c = omega (arith, c.record_rows.ensures, c.if-record_rows-k.false)

pub returns : goal.returns
unfolding row_fits
returns c = then_second (lt-ltb c.args.k (record_rows c.args.records.now) (omega (arith, c.record_rows.ensures, c.if-record_rows-k.false))) (then_second (eq-eqb (record_kind c.args.records.now c.args.k) 0 (sym c.record_kind.ensures ∙ c.if-record_kind-ne0.false)) (then_second (eq-eqb (record_question c.args.records.now c.args.k) c.args.question (sym c.record_question.ensures ∙ c.if-record_question-question.false)) (then_second (ap (leads_to c.args.records.now c.args.yes) (sym c.record_yes.ensures) ∙ sym c.leads_to.ensures ∙ not-false _ c.if-not-leads_to.false-raw) (c.leads_to-2.ensures ∙ ap (leads_to c.args.records.now c.args.no) c.record_no.ensures))))
