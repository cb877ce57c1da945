-- `link_fits::is_leaf`: the four tests, one after the other.
use mathlib.Core.Path.{sym, ap, ◌∙◌}
use native.Mathlib.Omega.{arith}
use borrow.Author.Tests.{lt-ltb, le-ltb, eq-eqb, ne_eqb}
use lib.Dec.{eqb}
use Prim.Native.Nat.{ℕ}
use Rattle.laws.proofs.Every.{not_first, then_second}
use Rattle.table_rows.specs.Rows.{record_rows, record_kind, record_yes}
use Rattle.link_fits.specs.Fits.{is_leaf}
use Rattle.link_fits.proofs.is_leaf.Goals as goal

pub returns-then-record_rows-i : goal.returns-then-record_rows-i
unfolding is_leaf
returns-then-record_rows-i c = not_first _ (le-ltb c.args.i (record_rows c.args.records.now) (omega (arith, c.record_rows.ensures, c.if-record_rows-i.true)))

pub record_kind-requires : goal.record_kind-requires
record_kind-requires c = omega (arith, c.record_rows.ensures, c.if-record_rows-i.false)

pub returns-then-record_kind-ne1 : goal.returns-then-record_kind-ne1
unfolding is_leaf
returns-then-record_kind-ne1 c = then_second (lt-ltb c.args.i (record_rows c.args.records.now) (omega (arith, c.record_rows.ensures, c.if-record_rows-i.false))) (not_first _ (ne_eqb (record_kind c.args.records.now c.args.i) 1 (λ q. c.if-record_kind-ne1.true (c.record_kind.ensures ∙ q))))

pub record_yes-requires : goal.record_yes-requires
record_yes-requires c = omega (arith, c.record_rows.ensures, c.if-record_rows-i.false)

pub returns-then-record_yes-ne0 : goal.returns-then-record_yes-ne0
unfolding is_leaf
returns-then-record_yes-ne0 c = then_second (lt-ltb c.args.i (record_rows c.args.records.now) (omega (arith, c.record_rows.ensures, c.if-record_rows-i.false))) (then_second (eq-eqb (record_kind c.args.records.now c.args.i) 1 (sym c.record_kind.ensures ∙ c.if-record_kind-ne1.false)) (not_first _ (ne_eqb (record_yes c.args.records.now c.args.i) 0 (λ q. c.if-record_yes-ne0.true (c.record_yes.ensures ∙ q)))))

pub record_no-requires : goal.record_no-requires
record_no-requires c = omega (arith, c.record_rows.ensures, c.if-record_rows-i.false)

pub returns : goal.returns
unfolding is_leaf
returns c = then_second (lt-ltb c.args.i (record_rows c.args.records.now) (omega (arith, c.record_rows.ensures, c.if-record_rows-i.false))) (then_second (eq-eqb (record_kind c.args.records.now c.args.i) 1 (sym c.record_kind.ensures ∙ c.if-record_kind-ne1.false)) (then_second (eq-eqb (record_yes c.args.records.now c.args.i) 0 (sym c.record_yes.ensures ∙ c.if-record_yes-ne0.false)) (ap (λ (x : ℕ). eqb x 0) c.record_no.ensures)))
