-- `link_fits::is_leaf_of`: a leaf, and its number.
use mathlib.Core.Path.{sym, ap, ◌∙◌}
use borrow.Author.Tests.{not-true, not-false}
use lib.Dec.{eqb}
use Prim.Native.Nat.{ℕ}
use Rattle.laws.proofs.Every.{not_first, then_second}
use Rattle.link_fits.specs.Fits.{leaf_of}
use Rattle.link_fits.proofs.Rows.{leaf_there}
use Rattle.link_fits.proofs.is_leaf_of.Goals as goal

pub returns-then-not-is_leaf : goal.returns-then-not-is_leaf
unfolding leaf_of
returns-then-not-is_leaf c = not_first _ (sym c.is_leaf.ensures ∙ not-true _ c.if-not-is_leaf.true-raw)

pub record_pdf-requires : goal.record_pdf-requires
record_pdf-requires c = leaf_there c.args.records.now c.args.i (sym c.is_leaf.ensures ∙ not-false _ c.if-not-is_leaf.false-raw)

pub returns : goal.returns
unfolding leaf_of
returns c = then_second (sym c.is_leaf.ensures ∙ not-false _ c.if-not-is_leaf.false-raw) (ap (λ (x : ℕ). eqb x c.args.number) c.record_pdf.ensures)
