-- `load_bounds::stand`: table by table.
use mathlib.Core.Path.{refl, sym, ◌∙◌}
use native.Mathlib.Nat.{div-one}
use borrow.Author.Tests.{not-true, not-false}
use Rattle.load_bounds.specs.Bounds.{stands_at}
use Rattle.load_bounds.proofs.stand.Goals as goal

pub returns-then-not-beside : goal.returns-then-not-beside
unfolding stands_at
returns-then-not-beside c = rw (sym c.beside.ensures ∙ not-true _ c.if-not-beside.true-raw) refl

pub returns-then-not-beside-2 : goal.returns-then-not-beside-2
unfolding stands_at
returns-then-not-beside-2 c = rw (sym c.beside.ensures ∙ not-false _ c.if-not-beside.false-raw, sym c.beside-2.ensures ∙ not-true _ c.if-not-beside-2.true-raw) refl

pub returns-then-not-beside-3 : goal.returns-then-not-beside-3
unfolding stands_at
returns-then-not-beside-3 c = rw (sym c.beside.ensures ∙ not-false _ c.if-not-beside.false-raw, sym c.beside-2.ensures ∙ not-false _ c.if-not-beside-2.false-raw, sym c.beside-3.ensures ∙ not-true _ c.if-not-beside-3.true-raw) refl

pub returns-then-not-beside-4 : goal.returns-then-not-beside-4
unfolding stands_at
returns-then-not-beside-4 c = rw (sym c.beside.ensures ∙ not-false _ c.if-not-beside.false-raw, sym c.beside-2.ensures ∙ not-false _ c.if-not-beside-2.false-raw, sym c.beside-3.ensures ∙ not-false _ c.if-not-beside-3.false-raw, sym c.beside-4.ensures ∙ not-true _ c.if-not-beside-4.true-raw) refl

pub returns : goal.returns
unfolding stands_at
returns c = rw (sym c.beside.ensures ∙ not-false _ c.if-not-beside.false-raw, sym c.beside-2.ensures ∙ not-false _ c.if-not-beside-2.false-raw, sym c.beside-3.ensures ∙ not-false _ c.if-not-beside-3.false-raw, sym c.beside-4.ensures ∙ not-false _ c.if-not-beside-4.false-raw, div-one) c.beside-5.ensures
