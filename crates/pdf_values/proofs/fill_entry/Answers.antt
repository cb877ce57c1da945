-- `pdf_values::fill_entry`: the pairs, and an odd last number behind them.
use mathlib.Core.Path.{ap}
use native.Mathlib.Omega.{arith}
use Rattle.pdf_values.proofs.Laws.{bit, length_entry, entry_even, entry_odd}
use Rattle.pdf_values.proofs.fill_entry.Goals as goal

pub overflow_mul-half : goal.overflow_mul-half
overflow_mul-half c = omega (arith, length_entry c.args.s.now c.args.at c.args.half c.args.odd, c.requires)

pub overflow_add-at : goal.overflow_add-at
overflow_add-at c = omega (arith, length_entry c.args.s.now c.args.at c.args.half c.args.odd, c.requires)

pub fill_pairs-requires : goal.fill_pairs-requires
fill_pairs-requires c = omega (arith, length_entry c.args.s.now c.args.at c.args.half c.args.odd, c.requires)

pub overflow_mul-half-then-odd : goal.overflow_mul-half-then-odd
overflow_mul-half-then-odd c = omega (arith, length_entry c.args.s.now c.args.at c.args.half c.args.odd, c.requires)

pub overflow_add-at-then-odd : goal.overflow_add-at-then-odd
overflow_add-at-then-odd c = omega (arith, length_entry c.args.s.now c.args.at c.args.half c.args.odd, c.requires)

pub value-requires : goal.value-requires
value-requires c = omega (arith, length_entry c.args.s.now c.args.at c.args.half c.args.odd, c.requires, ap bit c.if-odd.true)

pub overflow_mul-values : goal.overflow_mul-values
overflow_mul-values c = omega (arith, length_entry c.args.s.now c.args.at c.args.half c.args.odd, c.requires)

pub overflow_add-values : goal.overflow_add-values
overflow_add-values c = omega (arith, length_entry c.args.s.now c.args.at c.args.half c.args.odd, c.requires)

pub offset_bounds-values-first : goal.offset_bounds-values-first
offset_bounds-values-first c = omega (arith, length_entry c.args.s.now c.args.at c.args.half c.args.odd, c.requires)

pub bounds-values-first : goal.bounds-values-first
bounds-values-first c = omega (arith, length_entry c.args.s.now c.args.at c.args.half c.args.odd, c.requires, ap bit c.if-odd.true, c.fill_pairs.auto)

pub returns-then-odd : goal.returns-then-odd
returns-then-odd c = entry_odd _ _ _ _ _ c.fill_pairs.ensures c.if-odd.true _ c.value.ensures

pub returns-else-odd : goal.returns-else-odd
returns-else-odd c = entry_even _ _ _ _ _ c.fill_pairs.ensures c.if-odd.false
