-- `trail_plan::plan_entries`: the block's size gives the places of the tree's values; or 19.
use mathlib.Core.Path.{sym, ap, ◌∙◌}
use Prim.Native.Nat.{ℕ, ◌*◌}
use native.Mathlib.Omega.{arith}
use Rattle.trail_plan.proofs.Laws.{block_size, entries_wrong, entries_fit}
use Rattle.trail_plan.proofs.plan_entries.Goals as goal

pub entries_before-before-requires : goal.entries_before-before-requires
entries_before-before-requires c =
    let a = c.args in
    let z = block_size a.n a.plan.width a.s.now a.plan.block a.k _ c.requires (sym c.in-Some.is ∙ c.check_block.ensures) in
    (omega (arith, z.counts, c.requires), omega (arith, z.few, c.well_formed))

pub overflow_mul-k : goal.overflow_mul-k
overflow_mul-k c =
    let a = c.args in
    let z = block_size a.n a.plan.width a.s.now a.plan.block a.k _ c.requires (sym c.in-Some.is ∙ c.check_block.ensures) in
    omega (arith, z.counts, c.requires, c.well_formed)

pub overflow_add-plan : goal.overflow_add-plan
overflow_add-plan c =
    let a = c.args in
    let z = block_size a.n a.plan.width a.s.now a.plan.block a.k _ c.requires (sym c.in-Some.is ∙ c.check_block.ensures) in
    omega (arith, z.counts, c.requires, c.well_formed)

pub word-entries-requires : goal.word-entries-requires
word-entries-requires c =
    let a = c.args in
    let z = block_size a.n a.plan.width a.s.now a.plan.block a.k _ c.requires (sym c.in-Some.is ∙ c.check_block.ensures) in
    omega (arith, z.counts, c.requires, c.well_formed)

pub overflow_mul-result : goal.overflow_mul-result
overflow_mul-result c =
    let a = c.args in
    let z = block_size a.n a.plan.width a.s.now a.plan.block a.k _ c.requires (sym c.in-Some.is ∙ c.check_block.ensures) in
    omega (arith, z.counts, c.well_formed)

pub overflow_add-result : goal.overflow_add-result
overflow_add-result c =
    let a = c.args in
    let z = block_size a.n a.plan.width a.s.now a.plan.block a.k _ c.requires (sym c.in-Some.is ∙ c.check_block.ensures) in
    omega (arith, z.counts, c.well_formed)

pub overflow_mul-result-in-Some : goal.overflow_mul-result-in-Some
overflow_mul-result-in-Some c =
    let a = c.args in
    let z = block_size a.n a.plan.width a.s.now a.plan.block a.k _ c.requires (sym c.in-Some.is ∙ c.check_block.ensures) in
    let m = ap (λ (b : ℕ). b * a.plan.width) c.entries_before-before.ensures in
    omega (arith, z.values, m, c.well_formed)

pub overflow_mul-result-in-Some-2 : goal.overflow_mul-result-in-Some-2
overflow_mul-result-in-Some-2 c =
    let a = c.args in
    let z = block_size a.n a.plan.width a.s.now a.plan.block a.k _ c.requires (sym c.in-Some.is ∙ c.check_block.ensures) in
    let m = ap (λ (b : ℕ). b * a.plan.width) c.entries_before-before.ensures in
    omega (arith, z.values, m, c.well_formed)

pub overflow_add-result-in-Some : goal.overflow_add-result-in-Some
overflow_add-result-in-Some c =
    let a = c.args in
    let z = block_size a.n a.plan.width a.s.now a.plan.block a.k _ c.requires (sym c.in-Some.is ∙ c.check_block.ensures) in
    let m = ap (λ (b : ℕ). b * a.plan.width) c.entries_before-before.ensures in
    omega (arith, z.values, m, c.well_formed)

pub returns-in-Some : goal.returns-in-Some
returns-in-Some c = entries_fit _ _ _ _ (sym c.in-Some.is ∙ c.check_block.ensures) c.entries_before-before.ensures c.word-entries.ensures

pub returns-in-None : goal.returns-in-None
returns-in-None c = entries_wrong _ _ _ _ (sym c.in-None.is ∙ c.check_block.ensures)
