-- `house_text::leaves_run` meets its contract.
use mathlib.Core.Path.{refl, sym, ap, ◌∙◌}
use Prim.Native.Nat.{ℕ}
use native.Mathlib.Omega.{arith}
use borrow.Author.Tests.{not-true, not-false}
use Rattle.table_rows.specs.Rows.{tree_entries}
use Rattle.tree_body.specs.Trees.{head_at}
use Rattle.tree_survey.proofs.Counting.{more_in}
use Rattle.load_trees.specs.Trees.{head_body}
use Rattle.house_text.specs.Text.{body_fits}
use Rattle.house_text.proofs.Laws.{judge_off, judge_on, judge_last, judge_none, one_left, last_left}
use Rattle.house_text.proofs.leaves_run.Goals as goal

pub loop-next-init : goal.loop-next-init
loop-next-init c = (record { rest = refl }, omega (arith, c.requires), omega arith)

pub tree_entries-requires : goal.tree_entries-requires
tree_entries-requires c = omega (arith, c.loop-next.invariant.1, one_left _ _ (sym c.in-Next.is ∙ c.survey_tree.ensures))

pub returns-then-not-tree_fits : goal.returns-then-not-tree_fits
returns-then-not-tree_fits c = judge_off _ _ c.loop-next.invariant.0 (sym c.in-Next.is ∙ c.survey_tree.ensures) (c.tree_fits.ensures ∙ ap (λ (n : ℕ). body_fits n (head_body c.args.s.now (head_at c.args.s.now c.loop-next.i))) c.tree_entries.ensures) (not-true _ c.if-not-tree_fits.true-raw)

pub overflow_add-k : goal.overflow_add-k
overflow_add-k c = omega (arith, more_in _ _ (sym c.in-Next.is ∙ c.survey_tree.ensures), c.loop-next.invariant.2, c.well_formed)

pub loop-next-smaller : goal.loop-next-smaller
loop-next-smaller c = omega (arith, more_in _ _ (sym c.in-Next.is ∙ c.survey_tree.ensures))

pub loop-next-preserved : goal.loop-next-preserved
loop-next-preserved c =
    let e = sym c.in-Next.is ∙ c.survey_tree.ensures in
    let j = judge_on _ _ c.loop-next.invariant.0 e (c.tree_fits.ensures ∙ ap (λ (n : ℕ). body_fits n (head_body c.args.s.now (head_at c.args.s.now c.loop-next.i))) c.tree_entries.ensures) (not-false _ c.if-not-tree_fits.false-raw) in
    (j, omega (arith, c.loop-next.invariant.1, one_left _ _ e), omega (arith, more_in _ _ e, c.loop-next.invariant.2))

pub tree_entries-requires-in-Last : goal.tree_entries-requires-in-Last
tree_entries-requires-in-Last c = omega (arith, c.loop-next.invariant.1, last_left _ _ (sym c.in-Last.is ∙ c.survey_tree.ensures))

pub returns-in-Last : goal.returns-in-Last
returns-in-Last c = judge_last _ _ c.loop-next.invariant.0 (sym c.in-Last.is ∙ c.survey_tree.ensures) (c.tree_fits-in-Last.ensures ∙ ap (λ (n : ℕ). body_fits n (head_body c.args.s.now (head_at c.args.s.now c.loop-next.i))) c.tree_entries-in-Last.ensures)

pub returns-in-Broken : goal.returns-in-Broken
returns-in-Broken c = judge_none _ _ c.loop-next.invariant.0 (sym c.in-Broken.is ∙ c.survey_tree.ensures)
