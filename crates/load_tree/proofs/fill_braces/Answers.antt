-- `load_tree::fill_braces`: a bare leaf, or the lines linked.
use mathlib.Core.Path.{refl, sym, ap, ◌∙◌}
use native.Mathlib.Omega.{arith}
use lib.ListN.{length}
use lib.Seq.{sets}
use Rattle.tree_line.specs.Lines.{lines_at}
use Rattle.load_tree.specs.Bodies.{TreeResult}
use Rattle.load_tree.proofs.Laws.{counted_lines, counted_some, counted_end, counted-needed, counted_always, one_result, one_record, linked_room, linked_needed, linked_is}
use Rattle.load_tree.proofs.fill_braces.Goals as goal

pub single_of-requires : goal.single_of-requires
single_of-requires c = counted_lines c.args.s.now c.args.at (sym c.in-Some.is ∙ c.fill_lines.ensures.0)

pub fill_leaf-requires : goal.fill_leaf-requires
fill_leaf-requires c =
    let a = c.args in
    let h = sym c.in-Some.is ∙ c.fill_lines.ensures.0 in
    omega (arith, c.requires.at_in_bounds.0, one_record a.s.now a.questions.now (length a.index.now) (lines_at a.s.now a.at).items _ _ (counted_lines a.s.now a.at h) (counted_some a.s.now a.at h) refl (sym c.in-Some-single_of.is ∙ c.single_of.ensures))

pub overflow_add-read : goal.overflow_add-read
overflow_add-read c =
    let a = c.args in
    let h = sym c.in-Some.is ∙ c.fill_lines.ensures.0 in
    omega (arith, counted-needed a.s.now a.at h (sym c.in-None-single_of.is ∙ c.single_of.ensures), c.requires.at_in_bounds.0, c.well_formed)

pub link_lines-requires : goal.link_lines-requires
link_lines-requires c =
    let a = c.args in
    let ls = (lines_at a.s.now a.at).items in
    let h = sym c.in-Some.is ∙ c.fill_lines.ensures.0 in
    let q = sym c.in-None-single_of.is ∙ c.single_of.ensures in
    let n = counted_lines a.s.now a.at h in
    let d = counted-needed a.s.now a.at h q in (
      linked_room a.s.now a.questions.now (length a.index.now) ls _ _ n (counted_some a.s.now a.at h) d a.work.now (omega (arith, n, c.requires.at_in_bounds.1)) q c.fill_lines.ensures.1,
      linked_needed a.s.now a.questions.now (length a.index.now) ls _ _ n (counted_some a.s.now a.at h) d a.work.now (omega (arith, n, c.requires.at_in_bounds.1)) q c.fill_lines.ensures.1,
      omega (arith, d, c.requires.at_in_bounds.0),
    )

pub returns-in-Some-single_of : goal.returns-in-Some-single_of
returns-in-Some-single_of c =
    let a = c.args in
    let h = sym c.in-Some.is ∙ c.fill_lines.ensures.0 in
    let R = one_result a.s.now a.questions.now (length a.index.now) (lines_at a.s.now a.at).items _ (sym (sym c.in-Some-single_of.is ∙ c.single_of.ensures)) in (
      c.fill_leaf.ensures.0 ∙ ap (λ (r : TreeResult). r.ends) (sym R),
      counted_end a.s.now a.at h,
      c.fill_leaf.ensures.1 ∙ ap (λ (r : TreeResult). sets a.records.now a.first r.rows) (sym R),
      c.fill_lines.ensures.1,
    )

pub returns-in-None-single_of : goal.returns-in-None-single_of
returns-in-None-single_of c =
    let a = c.args in
    let ls = (lines_at a.s.now a.at).items in
    let h = sym c.in-Some.is ∙ c.fill_lines.ensures.0 in
    let q = sym c.in-None-single_of.is ∙ c.single_of.ensures in
    let n = counted_lines a.s.now a.at h in
    let R = linked_is a.s.now a.questions.now (length a.index.now) ls _ _ n (counted_some a.s.now a.at h) (counted-needed a.s.now a.at h q) a.work.now (omega (arith, n, c.requires.at_in_bounds.1)) q c.fill_lines.ensures.1 in (
      c.link_lines.ensures.0 ∙ ap (λ (r : TreeResult). r.ends) R,
      counted_end a.s.now a.at h,
      c.link_lines.ensures.1 ∙ ap (λ (r : TreeResult). sets a.records.now a.first r.rows) R,
      c.fill_lines.ensures.1,
    )

pub returns-in-None : goal.returns-in-None
returns-in-None c = counted_always c.args.s.now c.args.at (sym c.in-None.is ∙ c.fill_lines.ensures.0) c.requires.at_value
