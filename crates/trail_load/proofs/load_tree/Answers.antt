-- `trail_load::load_tree`: refused before the tables are looked at, for want of room, or filled.
use Rattle.std.proofs.lemmas.Result.{err_from_is_err_and}
use mathlib.Core.Path.{sym, ◌∙◌, subst}
use native.Mathlib.Omega.{arith}
use Rattle.head_words.specs.Words.{header_at}
use Rattle.trail_plan.specs.Plans.{SoundTree}
use Rattle.trail_plan.proofs.Sound.{needs_sound}
use Rattle.load_model.specs.Load.{lent}
use Rattle.load_model.proofs.Laws.{part_short}
use Rattle.load_bounds.specs.Bounds.{side_of, held_of}
use Rattle.trail_load.proofs.Laws.{small_values, load_refused, load_no_rows, load_no_lines, load_filled, load_fits}
use Rattle.trail_load.proofs.load_tree.Goals as goal

pub need-requires : goal.need-requires
need-requires c =
    let a = c.args in
    let h = header_at a.words.now in
    let s = needs_sound a.file.now h a.which a.model a.k _ (sym c.in_ok-p.was ∙ c.tree_needs.ensures) in
    small_values _ _ s (omega (arith, part_short a.file.now h.data_start h.data_len, c.well_formed))

pub returns-then-not-stand : goal.returns-then-not-stand
returns-then-not-stand c =
    let a = c.args in
    load_no_rows (side_of a.top) a.file.now (header_at a.words.now) a.which a.model a.k (held_of a.other) (lent a.questions.now a.patterns.now a.trees.now a.records.now a.values.now a.work.now) _ (sym c.in_ok-p.was ∙ c.tree_needs.ensures) c.need.result c.need.ensures c.stand.ensures c.if-not-stand.true-raw

pub returns-then-work-p : goal.returns-then-work-p
returns-then-work-p c =
    let a = c.args in
    load_no_lines (side_of a.top) a.file.now (header_at a.words.now) a.which a.model a.k (held_of a.other) (lent a.questions.now a.patterns.now a.trees.now a.records.now a.values.now a.work.now) _ (sym c.in_ok-p.was ∙ c.tree_needs.ensures) c.need.result c.need.ensures c.stand.ensures c.if-not-stand.false-raw c.if-work-p.true

pub data_of-requires : goal.data_of-requires
data_of-requires c = c.requires

pub fill_own-requires : goal.fill_own-requires
fill_own-requires c =
    let a = c.args in
    let e = sym c.in_ok-p.was ∙ c.tree_needs.ensures in
    let s = needs_sound a.file.now (header_at a.words.now) a.which a.model a.k _ e in
    (subst (λ d. SoundTree d c.in_ok-p.p) (sym c.data_of.ensures) s, load_fits (side_of a.top) a.file.now (header_at a.words.now) a.which a.model a.k (held_of a.other) (lent a.questions.now a.patterns.now a.trees.now a.records.now a.values.now a.work.now) _ e c.need.result c.need.ensures c.stand.ensures c.if-not-stand.false-raw c.if-work-p.false)

pub returns-in_err-p : goal.returns-in_err-p
returns-in_err-p c =
    let a = c.args in
    let p = err_from_is_err_and c.from_residual.result c.from_residual.ensures.1 in
    rw (p.1, p.2)
    (load_refused (side_of a.top) a.file.now (header_at a.words.now) a.which a.model a.k (held_of a.other) (lent a.questions.now a.patterns.now a.trees.now a.records.now a.values.now a.work.now) (sym c.in_err-p.was ∙ c.tree_needs.ensures))

pub returns : goal.returns
returns c =
    let a = c.args in
    load_filled (side_of a.top) a.file.now (header_at a.words.now) a.which a.model a.k (held_of a.other) (lent a.questions.now a.patterns.now a.trees.now a.records.now a.values.now a.work.now) _ (sym c.in_ok-p.was ∙ c.tree_needs.ensures) c.need.result c.need.ensures c.stand.ensures c.if-not-stand.false-raw c.if-work-p.false c.data_of.ensures c.fill_own.ensures
