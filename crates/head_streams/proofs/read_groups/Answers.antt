-- `head_streams::read_groups` meets its contract. The invariant: what is left of the rows gives the answer.
use mathlib.Core.Path.{◌≡◌, refl, sym, ap, ◌∙◌}
use mathlib.Core.List.{[], ◌∷◌}
use native.Mathlib.Omega.{arith}
use borrow.Author.Tests.{not-true, not-false}
use lib.ListN.{length}
use Rattle.std.proofs.lemmas.Result.{err_from_is_err_and}
use Rattle.head_words.proofs.Items.{laid_long}
use Rattle.head_words.proofs.Lengths.{length_stream}
use Rattle.head_brackets.specs.Rows.{row_at}
use Rattle.head_brackets.specs.declared.RowAt.TheVariants as found
use Rattle.head_brackets.proofs.Through.{row_less, line_less}
use Rattle.head_group_words.proofs.Kept.{kept_long}
use Rattle.head_streams.proofs.Reading.{streams, reached_none, reached_line, reached_known, refused_group, reached_more, reached_ninth, ended}
use Rattle.head_streams.proofs.read_groups.Goals.{After-put1, In-Found}
use Rattle.head_streams.proofs.read_groups.Goals as goal

-- the row that was found
row : (c : In-Found) → row_at c.args.s.now c.loop-row.at.at ≡ found.Found c.in-Found.row
row c = sym c.row_at.ensures ∙ c.in-Found.is

long_behind : (c : After-put1) → length c.put1.new.words ≡ length c.args.words.now
long_behind c = laid_long c.loop-row.words _ 407 (c.loop-row.n ∷ []) c.put1.ensures ∙ (kept_long streams c.loop-row.invariant.kept)

pub loop-row-init : goal.loop-row-init
loop-row-init c = reached_none _ _ _ (omega (arith, c.requires.0)) c.requires.1

pub known-requires : goal.known-requires
known-requires c = (omega arith, omega (arith, (kept_long streams c.loop-row.invariant.kept), c.requires.0))

pub slice_bounds-read_group-end : goal.slice_bounds-read_group-end
slice_bounds-read_group-end c = refl

pub read_group-requires : goal.read_group-requires
read_group-requires c = refl

pub slice_bounds-put_all-end : goal.slice_bounds-put_all-end
slice_bounds-put_all-end c = sym (ap length c.read_group.ensures.1 ∙ length_stream _)

pub put_all-requires : goal.put_all-requires
put_all-requires c = omega (arith, ap length c.read_group.ensures.1 ∙ length_stream _, (kept_long streams c.loop-row.invariant.kept), c.if-n-lt8.true, c.requires.0)

pub loop-row-smaller-then-n-lt8 : goal.loop-row-smaller-then-n-lt8
loop-row-smaller-then-n-lt8 c = row_less _ _ _ _ c.loop-row.invariant.through (row (goal.at.loop-row-smaller-then-n-lt8 c).In-Found)

pub loop-row-preserved-then-n-lt8 : goal.loop-row-preserved-then-n-lt8
loop-row-preserved-then-n-lt8 c = reached_more _ _ _ c.loop-row.invariant (row (goal.at.loop-row-preserved-then-n-lt8 c).In-Found) (sym c.known.ensures ∙ not-true _ c.if-not-known.true-raw) c.read_group.ensures.0 c.in_ok-read_group-in-Found.was c.if-n-lt8.true c.put_all.ensures c.read_group.ensures.1

pub loop-row-smaller-else-n-lt8 : goal.loop-row-smaller-else-n-lt8
loop-row-smaller-else-n-lt8 c = row_less _ _ _ _ c.loop-row.invariant.through (row (goal.at.loop-row-smaller-else-n-lt8 c).In-Found)

pub loop-row-preserved-else-n-lt8 : goal.loop-row-preserved-else-n-lt8
loop-row-preserved-else-n-lt8 c = reached_ninth _ _ _ c.loop-row.invariant (row (goal.at.loop-row-preserved-else-n-lt8 c).In-Found) (sym c.known.ensures ∙ not-true _ c.if-not-known.true-raw) c.read_group.ensures.0 c.in_ok-read_group-in-Found.was c.if-n-lt8.false

pub returns-in_err-read_group-in-Found : goal.returns-in_err-read_group-in-Found
returns-in_err-read_group-in-Found c =
    let a = refused_group _ _ _ c.loop-row.invariant (row (goal.at.returns-in_err-read_group-in-Found c).In-Found) (sym c.known.ensures ∙ not-true _ c.if-not-known.true-raw) c.read_group.ensures.0 c.in_err-read_group-in-Found.was in
    let p = err_from_is_err_and c.from_residual.result c.from_residual.ensures.1 in
    rw (p.1, p.2) (a.answer, a.words)

pub loop-row-smaller-else-not-known : goal.loop-row-smaller-else-not-known
loop-row-smaller-else-not-known c = row_less _ _ _ _ c.loop-row.invariant.through (row (goal.at.loop-row-smaller-else-not-known c).In-Found)

pub loop-row-preserved-else-not-known : goal.loop-row-preserved-else-not-known
loop-row-preserved-else-not-known c = reached_known _ _ _ c.loop-row.invariant (row (goal.at.loop-row-preserved-else-not-known c).In-Found) (sym c.known.ensures ∙ not-false _ c.if-not-known.false-raw)

pub loop-row-smaller : goal.loop-row-smaller
loop-row-smaller c = line_less _ _ _ _ c.loop-row.invariant.through (sym c.row_at.ensures ∙ c.in-Other.is)

pub loop-row-preserved : goal.loop-row-preserved
loop-row-preserved c = reached_line _ _ _ c.loop-row.invariant (sym c.row_at.ensures ∙ c.in-Other.is)

pub put1-requires : goal.put1-requires
put1-requires c = omega (arith, (kept_long streams c.loop-row.invariant.kept), c.requires.0)

pub judge-requires : goal.judge-requires
judge-requires c = omega (arith, long_behind (goal.at.judge-requires c).After-put1, c.requires.0)

pub shape_of-words-in-End : goal.shape_of-words-in-End
shape_of-words-in-End c = long_behind (goal.at.shape_of-words-in-End c).After-put1

pub returns-in-End : goal.returns-in-End
returns-in-End c = let a = ended _ _ _ c.loop-row.invariant (sym c.row_at.ensures ∙ c.in-End.is) c.put1.ensures c.judge.ensures in (a.answer, a.words)
