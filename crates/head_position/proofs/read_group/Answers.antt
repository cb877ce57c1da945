-- `head_position::read_group` meets its contract. The invariant: what is left of the rows gives the answer.
use mathlib.Core.Path.{◌≡◌, refl, sym, ap, ◌∙◌}
use Prim.Native.Nat.{◌≤◌}
use native.Mathlib.Omega.{arith}
use lib.ListN.{length}
use Rattle.std.proofs.lemmas.Result.{err_from_is_err_and}
use Rattle.head_record.specs.Empty.{empty_position}
use Rattle.head_words.specs.Words.{flat, position_words}
use Rattle.head_words.proofs.Lengths.{length_position}
use Rattle.head_lines.specs.Lines.{unseen}
use Rattle.head_brackets.specs.Rows.{row_at}
use Rattle.head_brackets.specs.declared.RowAt.TheVariants as found
use Rattle.head_brackets.proofs.Through.{row_less, line_less}
use Rattle.head_position.specs.Group.{group_in, judged}
use Rattle.head_position.proofs.Reading.{reached_none, reached_other, reached_taken, broken, reached_line, ended}
use Rattle.head_position.proofs.read_group.Goals.{In-Found}
use Rattle.head_position.proofs.read_group.Goals as goal

-- the row that was found
row : (c : In-Found) → row_at c.args.s.now c.loop-row.at.at ≡ found.Found c.in-Found.row
row c = sym c.row_at.ensures ∙ c.in-Found.is

pub put_span-requires : goal.put_span-requires
put_span-requires c = let e : 2 ≤ length c.args.item.now = rw c.requires (omega arith) in e

-- a group with no row yet, over words that are 0
pub loop-row-init : goal.loop-row-init
unfolding unseen empty_position position_words flat
loop-row-init c = reached_none _ _ _ _ (c.put_span.ensures ∙ rw c.requires refl)

pub store-requires : goal.store-requires
store-requires c = ap length c.loop-row.invariant.words ∙ length_position _

pub loop-row-smaller-then-same_part : goal.loop-row-smaller-then-same_part
loop-row-smaller-then-same_part c = row_less _ _ _ _ c.loop-row.invariant.through (row (goal.at.loop-row-smaller-then-same_part c).In-Found)

pub loop-row-preserved-then-same_part : goal.loop-row-preserved-then-same_part
loop-row-preserved-then-same_part c =
    reached_taken _ _ _ c.loop-row.invariant (row (goal.at.loop-row-preserved-then-same_part c).In-Found) (sym c.same_part.ensures ∙ c.if-same_part.true) c.row_line.ensures c.in_ok-line-in-Found.was _ c.mark-with_field.ensures _
    c.store.ensures

pub returns-in_err-line-in-Found : goal.returns-in_err-line-in-Found
returns-in_err-line-in-Found c =
    let a = broken _ _ _ c.loop-row.invariant (row (goal.at.returns-in_err-line-in-Found c).In-Found) (sym c.same_part.ensures ∙ c.if-same_part.true) c.row_line.ensures c.in_err-line-in-Found.was in
    let p = err_from_is_err_and c.from_residual.result c.from_residual.ensures.1 in
    rw (p.1, p.2) (sym (ap (λ x. (group_in x).verdict) a.answer), a.words)

pub loop-row-smaller-else-same_part : goal.loop-row-smaller-else-same_part
loop-row-smaller-else-same_part c = row_less _ _ _ _ c.loop-row.invariant.through (row (goal.at.loop-row-smaller-else-same_part c).In-Found)

pub loop-row-preserved-else-same_part : goal.loop-row-preserved-else-same_part
loop-row-preserved-else-same_part c = reached_other _ _ _ c.loop-row.invariant (row (goal.at.loop-row-preserved-else-same_part c).In-Found) (sym c.same_part.ensures ∙ c.if-same_part.false)

pub loop-row-smaller : goal.loop-row-smaller
loop-row-smaller c = line_less _ _ _ _ c.loop-row.invariant.through (sym c.row_at.ensures ∙ c.in-Other.is)

pub loop-row-preserved : goal.loop-row-preserved
loop-row-preserved c = reached_line _ _ _ c.loop-row.invariant (sym c.row_at.ensures ∙ c.in-Other.is)

pub shape_of-item-then-missing : goal.shape_of-item-then-missing
shape_of-item-then-missing c = ap length c.loop-row.invariant.words ∙ length_position _ ∙ sym (ap length c.requires)

pub returns-then-missing : goal.returns-then-missing
unfolding judged
returns-then-missing c = let a = ended _ _ _ c.loop-row.invariant (sym c.row_at.ensures ∙ c.in-End.is) in (sym (ap (λ x. (group_in x).verdict) a.answer ∙ rw (sym c.missing.ensures ∙ c.if-missing.true)), a.words)

pub shape_of-item-in-End : goal.shape_of-item-in-End
shape_of-item-in-End c = ap length c.loop-row.invariant.words ∙ length_position _ ∙ sym (ap length c.requires)

pub returns-in-End : goal.returns-in-End
unfolding judged
returns-in-End c = let a = ended _ _ _ c.loop-row.invariant (sym c.row_at.ensures ∙ c.in-End.is) in (sym (ap (λ x. (group_in x).verdict) a.answer ∙ rw (sym c.missing.ensures ∙ c.if-missing.false)), a.words)
