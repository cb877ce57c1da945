-- `head_brackets::row_behind` meets its contract.
use Rattle.text_parts.specs.Parts.{bytes_of}
use Rattle.laws.proofs.Runs.{read_in}
use Rattle.text_parts.proofs.Parts.{part_in}
use Rattle.head_brackets.proofs.Rows.{split_whole}
use Rattle.head_brackets.specs.Rows.{key_row, split_of}
use lib.ListN.{length}
use Prim.Native.Nat.{◌+◌, ◌<◌}
use borrow.Author.Tests.{ne_eqb}
use native.Mathlib.Omega.{arith}
use mathlib.Core.Path.{sym, ap, ◌∙◌}
use Rattle.head_brackets.proofs.row_behind.Goals.{In-Some}
use Rattle.head_brackets.proofs.row_behind.Goals as goal

-- the field's name and the brackets stand in the key, which stands inside
fits : (c : In-Some) → c.args.key.value.start + c.in-Some.split.field + 1 < length c.args.s.now
fits c =
    let s = c.args.s.now in
    let x = c.args.key.value in
    let h = split_whole (bytes_of s x) (ap split_of (sym c.part_of.ensures) ∙ sym c.split_key.ensures ∙ c.in-Some.is) in
    let i = part_in s x.start x.len (omega arith) in
    omega arith

pub returns-then-byte_at-ne58 : goal.returns-then-byte_at-ne58
unfolding key_row
returns-then-byte_at-ne58 c = rw (ne_eqb _ _ (λ e. c.if-byte_at-ne58.true (c.byte_at.ensures ∙ e)))

pub overflow_add-value : goal.overflow_add-value
overflow_add-value c = omega (arith, read_in _ _ c.byte_at.ensures c.if-byte_at-ne58.false (omega arith))

pub overflow_add-row : goal.overflow_add-row
overflow_add-row c = omega (arith, fits (goal.at.overflow_add-row c).In-Some, c.well_formed)

pub overflow_add-row-in-Some : goal.overflow_add-row-in-Some
overflow_add-row-in-Some c = omega (arith, fits (goal.at.overflow_add-row-in-Some c).In-Some, c.well_formed)

pub returns-in-Some : goal.returns-in-Some
unfolding key_row
returns-in-Some c = rw (sym c.byte_at.ensures ∙ c.if-byte_at-ne58.false, ap split_of (sym c.part_of.ensures) ∙ sym c.split_key.ensures ∙ c.in-Some.is, c.until-end.ensures)

pub returns-in-None : goal.returns-in-None
unfolding key_row
returns-in-None c = rw (sym c.byte_at.ensures ∙ c.if-byte_at-ne58.false, ap split_of (sym c.part_of.ensures) ∙ sym c.split_key.ensures ∙ c.in-None.is, c.until-end.ensures)
