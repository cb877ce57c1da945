-- `head_ungrouped::check_lines` meets its contract. The invariant: what is left gives the answer.
use native.Mathlib.Omega.{arith}
use borrow.Author.Tests.{le-ltb}
use Rattle.std.specs.Prelude.{Ok}
use Rattle.std.proofs.lemmas.Result.{err_from_is_err_and}
use Rattle.head_ungrouped.specs.Ungrouped.{verdict_in}
use Rattle.head_lines.proofs.Going.{going_first, end_of, wrong_of, lines_end, lines_wrong, Turned, turned}
use Rattle.head_lines.specs.Lines.{unseen, marked}
use Rattle.written.specs.Record.{stream_fields}
use mathlib.Core.Bool.{Bool}
use mathlib.Core.List.{List, []}
use lib.ListN.{length}
use Prim.Native.Nat.{ℕ}
use mathlib.Core.Path.{◌≡◌, sym, ap, ◌∙◌}
use Rattle.head_ungrouped.proofs.check_lines.Goals.{In-Some}
use Rattle.head_ungrouped.proofs.check_lines.Goals as goal

-- a line was read
read_line : (c : In-Some) → Turned stream_fields c.args.s.now c.args.start c.loop-line.at.at unseen c.loop-line.invariant.0 c.in-Some.line
unfolding unseen
read_line c = turned stream_fields _ _ c.loop-line.invariant.1 c.next_line.ensures (c.in_ok-line.was ∙ ap Ok c.in-Some.is)

-- there is no field to mark
unmarked : (m : List Bool) (k : ℕ) → marked (length stream_fields) m k ≡ m
unfolding marked stream_fields
unmarked m k = rw (le-ltb k 0 (omega arith))

pub loop-line-init : goal.loop-line-init
loop-line-init c = ([], going_first stream_fields _ _)

pub loop-line-smaller : goal.loop-line-smaller
loop-line-smaller c = (read_line (goal.at.loop-line-smaller c).In-Some).less

pub loop-line-preserved : goal.loop-line-preserved
loop-line-preserved c = let a = (goal.at.loop-line-preserved c).In-Some in (_, rw (unmarked unseen c.in-Some.line.field) at (read_line a).going)

pub returns-in_err-line : goal.returns-in_err-line
unfolding unseen
returns-in_err-line c =
    let p = err_from_is_err_and c.from_residual.result c.from_residual.ensures.1 in
    rw (p.1, p.2) (ap verdict_in (sym (lines_wrong stream_fields _ _ c.loop-line.invariant.1 (wrong_of stream_fields _ (sym c.next_line.ensures ∙ c.in_err-line.was)))))

pub returns : goal.returns
unfolding unseen
returns c = ap verdict_in (sym (lines_end stream_fields _ _ c.loop-line.invariant.1 (end_of stream_fields _ (sym c.next_line.ensures ∙ c.in_ok-line.was ∙ ap Ok c.in_default.is))))
