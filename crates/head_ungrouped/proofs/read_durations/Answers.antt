-- `head_ungrouped::read_durations` meets its contract. The invariant: what is left gives the answer, and what is kept is what the lines so far make of it.
use borrow.Author.Rules.{rules}
use Rattle.std.specs.Prelude.{Ok}
use Rattle.std.proofs.lemmas.Result.{err_from_is_err_and}
use Rattle.head_ungrouped.specs.declared.Durations.{Durations}
use Rattle.head_ungrouped.proofs.Stored.{stored_line}
use Rattle.head_lines.proofs.Going.{going_first, end_of, wrong_of, lines_end, lines_wrong, Turned, turned, kept_more}
use Rattle.head_lines.specs.Lines.{kept, unseen}
use Rattle.head_ungrouped.specs.Ungrouped.{no_durations, with_line, durations_in, judged}
use Rattle.written.specs.Record.{position_fields}
use mathlib.Core.List.{[], ◌∷◌, ◌++◌}
use mathlib.Core.Path.{◌≡◌, sym, ap, ◌∙◌}
use Rattle.head_ungrouped.proofs.read_durations.Goals.{After-store-durations, In-Some}
use Rattle.head_ungrouped.proofs.read_durations.Goals as goal

-- a line was read
turn : (c : In-Some) → Turned position_fields c.args.s.now c.args.start c.loop-line.at.at c.loop-line.seen c.loop-line.invariant.0 c.in-Some.line
turn c = turned position_fields _ _ c.loop-line.invariant.2 c.next_line.ensures (c.in_ok-line.was ∙ ap Ok c.in-Some.is)

-- what is kept, with it
kept_line : (c : After-store-durations) (t : Turned position_fields c.args.s.now c.args.start c.loop-line.at.at c.loop-line.seen c.loop-line.invariant.0 c.in-Some.line)
    → c.store-durations.result ≡ kept with_line no_durations (c.loop-line.invariant.0 ++ (t.line ∷ []))
kept_line c t =
    c.store-durations.ensures
    ∙ stored_line _ t.line t.field t.value
    ∙ ap (λ (g : Durations). with_line g t.line) c.loop-line.invariant.1
    ∙ sym (kept_more with_line no_durations c.loop-line.invariant.0 t.line)

pub loop-line-init : goal.loop-line-init
unfolding unseen kept
loop-line-init c = ([], c.none-durations.ensures, going_first position_fields _ _)

pub mark-with_field-requires : goal.mark-with_field-requires
unfolding position_fields
mark-with_field-requires c = search rules

pub loop-line-smaller : goal.loop-line-smaller
loop-line-smaller c = (turn (goal.at.loop-line-smaller c).In-Some).less

pub loop-line-preserved : goal.loop-line-preserved
unfolding position_fields
loop-line-preserved c =
    let t = turn (goal.at.loop-line-preserved c).In-Some in
    (_, kept_line (goal.at.loop-line-preserved c).After-store-durations t, rw c.mark-with_field.ensures t.going)

pub returns-in_err-line : goal.returns-in_err-line
returns-in_err-line c =
    let p = err_from_is_err_and c.from_residual.result c.from_residual.ensures.1 in
    rw (p.1, p.2) (ap durations_in (sym (lines_wrong position_fields _ _ c.loop-line.invariant.2 (wrong_of position_fields _ (sym c.next_line.ensures ∙ c.in_err-line.was)))))

pub returns : goal.returns
returns c = c.judge.ensures ∙ ap (judged _) c.loop-line.invariant.1 ∙ ap durations_in (sym (lines_end position_fields _ _ c.loop-line.invariant.2 (end_of position_fields _ (sym c.next_line.ensures ∙ c.in_ok-line.was ∙ ap Ok c.in_default.is))))
