-- `head_global::read_global` meets its contract. The invariant: what is left gives the answer, and the words are what the lines so far make of them.
--
use mathlib.Core.Path.{◌≡◌, sym, ap, ◌∙◌}
use mathlib.Core.List.{List, [], ◌∷◌, ◌++◌}
use Prim.Native.Nat.{ℕ}
use native.Mathlib.Omega.{arith}
use borrow.Author.Rules.{rules}
use lib.ListN.{length}
use lib.Seq.{sets}
use Rattle.std.specs.Prelude.{Ok}
use Rattle.std.proofs.lemmas.Result.{err_from_is_err_and}
use Rattle.written.specs.HeaderText.{Entry}
use Rattle.written.specs.Record.{global_fields}
use Rattle.head_record.specs.Empty.{empty_global}
use Rattle.head_record.specs.declared.Global.{Global}
use Rattle.head_words.specs.Words.{global_words}
use Rattle.head_words.proofs.Items.{laid_long}
use Rattle.head_lines.specs.Lines.{end, wrong, line_at, Lines, kept, unseen}
use Rattle.head_lines.proofs.Going.{going_first, end_of, wrong_of, lines_end, lines_wrong, read_end, read_wrong, Turned, turned, kept_more}
use Rattle.head_global.specs.Global.{stored_in, judged_in, with_line, global_in}
use Rattle.head_global.proofs.Stored.{stored_line, stored_words, empty_words, judged_words}
use Rattle.head_global.proofs.read_global.Goals.{After-store, At-loop-line, In-Some, In_default, In_err-line}
use Rattle.head_global.proofs.read_global.Goals as goal

-- the words stay as many
long : (c : At-loop-line) → length c.loop-line.words ≡ length c.args.words.now
long c = laid_long c.args.words.now _ 0 (global_words (kept with_line empty_global c.loop-line.invariant.0)) c.loop-line.invariant.1

-- a line was read
turn : (c : In-Some) → Turned global_fields c.args.s.now c.args.start c.loop-line.at.at c.loop-line.seen c.loop-line.invariant.0 c.in-Some.line
turn c = turned global_fields _ _ c.loop-line.invariant.2 c.next_line.ensures (c.in_ok-line.was ∙ ap Ok c.in-Some.is)

-- the words, with it
kept_line : (c : After-store) (t : Turned global_fields c.args.s.now c.args.start c.loop-line.at.at c.loop-line.seen c.loop-line.invariant.0 c.in-Some.line)
    → c.store.new.words ≡ sets c.args.words.now 0 (global_words (kept with_line empty_global (c.loop-line.invariant.0 ++ (t.line ∷ []))))
kept_line c t =
    let xs = c.loop-line.invariant.0 in
    c.store.ensures
    ∙ ap (λ (w : List ℕ). stored_in w c.in-Some.line.field c.in-Some.line.value) c.loop-line.invariant.1
    ∙ stored_words _ (kept with_line empty_global xs) _ _
    ∙ ap (λ (g : Global). sets c.args.words.now 0 (global_words g)) (stored_line _ t.line t.field t.value ∙ sym (kept_more with_line empty_global xs t.line))

-- no line is left
at_end : (c : In_default) → line_at global_fields c.loop-line.seen c.args.s.now c.loop-line.at.at ≡ end
at_end c = end_of global_fields _ (sym c.next_line.ensures ∙ c.in_ok-line.was ∙ ap Ok c.in_default.is)

-- a line was refused
at_wrong : (c : In_err-line) → line_at global_fields c.loop-line.seen c.args.s.now c.loop-line.at.at ≡ wrong c.in_err-line.field-0.0
at_wrong c = wrong_of global_fields _ (sym c.next_line.ensures ∙ c.in_err-line.was)

pub loop-line-init : goal.loop-line-init
unfolding unseen kept
loop-line-init c = ([], empty_words _ c.requires.1, going_first global_fields _ _)

pub store-requires : goal.store-requires
store-requires c = omega (arith, long (goal.at.store-requires c).At-loop-line, c.requires.0)

pub mark-with_field-requires : goal.mark-with_field-requires
unfolding global_fields
mark-with_field-requires c = search rules

pub loop-line-smaller : goal.loop-line-smaller
loop-line-smaller c = (turn (goal.at.loop-line-smaller c).In-Some).less

pub loop-line-preserved : goal.loop-line-preserved
unfolding global_fields
loop-line-preserved c =
    let t = turn (goal.at.loop-line-preserved c).In-Some in
    (_, kept_line (goal.at.loop-line-preserved c).After-store t, rw c.mark-with_field.ensures t.going)

pub returns-in_err-line : goal.returns-in_err-line
returns-in_err-line c =
    let p = err_from_is_err_and c.from_residual.result c.from_residual.ensures.1 in
    let e = at_wrong (goal.at.returns-in_err-line c).In_err-line in
    rw (p.1, p.2) (
      ap (λ (l : Lines). (global_in l).verdict) (sym (lines_wrong global_fields _ _ c.loop-line.invariant.2 e)),
      c.loop-line.invariant.1 ∙ ap (λ (xs : List Entry). sets c.args.words.now 0 (global_words (kept with_line empty_global xs))) (sym (read_wrong global_fields _ _ c.loop-line.invariant.2 e)),
    )

pub judge-requires : goal.judge-requires
judge-requires c = omega (arith, long (goal.at.judge-requires c).At-loop-line, c.requires.0)

pub returns : goal.returns
returns c =
    let e = at_end (goal.at.returns c).In_default in (
      c.judge.ensures ∙ ap (judged_in _) c.loop-line.invariant.1 ∙ judged_words _ _ _ c.requires.0 ∙ ap (λ (l : Lines). (global_in l).verdict) (sym (lines_end global_fields _ _ c.loop-line.invariant.2 e)),
      c.loop-line.invariant.1 ∙ ap (λ (xs : List Entry). sets c.args.words.now 0 (global_words (kept with_line empty_global xs))) (sym (read_end global_fields _ _ c.loop-line.invariant.2 e)),
    )
