-- `head_lines::line_value` meets its contract.
use Rattle.std.proofs.lemmas.Result.{err_from_is_err_and}
use Rattle.written.specs.HeaderText as says
use Rattle.head_de.specs.Readings.{Reading}
use Rattle.head_de_values.specs.Values.{kind_from, read_at, value_in}
use mathlib.Core.List.{[], ◌∷◌}
use Rattle.written.specs.Bytes.{newline}
use Prim.Native.Nat.{◌+◌}
use Rattle.laws.proofs.Runs.{read_in}
use Rattle.head_lines.proofs.Lines.{value_ended, value_unended, value_refused}
use Rattle.head_lines.specs.Lines.{line_value_at, ended_of}
use borrow.Author.Tests.{ne_eqb, not-true, not-false}
use native.Mathlib.Omega.{arith}
use mathlib.Core.Path.{◌≡◌, sym, ap, ◌∙◌}
use Rattle.head_lines.proofs.line_value.Goals.{After-read}
use Rattle.head_lines.proofs.line_value.Goals as goal

-- the value behind the colon
abbrev behind : After-read → Reading says.Value
behind c = read_at (newline ∷ []) c.args.s.now (c.args.c.at + 1) (kind_from c.args.kind)

colon : (c : After-read) → line_value_at c.args.s.now c.args.c.at (kind_from c.args.kind) ≡ ended_of c.args.s.now (behind c)
unfolding line_value_at
colon c = rw (sym c.byte_at-b.ensures ∙ c.if-b-ne58.false)

pub returns-then-b-eq256 : goal.returns-then-b-eq256
unfolding line_value_at
returns-then-b-eq256 c = rw (sym c.byte_at-b.ensures ∙ c.if-b-eq256.true)

pub returns-then-b-ne58 : goal.returns-then-b-ne58
unfolding line_value_at
returns-then-b-ne58 c = rw (sym c.byte_at-b.ensures, ne_eqb _ _ c.if-b-eq256.false, ne_eqb _ _ c.if-b-ne58.true)

pub overflow_add-at : goal.overflow_add-at
overflow_add-at c = omega (arith, read_in _ _ c.byte_at-b.ensures c.if-b-ne58.false (omega arith))

pub returns-in_err-found : goal.returns-in_err-found
returns-in_err-found c =
    let p = err_from_is_err_and c.from_residual.result c.from_residual.ensures.1 in
    let a = (goal.at.returns-in_err-found c).After-read in
    rw (p.1, p.2) (sym (ap value_in (colon a) ∙ value_refused _ (behind a) (sym c.read.ensures ∙ c.in_err-found.was)))

pub returns-then-not-ends : goal.returns-then-not-ends
returns-then-not-ends c =
    let a = (goal.at.returns-then-not-ends c).After-read in
    sym (ap value_in (colon a) ∙ value_unended _ (behind a) (sym c.read.ensures ∙ c.in_ok-found.was) (sym c.ends.ensures ∙ not-true _ c.if-not-ends.true-raw))

pub returns : goal.returns
returns c =
    let a = (goal.at.returns c).After-read in
    sym (ap value_in (colon a) ∙ value_ended _ (behind a) (sym c.read.ensures ∙ c.in_ok-found.was) (sym c.ends.ensures ∙ not-false _ c.if-not-ends.false-raw))
