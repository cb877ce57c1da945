-- `tree_question::question_head`: each way out is an arm of `headStarted`, `headNamed` or `headOpened`.
use mathlib.Core.Path.{sym, ap, ◌∙◌}
use Prim.Native.Nat.{ℕ}
use Rattle.std.specs.Prelude.{Some}
use Rattle.text_parts.specs.Parts.{read_to}
use Rattle.tree_question.specs.Questions.{head_opened, head_named, head_started, head_at}
use Rattle.tree_question.proofs.question_head.Goals as goal

pub returns : goal.returns
unfolding head_at
returns c =
    ap (λ (k : ℕ). Some (read_to c.in_ok-name.name.value k)) c.blank_end.ensures
    ∙ ap (head_opened _ _ _) (sym c.in_ok-inside.was ∙ c.past_byte.ensures)
    ∙ ap (head_named _) (sym c.in_ok-name.was ∙ c.name_between.ensures)
    ∙ ap (head_started _) (sym c.in_ok-past.was ∙ c.past_qs.ensures)

pub returns-in_err-inside : goal.returns-in_err-inside
unfolding head_at
returns-in_err-inside c =
    c.from_residual-in_err-inside.ensures
    ∙ ap (head_opened _ _ _) (sym c.in_err-inside.was ∙ c.past_byte.ensures)
    ∙ ap (head_named _) (sym c.in_ok-name.was ∙ c.name_between.ensures)
    ∙ ap (head_started _) (sym c.in_ok-past.was ∙ c.past_qs.ensures)

pub returns-in_err-name : goal.returns-in_err-name
unfolding head_at
returns-in_err-name c =
    c.from_residual-in_err-name.ensures
    ∙ ap (head_named _) (sym c.in_err-name.was ∙ c.name_between.ensures)
    ∙ ap (head_started _) (sym c.in_ok-past.was ∙ c.past_qs.ensures)

pub returns-in_err-past : goal.returns-in_err-past
unfolding head_at
returns-in_err-past c = c.from_residual.ensures ∙ ap (head_started _) (sym c.in_err-past.was ∙ c.past_qs.ensures)
