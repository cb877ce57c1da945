-- `tree_body::parse_number`: each way out is an arm of `numberRead` or of `numberClosed`.
use mathlib.Core.Path.{sym, ap, ap₂, ◌∙◌}
use Rattle.text_parts.specs.Parts.{read_to}
use Rattle.std.specs.Prelude.{Some}
use Rattle.laws.proofs.Signed.{back}
use Rattle.tree_body.specs.Trees.{number_closed, number_read, number_at}
use borrow.Author.Rules.{rules}
use Rattle.tree_body.proofs.parse_number.Goals as goal

pub returns : goal.returns
unfolding number_at
returns c =
    ap₂ (λ v k. Some (read_to v k)) (back _ (search rules)) c.blank_end.ensures
    ∙ ap (number_closed _ _) (sym c.in_ok-past.was ∙ c.past_byte.ensures)
    ∙ ap (number_read _) (sym c.in_ok-number.was ∙ c.parse_signed.ensures)

pub returns-in_err-past : goal.returns-in_err-past
unfolding number_at
returns-in_err-past c =
    c.from_residual-in_err-past.ensures
    ∙ ap (number_closed _ _) (sym c.in_err-past.was ∙ c.past_byte.ensures)
    ∙ ap (number_read _) (sym c.in_ok-number.was ∙ c.parse_signed.ensures)

pub returns-in_err-number : goal.returns-in_err-number
unfolding number_at
returns-in_err-number c = c.from_residual.ensures ∙ ap (number_read _) (sym c.in_err-number.was ∙ c.parse_signed.ensures)
