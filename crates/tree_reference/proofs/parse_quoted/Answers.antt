-- `tree_reference::parse_quoted`: each way out is an arm of `quotedRead` or of `closed`.
use mathlib.Core.Path.{sym, ap, ◌∙◌}
use Rattle.tree_reference.specs.References.{closed, quoted_read, quoted_at}
use Rattle.tree_reference.proofs.parse_quoted.Goals as goal

pub returns : goal.returns
unfolding quoted_at
returns c =
    c.found.ensures
    ∙ ap (closed _) (sym c.in_ok-past.was ∙ c.past_byte.ensures)
    ∙ ap (quoted_read _) (sym c.in_ok-inside.was ∙ c.parse_bare.ensures)

pub returns-in_err-past : goal.returns-in_err-past
unfolding quoted_at
returns-in_err-past c =
    c.from_residual-in_err-past.ensures
    ∙ ap (closed _) (sym c.in_err-past.was ∙ c.past_byte.ensures)
    ∙ ap (quoted_read _) (sym c.in_ok-inside.was ∙ c.parse_bare.ensures)

pub returns-in_err-inside : goal.returns-in_err-inside
unfolding quoted_at
returns-in_err-inside c = c.from_residual.ensures ∙ ap (quoted_read _) (sym c.in_err-inside.was ∙ c.parse_bare.ensures)
