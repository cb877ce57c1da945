-- `tree_body::past_star`: three bytes, one after the other.
use mathlib.Core.Path.{sym, ap, ◌∙◌}
use Rattle.written.specs.Bytes.{unbrace}
use Rattle.text_spaces.specs.Spaces.{then_byte}
use Rattle.tree_body.specs.Trees.{past_star}
use Rattle.tree_body.proofs.past_star.Goals as goal

pub returns : goal.returns
unfolding past_star
returns c = c.past_byte-3.ensures ∙ ap (then_byte unbrace _) ((sym c.in_ok-third.was ∙ c.past_byte-2.ensures) ∙ ap (then_byte 42 _) (sym c.in_ok-second.was ∙ c.past_byte.ensures))

pub returns-in_err-third : goal.returns-in_err-third
unfolding past_star
returns-in_err-third c =
    c.from_residual-in_err-third.ensures
    ∙ ap (then_byte unbrace _) ((sym c.in_err-third.was ∙ c.past_byte-2.ensures) ∙ ap (then_byte 42 _) (sym c.in_ok-second.was ∙ c.past_byte.ensures))

pub returns-in_err-second : goal.returns-in_err-second
unfolding past_star
returns-in_err-second c = c.from_residual.ensures ∙ ap (then_byte unbrace _) (ap (then_byte 42 _) (sym c.in_err-second.was ∙ c.past_byte.ensures))
