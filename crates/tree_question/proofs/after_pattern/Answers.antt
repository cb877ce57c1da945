-- `tree_question::after_pattern`: each way out is an arm of `patternParted` or of `patternClosed`.
use mathlib.Core.Path.{◌≡◌, sym, ap, ◌∙◌}
use Prim.Native.Nat.{ℕ}
use Rattle.tree_question.specs.Questions.{pattern_closed, pattern_parted, after_pattern}
use Rattle.tree_question.specs.declared.PatternStep.TheVariants.{Next}
use Rattle.tree_question.proofs.after_pattern.Goals as goal

further : {b n i j : ℕ} → i ≡ j → Next b n i ≡ Next b n j
further {b} {n} e = ap (Next b n) e

pub returns-in-Some : goal.returns-in-Some
unfolding after_pattern
returns-in-Some c = further c.blank_end.ensures ∙ ap (pattern_parted _ _ _ _) (sym c.in-Some.is ∙ c.past_byte.ensures)

pub returns-in-Some-past_brace : goal.returns-in-Some-past_brace
unfolding after_pattern
returns-in-Some-past_brace c =
    ap (pattern_closed _ _) (sym c.in-Some-past_brace.is ∙ c.past_brace.ensures)
    ∙ ap (pattern_parted _ _ _ _) (sym c.in-None.is ∙ c.past_byte.ensures)

pub returns-in-None-past_brace : goal.returns-in-None-past_brace
unfolding after_pattern
returns-in-None-past_brace c =
    ap (pattern_closed _ _) (sym c.in-None-past_brace.is ∙ c.past_brace.ensures)
    ∙ ap (pattern_parted _ _ _ _) (sym c.in-None.is ∙ c.past_byte.ensures)
