-- `tree_question::after_question`: each arm is an arm of `itemParted`, by whether a question starts.
use mathlib.Core.Path.{◌≡◌, sym, ap, ◌∙◌}
use mathlib.Core.Bool.{true, false}
use mathlib.Core.List.{List}
use Prim.Native.Nat.{ℕ}
use Rattle.std.specs.Prelude.{Some}
use Rattle.written.specs.Bytes.{blank}
use Rattle.laws.specs.Runs.{stop}
use Rattle.text_spaces.specs.Spaces.{parting_at}
use Rattle.tree_question.specs.Questions.{starts_question, item_parted, after_question}
use Rattle.tree_question.specs.declared.Item.TheVariants.{Question, Tree}
use Rattle.tree_question.proofs.after_question.Goals as goal

module _ (s : List ℕ) (e i : ℕ) (parted : Some i ≡ parting_at s e) where
  another : starts_question s i ≡ true → Question i ≡ after_question s e
  unfolding after_question
  another y = rw y at (ap (item_parted s e) parted)

  other : starts_question s i ≡ false → Tree (stop blank s e) ≡ after_question s e
  unfolding after_question
  other n = rw n at (ap (item_parted s e) parted)

pub returns-then-starts_question : goal.returns-then-starts_question
returns-then-starts_question c = another _ _ _ (sym c.in-Some.is ∙ c.past_parting.ensures) (sym c.starts_question.ensures ∙ c.if-starts_question.true)

pub returns-else-starts_question : goal.returns-else-starts_question
returns-else-starts_question c = ap Tree c.blank_end.ensures ∙ other _ _ _ (sym c.in-Some.is ∙ c.past_parting.ensures) (sym c.starts_question.ensures ∙ c.if-starts_question.false)

pub returns-in-None : goal.returns-in-None
unfolding after_question
returns-in-None c = ap Tree c.blank_end-in-None.ensures ∙ ap (item_parted _ _) (sym c.in-None.is ∙ c.past_parting.ensures)
