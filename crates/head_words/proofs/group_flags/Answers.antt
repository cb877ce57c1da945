-- `head_words::group_flags`: flag by flag.
use mathlib.Core.Path.{sym, ◌∙◌}
use borrow.Author.Tests.{not-true, not-false}
use Rattle.laws.proofs.Every.{not_first, then_second}
use Rattle.head_words.specs.Words.{group_flags}
use Rattle.head_words.proofs.group_flags.Goals as goal

pub returns-then-not-is_flag : goal.returns-then-not-is_flag
unfolding group_flags
returns-then-not-is_flag c = not_first _ (sym c.is_flag.ensures ∙ not-true _ c.if-not-is_flag.true-raw)

pub returns-then-not-is_flag-2 : goal.returns-then-not-is_flag-2
unfolding group_flags
returns-then-not-is_flag-2 c = then_second (sym c.is_flag.ensures ∙ not-false _ c.if-not-is_flag.false-raw) (not_first _ (sym c.is_flag-2.ensures ∙ not-true _ c.if-not-is_flag-2.true-raw))

pub returns-then-not-is_flag-3 : goal.returns-then-not-is_flag-3
unfolding group_flags
returns-then-not-is_flag-3 c = then_second (sym c.is_flag.ensures ∙ not-false _ c.if-not-is_flag.false-raw) (then_second (sym c.is_flag-2.ensures ∙ not-false _ c.if-not-is_flag-2.false-raw) (not_first _ (sym c.is_flag-3.ensures ∙ not-true _ c.if-not-is_flag-3.true-raw)))

pub returns : goal.returns
unfolding group_flags
returns c = then_second (sym c.is_flag.ensures ∙ not-false _ c.if-not-is_flag.false-raw) (then_second (sym c.is_flag-2.ensures ∙ not-false _ c.if-not-is_flag-2.false-raw) (then_second (sym c.is_flag-3.ensures ∙ not-false _ c.if-not-is_flag-3.false-raw) c.is_flag-4.ensures))
