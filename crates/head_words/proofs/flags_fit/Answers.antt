-- `head_words::flags_fit`: the groups up to i have flags.
use mathlib.Core.Path.{sym, ◌∙◌}
use borrow.Author.Tests.{not-true, not-false}
use Rattle.laws.proofs.Every.{not_first, then_second, passing_none, passing_on, passing_off, passing_end}
use Rattle.head_words.specs.Words.{group_flags, flags_fit}
use Rattle.head_words.proofs.flags_fit.Goals as goal

pub returns-then-not-is_flag : goal.returns-then-not-is_flag
unfolding flags_fit
returns-then-not-is_flag c = not_first _ (sym c.is_flag.ensures ∙ not-true _ c.if-not-is_flag.true-raw)

pub loop-i-init : goal.loop-i-init
loop-i-init c = passing_none _ _

pub returns-then-not-group_flags : goal.returns-then-not-group_flags
unfolding flags_fit
returns-then-not-group_flags c =
    then_second (sym c.is_flag.ensures ∙ not-false _ c.if-not-is_flag.false-raw)
    (passing_off _ _ _ c.loop-i.invariant c.loop-i-test.true (sym c.group_flags.ensures ∙ not-true _ c.if-not-group_flags.true-raw))

pub loop-i-preserved : goal.loop-i-preserved
loop-i-preserved c = passing_on _ _ _ c.loop-i.invariant c.loop-i-test.true (sym c.group_flags.ensures ∙ not-false _ c.if-not-group_flags.false-raw)

pub returns : goal.returns
unfolding flags_fit
returns c =
    then_second (sym c.is_flag.ensures ∙ not-false _ c.if-not-is_flag.false-raw)
    (passing_end _ _ _ c.loop-i.invariant c.loop-i-test.false)
