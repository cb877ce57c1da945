-- `head_ungrouped::judge` meets its contract.
use Rattle.head_ungrouped.specs.Ungrouped.{judged}
use mathlib.Core.Path.{sym, ◌∙◌}
use Rattle.head_ungrouped.proofs.judge.Goals as goal

pub returns-then-missing : goal.returns-then-missing
unfolding judged
returns-then-missing c = rw (sym c.missing.ensures ∙ c.if-missing.true)

pub returns : goal.returns
unfolding judged
returns c = rw (sym c.missing.ensures ∙ c.if-missing.false)
