-- `head_global::judge` meets its contract.
use mathlib.Core.Path.{sym, ◌∙◌}
use borrow.Author.Tests.{lt-ltb, le-ltb}
use Rattle.head_global.specs.Global.{judged_in}
use Rattle.head_global.proofs.judge.Goals as goal

pub returns-then-missing : goal.returns-then-missing
unfolding judged_in
returns-then-missing c = rw (sym c.missing.ensures ∙ c.if-missing.true)

pub returns-then-words-gt8 : goal.returns-then-words-gt8
unfolding judged_in
returns-then-words-gt8 c = rw (sym c.missing.ensures ∙ c.if-missing.false, lt-ltb _ _ c.if-words-gt8.true)

pub returns-then-words-gt32 : goal.returns-then-words-gt32
unfolding judged_in
returns-then-words-gt32 c = rw (sym c.missing.ensures ∙ c.if-missing.false, le-ltb _ _ c.if-words-gt8.false, lt-ltb _ _ c.if-words-gt32.true)

pub returns : goal.returns
unfolding judged_in
returns c = rw (sym c.missing.ensures ∙ c.if-missing.false, le-ltb _ _ c.if-words-gt8.false, le-ltb _ _ c.if-words-gt32.false)
