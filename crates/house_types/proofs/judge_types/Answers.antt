-- `house_types::judge_types`: 30, then 31, or neither.
use mathlib.Core.Path.{sym, ◌∙◌}
use borrow.Author.Tests.{ne_eqb, eq-eqb}
use Rattle.house_types.proofs.Laws.{number_broken, number_kept}
use Rattle.house_types.proofs.judge_types.Goals as goal

pub returns-then-words : goal.returns-then-words
returns-then-words c = number_broken c.args.file.now c.args.words.now (ne_eqb _ _ c.if-words.true)

pub returns-then-types_once : goal.returns-then-types_once
returns-then-types_once c = number_kept c.args.file.now c.args.words.now (eq-eqb _ _ c.if-words.false) _ (sym c.types_once.ensures ∙ c.if-types_once.true)

pub returns : goal.returns
returns c = number_kept c.args.file.now c.args.words.now (eq-eqb _ _ c.if-words.false) _ (sym c.types_once.ensures ∙ c.if-types_once.false)
