-- `link_alone::judge_tree`: by the tree's head.
use mathlib.Core.Path.{sym, ap, ◌∙◌}
use Prim.Native.Nat.{ℕ}
use lib.Dec.{eqb}
use Rattle.std.specs.Prelude.{Ok}
use Rattle.tree_question.specs.Questions.{questions_at}
use Rattle.link_alone.specs.Alone.{judged_head}
use Rattle.link_alone.proofs.judge_tree.Goals as goal

pub returns-in-Lone : goal.returns-in-Lone
returns-in-Lone c = c.judge_alone.ensures ∙ ap (judged_head c.args.s.now (questions_at c.args.s.now c.args.at).items c.args.records.now) (sym c.in-Lone.is ∙ c.tree_head.ensures)

pub returns-in-Empty : goal.returns-in-Empty
returns-in-Empty c = ap (λ (x : ℕ). Ok (eqb x 0)) c.record_rows.ensures ∙ ap (judged_head c.args.s.now (questions_at c.args.s.now c.args.at).items c.args.records.now) (sym c.in-Empty.is ∙ c.tree_head.ensures)

pub returns-in-Lines : goal.returns-in-Lines
returns-in-Lines c = c.judge_braces.ensures ∙ ap (judged_head c.args.s.now (questions_at c.args.s.now c.args.at).items c.args.records.now) (sym c.in-Lines.is ∙ c.tree_head.ensures)

pub returns-in-NoTree : goal.returns-in-NoTree
returns-in-NoTree c = ap (judged_head c.args.s.now (questions_at c.args.s.now c.args.at).items c.args.records.now) (sym c.in-NoTree.is ∙ c.tree_head.ensures)
