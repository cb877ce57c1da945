-- `load_trees::state_of`: the state of each head.
use mathlib.Core.Path.{sym, ap, ◌∙◌}
use Rattle.laws.proofs.Signed.{back}
use Rattle.text_parts.specs.Parts.{nat_of}
use Rattle.load_trees.specs.Trees.{head_state}
use borrow.Author.Rules.{rules}
use Rattle.load_trees.proofs.state_of.Goals as goal

pub returns-in-Lone : goal.returns-in-Lone
returns-in-Lone c = c.natural.ensures ∙ ap nat_of (back c.in-Lone.state (search rules)) ∙ ap head_state (sym c.in-Lone.is)

pub returns-in-Empty : goal.returns-in-Empty
returns-in-Empty c = c.natural-in-Empty.ensures ∙ ap nat_of (back c.in-Empty.state (search rules)) ∙ ap head_state (sym c.in-Empty.is)

pub returns-in-Lines : goal.returns-in-Lines
returns-in-Lines c = c.natural-in-Lines.ensures ∙ ap nat_of (back c.in-Lines.state (search rules)) ∙ ap head_state (sym c.in-Lines.is)
