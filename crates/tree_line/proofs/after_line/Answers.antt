-- `tree_line::after_line`: each arm is an arm of `lineClosed` or of `lineParted`.
use mathlib.Core.Path.{◌≡◌, sym, ap, ◌∙◌}
use Rattle.written.specs.Bytes.{unbrace}
use Rattle.text_spaces.specs.Spaces.{past_byte, close_at}
use Rattle.tree_line.specs.Lines.{line_parted, line_closed, after_line}
use Rattle.tree_line.proofs.after_line.Goals.{After-past_byte}
use Rattle.tree_line.proofs.after_line.Goals as goal

-- the brace is looked for where the blanks end
closing : (c : After-past_byte) → c.past_byte.result ≡ close_at c.args.s.now c.args.end
unfolding close_at
closing c = c.past_byte.ensures ∙ ap (past_byte unbrace _) c.blank_end-past.ensures

pub returns-in-Some : goal.returns-in-Some
unfolding after_line
returns-in-Some c = ap (line_closed _ _ _) (sym c.in-Some.is ∙ closing (goal.at.returns-in-Some c).After-past_byte)

pub returns-in-Some-line_parting : goal.returns-in-Some-line_parting
unfolding after_line
returns-in-Some-line_parting c =
    ap (line_parted _) (sym c.in-Some-line_parting.is ∙ c.line_parting.ensures)
    ∙ ap (line_closed _ _ _) (sym c.in-None.is ∙ closing (goal.at.returns-in-Some-line_parting c).After-past_byte)

pub returns-in-None-line_parting : goal.returns-in-None-line_parting
unfolding after_line
returns-in-None-line_parting c =
    ap (line_parted _) (sym c.in-None-line_parting.is ∙ c.line_parting.ensures)
    ∙ ap (line_closed _ _ _) (sym c.in-None.is ∙ closing (goal.at.returns-in-None-line_parting c).After-past_byte)
