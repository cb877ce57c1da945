-- `link_alone::judge_line`: by the line's link.
use mathlib.Core.Path.{sym, ap, ◌∙◌}
use Rattle.std.specs.Prelude.{Ok}
use Rattle.link_alone.specs.Alone.{judged_line}
use Rattle.link_alone.proofs.judge_line.Goals as goal

pub returns-in-Ok : goal.returns-in-Ok
returns-in-Ok c = ap Ok c.row_fits.ensures ∙ ap (judged_line c.args.records.now c.args.k) (sym c.in-Ok.is ∙ c.link_line.ensures)

pub returns-in-Err : goal.returns-in-Err
returns-in-Err c = ap (judged_line c.args.records.now c.args.k) (sym c.in-Err.is ∙ c.link_line.ensures)
