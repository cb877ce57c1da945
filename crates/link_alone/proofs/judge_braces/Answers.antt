-- `link_alone::judge_braces`: one reference, or the lines and the leaves behind them.
use mathlib.Core.Path.{sym, ap, ap₂, ◌∙◌}
use Rattle.std.specs.Prelude.{None}
use Rattle.tree_question.specs.Questions.{questions_at}
use Rattle.link_alone.specs.Alone.{ended}
use Rattle.link_fits.specs.Fits.{leaves_from}
use Rattle.link_alone.proofs.Judging.{counted_many, braces_are, braces_broken}
use Rattle.link_alone.proofs.judge_braces.Goals as goal

pub single_of-requires : goal.single_of-requires
single_of-requires c = counted_many c.args.s.now (questions_at c.args.s.now c.args.at).items c.args.records.now c.args.first (sym c.in-Some.is ∙ c.count_lines.ensures)

pub judge_lines-judged-requires : goal.judge_lines-judged-requires
judge_lines-judged-requires c = record { many = counted_many c.args.s.now (questions_at c.args.s.now c.args.at).items c.args.records.now c.args.first (sym c.in-Some.is ∙ c.count_lines.ensures); order = c.ids_in_order.ensures }

pub returns-in-Some-single_of : goal.returns-in-Some-single_of
returns-in-Some-single_of c = braces_are c.args.s.now (questions_at c.args.s.now c.args.at).items c.args.records.now c.args.first (sym c.in-Some.is ∙ c.count_lines.ensures) _ (sym c.in-Some-single_of.is ∙ c.single_of.ensures) c.judge_alone.ensures

pub returns-in-None-single_of : goal.returns-in-None-single_of
returns-in-None-single_of c = braces_are c.args.s.now (questions_at c.args.s.now c.args.at).items c.args.records.now c.args.first (sym c.in-Some.is ∙ c.count_lines.ensures) None (sym c.in-None-single_of.is ∙ c.single_of.ensures) (c.last_judged.ensures ∙ ap₂ ended (c.leaves_from.ensures ∙ ap (leaves_from c.args.records.now) (counted_many c.args.s.now (questions_at c.args.s.now c.args.at).items c.args.records.now c.args.first (sym c.in-Some.is ∙ c.count_lines.ensures))) c.judge_lines-judged.ensures)

pub returns-in-None : goal.returns-in-None
returns-in-None c = braces_broken c.args.s.now (questions_at c.args.s.now c.args.at).items c.args.records.now c.args.first (sym c.in-None.is ∙ c.count_lines.ensures)
