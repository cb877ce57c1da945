-- `write_tables::judge`: each way through.
use Rattle.write_tables.proofs.Ways.{is_outside, is_odd, is_unread, is_fit}
use borrow.Author.Tests.{not-true, not-false}
use mathlib.Core.Path.{sym, ◌∙◌}
use Rattle.write_tables.proofs.judge.Goals as goal

pub returns-then-not-rows_in : goal.returns-then-not-rows_in
returns-then-not-rows_in c = is_outside c.args.s.now c.args.questions.now c.args.patterns.now c.args.trees.now c.args.records.now (sym c.rows_in.ensures ∙ not-true _ c.if-not-rows_in.true-raw)

pub returns-then-not-bytes_fit : goal.returns-then-not-bytes_fit
returns-then-not-bytes_fit c = is_odd c.args.s.now c.args.questions.now c.args.patterns.now c.args.trees.now c.args.records.now (sym c.rows_in.ensures ∙ not-false _ c.if-not-rows_in.false-raw) (sym c.bytes_fit.ensures ∙ not-true _ c.if-not-bytes_fit.true-raw)

pub returns-then-not-links_fit : goal.returns-then-not-links_fit
returns-then-not-links_fit c = is_unread c.args.s.now c.args.questions.now c.args.patterns.now c.args.trees.now c.args.records.now (sym c.rows_in.ensures ∙ not-false _ c.if-not-rows_in.false-raw) (sym c.bytes_fit.ensures ∙ not-false _ c.if-not-bytes_fit.false-raw) (sym c.links_fit.ensures ∙ not-true _ c.if-not-links_fit.true-raw)

pub returns : goal.returns
returns c = is_fit c.args.s.now c.args.questions.now c.args.patterns.now c.args.trees.now c.args.records.now (sym c.rows_in.ensures ∙ not-false _ c.if-not-rows_in.false-raw) (sym c.bytes_fit.ensures ∙ not-false _ c.if-not-bytes_fit.false-raw) (sym c.links_fit.ensures ∙ not-false _ c.if-not-links_fit.false-raw)
