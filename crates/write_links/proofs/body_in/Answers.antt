-- `write_links::body_in`: without lines, or with some.
use Rattle.write_links.proofs.Ways.{body_bare, body_lines}
use mathlib.Core.Path.{◌∙◌}
use Rattle.write_links.proofs.body_in.Goals as goal

pub returns-then-lines-eq0 : goal.returns-then-lines-eq0
returns-then-lines-eq0 c = c.bare_in.ensures ∙ body_bare c.args.records.now c.args.first c.args.count c.args.lines c.if-lines-eq0.true

pub lines_in-requires : goal.lines_in-requires
lines_in-requires c = c.requires

pub returns : goal.returns
returns c = c.lines_in.ensures ∙ body_lines c.args.records.now c.args.first c.args.count c.args.lines c.if-lines-eq0.false
