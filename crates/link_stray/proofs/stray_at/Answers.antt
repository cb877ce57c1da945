-- `link_stray::stray_at`: by the line that was read.
use mathlib.Core.Path.{sym, ap, ◌∙◌}
use mathlib.Core.Bool.{true, false}
use Rattle.tree_line.specs.Lines.{lines_at}
use Rattle.link_stray.specs.Stray.{stray_of}
use Rattle.link_stray.proofs.Laws.{stray_next, stray_last}
use Rattle.link_stray.proofs.stray_at.Goals as goal

pub is_astray-requires : goal.is_astray-requires
is_astray-requires c = c.requires

pub returns-then-is_astray : goal.returns-then-is_astray
returns-then-is_astray c = stray_next _ true (sym c.in-Next.is ∙ c.next_line.ensures) c.is_astray.ensures c.if-is_astray.true

pub is_astray-requires-in-Last : goal.is_astray-requires-in-Last
is_astray-requires-in-Last c = c.requires

pub returns-then-is_astray-2 : goal.returns-then-is_astray-2
returns-then-is_astray-2 c = stray_last _ true (sym c.in-Last.is ∙ c.next_line.ensures) c.is_astray-in-Last.ensures c.if-is_astray-2.true

pub returns-else-is_astray : goal.returns-else-is_astray
returns-else-is_astray c = stray_next _ false (sym c.in-Next.is ∙ c.next_line.ensures) c.is_astray.ensures c.if-is_astray.false

pub returns-else-is_astray-2 : goal.returns-else-is_astray-2
returns-else-is_astray-2 c = stray_last _ false (sym c.in-Last.is ∙ c.next_line.ensures) c.is_astray-in-Last.ensures c.if-is_astray-2.false

pub returns-in-Broken : goal.returns-in-Broken
returns-in-Broken c = let a = c.args in ap (stray_of (lines_at a.s.now a.first).items) (sym c.in-Broken.is ∙ c.next_line.ensures)
