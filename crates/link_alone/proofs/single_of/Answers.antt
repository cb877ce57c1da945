-- `link_alone::single_of`: by the first line.
use mathlib.Core.Path.{sym, ◌∙◌}
use Rattle.link_alone.proofs.Judging.{single_many, single_on, single_last, single_broken}
use Rattle.link_alone.proofs.single_of.Goals as goal

pub returns-then-lines-ne1 : goal.returns-then-lines-ne1
returns-then-lines-ne1 c = single_many _ _ _ c.requires c.if-lines-ne1.true

pub returns-in-Next : goal.returns-in-Next
returns-in-Next c = single_on _ _ _ c.requires c.if-lines-ne1.false (sym c.in-Next.is ∙ c.next_line.ensures) c.one_of.ensures

pub returns-in-Last : goal.returns-in-Last
returns-in-Last c = single_last _ _ _ c.requires (sym c.in-Last.is ∙ c.next_line.ensures) c.one_of-in-Last.ensures

pub returns-in-Broken : goal.returns-in-Broken
returns-in-Broken c = single_broken _ _ _ c.requires (sym c.in-Broken.is ∙ c.next_line.ensures)
