-- `link_shape::braces_shape`: counted, then one reference or not.
use mathlib.Core.Path.{refl, sym, ap, ◌∙◌}
use Rattle.std.specs.Prelude.{None}
use Rattle.link_shape.specs.declared.Shape.TheVariants.{Lines}
use Rattle.link_shape.proofs.Laws.{counted_many, braces_are, braces_broken}
use Rattle.link_shape.proofs.braces_shape.Goals as goal

pub single_of-requires : goal.single_of-requires
single_of-requires c = counted_many _ _ (sym c.in-Some.is ∙ c.count_lines.ensures)

pub returns-in-Some-single_of : goal.returns-in-Some-single_of
returns-in-Some-single_of c = braces_are _ _ (sym c.in-Some.is ∙ c.count_lines.ensures) _ (sym c.in-Some-single_of.is ∙ c.single_of.ensures) refl

pub returns-in-None-single_of : goal.returns-in-None-single_of
returns-in-None-single_of c = let a = c.args in braces_are _ _ (sym c.in-Some.is ∙ c.count_lines.ensures) None (sym c.in-None-single_of.is ∙ c.single_of.ensures) (ap (Lines a.first) (counted_many _ _ (sym c.in-Some.is ∙ c.count_lines.ensures)))

pub returns-in-None : goal.returns-in-None
returns-in-None c = braces_broken _ _ (sym c.in-None.is ∙ c.count_lines.ensures)
