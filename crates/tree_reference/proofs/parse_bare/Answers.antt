-- `tree_reference::parse_bare`: each arm is an arm of `bareRead`.
use mathlib.Core.Path.{refl, sym, ap, ap₂, ◌∙◌}
use Rattle.text_parts.specs.Parts.{read_to}
use Rattle.std.specs.Prelude.{Some}
use Rattle.tree_reference.specs.References.{bare_read, bare_at}
use Rattle.tree_reference.specs.declared.TreeIndex.TheVariants.{Node}
use borrow.Author.Rules.{rules}
use Rattle.std.proofs.Math.Facts.{to_z-of_z}
use mir.Syntax.{w64}
use Rattle.tree_reference.proofs.parse_bare.Goals as goal

pub returns-in-Some : goal.returns-in-Some
unfolding bare_at
returns-in-Some c = ap₂ (λ v k. Some (read_to v k)) (ap Node (to_z-of_z {w = w64} {z = c.in-Some.number.value} (search rules))) refl ∙ ap (bare_read _) (sym c.in-Some.is ∙ c.parse_signed.ensures)

pub returns-in-None : goal.returns-in-None
unfolding bare_at
returns-in-None c = c.parse_pdf.ensures ∙ ap (bare_read _) (sym c.in-None.is ∙ c.parse_signed.ensures)
