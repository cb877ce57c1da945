-- `walk_bare::turn_of`: by the reference's kind.
use mathlib.Core.Path.{sym, ap, ◌∙◌}
use Rattle.laws.proofs.Signed.{back}
use Rattle.link_order.specs.Keys.{id_key}
use Rattle.text_parts.specs.Parts.{nat_of}
use Rattle.walk_bare.specs.Bare.{turn_of}
use Rattle.walk_bare.specs.declared.Turn.TheVariants as turned
use borrow.Author.Rules.{rules}
use Rattle.walk_bare.proofs.turn_of.Goals as goal

pub returns-in-Pdf : goal.returns-in-Pdf
returns-in-Pdf c = ap turned.Leaf (c.natural.ensures ∙ ap nat_of (back c.in-Pdf.number (search rules))) ∙ sym (ap turn_of c.in-Pdf.is)

pub returns-in-Node : goal.returns-in-Node
returns-in-Node c = ap turned.Line (c.id_key.ensures ∙ ap id_key (back c.in-Node.id (search rules))) ∙ sym (ap turn_of c.in-Node.is)
