-- `link_alone::target_of`: an id goes to the last line that bears it, a PDF to a leaf.
use mathlib.Core.Path.{◌≡◌, sym, ap, ◌∙◌}
use Prim.Native.Nat.{ℕ}
use Rattle.laws.proofs.Signed.{back}
use Rattle.tree_line.specs.Lines.{lines_at}
use Rattle.link_order.specs.Keys.{id_key}
use Rattle.text_parts.specs.Parts.{nat_of}
use Rattle.link_find.specs.Find.{bearer}
use Rattle.link_alone.specs.Alone.{to_line, target_in}
use Rattle.link_fits.specs.declared.Target.TheVariants.{Leaf}
use borrow.Author.Rules.{rules}
use Rattle.link_alone.proofs.target_of.Goals as goal

pub returns-in-Some : goal.returns-in-Some
returns-in-Some c = let ls = (lines_at c.args.s.now c.args.first).items in let k : c.id_key.result ≡ id_key c.in-Node.id = c.id_key.ensures ∙ ap id_key (back c.in-Node.id (search rules)) in ap to_line (sym c.in-Some.is ∙ c.line_of.ensures) ∙ ap (λ (x : ℕ). to_line (bearer x ls)) k ∙ sym (ap (target_in ls) c.in-Node.is)

pub returns-in-None : goal.returns-in-None
returns-in-None c = let ls = (lines_at c.args.s.now c.args.first).items in let k : c.id_key.result ≡ id_key c.in-Node.id = c.id_key.ensures ∙ ap id_key (back c.in-Node.id (search rules)) in ap to_line (sym c.in-None.is ∙ c.line_of.ensures) ∙ ap (λ (x : ℕ). to_line (bearer x ls)) k ∙ sym (ap (target_in ls) c.in-Node.is)

pub returns-in-Pdf : goal.returns-in-Pdf
returns-in-Pdf c = ap Leaf (c.natural.ensures ∙ ap nat_of (back c.in-Pdf.number (search rules))) ∙ sym (ap (target_in (lines_at c.args.s.now c.args.first).items) c.in-Pdf.is)
