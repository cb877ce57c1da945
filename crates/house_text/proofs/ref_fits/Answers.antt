-- `house_text::ref_fits` meets its contract.
use mathlib.Core.Path.{sym, ap, ◌∙◌}
use Prim.Native.Nat.{ℕ}
use Rattle.laws.proofs.Signed.{back}
use Rattle.text_parts.specs.Parts.{nat_of}
use Rattle.walk_leaves.specs.Conditions.{leaf_fits}
use Rattle.house_text.specs.Text.{ref_fits}
use borrow.Author.Rules.{rules}
use Rattle.house_text.proofs.ref_fits.Goals as goal

pub returns-in-Pdf : goal.returns-in-Pdf
returns-in-Pdf c = c.leaf_fits.ensures ∙ ap (λ (n : ℕ). leaf_fits n c.args.entries) (c.natural.ensures ∙ ap nat_of (back c.in-Pdf.number (search rules))) ∙ ap (ref_fits c.args.entries) (sym c.in-Pdf.is)
