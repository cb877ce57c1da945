-- `link_alone::judge_alone`: a PDF is one leaf, a node is refused.
use mathlib.Core.Path.{sym, ap, ap₂, ◌∙◌}
use mathlib.Core.Bool.{◌&&◌}
use Prim.Native.Nat.{ℕ}
use lib.Dec.{eqb}
use Rattle.std.specs.Prelude.{Ok}
use Rattle.laws.proofs.Signed.{back}
use Rattle.text_parts.specs.Parts.{nat_of}
use Rattle.link_alone.specs.Alone.{judged_alone}
use Rattle.link_fits.specs.Fits.{leaf_of}
use borrow.Author.Rules.{rules}
use Rattle.link_alone.proofs.judge_alone.Goals as goal

pub returns-in-Pdf : goal.returns-in-Pdf
returns-in-Pdf c = ap Ok (c.both.ensures ∙ ap₂ ◌&&◌ (ap (λ (x : ℕ). eqb x 1) c.record_rows-one.ensures) (c.is_leaf_of.ensures ∙ ap (λ (x : ℕ). leaf_of c.args.records.now x 0) (c.natural.ensures ∙ ap nat_of (back c.in-Pdf.number (search rules))))) ∙ sym (ap (judged_alone c.args.records.now) c.in-Pdf.is)

pub returns-in-Node : goal.returns-in-Node
returns-in-Node c = sym (ap (judged_alone c.args.records.now) c.in-Node.is)
