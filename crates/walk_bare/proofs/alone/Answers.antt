-- `walk_bare::alone`: a PDF, or a node.
use mathlib.Core.Path.{sym, ap, ◌∙◌}
use Prim.Native.Nat.{ℕ}
use Rattle.std.specs.Prelude.{Ok}
use Rattle.laws.proofs.Signed.{back}
use Rattle.text_parts.specs.Parts.{nat_of}
use Rattle.walk_bare.specs.Bare.{alone_of, bare}
use borrow.Author.Rules.{rules}
use Rattle.walk_bare.proofs.alone.Goals as goal

pub returns-in-Pdf : goal.returns-in-Pdf
returns-in-Pdf c = ap (λ (x : ℕ). Ok (bare x 0 c.args.read)) (c.natural.ensures ∙ ap nat_of (back c.in-Pdf.number (search rules))) ∙ sym (ap (alone_of c.args.read) c.in-Pdf.is)

pub returns-in-Node : goal.returns-in-Node
returns-in-Node c = sym (ap (alone_of c.args.read) c.in-Node.is)
