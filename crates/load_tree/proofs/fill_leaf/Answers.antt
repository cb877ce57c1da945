-- `load_tree::fill_leaf`: by the reference.
use mathlib.Core.Path.{sym, ap, ◌∙◌}
use mathlib.Core.List.{[], ◌∷◌}
use lib.Seq.{sets}
use Rattle.laws.proofs.Signed.{back}
use Rattle.text_parts.specs.Parts.{nat_of}
use Rattle.load_tree.specs.Bodies.{leaf_result}
use borrow.Author.Rules.{rules}
use Rattle.load_tree.proofs.fill_leaf.Goals as goal

pub returns-in-Pdf : goal.returns-in-Pdf
returns-in-Pdf c =
    let a = c.args in (
      ap (λ x. (leaf_result x).ends) (sym c.in-Pdf.is),
      c.put4.ensures
          ∙ ap (λ n. sets a.records.now a.first (1 ∷ n ∷ 0 ∷ 0 ∷ [])) (c.natural.ensures ∙ ap nat_of (back c.in-Pdf.number (search rules)))
          ∙ ap (λ x. sets a.records.now a.first (leaf_result x).rows) (sym c.in-Pdf.is),
    )

pub returns-in-Node : goal.returns-in-Node
returns-in-Node c =
    let a = c.args in
    let x = c.in-Node.is in
    (ap (λ x. (leaf_result x).ends) (sym x), ap (λ x. sets a.records.now a.first (leaf_result x).rows) (sym x))
