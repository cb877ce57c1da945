-- `tree_reference::some_pdf`: each way out is an arm of `pdfOf`.
use mathlib.Core.Path.{◌≡◌, refl, sym, ap, ap₂, ◌∙◌}
use mathlib.Core.List.{List}
use Prim.Native.Nat.{ℕ, ◌≤◌, ◌<◌}
use borrow.Author.Tests.{lt-ltb, le-ltb}
use Rattle.text_parts.specs.Parts.{read_to}
use Rattle.std.specs.Prelude.{Some, None}
use Rattle.laws.proofs.Signed.{back}
use Rattle.text_numbers.specs.Answers.{signed_at}
use Rattle.tree_reference.specs.References.{pdf_read, pdf_of}
use Rattle.tree_reference.specs.declared.TreeIndex.TheVariants.{Pdf}
use borrow.Author.Rules.{rules}
use Rattle.tree_reference.proofs.some_pdf.Goals as goal

none : (s : List ℕ) (d e : ℕ) → e ≤ d → None ≡ pdf_of s e d
unfolding pdf_of
none s d e h = rw (le-ltb d e h)

one : (s : List ℕ) (d e : ℕ) → d < e → pdf_read (signed_at s d) ≡ pdf_of s e d
unfolding pdf_of
one s d e h = rw (lt-ltb d e h)

pub returns-then-end-start : goal.returns-then-end-start
returns-then-end-start c = none _ _ _ c.if-end-start.true

pub returns : goal.returns
returns c =
    ap₂ (λ v k. Some (read_to v k)) (ap Pdf (back _ (search rules))) refl
    ∙ ap pdf_read (sym c.in_ok-number.was ∙ c.parse_signed.ensures)
    ∙ one _ _ _ c.if-end-start.false

pub returns-in_err-number : goal.returns-in_err-number
returns-in_err-number c =
    c.from_residual.ensures ∙ ap pdf_read (sym c.in_err-number.was ∙ c.parse_signed.ensures)
    ∙ one _ _ _ c.if-end-start.false
