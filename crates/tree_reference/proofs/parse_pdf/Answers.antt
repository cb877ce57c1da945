-- `tree_reference::parse_pdf`. The invariant: the word ends where it did, and `start` is where the digits at the end of what was passed begin.
use mathlib.Core.Path.{◌≡◌, refl, sym, ap, ap₂, ◌∙◌}
use mathlib.Core.List.{List}
use Prim.Native.Nat.{ℕ}
use native.Mathlib.Omega.{arith}
use borrow.Author.Tests.{not-true, not-false}
use Rattle.written.specs.Bytes.{in_word}
use Rattle.laws.specs.Runs.{stop}
use Rattle.laws.proofs.Runs.{stop_on, stop_here, stop_end}
use Rattle.tree_reference.specs.References.{digits_from, pdf_of, pdf_at}
use Rattle.tree_reference.proofs.Digits.{past_digit, past_other, from_end, in_word_lem}
use Rattle.tree_reference.proofs.parse_pdf.Invariants.{Passed}
use Rattle.tree_reference.proofs.parse_pdf.Goals.{then-not-is_digit+else-not-is_word, else-not-is_digit, else-loop-i-test, then-loop-i-test+then-not-is_digit+then-not-is_word}
use Rattle.tree_reference.proofs.parse_pdf.Goals as goal

pub loop-i-init : goal.loop-i-init
loop-i-init c = record { from = omega arith; same = refl; digits = sym (from_end _ _ _ (omega arith)) }

pub loop-i-preserved : goal.loop-i-preserved
loop-i-preserved c =
    let inv = c.loop-i.invariant in
    let l = c.loop-i-test.true in
    elim c.if-not-is_digit.branch [
      | then-not-is_digit+else-not-is_word w ↦ record {
        from = omega (arith, inv.from);
        same = sym (stop_on _ _ _ l (sym w.is_word.ensures ∙ not-false _ w.if-not-is_word.false-raw)) ∙ inv.same;
        digits = w.start-is ∙ past_other _ _ _ inv.from l (sym c.is_digit.ensures ∙ not-true _ w.if-not-is_digit.true-raw);
      }
      | else-not-is_digit w ↦
          let y = sym c.is_digit.ensures ∙ not-false _ w.if-not-is_digit.false-raw in
          record {
            from = omega (arith, inv.from);
            same = sym (stop_on _ _ _ l (in_word_lem _ y)) ∙ inv.same;
            digits = w.start-is ∙ inv.digits ∙ past_digit _ _ _ inv.from l y;
          }
    ]

-- the word ends where the loop is left
pdf : (s : List ℕ) (at start i : ℕ) → Passed s at start i → stop in_word s i ≡ i → pdf_of s i start ≡ pdf_at s at
unfolding pdf_at
pdf s at start i p e =
    let q : i ≡ stop in_word s at = sym e ∙ p.same in
    ap₂ (pdf_of s) q (p.digits ∙ ap (digits_from s at) q)

pub returns : goal.returns
returns c =
    c.some_pdf.ensures
    ∙ pdf _ _ _ _ c.loop-i.invariant
    (elim c.loop-i-test.branch [
      | else-loop-i-test w ↦ stop_end _ _ _ w.loop-i-test.false
      | then-loop-i-test+then-not-is_digit+then-not-is_word w ↦ stop_here _ _ _ w.loop-i-test.true (sym w.is_word.ensures ∙ not-true _ w.if-not-is_word.true-raw)
    ])
