-- The words of lines read back: what linking finds in the work is what was read of the text.
use mathlib.Core.Path.{◌≡◌, refl, sym, ap, ap₂, ◌∙◌}
use mathlib.Core.List.{List, [], ◌∷◌, ◌++◌, map}
use Prim.Native.Nat.{ℕ, suc, ◌+◌, ◌*◌, ◌<◌}
use native.Mathlib.Omega.{arith}
use lib.IntN.{ℤ, pos}
use lib.ListN.{length, get_or, length-append}
use Rattle.written.specs.Said.{Ref, node, pdf}
use Rattle.laws.specs.Totals.{total}
use Rattle.tree_reference.specs.References.{pdf_count}
use Rattle.tree_reference.specs.declared.TreeIndex.{TreeIndex}
use Rattle.tree_reference.specs.declared.TreeIndex.TheVariants.{Node, Pdf}
use Rattle.tree_line.specs.declared.Line.{Line}
use Rattle.tree_survey_lines.specs.Counts.{line_pdfs}
use Rattle.written.specs.Linking.{pdf_of}
use Rattle.link_targets.specs.Lines.{WorkLine, ref_of, lines_from, pdfs_of}
use Rattle.text_parts.specs.Parts.{nat_of}
use Rattle.load_lines.specs.Words.{kind_of, number_of, asked_at, line_words}

-- a reference of the text as linking has it
abbrev pub ref_index : TreeIndex → Ref
ref_index (Node x) = node x
ref_index (Pdf x) = pdf (nat_of x)

decoded : (x : TreeIndex) → ref_of (kind_of x) (number_of x) ≡ ref_index x
unfolding ref_of
decoded (Node x) = refl
decoded (Pdf x) = refl

-- a line of the text as linking has it, by what its question was found to be
abbrev pub work_line : (Line → ℤ) → Line → WorkLine
work_line q l = record { id = l.id; yes = ref_index l.yes; no = ref_index l.no; question = nat_of (q l) }

module _ (s questions : List ℕ) (n : ℕ) where
  abbrev asks : Line → ℤ
  asks l = asked_at s questions n l.start l.len

  pub words_length : (ls : List Line) → length (line_words s questions n ls) ≡ 6 * length ls
  unfolding line_words
  words_length [] = refl
  words_length (l ∷ ls) = omega (arith, words_length ls)

  -- lines whose words stand in w from 6k on
  pub decode : (w : List ℤ) (k : ℕ) (ls : List Line) → ((i : ℕ) → i < 6 * length ls → get_or w (6 * k + i) (pos 0) ≡ get_or (line_words s questions n ls) i (pos 0))
      → lines_from w k (length ls) ≡ map (work_line asks) ls
  unfolding lines_from line_words
  decode w k [] f = refl
  decode w k (l ∷ ls) f =
      let z : 6 * k + 0 ≡ 6 * k = omega arith in
      let y : 6 * k + 1 + 1 ≡ 6 * k + 2 = omega arith in
      let x : 6 * k + 3 + 1 ≡ 6 * k + 4 = omega arith in
      let a : get_or w (6 * k) (pos 0) ≡ l.id = ap (λ (i : ℕ). get_or w i (pos 0)) (sym z) ∙ f 0 (omega arith) in
      let b : get_or w (6 * k + 1) (pos 0) ≡ kind_of l.yes = f 1 (omega arith) in
      let c : get_or w (6 * k + 1 + 1) (pos 0) ≡ number_of l.yes = ap (λ (i : ℕ). get_or w i (pos 0)) y ∙ f 2 (omega arith) in
      let d : get_or w (6 * k + 3) (pos 0) ≡ kind_of l.no = f 3 (omega arith) in
      let e : get_or w (6 * k + 3 + 1) (pos 0) ≡ number_of l.no = ap (λ (i : ℕ). get_or w i (pos 0)) x ∙ f 4 (omega arith) in
      let q : get_or w (6 * k + 5) (pos 0) ≡ asks l = f 5 (omega arith) in
      ap₂ ◌∷◌ (rw (a, b, c, d, e, q, decoded l.yes, decoded l.no))
      (decode w (suc k) ls
      (λ i h.
      let u : 6 * suc k + i ≡ 6 * k + suc (suc (suc (suc (suc (suc i))))) = omega arith in
      ap (λ (j : ℕ). get_or w j (pos 0)) u ∙ f (suc (suc (suc (suc (suc (suc i)))))) (omega arith)))

one_count : (x : TreeIndex) → length (pdf_of (ref_index x)) ≡ pdf_count x
one_count (Node x) = refl
one_count (Pdf x) = refl

-- as many leaves as the lines have PDF references
pub pdfs-count : (q : Line → ℤ) (ls : List Line) → length (pdfs_of (map (work_line q) ls)) ≡ total line_pdfs ls
unfolding pdfs_of total
pdfs-count q [] = refl
pdfs-count q (l ∷ ls) =
    omega (
      arith,
      length-append (pdf_of (ref_index l.yes)) (pdf_of (ref_index l.no) ++ pdfs_of (map (work_line q) ls)),
      length-append (pdf_of (ref_index l.no)) (pdfs_of (map (work_line q) ls)),
      one_count l.yes,
      one_count l.no,
      pdfs-count q ls,
    )
