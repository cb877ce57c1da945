-- 01's thirteen sums ('Sums to be proved'), each with what it is to come to, by the answers that the calls' contracts cite.
use Rattle.tree_reference.specs.declared.TreeIndex.{TreeIndex}
use Rattle.text_parts.specs.declared.Read.{Read as Found}
use Rattle.text_parts.specs.Parts.{read_to}
use Rattle.std.specs.declared.option.Option.{Option}
use Rattle.std.specs.Prelude.{◌≡◌, List, [], ◌∷◌, ℕ, pos, negsuc, length, Result, Ok, Err, Some, None}
use Rattle.written.specs.Bytes.{bytes, Span, comma, newline}
use Rattle.laws.specs.Steps.{Ending, done_at, broken_at}
use Rattle.pdf_widen.specs.Widening.{widen_of}
use Rattle.error.specs.declared.Refusal.{Refusal}
use Rattle.error.specs.declared.Refusal.TheVariants.{Eof}
use Rattle.head_record.specs.declared.Range.{Range}
use Rattle.head_record.specs.Empty.{range}
use Rattle.head_de.specs.Values.{got, text_at, pair_at}
use Rattle.head_de.specs.Readings.{read, of_text}
use Rattle.head_de.specs.declared.Read.{Read}
use Rattle.head_de_lists.specs.Lists.{list_at}
use Rattle.tree_reference.specs.References.{reference_at}
use Rattle.tree_reference.specs.declared.TreeIndex.TheVariants.{Node, Pdf}
use Rattle.tree_question.specs.Questions.{questions_at}
use Rattle.load_text.specs.Text.{end_at, records_stored}

pub data Sum : Type 0 where
  -- the bits of a binary32, and of the binary64 that it is widened to
  widening : ℕ → ℕ → Sum
  -- a list of strings that is the whole text, and its items
  items : List ℕ → List Span → Sum
  -- a pair that begins a text, and what is read of it
  pair_of : List ℕ → Result (Read Range) Refusal → Sum
  -- a reference that begins a text, and what is read of it
  reference_of : List ℕ → Option (Found TreeIndex) → Sum
  -- a tree text, and the records of its trees
  tree : List ℕ → List ℕ → Sum

-- where the trees of a text begin
abbrev pub first_tree : Ending → ℕ
first_tree (done_at f) = f
first_tree (broken_at f) = f

abbrev pub Holds : Sum → Type 0
Holds (widening x y) = widen_of 8 23 11 52 x ≡ y
Holds (items s l) = list_at (λ i. of_text (text_at (comma ∷ newline ∷ []) s i)) (newline ∷ []) s 0 ≡ read l (length s)
Holds (pair_of s p) = pair_at (newline ∷ []) s 0 ≡ p
Holds (reference_of s r) = reference_at s 0 ≡ r
Holds (tree s rows) = (end_at s 0 (first_tree (questions_at s 0).ending) ≡ (Ok tt)) × (records_stored s 0 (first_tree (questions_at s 0).ending) ≡ rows)

abbrev pub span : ℕ → ℕ → Span
span i n = record { start = i; len = n }

-- A is question row 0, B row 1
abbrev pub five_records : Sum
five_records =
    tree (bytes "QS A {a}\nQS B {b}\n{*}[2]{ 0 A -1 p_3\n-1 B p_1 p_3 }")
    (0 ∷ 0 ∷ 3 ∷ 1 ∷ 0 ∷ 1 ∷ 3 ∷ 2 ∷ 1 ∷ 1 ∷ 0 ∷ 0 ∷ 1 ∷ 3 ∷ 0 ∷ 0 ∷ 1 ∷ 3 ∷ 0 ∷ 0 ∷ [])

abbrev pub sums : List Sum
sums =
    widening 0x0000_0001 0x36A0_0000_0000_0000
    ∷ widening 0x007F_FFFF 0x380F_FFFF_C000_0000
    ∷ widening 0x7F80_0001 0x7FF8_0000_2000_0000
    ∷ items (bytes ",A") (span 1 1 ∷ [])
    ∷ items (bytes "A,") (span 0 1 ∷ span 2 0 ∷ [])
    ∷ items (bytes ",") (span 1 0 ∷ [])
    ∷ pair_of (bytes "-1-2") (got (range 1 2) 4)
    ∷ pair_of (bytes "5-") (Err (Eof 2))
    ∷ reference_of (bytes "dur_s2_1") (Some (read_to (Pdf (pos 1)) 8))
    ∷ reference_of (bytes "-7") (Some (read_to (Node (negsuc 6)) 2))
    ∷ reference_of (bytes "99999999999999999999_1") (Some (read_to (Pdf (pos 1)) 22))
    ∷ reference_of (bytes "abc") None
    ∷ five_records
    ∷ []
