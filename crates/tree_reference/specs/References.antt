-- What the readers of this crate answer, on the list of bytes and the place; and what a reference of `written` is in code.
use lib.IntN.{ℤ}
use Rattle.text_parts.specs.Parts.{read_to}
use Rattle.text_parts.specs.declared.Read.{Read}
use Rattle.std.specs.declared.option.Option.{Option}
use Rattle.std.specs.Prelude.{Bool, false, cond, List, ℕ, zero, suc, ltb, leb, pos, Some, None}
use Rattle.written.specs.Bytes.{quote, digit, in_word, byte_at}
use Rattle.written.specs.Said.{Ref, node, pdf}
use Rattle.laws.specs.Runs.{stop}
use Rattle.laws.specs.Wholes.{eq_z}
use Rattle.text_spaces.specs.Spaces.{past_byte}
use Rattle.text_numbers.specs.Answers.{signed_at}
use Rattle.tree_reference.specs.declared.TreeIndex.{TreeIndex}
use Rattle.tree_reference.specs.declared.TreeIndex.TheVariants.{Node, Pdf}

-- ---- a reference of the text, as the code has it

abbrev pub index_of : Ref → TreeIndex
index_of (node x) = Node x
index_of (pdf n) = Pdf (pos n)

-- ---- reading one

-- where the digits begin that stand at the end of the bytes from i up to e
unfoldable pub digits_from : List ℕ → ℕ → ℕ → ℕ
digits_from s i zero = zero
digits_from s i (suc e) = cond (leb i e) (cond (digit (byte_at s e)) (digits_from s i e) (suc e)) (suc e)

abbrev pub pdf_read : Option (Read ℤ) → Option (Read TreeIndex)
pdf_read (Some r) = Some (read_to (Pdf r.value) r.next)
pdf_read None = None

-- the word from i up to e, whose last digits begin at d
unfoldable pub pdf_of : List ℕ → ℕ → ℕ → Option (Read TreeIndex)
pdf_of s e d = cond (ltb d e) (pdf_read (signed_at s d)) None

-- letters, digits and _, as far as they go
unfoldable pub pdf_at : List ℕ → ℕ → Option (Read TreeIndex)
pdf_at s i = let e = stop in_word s i in pdf_of s e (digits_from s i e)

-- a node where a number that fits stands, else a PDF
abbrev pub bare_read : Option (Read TreeIndex) → Option (Read ℤ) → Option (Read TreeIndex)
bare_read r (Some q) = Some (read_to (Node q.value) q.next)
bare_read r None = r

unfoldable pub bare_at : List ℕ → ℕ → Option (Read TreeIndex)
bare_at s i = bare_read (pdf_at s i) (signed_at s i)

abbrev pub closed : TreeIndex → Option ℕ → Option (Read TreeIndex)
closed x (Some i) = Some (read_to x i)
closed x None = None

abbrev pub quoted_read : List ℕ → Option (Read TreeIndex) → Option (Read TreeIndex)
quoted_read s (Some r) = closed r.value (past_byte quote s r.next)
quoted_read s None = None

-- a reference from i on, and the quote behind it
unfoldable pub quoted_at : List ℕ → ℕ → Option (Read TreeIndex)
quoted_at s i = quoted_read s (bare_at s i)

abbrev pub opened : List ℕ → ℕ → Option ℕ → Option (Read TreeIndex)
opened s i (Some j) = quoted_at s j
opened s i None = bare_at s i

-- a reference, bare or in "
unfoldable pub reference_at : List ℕ → ℕ → Option (Read TreeIndex)
reference_at s i = opened s i (past_byte quote s i)

-- ---- comparing and counting

-- two references are of the same kind and number
abbrev pub same_index : TreeIndex → TreeIndex → Bool
same_index (Node x) (Node y) = eq_z x y
same_index (Node x) (Pdf y) = false
same_index (Pdf x) (Node y) = false
same_index (Pdf x) (Pdf y) = eq_z x y

-- the leaves that a reference asks for
abbrev pub pdf_count : TreeIndex → ℕ
pdf_count (Node x) = 0
pdf_count (Pdf x) = 1
