-- What the readers of this crate answer, on the list of bytes and the place; a tree's lines as a list; what a line of `written` is in code.
use Rattle.text_parts.specs.declared.Span.{Span as Piece}
use Rattle.tree_line.specs.declared.Branches.{Branches}
use Rattle.text_parts.specs.Parts.{read_to}
use Rattle.text_parts.specs.declared.Read.{Read}
use Rattle.std.specs.declared.option.Option.{Option}
use Rattle.std.specs.Prelude.{cond, List, ℕ, ltb, ℤ, length, Some, None}
use Rattle.written.specs.Bytes.{blank, Span}
use Rattle.written.specs.Said as said
use Rattle.laws.specs.Runs.{stop}
use Rattle.laws.specs.Steps.{Step, next, last, broken, Reading, read}
use Rattle.text_spaces.specs.Spaces.{name_at, close_at, line_parting_at}
use Rattle.text_numbers.specs.Answers.{signed_at}
use Rattle.tree_reference.specs.References.{index_of, reference_at}
use Rattle.tree_reference.specs.declared.TreeIndex.{TreeIndex}
use Rattle.tree_line.specs.declared.Line.{Line}
use Rattle.tree_line.specs.declared.LineStep.{LineStep}
use Rattle.tree_line.specs.declared.LineStep.TheVariants.{Next, Last, Broken}

abbrev pub branches : TreeIndex → TreeIndex → Branches
branches n y = record { no = n; yes = y }

-- ---- a line of the text, as the code has it

abbrev pub line_of : said.Line → Span → Line
line_of l w = record { id = l.id; start = w.start; len = w.len; no = index_of l.no; yes = index_of l.yes }

-- ---- reading one

abbrev pub yes_read : TreeIndex → Option (Read TreeIndex) → Option (Read Branches)
yes_read n (Some r) = Some (read_to (branches n r.value) r.next)
yes_read n None = None

-- blanks, and the yes reference
unfoldable pub yes_at : List ℕ → ℕ → TreeIndex → Option (Read Branches)
yes_at s i n = cond (ltb i (stop blank s i)) (yes_read n (reference_at s (stop blank s i))) None

abbrev pub no_read : List ℕ → Option (Read TreeIndex) → Option (Read Branches)
no_read s (Some r) = yes_at s r.next r.value
no_read s None = None

-- the no reference, blanks, the yes reference
unfoldable pub branches_at : List ℕ → ℕ → Option (Read Branches)
branches_at s i = no_read s (reference_at s i)

abbrev pub line_branched : ℤ → ℕ → ℕ → Option (Read Branches) → Option (Read Line)
line_branched x b k (Some r) = Some (read_to (record { id = x; start = b; len = k; no = r.value.no; yes = r.value.yes }) r.next)
line_branched x b k None = None

abbrev pub line_named : List ℕ → ℤ → Option (Read Piece) → Option (Read Line)
line_named s x (Some r) = line_branched x r.value.start r.value.len (branches_at s r.next)
line_named s x None = None

abbrev pub line_numbered : List ℕ → Option (Read ℤ) → Option (Read Line)
line_numbered s (Some r) = line_named s r.value (name_at s r.next)
line_numbered s None = None

-- id, blanks, question name, blanks, references
unfoldable pub line_at : List ℕ → ℕ → Option (Read Line)
line_at s i = line_numbered s (signed_at s i)

-- ---- what follows it

abbrev pub line_parted : Line → Option ℕ → LineStep
line_parted l (Some i) = Next l i
line_parted l None = Broken

abbrev pub line_closed : List ℕ → Line → ℕ → Option ℕ → LineStep
line_closed s l e (Some i) = Last l i
line_closed s l e None = line_parted l (line_parting_at s e)

unfoldable pub after_line : List ℕ → Line → ℕ → LineStep
after_line s l e = line_closed s l e (close_at s e)

abbrev pub line_found : List ℕ → Option (Read Line) → LineStep
line_found s (Some r) = after_line s r.value r.next
line_found s None = Broken

-- a line and what follows it
unfoldable pub line_step_at : List ℕ → ℕ → LineStep
line_step_at s i = line_found s (line_at s i)

-- ---- a tree's lines, as a list

abbrev pub line_step : ℕ → LineStep → Step Line
line_step i (Next l j) = next l j
line_step i (Last l j) = last l j
line_step i Broken = broken i

-- the lines from i on, up to the } behind the last
unfoldable pub lines_at : List ℕ → ℕ → Reading Line
lines_at s i = read (λ k. line_step k (line_step_at s k)) (length s) i
