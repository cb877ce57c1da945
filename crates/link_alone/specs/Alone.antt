-- What the functions of this crate answer, of the questions and lines that are read of a text and the rows of a table.
use Rattle.error.specs.declared.LineFault.{LineFault}
use Rattle.error.specs.Numbers.{line_fault}
use Rattle.error.specs.declared.LinkFault.{LinkFault}
use Rattle.link_alone.specs.declared.LineLink.{LineLink}
use Rattle.std.specs.declared.result.Result.{Result}
use Rattle.std.specs.declared.option.Option.{Option}
use Rattle.std.specs.Prelude.{Bool, true, false, cond, ◌&&◌, List, [], ◌∷◌, ℕ, suc, eqb, length, Some, None, Ok, Err}
use Rattle.written.specs.Said.{QuestionPlace}
use Rattle.error.specs.declared.LinkFault.TheVariants.{NodeRef, QuestionRef, LoneNode}
use Rattle.laws.specs.Steps.{Ending, done_at, broken_at, Reading}
use Rattle.tree_reference.specs.References.{same_index}
use Rattle.tree_reference.specs.declared.TreeIndex.{TreeIndex}
use Rattle.tree_reference.specs.declared.TreeIndex.TheVariants.{Node, Pdf}
use Rattle.tree_line.specs.Lines.{lines_at}
use Rattle.tree_line.specs.declared.Line as code
use Rattle.tree_body.specs.declared.TreeHead.{TreeHead}
use Rattle.tree_body.specs.declared.TreeHead.TheVariants as head
use Rattle.table_rows.specs.Rows.{record_rows}
use Rattle.link_order.specs.Keys.{id_key}
use Rattle.text_parts.specs.Parts.{part_inside}
use Rattle.text_parts.specs.Parts.{nat_of}
use Rattle.link_find.specs.Find.{asked, bearer}
use Rattle.link_fits.specs.Fits.{nowhere, leaf_of, row_fits, leaves_from}
use Rattle.link_fits.specs.declared.Target.{Target}
use Rattle.link_fits.specs.declared.Target.TheVariants.{Line, Leaf, Nowhere}

abbrev pub line_link : ℕ → Target → Target → LineLink
line_link q y n = record { question = q; yes = y; no = n }

-- ---- where references lead

abbrev pub to_line : Option ℕ → Target
to_line (Some k) = Line k
to_line None = Nowhere

-- an id leads to the last line that bears it
abbrev pub target_in : List code.Line → TreeIndex → Target
target_in ls (Node x) = to_line (bearer (id_key x) ls)
target_in ls (Pdf x) = Leaf (nat_of x)

-- ---- a line

abbrev pub link_asked : Target → Target → Option ℕ → Result LineLink LinkFault
link_asked y n (Some q) = Ok (line_link q y n)
link_asked y n None = Err QuestionRef

-- tested in the order yes, no, question
unfoldable pub link_of : Target → Target → Option ℕ → Result LineLink LinkFault
link_of y n f = cond (nowhere y) (Err NodeRef) (cond (nowhere n) (Err NodeRef) (link_asked y n f))

unfoldable pub link_in : List ℕ → List QuestionPlace → List code.Line → code.Line → Result LineLink LinkFault
link_in s qs ls l = link_of (target_in ls l.yes) (target_in ls l.no) (asked s (part_inside s l.start l.len) qs)

-- ---- the lines of a tree

abbrev pub judged_line : List ℕ → ℕ → Result LineLink LinkFault → Result Bool LineFault
judged_line R k (Ok r) = Ok (row_fits R k r.question r.yes r.no)
judged_line R k (Err f) = Err (line_fault f k)

-- a fault ends it
abbrev pub onward : (Bool → Result Bool LineFault) → Result Bool LineFault → Result Bool LineFault
onward f (Ok b) = f b
onward f (Err r) = Err (line_fault r.fault r.line)

-- b, and what was told
abbrev pub ended : Bool → Result Bool LineFault → Result Bool LineFault
ended b j = onward (λ x. Ok (b && x)) j

-- the lines from number k on, after those before them fitted or not
unfoldable pub judged_lines : List ℕ → List QuestionPlace → List code.Line → List ℕ → ℕ → Bool → List code.Line → Result Bool LineFault
judged_lines s qs ls R k b [] = Ok b
judged_lines s qs ls R k b (l ∷ rest) = onward (λ x. judged_lines s qs ls R (suc k) (b && x) rest) (judged_line R k (link_in s qs ls l))

-- ---- a tree

-- one reference: with a PDF one leaf and no other row, with a node refused
abbrev pub judged_alone : List ℕ → TreeIndex → Result Bool LineFault
judged_alone R (Pdf x) = Ok (eqb (record_rows R) 1 && leaf_of R (nat_of x) 0)
judged_alone R (Node x) = Err (line_fault LoneNode 0)

-- the reference that one line with equal references is
abbrev pub single_in : List code.Line → Option TreeIndex
single_in [] = None
single_in (l ∷ []) = cond (same_index l.no l.yes) (Some l.yes) None
single_in (l ∷ (k ∷ ls)) = None

abbrev pub judged_single : List ℕ → List QuestionPlace → List ℕ → List code.Line → Option TreeIndex → Result Bool LineFault
judged_single s qs R ls (Some x) = judged_alone R x
judged_single s qs R ls None = ended (leaves_from R (length ls)) (judged_lines s qs ls R 0 true ls)

abbrev pub judged_ending : List ℕ → List QuestionPlace → List ℕ → List code.Line → Ending → Result Bool LineFault
judged_ending s qs R ls (done_at e) = judged_single s qs R ls (single_in ls)
judged_ending s qs R ls (broken_at e) = Ok false

unfoldable pub judged_braces : List ℕ → List QuestionPlace → List ℕ → Reading code.Line → Result Bool LineFault
judged_braces s qs R r = judged_ending s qs R r.items r.ending

abbrev pub judged_head : List ℕ → List QuestionPlace → List ℕ → TreeHead → Result Bool LineFault
judged_head s qs R (head.Lone x r e) = judged_alone R r
judged_head s qs R (head.Empty x e) = Ok (eqb (record_rows R) 0)
judged_head s qs R (head.Lines x f) = judged_braces s qs R (lines_at s f)
judged_head s qs R head.NoTree = Ok false
