-- What the functions of this crate answer: names in a slice, by their beginnings; their keys; which of them questions bear; the first line with a fault.
use Rattle.error.specs.declared.LineFault.{LineFault}
use Rattle.error.specs.Numbers.{line_fault}
use Rattle.std.specs.declared.result.Result.{Result}
use Rattle.std.specs.declared.option.Option.{Option}
use Rattle.std.specs.Prelude.{◌≡◌, Bool, true, false, cond, List, ℕ, ◌+◌, ◌-◌, ◌≤◌, ◌<◌, ltb, length, get_or, drop, Some, None, Ok, Err}
use Rattle.written.specs.Bytes.{in_name}
use Rattle.written.specs.Said.{QuestionPlace}
use Rattle.written.specs.Linking.{Nth}
use Rattle.laws.specs.Runs.{stop}
use Rattle.laws.specs.Steps.{Ending, done_at, broken_at, Reading}
use Rattle.error.specs.declared.LinkFault.TheVariants.{NodeRef, QuestionRef, LoneNode}
use Rattle.tree_reference.specs.declared.TreeIndex.{TreeIndex}
use Rattle.tree_reference.specs.declared.TreeIndex.TheVariants.{Node, Pdf}
use Rattle.tree_line.specs.Lines.{lines_at}
use Rattle.tree_line.specs.declared.Line.{Line}
use Rattle.tree_body.specs.declared.TreeHead.{TreeHead}
use Rattle.tree_body.specs.declared.TreeHead.TheVariants as head
use Rattle.text_parts.specs.Parts.{part_inside}
use Rattle.link_find.specs.Find.{asked}
use Rattle.link_alone.specs.Alone.{single_in}
use Rattle.link_stray.specs.Stray.{first_from, strays}
use Rattle.link_window.specs.declared.Filled.{Filled}
use Rattle.link_window.specs.declared.Filled.TheVariants.{More, All}
use Rattle.link_window.specs.declared.Window.{Window}
use Rattle.link_window.specs.declared.Window.TheVariants.{Missing, Next, Clean}

-- ---- the names of a window

-- the first n names are those of the first n lines
abbrev pub Holds : List ℕ → List ℕ → ℕ → List Line → Type 0
Holds s names n ls = (m : ℕ) (l : Line) → Nth ls m l → m < n → (get_or names m 0 ≡ l.start) × (stop in_name s l.start - l.start ≡ l.len)

-- names of the lines from i on: 40 and where the next stands, or all
pub data Taken (s : List ℕ) (i : ℕ) (names : List ℕ) : Filled → Type 0 where
  more : {j : ℕ} → Holds s names 40 (lines_at s i).items → drop 40 (lines_at s i).items ≡ (lines_at s j).items → 40 ≤ length (lines_at s i).items → 40 + i ≤ j → j ≤ length s → Taken s i names (More j)
  all : {n : ℕ} → Holds s names n (lines_at s i).items → length (lines_at s i).items ≡ n → n ≤ 40 → Taken s i names (All n)

pub record Filling (s : List ℕ) (i : ℕ) (names : List ℕ) (r : Filled) (e : List ℕ) : Type 0 where
  pub long : length e ≡ length names
  pub taken : Taken s i e r

-- how many
abbrev pub taken_of : Filled → ℕ
taken_of (More j) = 40
taken_of (All n) = n

-- what follows them
abbrev pub behind_of : Filled → Window
behind_of (More j) = Next j
behind_of (All n) = Clean

-- ---- lines

abbrev pub no_row : Option ℕ → Bool
no_row (Some k) = false
no_row None = true

-- its question isn't there
abbrev pub unheard : List ℕ → List QuestionPlace → Line → Bool
unheard s qs l = no_row (asked s (part_inside s l.start l.len) qs)

-- the lines from i on, at most 40 of them
pub data Windowed (s : List ℕ) (qs : List QuestionPlace) (i : ℕ) : Window → Type 0 where
  missing : {j : ℕ} {l : Line} → Nth (lines_at s i).items j l → unheard s qs l ≡ true → j < 40
      → ((m : ℕ) (e : Line) → m < j → Nth (lines_at s i).items m e → unheard s qs e ≡ false) → Windowed s qs i (Missing j)
  next : {j : ℕ} → ((m : ℕ) (e : Line) → m < 40 → Nth (lines_at s i).items m e → unheard s qs e ≡ false)
      → drop 40 (lines_at s i).items ≡ (lines_at s j).items → 40 ≤ length (lines_at s i).items → 40 + i ≤ j → j ≤ length s → Windowed s qs i (Next j)
  clean : ((m : ℕ) (e : Line) → Nth (lines_at s i).items m e → unheard s qs e ≡ false) → Windowed s qs i Clean

-- ---- a tree

-- the fault of the lower line; on one line a reference comes before the question
abbrev pub fault_lines : Option ℕ → Option ℕ → Result Unit LineFault
fault_lines (Some a) (Some b) = cond (ltb b a) (Err (line_fault QuestionRef b)) (Err (line_fault NodeRef a))
fault_lines (Some a) None = Err (line_fault NodeRef a)
fault_lines None (Some b) = Err (line_fault QuestionRef b)
fault_lines None None = (Ok tt)

abbrev pub fault_alone : TreeIndex → Result Unit LineFault
fault_alone (Pdf x) = (Ok tt)
fault_alone (Node x) = Err (line_fault LoneNode 0)

abbrev pub fault_single : List ℕ → List QuestionPlace → List Line → Option TreeIndex → Result Unit LineFault
fault_single s qs ls (Some x) = fault_alone x
fault_single s qs ls None = fault_lines (first_from (strays ls) 0 ls) (first_from (unheard s qs) 0 ls)

abbrev pub fault_ending : List ℕ → List QuestionPlace → List Line → Ending → Result Unit LineFault
fault_ending s qs ls (done_at e) = fault_single s qs ls (single_in ls)
fault_ending s qs ls (broken_at e) = (Ok tt)

unfoldable pub fault_braces : List ℕ → List QuestionPlace → Reading Line → Result Unit LineFault
fault_braces s qs r = fault_ending s qs r.items r.ending

abbrev pub fault_head : List ℕ → List QuestionPlace → TreeHead → Result Unit LineFault
fault_head s qs (head.Lone x r e) = fault_alone r
fault_head s qs (head.Empty x e) = (Ok tt)
fault_head s qs (head.Lines x f) = fault_braces s qs (lines_at s f)
fault_head s qs head.NoTree = (Ok tt)
