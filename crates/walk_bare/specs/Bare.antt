-- What the functions of this crate answer: a line's reply, where references lead, the walk over the lines of a tree, the lines read, and the call in numbers.
use Rattle.error.specs.declared.LineFault.{LineFault}
use Rattle.walk_bare.specs.declared.Bare.{Bare}
use Rattle.walk.specs.declared.Walked.{Walked}
use Rattle.std.specs.declared.result.Result.{Result}
use Rattle.tree_line.specs.declared.Line.{Line}
use Rattle.std.specs.declared.option.Option.{Option}
use Rattle.std.specs.Prelude.{◌≡◌, cond, List, [], ◌∷◌, ℕ, zero, suc, ◌+◌, ◌-◌, ◌*◌, ◌≤◌, ◌<◌, min, ltb, length, get_or, Some, None, Ok, Err}
use Rattle.std.proofs.lemmas.List.Edits.{sets}
use Rattle.written.specs.Said.{QuestionPlace}
use Rattle.written.specs.Walks.{chosen, is_yes}
use Rattle.laws.specs.Steps.{Ending, done_at, broken_at, Reading}
use Rattle.error.specs.Numbers.{fault_number, number_of, place_of, line_of}
use Rattle.error.specs.declared.Refusal.{Refusal}
use Rattle.error.specs.declared.Refusal.TheVariants as refusal
use Rattle.tree_question.specs.Questions.{questions_at}
use Rattle.tree_reference.specs.declared.TreeIndex.{TreeIndex}
use Rattle.tree_reference.specs.declared.TreeIndex.TheVariants.{Node, Pdf}
use Rattle.tree_line.specs.Lines.{lines_at}
use Rattle.tree_line.specs.declared.Line as code
use Rattle.tree_body.specs.Trees.{head_at}
use Rattle.tree_body.specs.declared.TreeHead.{TreeHead}
use Rattle.tree_body.specs.declared.TreeHead.TheVariants as head
use Rattle.link_order.specs.Keys.{id_key}
use Rattle.text_parts.specs.Parts.{part_inside}
use Rattle.text_parts.specs.Parts.{nat_of}
use Rattle.link_find.specs.Find.{asked, bearer, bearing}
use Rattle.link_alone.specs.Alone.{single_in}
use Rattle.link_window.specs.Windows.{fault_head}
use Rattle.walk.specs.Walking.{walk_from}
use Rattle.walk.specs.declared.Met.{Met}
use Rattle.walk.specs.declared.Met.TheVariants as met
use Rattle.walk_accepts.specs.Accepting.{chosen_tree}
use Rattle.walk_bare.specs.declared.Sought.{Sought}
use Rattle.walk_bare.specs.declared.Sought.TheVariants as sought
use Rattle.walk_bare.specs.declared.Turn.{Turn}
use Rattle.walk_bare.specs.declared.Turn.TheVariants as turn
use Rattle.walk_bare.specs.declared.Meter.{Meter}

abbrev pub bare : ℕ → ℕ → ℕ → Bare
bare n a r = record { number = n; asked = a; read = r }

-- ---- one line

-- question q, answered by its byte; 0 is no
unfoldable pub reply_in : List ℕ → ℕ → TreeIndex → TreeIndex → Option TreeIndex
reply_in bytes q y n = cond (ltb q (length bytes)) (Some (chosen (is_yes (get_or bytes q 0)) y n)) None

abbrev pub reply_found : List ℕ → TreeIndex → TreeIndex → Option ℕ → Option TreeIndex
reply_found bytes y n (Some q) = reply_in bytes q y n
reply_found bytes y n None = None

unfoldable pub reply_to : List ℕ → List QuestionPlace → List ℕ → code.Line → Option TreeIndex
reply_to s qs bytes l = reply_found bytes l.yes l.no (asked s (part_inside s l.start l.len) qs)

abbrev pub reply_borne : List ℕ → List QuestionPlace → List ℕ → Option Line → Option TreeIndex
reply_borne s qs bytes (Some l) = reply_to s qs bytes l
reply_borne s qs bytes None = None

-- ---- which line is asked

abbrev pub first_of : List code.Line → Option Line
first_of [] = None
first_of (l ∷ ls) = Some l

-- the first, or the last that bears the id
abbrev pub sought_in : List code.Line → Sought → Option Line
sought_in ls sought.First = first_of ls
sought_in ls (sought.Bearing x) = bearing x ls

abbrev pub turn_of : TreeIndex → Turn
turn_of (Pdf x) = turn.Leaf (nat_of x)
turn_of (Node x) = turn.Line (id_key x)

-- ---- the lines of a tree as records: the lines by their numbers, then nothing, then a leaf for every PDF number

abbrev pub line_number : ℕ → Option ℕ → ℕ
line_number n (Some k) = k
line_number n None = n

abbrev pub goal_in : List code.Line → TreeIndex → ℕ
goal_in ls (Pdf x) = length ls + suc (nat_of x)
goal_in ls (Node x) = line_number (length ls) (bearer (id_key x) ls)

abbrev pub met_reply : List code.Line → Option TreeIndex → Met
met_reply ls (Some x) = met.Line (goal_in ls x)
met_reply ls None = met.Wrong

unfoldable pub met_in : (code.Line → Met) → List code.Line → ℕ → Met
met_in f [] zero = met.Wrong
met_in f [] (suc k) = met.Leaf k
met_in f (l ∷ ls) zero = f l
met_in f (l ∷ ls) (suc k) = met_in f ls k

unfoldable pub meets_in : List ℕ → List QuestionPlace → List ℕ → List code.Line → ℕ → Met
meets_in s qs bytes ls k = met_in (λ l. met_reply ls (reply_to s qs bytes l)) ls k

-- ---- the lines read: the first, and all for each question but the last; 2^64 - 1 where it were more

unfoldable pub read_count : ℕ → ℕ → ℕ
read_count n a = min (1 + (n * a - n)) 18446744073709551615

abbrev pub ended_of : ℕ → Result Walked Refusal → Result Bare Refusal
ended_of n (Ok r) = Ok (bare r.number r.asked (read_count n r.asked))
ended_of n (Err r) = Err r

-- ---- a tree

-- one reference, for which so many lines were read
abbrev pub alone_of : ℕ → TreeIndex → Result Bare Refusal
alone_of r (Pdf x) = Ok (bare (nat_of x) 0 r)
alone_of r (Node x) = Err refusal.WalkTable

abbrev pub single_of : List ℕ → List QuestionPlace → List ℕ → ℕ → List code.Line → Option TreeIndex → Result Bare Refusal
single_of s qs bytes limit ls (Some x) = alone_of 1 x
single_of s qs bytes limit ls None = ended_of (length ls) (walk_from (meets_in s qs bytes ls) limit 0)

abbrev pub ending_of : List ℕ → List QuestionPlace → List ℕ → ℕ → List code.Line → Ending → Result Bare Refusal
ending_of s qs bytes limit ls (done_at e) = single_of s qs bytes limit ls (single_in ls)
ending_of s qs bytes limit ls (broken_at e) = Err refusal.WalkTable

unfoldable pub braces_of : List ℕ → List QuestionPlace → List ℕ → ℕ → Reading code.Line → Result Bare Refusal
braces_of s qs bytes limit r = ending_of s qs bytes limit r.items r.ending

abbrev pub head_of : List ℕ → List QuestionPlace → List ℕ → ℕ → TreeHead → Result Bare Refusal
head_of s qs bytes limit (head.Lone x r e) = alone_of 0 r
head_of s qs bytes limit (head.Empty x e) = Err refusal.WalkTable
head_of s qs bytes limit (head.Lines x f) = braces_of s qs bytes limit (lines_at s f)
head_of s qs bytes limit head.NoTree = Err refusal.WalkTable

-- ---- the call

abbrev pub refused_by : ℕ → ℕ → ℕ → Meter
refused_by c p k = record { number = c; place = p; line = k; pdf = 0; asked = 0; read = 0 }

abbrev pub refused_as : Refusal → Meter
refused_as r = refused_by (number_of r) (place_of r) (line_of r)

abbrev pub metered_of : Result Bare Refusal → Meter
metered_of (Ok q) = record { number = 0; place = 0; line = 0; pdf = q.number; asked = q.asked; read = q.read }
metered_of (Err r) = refused_by (number_of r) 0 0

-- 21 to 23 of the tree alone, then the walk
abbrev pub linked_as : ℕ → Meter → Result Unit LineFault → Meter
linked_as t m (Ok tt) = m
linked_as t m (Err r) = refused_by (fault_number r.fault) t r.line

unfoldable pub meter_at : List ℕ → ℕ → List ℕ → ℕ → ℕ → Meter
meter_at s t bytes limit i = linked_as t (metered_of (head_of s (questions_at s 0).items bytes limit (head_at s i))) (fault_head s (questions_at s 0).items (head_at s i))

abbrev pub chosen_of : List ℕ → ℕ → List ℕ → ℕ → Result ℕ Refusal → Meter
chosen_of s t bytes limit (Ok i) = meter_at s t bytes limit i
chosen_of s t bytes limit (Err r) = refused_as r

unfoldable pub bare_of : List ℕ → ℕ → List ℕ → ℕ → Meter
bare_of s t bytes limit = chosen_of s t bytes limit (chosen_tree s t)

abbrev pub bare_numbers : Meter → List ℕ
bare_numbers m = m.number ∷ m.place ∷ m.line ∷ m.pdf ∷ m.asked ∷ m.read ∷ []

-- a slice too short is left alone; else it has the six numbers, and the first is answered
pub data BareTells (s : List ℕ) (t : ℕ) (bytes : List ℕ) (limit : ℕ) (out : List ℕ) (r : ℕ) (e : List ℕ) : Type 0 where
  no_room : length out < 6 → r ≡ 20 → e ≡ out → BareTells s t bytes limit out r e
  told : 6 ≤ length out → r ≡ (bare_of s t bytes limit).number → e ≡ sets out 0 (bare_numbers (bare_of s t bytes limit)) → BareTells s t bytes limit out r e
