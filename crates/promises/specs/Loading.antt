-- What `larsavim_load` promises of words that an opening of the file wrote: what it returns, every lent slice and `out` after it, by what the file says; and what
-- `larsavim_needs` tells before it.
use mathlib.Core.List.{List, [], ◌∷◌, flatten}
use Rattle.std.specs.Prelude.{ℕ, ◌*◌, ◌/◌, ◌≤◌, ◌<◌, pos, length, get_or, replicate}
use Rattle.std.proofs.lemmas.List.Edits.{sets}
use Rattle.written.specs.Record.{Header}
use Rattle.written.specs.Said.{Layout}
use Rattle.written.specs.Linking.{Row}
use Rattle.written.specs.Tables.{TreeRows, ModelRefused, question_rows, pattern_rows, folded}
use Rattle.written.specs.Models.{Model}
use Rattle.written.specs.Loading.{ModelSaid, ReadsModel, NoModel}
use Rattle.laws.specs.Totals.{total, largest}
use Rattle.tree_survey.specs.Said.{said_patterns, said_tree_records, said_tree_lines}
use Rattle.pdf_widen.specs.Widening.{widen_of}
use Rattle.load_model.specs.Load.{Tables, lent}
use Rattle.face_model.specs.Answers.{work_for}

-- binary32 to binary64 (`pdf_widen` Keeps: value, sign, infinities and NaN are kept)
abbrev pub widening : ℕ → ℕ
widening = widen_of 8 23 11 52

-- ---- what a model needs

abbrev pub patterns_of : ModelSaid → ℕ
patterns_of x = total said_patterns x.text.questions

abbrev pub records_of : ModelSaid → ℕ
records_of x = total said_tree_records x.text.trees

abbrev pub lines_of : ModelSaid → ℕ
lines_of x = largest said_tree_lines 0 x.text.trees

-- each table has the rows needed, length div width of each; the work six numbers for each line of the longest tree
pub record Room (x : ModelSaid) (t : Tables) : Type 0 where
  pub questions : length x.text.questions ≤ length t.questions / 4
  pub patterns : patterns_of x ≤ length t.patterns / 2
  pub trees : length x.text.trees ≤ length t.trees / 6
  pub records : records_of x ≤ length t.records / 4
  pub values : length x.values ≤ length t.values
  pub work : lines_of x ≤ length t.work / 6

-- ---- the lent tables after it

-- the model's rows in front of each table, what is behind them as before; the work is zero
abbrev pub stored : Tables → ModelSaid → Layout → List Row → List Row → Tables
stored t x l trees records =
    lent (sets t.questions 0 (flatten (question_rows 0 l.questions))) (sets t.patterns 0 (flatten (pattern_rows l.questions)))
    (sets t.trees 0 (flatten (folded trees x.rows))) (sets t.records 0 (flatten records)) (sets t.values 0 x.values) (replicate (length t.work) (pos 0))

-- a table whose first n numbers are zero, what is behind them as before
abbrev pub zeros : List ℕ → ℕ → List ℕ
zeros l n = sets l 0 (replicate n 0)

-- the rows that the model needs are zero in each table (02, Wish 9), and all of the work
abbrev pub zeroed : ModelSaid → Tables → Tables
zeroed x t =
    lent (zeros t.questions (4 * length x.text.questions)) (zeros t.patterns (2 * patterns_of x)) (zeros t.trees (6 * length x.text.trees))
    (zeros t.records (4 * records_of x)) (zeros t.values (length x.values)) (replicate (length t.work) (pos 0))

-- ---- the answer: number, place, line, then rows of questions, patterns, trees, records, and values

abbrev pub done_numbers : ModelSaid → List Row → List ℕ
done_numbers x records = 0 ∷ 0 ∷ 0 ∷ length x.text.questions ∷ patterns_of x ∷ length x.text.trees ∷ length records ∷ length x.values ∷ []

abbrev pub refused_numbers : ℕ → ℕ → ℕ → List ℕ
refused_numbers n p k = n ∷ p ∷ k ∷ 0 ∷ 0 ∷ 0 ∷ 0 ∷ 0 ∷ []

-- how a load of the model m of a file that says the record h ends: the answer's numbers, and what was lent after it
pub data LoadEnds (s : List ℕ) (h : Header) (m : Model) (t : Tables) : List ℕ → Tables → Type 0 where
  -- text and block say a model, there is room for it, and its trees link
  loaded : {x : ModelSaid} {l : Layout} {trees records : List Row}
      → ReadsModel widening s h m x l → Room x t → TreeRows x.text.questions 0 x.text.trees trees records
      → LoadEnds s h m t (done_numbers x records) (stored t x l trees records)
  -- 12 to 19: it is no model
  no_model : {n p k : ℕ} → NoModel widening s h m n p k → n ≤ 19 → LoadEnds s h m t (refused_numbers n p k) t
  -- 20
  no_room : {x : ModelSaid} {l : Layout} → ReadsModel widening s h m x l → ¬ Room x t → LoadEnds s h m t (refused_numbers 20 0 0) t
  -- 21 to 23: its trees don't link; the rows that it needed are zero
  unlinked : {x : ModelSaid} {l : Layout} {n i k : ℕ}
      → ReadsModel widening s h m x l → Room x t → ModelRefused x.text.questions x.text.trees n i k → LoadEnds s h m t (refused_numbers n i k) (zeroed x t)

pub data AfterLoad (s : List ℕ) (h : Header) (m : Model) (t : Tables) (out : List ℕ) : ℕ → Tables → List ℕ → Type 0 where
  short_out : length out < 8 → AfterLoad s h m t out 20 t out
  ended : {l : List ℕ} {u : Tables} → 8 ≤ length out → LoadEnds s h m t l u → AfterLoad s h m t out (get_or l 0 0) u (sets out 0 l)

-- ---- larsavim_needs: number, place, line, rows of questions, patterns, trees, records, values, numbers of work (six a line; where that is no number of 64 bits, the
-- greatest), width

abbrev pub needs_numbers : ModelSaid → List ℕ
needs_numbers x =
    0 ∷ 0 ∷ 0 ∷ length x.text.questions ∷ patterns_of x ∷ length x.text.trees ∷ records_of x ∷ length x.values ∷ work_for (lines_of x) ∷ x.width ∷ []

pub data AfterNeeds (s : List ℕ) (h : Header) (m : Model) (out : List ℕ) : ℕ → List ℕ → Type 0 where
  short_out : length out < 10 → AfterNeeds s h m out 20 out
  needed : {x : ModelSaid} {l : Layout} → 10 ≤ length out → ReadsModel widening s h m x l → AfterNeeds s h m out 0 (sets out 0 (needs_numbers x))
  no_model : {n p k : ℕ} → 10 ≤ length out → NoModel widening s h m n p k → n ≤ 19 → AfterNeeds s h m out n (sets out 0 (n ∷ p ∷ k ∷ replicate 7 0))
