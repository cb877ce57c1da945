-- What the calls on a model and on loaded tables answer in numbers (host/larsavim.h): which model a number names, what a model needs, a load, a walk.
use Rattle.walk.specs.declared.Walked.{Walked}
use Rattle.std.specs.Prelude.{cond, List, ℕ, ◌-◌, ◌*◌, ◌/◌, ◌%◌, ltb, eqb, Err, Ok, Result}
use Rattle.error.specs.Numbers.{number_of, place_of, line_of}
use Rattle.head_words.specs.Words.{header_at}
use Rattle.face_record.specs.Answers.{judged_of}
use Rattle.load_choose.specs.declared.Which.{Which}
use Rattle.load_choose.specs.declared.Which.TheVariants.{Duration, Stream, Gv}
use Rattle.load_plan.specs.Plans.{planned}
use Rattle.load_plan.specs.declared.Plan.{Plan}
use Rattle.walk.specs.Walking.{walk_of}
use Rattle.face_model.specs.declared.Needed.{Needed}
use Rattle.face_model.specs.declared.Rows.{Rows}
use Rattle.face_model.specs.declared.Ended.{Ended}
use Rattle.load_model.specs.declared.Loaded.{Loaded}
use Rattle.error.specs.declared.Refusal.{Refusal}

-- 0 duration, 2i + 1 stream i, 2i + 2 its GV
unfoldable pub which_of : ℕ → Which
which_of n = cond (eqb n 0) Duration (cond (eqb (n % 2) 1) (Stream (n / 2)) (Gv (n / 2 - 1)))

-- ---- what a model needs

-- numbers of work for the longest tree's lines; where that is no number of 64 bits, the greatest one
unfoldable pub work_for : ℕ → ℕ
work_for l = cond (ltb 3074457345618258602 l) 18446744073709551615 (6 * l)

abbrev pub not_needed : ℕ → ℕ → ℕ → Needed
not_needed n p l =
    record { number = n; place = p; line = l; questions = 0; patterns = 0; trees = 0; records = 0; values = 0; work = 0; width = 0 }

abbrev pub needed_for : Plan → Needed
needed_for p =
    record {
      number = 0;
      place = 0;
      line = 0;
      questions = p.questions;
      patterns = p.patterns;
      trees = p.trees;
      records = p.records;
      values = p.entries * p.width;
      work = work_for p.lines;
      width = p.width;
    }

abbrev pub needed_by : Result Plan Refusal → Needed
needed_by (Ok p) = needed_for p
needed_by (Err r) = not_needed (number_of r) (place_of r) (line_of r)

-- of words that are judged so
abbrev pub needed_in : List ℕ → List ℕ → ℕ → ℕ → Needed
needed_in s w n j = cond (eqb j 0) (needed_by (planned s (header_at w) (which_of n))) (not_needed j 0 0)

unfoldable pub needed_of : List ℕ → List ℕ → ℕ → Needed
needed_of s w n = needed_in s w n (judged_of w)

-- ---- a load

abbrev pub no_rows : ℕ → ℕ → ℕ → Rows
no_rows n p l = record { number = n; place = p; line = l; questions = 0; patterns = 0; trees = 0; records = 0; values = 0 }

abbrev pub rows_by : Result Loaded Refusal → Rows
rows_by (Ok l) = record { number = 0; place = 0; line = 0; questions = l.questions; patterns = l.patterns; trees = l.trees; records = l.records; values = l.values }
rows_by (Err r) = no_rows (number_of r) (place_of r) (line_of r)

-- ---- a walk

abbrev pub ended_by : Result Walked Refusal → Ended
ended_by (Ok r) = record { number = 0; pdf = r.number; asked = r.asked }
ended_by (Err r) = record { number = number_of r; pdf = 0; asked = 0 }

abbrev pub ended_of : List ℕ → List ℕ → ℕ → List ℕ → ℕ → Ended
ended_of T R t bytes limit = ended_by (walk_of T R t bytes limit)
