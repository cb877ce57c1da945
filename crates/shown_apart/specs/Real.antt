-- The loads of this library as `load_apart` has them: a plan with its fill, what planning finds by a file and words, and the numbers of an answer.
use Rattle.std.specs.Prelude.{cond, List, ℕ, ◌/◌, leb, eqb, ℤ, length, Err, Ok, Result}
use Rattle.written.specs.Sharing.{questions, patterns, trees, records, values}
use Rattle.error.specs.declared.Refusal.{Refusal}
use Rattle.error.specs.declared.Refusal.TheVariants as refusal
use Rattle.head_words.specs.Words.{header_at}
use Rattle.load_plan.specs.Plans.{data_of, planned}
use Rattle.load_plan.specs.declared.Plan.{Plan}
use Rattle.load_model.specs.Load.{filled}
use Rattle.load_apart.specs.Loads.{Answer, Done, Refused, NoRoom, Overlap, Holding, Linked, linked, unlinked, Model, Planned, refused, model}
use Rattle.load_shared.specs.Beside.{rows_of, with_work}
use Rattle.load_bounds.specs.Bounds.{need_of}
use Rattle.face_record.specs.Answers.{judged_of}
use Rattle.face_model.specs.declared.Rows.{Rows}
use Rattle.face_model.specs.Answers.{which_of, no_rows, rows_by}
use Rattle.load_model.specs.declared.Loaded.{Loaded}

-- how linking ends, by the answer of a fill
abbrev pub ending_of : Result Loaded Refusal → Linked Refusal
ending_of (Ok l) = linked
ending_of (Err z) = unlinked z

-- a plan in the data d, with the work that its call is lent
abbrev pub model_of : List ℕ → Plan → List ℤ → Model Refusal
model_of d p w =
    record {
      need = need_of p;
      worked = leb p.lines (length w / 6);
      fill = λ t. record { ending = ending_of (filled d p (with_work t w)).answer; tables = rows_of (filled d p (with_work t w)).tables };
    }

abbrev pub planned_by : List ℕ → Result Plan Refusal → List ℤ → Planned Refusal
planned_by d (Err z) w = refused z
planned_by d (Ok p) w = model (model_of d p w)

-- words that are no record: 20 or 16
abbrev pub unfit : ℕ → Refusal
unfit j = cond (eqb j 20) refusal.Room refusal.Range

-- of a file, the words of a record and a model's number
unfoldable pub planned_of : List ℕ → List ℕ → ℕ → List ℤ → Planned Refusal
planned_of s u n w = cond (eqb (judged_of u) 0) (planned_by (data_of s (header_at u)) (planned s (header_at u) (which_of n)) w) (refused (unfit (judged_of u)))

-- an answer in numbers
abbrev pub rows_for : Answer Refusal → Rows
rows_for (Done n) = record { number = 0; place = 0; line = 0; questions = n questions; patterns = n patterns; trees = n trees; records = n records; values = n values }
rows_for (Refused z) = rows_by (Err z)
rows_for NoRoom = no_rows 20 0 0
rows_for Overlap = no_rows 24 0 0
rows_for Holding = no_rows 29 0 0
