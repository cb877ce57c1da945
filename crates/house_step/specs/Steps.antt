-- One model in place of what a task holds, and its first broken rule: what the step answers and leaves, by computation (02, Wish 11).
use Rattle.std.specs.Prelude.{◌≡◌, List, ℕ, Err, Ok, Result}
use Rattle.written.specs.Sharing.{Side, Held}
use Rattle.error.specs.declared.Refusal.{Refusal}
use Rattle.head_record.specs.declared.Header.{Header}
use Rattle.load_choose.specs.declared.Which.{Which}
use Rattle.load_plan.specs.Plans.{data_of, planned}
use Rattle.load_plan.specs.declared.Plan.{Plan}
use Rattle.load_apart.specs.Loads.{unload_of}
use Rattle.load_model.specs.Load.{Tables as Lent, After}
use Rattle.load_shared.specs.Beside.{rows_of, with_work, beside_for}
use Rattle.load_bounds.specs.declared.Held.{Held as Bounds}
use Rattle.house_own.specs.Own.{rule_in}
use Rattle.house_step.specs.declared.Judged.{Judged}
use Rattle.load_model.specs.declared.Loaded.{Loaded}

-- the rule that a loaded model breaks, and its bounds
abbrev pub judged_as : ℕ → Bounds → Result Judged Refusal
judged_as n l = Ok (record { rule = n; held = l })

-- the answer, and what was lent after the call
pub record Stepped : Type 0 where
  pub answer : Result Judged Refusal
  pub tables : Lent

abbrev pub bounds_of : ℕ → ℕ → ℕ → ℕ → ℕ → Bounds
bounds_of q a t c v = record { questions = q; patterns = a; trees = t; records = c; values = v }

-- ---- a plan in the data d

-- after a load that answers so and leaves T
abbrev pub ruled_as : Side → List ℕ → Plan → Lent → Result Loaded Refusal → Result Judged Refusal
ruled_as x d p T (Ok l) = judged_as (rule_in x d p T.questions T.trees T.values) (bounds_of l.questions l.patterns l.trees l.records l.values)
ruled_as x d p T (Err z) = Err z

abbrev pub ruled_in : Side → List ℕ → Plan → After → Stepped
ruled_in x d p f = record { answer = ruled_as x d p f.tables f.answer; tables = f.tables }

abbrev pub step_for : Side → Held → List ℕ → Result Plan Refusal → Lent → Stepped
step_for x other d (Err z) T = record { answer = Err z; tables = T }
step_for x other d (Ok p) T = ruled_in x d p (beside_for x other d (Ok p) T)

-- ---- the model asked for

-- what a task holds unloaded
abbrev pub emptied : Side → Held → Held → Lent → Lent
emptied x mine other T = with_work (unload_of {R = Refusal} x mine other (rows_of T)).tables T.work

unfoldable pub step_of : Side → List ℕ → Header → Which → Held → Held → Lent → Stepped
step_of x s h which mine other T = step_for x other (data_of s h) (planned s h which) (emptied x mine other T)

-- ---- the contracts: a step answers r and leaves T₁

abbrev pub Is : Stepped → Result Judged Refusal → Lent → Type 0
Is x r T₁ = (r ≡ x.answer) × (T₁ ≡ x.tables)

abbrev pub StepsPlanned : Side → List ℕ → Plan → Held → Lent → Result Judged Refusal → Lent → Type 0
StepsPlanned x d p other T = Is (step_for x other d (Ok p) T)

abbrev pub Steps : Side → List ℕ → Header → Which → Held → Held → Lent → Result Judged Refusal → Lent → Type 0
Steps x s h which mine other T = Is (step_of x s h which mine other T)
