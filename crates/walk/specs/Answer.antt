-- 01's number, PDF number and questions asked of each way in which a walk ends; where it is refused, 24 or 25 and both are 0; the
-- same of the written walk.
use Rattle.error.specs.declared.Refusal.{Refusal}
use Rattle.walk.specs.declared.Walked.{Walked}
use Rattle.std.specs.declared.result.Result.{Result}
use Rattle.std.specs.Prelude.{ℕ, Ok, Err}
use Rattle.written.specs.Walks.{Ending, limit, nothing, Outcome, refused}
use Rattle.error.specs.Numbers.{number_of}

pub record Answer : Type 0 where
  pub number : ℕ
  pub pdf : ℕ
  pub asked : ℕ

abbrev pub answer_of : Result Walked Refusal → Answer
answer_of (Ok r) = record { number = 0; pdf = r.number; asked = r.asked }
answer_of (Err r) = record { number = number_of r; pdf = 0; asked = 0 }

-- the same of the endings of the written walk
abbrev pub ending_answer : Ending → Answer
ending_answer (Ending.at n a) = record { number = 0; pdf = n; asked = a }
ending_answer limit = record { number = 25; pdf = 0; asked = 0 }
ending_answer nothing = record { number = 24; pdf = 0; asked = 0 }

-- as an outcome of the loaded walk
abbrev pub outcome_of : Result Walked Refusal → Outcome
outcome_of (Ok r) = Outcome.at r.number r.asked
outcome_of (Err r) = refused (number_of r)

-- the numbers that a walk gives: success, tables or answers that don't fit, the limit
pub data Given : ℕ → Type 0 where
  ended : Given 0
  table : Given 24
  steps : Given 25
