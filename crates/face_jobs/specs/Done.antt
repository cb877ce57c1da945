-- What a job says after its walk (02, Wish 5: 'Job by job the result equals a single walk over the answer slice from that start').
use Rattle.std.specs.Prelude.{cond, List, map, ℕ, ltb, length, drop}
use Rattle.face_jobs.specs.declared.Job.{Job}
use Rattle.face_model.specs.declared.Ended.{Ended}
use Rattle.face_model.specs.Answers.{ended_of}

abbrev pub refused_by : ℕ → Ended
refused_by n = record { number = n; pdf = 0; asked = 0 }

-- number, PDF and questions asked go into the job; tree, limit and start stay
abbrev pub with_ending : Job → Ended → Job
with_ending j e = record { tree = j.tree; limit = j.limit; start = j.start; number = e.number; pdf = e.pdf; asked = e.asked }

-- 24 for a start past the answers; else the walk over the answers from there to their end
unfoldable pub job_done : List ℕ → List ℕ → List ℕ → Job → Job
job_done T R bytes j = with_ending j (cond (ltb (length bytes) j.start) (refused_by 24) (ended_of T R j.tree (drop j.start bytes) j.limit))

-- job by job
abbrev pub jobs_done : List ℕ → List ℕ → List ℕ → List Job → List Job
jobs_done T R bytes js = map (job_done T R bytes) js
