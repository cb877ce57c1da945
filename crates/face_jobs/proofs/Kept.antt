-- What `jobsDone` says of each job, for whoever reads the export's contract.
--     job-kept     tree, limit and start stay
--     job-walks    job i afterwards is `jobDone` of job i before, whatever the other jobs are
--     jobs-kept    there are as many jobs
use mathlib.Core.Path.{◌≡◌, refl}
use mathlib.Core.List.{List}
use Prim.Native.Nat.{ℕ}
use lib.ListN.{length, get_or, length-map, get_or-map}
use Rattle.face_jobs.specs.declared.Job.{Job}
use Rattle.face_jobs.specs.Done.{job_done, jobs_done}

module _ (T R bytes : List ℕ) where
  pub job_kept : (j : Job) → ((job_done T R bytes j).tree ≡ j.tree) × ((job_done T R bytes j).limit ≡ j.limit) × ((job_done T R bytes j).start ≡ j.start)
  unfolding job_done
  job_kept j = (refl, refl, refl)

  pub job_walks : (js : List Job) (i : ℕ) (d : Job) → get_or (jobs_done T R bytes js) i (job_done T R bytes d) ≡ job_done T R bytes (get_or js i d)
  job_walks js i d = get_or-map (job_done T R bytes) js i d

  pub jobs_kept : (js : List Job) → length (jobs_done T R bytes js) ≡ length js
  jobs_kept js = length-map js (job_done T R bytes)
