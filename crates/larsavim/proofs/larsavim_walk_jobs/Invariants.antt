-- `larsavim::larsavim_walk_jobs`: the jobs before the loop's are done, and the others are as they were.
use Rattle.std.proofs.Common.{◌≡◌, ◌++◌, take, drop}
use Rattle.face_jobs.specs.Done.{jobs_done}
use Rattle.larsavim.proofs.larsavim_walk_jobs.Given as goal

abbrev pub invariant-loop-job : goal.invariant-loop-job
invariant-loop-job l = l.jobs ≡ jobs_done l.trees l.records l.answers (take l.job-index l.fn.jobs) ++ drop l.job-index l.fn.jobs
