-- `face_jobs::walk_job`: a start past the answers, or the walk from it.
use Rattle.face_jobs.proofs.Laws.{job_past, job_walked}
use Rattle.face_jobs.proofs.walk_job.Goals as goal

pub returns-then-job-answers : goal.returns-then-job-answers
returns-then-job-answers c =
    let a = c.args in
    job_walked a.trees.now a.records.now a.answers.now a.job c.walk_said-ended.result c.if-job-answers.true c.walk_said-ended.ensures

pub returns-else-job-answers : goal.returns-else-job-answers
returns-else-job-answers c =
    let a = c.args in
    job_past a.trees.now a.records.now a.answers.now a.job c.if-job-answers.false
