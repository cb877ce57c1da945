-- Each way through `walk_job`.
use mathlib.Core.Path.{◌≡◌, sym, ap, ◌∙◌}
use mathlib.Core.Bool.{Bool, cond}
use mathlib.Core.List.{List}
use Prim.Native.Nat.{ℕ, ◌-◌, ◌≤◌, ◌<◌}
use native.Mathlib.Omega.{arith}
use borrow.Author.Tests.{lt-ltb, le-ltb}
use lib.ListN.{length, take, drop, length-drop}
use lib.Seq.{take_all}
use Rattle.face_jobs.specs.declared.Job.{Job}
use Rattle.face_model.specs.declared.Ended.{Ended}
use Rattle.face_model.specs.Answers.{ended_of}
use Rattle.face_jobs.specs.Done.{refused_by, with_ending, job_done}

module _ (T R bytes : List ℕ) (j : Job) where
  -- the start is past the answers
  pub job_past : length bytes < j.start → with_ending j (refused_by 24) ≡ job_done T R bytes j
  unfolding job_done
  job_past h = rw (lt-ltb (length bytes) j.start h)

  -- the walk ended so over the answers from the start on
  pub job_walked : (e : Ended) → j.start ≤ length bytes → e ≡ ended_of T R j.tree (take (length bytes - j.start) (drop j.start bytes)) j.limit → with_ending j e ≡ job_done T R bytes j
  unfolding job_done
  job_walked e h q =
      ap (with_ending j)
      (q ∙ ap (λ (l : List ℕ). ended_of T R j.tree l j.limit) (take_all (length bytes - j.start) (drop j.start bytes) (omega (arith, length-drop j.start bytes)))
      ∙ sym (ap (λ (b : Bool). cond b (refused_by 24) (ended_of T R j.tree (drop j.start bytes) j.limit)) (le-ltb (length bytes) j.start h)))
