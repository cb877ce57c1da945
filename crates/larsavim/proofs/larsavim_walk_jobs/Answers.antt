-- `larsavim::larsavim_walk_jobs`: one job more is done.
use Rattle.std.proofs.Common.{rules, arith, ◌≡◌, ℕ, ◌+◌, ◌<◌, List, ◌++◌, map, length, take, drop, get_or, set}
use Rattle.std.proofs.lemmas.List.{get_or_default}
use Rattle.std.proofs.lemmas.List.Edits.{map_over_more}
use Rattle.larsavim.proofs.larsavim_walk_jobs.Goals as goal

one_more : {X : Type 0} (f : X → X) (xs ys : List X) (i : ℕ) (d r : X) → length ys ≡ length xs → i < length xs → ys ≡ map f (take i xs) ++ drop i xs → r ≡ f (get_or ys i d) → set ys i r ≡ map f (take (i + 1) xs) ++ drop (i + 1) xs
one_more f xs ys i d r same below so_far done = let within : i < length ys = omega arith in rw done (map_over_more f xs ys i (get_or ys i d) below so_far (get_or_default ys i d _ within))

pub loop-job-preserved : goal.loop-job-preserved
loop-job-preserved c = one_more _ _ _ _ _ _ (search rules) c.loop-job-test.true c.loop-job.invariant c.walk_job.ensures
