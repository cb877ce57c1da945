-- `larsavim_leaves`, `larsavim_walk_jobs`, `larsavim_answers` and `larsavim_depth` keep their promises. What these say fixes each outcome: `leaves-once`, `jobs-once`
-- (a job is done in one way), `answered-once`, `depth-once`.
use mathlib.Core.Path.{◌≡◌, refl, sym, ap, ◌∙◌, subst}
use mathlib.Core.Bool.{Bool, true, false, cond, true≢false}
use mathlib.Core.List.{List, [], ◌∷◌, Forall₂}
use Prim.Native.Nat.{ℕ}
use native.Mathlib.Omega.{arith}
use borrow.Author.Tests.{ltb-true, ltb-false, eqb-true, eqb-false}
use lib.Dec.{ltb, eqb}
use lib.IntN.{ℤ, pos}
use lib.ListN.{length, drop, replicate}
use lib.Seq.{sets}
use Rattle.error.specs.declared.Refusal.{Refusal}
use Rattle.walk.specs.declared.Walked.{Walked}
use Rattle.std.specs.declared.result.Result.{Result}
use Rattle.std.specs.Prelude.{Ok, Err}
use Rattle.written.specs.Depths.{DepthSaid}
use Rattle.written_depth.proofs.Paths.{tree_depth_once}
use Rattle.table_rows.specs.Rows.{tree_table, record_table}
use Rattle.head_words.specs.Words.{flag_word}
use Rattle.walk.specs.Walking.{walk_of}
use Rattle.walk.specs.Answer.{outcome_of}
use Rattle.walk.proofs.Loaded.{walk_loaded}
use Rattle.written.specs.Walks.{LoadedTree}
use Rattle.walk_leaves.specs.Checks.{leaves_fit}
use Rattle.walk_leaves.proofs.Conditions.{fits_says, says_fits}
use Rattle.walk_depth.specs.Said.{said_as, work_after}
use Rattle.label_answers.specs.Answering.{Answering}
use Rattle.label_answers.proofs.Joined.{answers_said, said_answers, answering_once}
use Rattle.face_model.specs.Answers.{ended_by, ended_of}
use Rattle.face_jobs.specs.declared.Job.{Job}
use Rattle.face_jobs.specs.Done.{refused_by, with_ending, job_done, jobs_done}
use Rattle.larsavim.specs.Face.{Leaves}
use Rattle.larsavim.specs.Depths.{DepthTells}
use Rattle.promises.specs.Walking.{AfterLeaves, WalkSays, JobDone, AfterAnswers, depth_numbers, AfterDepth}
use Rattle.promises.proofs.Moved.{moved₃}

-- ---- larsavim_leaves

module _ (Q T R X : List ℕ) (width : ℕ) where
  pub leaves_kept : {r : ℕ} → Leaves Q T R X width r → AfterLeaves Q T R X width r
  leaves_kept e = subst (AfterLeaves Q T R X width) (sym e) (go (leaves_fit Q T R X width) refl)
    where
      go : (b : Bool) → leaves_fit Q T R X width ≡ b → AfterLeaves Q T R X width (flag_word b)
      go true e = AfterLeaves.fits (fits_says Q T R X width e)
      go false e = AfterLeaves.fits_not (λ f. true≢false (sym (says_fits Q T R X width f) ∙ e))

  pub after_leaves_once : {r s : ℕ} → AfterLeaves Q T R X width r → AfterLeaves Q T R X width s → r ≡ s
  after_leaves_once (AfterLeaves.fits a) (AfterLeaves.fits b) = refl
  after_leaves_once (AfterLeaves.fits a) (AfterLeaves.fits_not b) = absurd (b a)
  after_leaves_once (AfterLeaves.fits_not a) (AfterLeaves.fits b) = absurd (a b)
  after_leaves_once (AfterLeaves.fits_not a) (AfterLeaves.fits_not b) = refl

-- ---- larsavim_walk_jobs

module _ (T R answers : List ℕ) where
  -- what is said of one walk
  says_walk : (t : ℕ) (bytes : List ℕ) (most : ℕ) → WalkSays T R t bytes most (ended_of T R t bytes most).number (ended_of T R t bytes most).pdf (ended_of T R t bytes most).asked
  says_walk t bytes most = go (walk_of T R t bytes most) (walk_loaded T R t bytes most)
    where
      go : (w : Result Walked Refusal) → LoadedTree bytes (tree_table T) (record_table R) t most (outcome_of w) → WalkSays T R t bytes most (ended_by w).number (ended_by w).pdf (ended_by w).asked
      go (Ok r) x = WalkSays.ended x
      go (Err r) x = WalkSays.stopped x

  job_done_lem : (j : Job) → JobDone T R answers j (job_done T R answers j)
  unfolding job_done
  job_done_lem j = go (ltb (length answers) j.start) refl
    where
      go : (b : Bool) → ltb (length answers) j.start ≡ b → JobDone T R answers j (with_ending j (cond b (refused_by 24) (ended_of T R j.tree (drop j.start answers) j.limit)))
      go true e = JobDone.past (ltb-true _ _ e) refl refl refl refl refl refl
      go false e = JobDone.walked (ltb-false _ _ e) refl refl refl (says_walk j.tree (drop j.start answers) j.limit)

  -- each job where it stands
  pub jobs_kept : (jobs : List Job) {after : List Job} → after ≡ jobs_done T R answers jobs → Forall₂ (JobDone T R answers) jobs after
  jobs_kept jobs e = subst (Forall₂ (JobDone T R answers) jobs) (sym e) (each jobs)
    where
      each : (js : List Job) → Forall₂ (JobDone T R answers) js (jobs_done T R answers js)
      each [] = Forall₂.nil
      each (j ∷ js) = Forall₂.cons (job_done_lem j) (each js)

-- ---- larsavim_answers

module _ (label Q P d before : List ℕ) where
  pub answers_kept : {n : ℕ} {a : List ℕ} → Answering label Q P d before n a → AfterAnswers label Q P d before n a
  answers_kept x = answers_said label Q P d before x

  pub answered_once : {m n : ℕ} {a b : List ℕ} → AfterAnswers label Q P d before m a → AfterAnswers label Q P d before n b → (m ≡ n) × (a ≡ b)
  answered_once x y = answering_once label Q P d before (said_answers label Q P d before x) (said_answers label Q P d before y)

-- ---- larsavim_depth

module _ (T R : List ℕ) (t : ℕ) (w : List ℤ) (out : List ℕ) where
  pub depth_kept : {r : ℕ} {w' : List ℤ} {o : List ℕ} → DepthTells T R t w out r w' o → AfterDepth T R t w out r w' o
  unfolding work_after
  depth_kept (DepthTells.no_room l a b c) = moved₃ (AfterDepth T R t w out) a b c (AfterDepth.short_out l)
  depth_kept (DepthTells.told {d = d} l x a c) = moved₃ (AfterDepth T R t w out) a x.work c (go (eqb d.number 20) refl)
    where
      go : (b : Bool) → eqb d.number 20 ≡ b → AfterDepth T R t w out d.number (cond b w (replicate (length w) (pos 0))) (sets out 0 (depth_numbers (said_as d)))
      go true e =
          let z = eqb-true d.number 20 e in
          subst (λ (n : ℕ). AfterDepth T R t w out n w (sets out 0 (depth_numbers (said_as d)))) (sym z) (AfterDepth.short_work l x.answered z)
      go false e = AfterDepth.told l x.answered (eqb-false d.number 20 e)

  pub depth_once : {r s : ℕ} {u v : List ℤ} {o p : List ℕ} → AfterDepth T R t w out r u o → AfterDepth T R t w out s v p → (r ≡ s) × (u ≡ v) × (o ≡ p)
  depth_once (AfterDepth.short_out a) (AfterDepth.short_out b) = (refl, refl, refl)
  depth_once (AfterDepth.short_out a) (AfterDepth.short_work b y f) = absurd (omega arith)
  depth_once (AfterDepth.short_out a) (AfterDepth.told b y f) = absurd (omega arith)
  depth_once (AfterDepth.short_work a x e) (AfterDepth.short_out b) = absurd (omega arith)
  depth_once (AfterDepth.short_work a x e) (AfterDepth.short_work b y f) = (refl, refl, ap (λ (z : DepthSaid). sets out 0 (depth_numbers z)) (tree_depth_once x y))
  depth_once (AfterDepth.short_work a x e) (AfterDepth.told b y f) = absurd (f (sym (ap (λ (z : DepthSaid). z.number) (tree_depth_once x y)) ∙ e))
  depth_once (AfterDepth.told a x e) (AfterDepth.short_out b) = absurd (omega arith)
  depth_once (AfterDepth.told a x e) (AfterDepth.short_work b y f) = absurd (e (ap (λ (z : DepthSaid). z.number) (tree_depth_once x y) ∙ f))
  depth_once (AfterDepth.told a x e) (AfterDepth.told b y f) =
      let z = tree_depth_once x y in (ap (λ (z : DepthSaid). z.number) z, refl, ap (λ (z : DepthSaid). sets out 0 (depth_numbers z)) z)
