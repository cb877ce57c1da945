-- `larsavim_walk` keeps its promise, which allows one outcome; nothing but `out` is written.
use mathlib.Core.Path.{◌≡◌, refl, sym, ◌∙◌}
use mathlib.Core.Bool.{Bool, true, false, cond}
use mathlib.Core.List.{List, [], ◌∷◌}
use Prim.Native.Nat.{ℕ, ◌≤◌}
use native.Mathlib.Omega.{arith}
use borrow.Author.Tests.{ltb-true, ltb-false}
use lib.Dec.{ltb}
use lib.ListN.{length}
use lib.Seq.{sets}
use Rattle.error.specs.declared.Refusal.{Refusal}
use Rattle.walk.specs.declared.Walked.{Walked}
use Rattle.std.specs.declared.result.Result.{Result}
use Rattle.std.specs.Prelude.{Ok, Err}
use Rattle.written.specs.Walks.{Outcome, LoadedTree}
use Rattle.table_rows.specs.Rows.{tree_table, record_table}
use Rattle.walk.specs.Walking.{walk_of}
use Rattle.walk.specs.Answer.{outcome_of}
use Rattle.walk.proofs.Loaded.{walk_loaded, loaded_walk}
use Rattle.face_model.specs.Answers.{ended_by}
use Rattle.larsavim.specs.Face.{answered, written, ended_numbers, Walks}
use Rattle.promises.proofs.Moved.{moved₂}
use Rattle.promises.specs.Walking.{AfterWalk, short_out, ended, stopped}

module _ (T R : List ℕ) (t : ℕ) (bytes : List ℕ) (most : ℕ) (out : List ℕ) where
  pub of_walk : 3 ≤ length out → (w : Result Walked Refusal) → LoadedTree bytes (tree_table T) (record_table R) t most (outcome_of w)
      → AfterWalk T R t bytes most out (ended_by w).number (sets out 0 (ended_numbers (ended_by w)))
  of_walk l (Ok r) x = ended l x
  of_walk l (Err r) x = stopped l x

  pub walk_kept : {r : ℕ} {o : List ℕ} → Walks T R t bytes most out r o → AfterWalk T R t bytes most out r o
  unfolding answered written
  walk_kept (a, b) = moved₂ (AfterWalk T R t bytes most out) a b (go (ltb (length out) 3) refl)
    where
      go : (d : Bool) → ltb (length out) 3 ≡ d
          → AfterWalk T R t bytes most out (cond d 20 (ended_by (walk_of T R t bytes most)).number) (cond d out (sets out 0 (ended_numbers (ended_by (walk_of T R t bytes most)))))
      go true e = short_out (ltb-true (length out) 3 e)
      go false e = of_walk (ltb-false (length out) 3 e) (walk_of T R t bytes most) (walk_loaded T R t bytes most)

  outcome_once : {x y : Outcome} → LoadedTree bytes (tree_table T) (record_table R) t most x → LoadedTree bytes (tree_table T) (record_table R) t most y → x ≡ y
  outcome_once x y = loaded_walk T R t bytes most x ∙ sym (loaded_walk T R t bytes most y)

  clash : {A : Type 0} → ◌≡◌ {A = ℕ} 0 1 → A
  clash e = absurd (omega arith)

  pub after_walk_once : {r r' : ℕ} {o o' : List ℕ} → AfterWalk T R t bytes most out r o → AfterWalk T R t bytes most out r' o' → (r ≡ r') × (o ≡ o')
  after_walk_once (short_out a) (short_out b) = (refl, refl)
  after_walk_once (short_out a) (ended b x) = absurd (omega arith)
  after_walk_once (short_out a) (stopped b x) = absurd (omega arith)
  after_walk_once (ended a x) (short_out b) = absurd (omega arith)
  after_walk_once (ended {n = n} {k = k} a x) (ended {n = n'} {k = k'} b y) =
      let e = outcome_once x y in
      let p : n ≡ n' = cc in
      let q : k ≡ k' = cc in
      (refl, λ i. sets out 0 (0 ∷ p i ∷ q i ∷ []))
  after_walk_once (ended a x) (stopped b y) = let e = outcome_once x y in clash (cc)
  after_walk_once (stopped a x) (short_out b) = absurd (omega arith)
  after_walk_once (stopped a x) (ended b y) = let e = outcome_once x y in clash (cc)
  after_walk_once (stopped {c = c} a x) (stopped {c = d} b y) =
      let e = outcome_once x y in
      let p : c ≡ d = cc in
      (p, λ i. sets out 0 (p i ∷ 0 ∷ 0 ∷ []))
