-- How many questions a walk can ask, whatever its limit: no more than its tree has records in the table. And the numbers that it gives.
--
use mathlib.Core.Path.{◌≡◌, ap, subst}
use mathlib.Core.Bool.{Bool, true, false, cond}
use mathlib.Core.List.{List}
use Prim.Native.Nat.{ℕ, zero, suc, ◌≤◌, min}
use native.Mathlib.Omega.{arith}
use Rattle.error.specs.declared.Refusal.{Refusal}
use Rattle.walk.specs.declared.Walked.{Walked}
use Rattle.std.specs.declared.result.Result.{Result}
use Rattle.std.specs.Prelude.{Ok, Err}
use Rattle.error.specs.declared.Refusal.TheVariants.{WalkTable, Steps}
use Rattle.table_rows.specs.Rows.{tree_there, tree_first, tree_records, records_in}
use Rattle.walk.specs.declared.Met.{Met}
use Rattle.walk.specs.declared.Met.TheVariants.{Leaf, Line, Wrong}
use Rattle.walk.specs.Walking.{meet_at, one_more, by_met, walk_from, walk_of}
use Rattle.walk.specs.Answer.{answer_of, Given, ended, table, steps}
use Rattle.walk.proofs.Judged.{line_within}
use Rattle.walk.proofs.Round.{enough_min}

one_more_lem : (w : Result Walked Refusal) (l : ℕ) → (answer_of w).asked ≤ l → (answer_of (one_more w)).asked ≤ suc l
one_more_lem (Ok r) l h = omega arith
one_more_lem (Err r) l h = omega arith

within : (meets : ℕ → Met) (l k : ℕ) → (answer_of (walk_from meets l k)).asked ≤ l
unfolding walk_from
within meets zero k = go (meets k)
  where
    go : (x : Met) → (answer_of (by_met (λ j. Err Steps) x)).asked ≤ 0
    go (Leaf n) = omega arith
    go (Line j) = omega arith
    go Wrong = omega arith
within meets (suc l) k = go (meets k) (within meets l)
  where
    go : (x : Met) → ((j : ℕ) → (answer_of (walk_from meets l j)).asked ≤ l) → (answer_of (by_met (λ j. one_more (walk_from meets l j)) x)).asked ≤ suc l
    go (Leaf n) r = omega arith
    go (Line j) r = one_more_lem (walk_from meets l j) l (r j)
    go Wrong r = omega arith

module _ (T R : List ℕ) (t : ℕ) (bytes : List ℕ) (l : ℕ) where
  abbrev most : ℕ
  most = records_in R (tree_first T t) (tree_records T t)

  -- a limit above the tree's records in the table is as good as their number
  pub walk_most : walk_of T R t bytes (min l (records_in R (tree_first T t) (tree_records T t))) ≡ walk_of T R t bytes l
  unfolding walk_of
  walk_most =
      ap (λ (w : Result Walked Refusal). cond (tree_there T t) w (Err WalkTable))
      (enough_min (meet_at R (tree_first T t) (tree_records T t) bytes) 0 most (λ k j e. line_within R (tree_first T t) (tree_records T t) bytes k e) l)

  asked_in : (m : ℕ) → (answer_of (walk_of T R t bytes m)).asked ≤ m
  unfolding walk_of
  asked_in m = go (tree_there T t)
    where
      go : (b : Bool) → (answer_of (cond b (walk_from (meet_at R (tree_first T t) (tree_records T t) bytes) m 0) (Err WalkTable))).asked ≤ m
      go true = within (meet_at R (tree_first T t) (tree_records T t) bytes) m 0
      go false = omega arith

  pub walk_asked : ((answer_of (walk_of T R t bytes l)).asked ≤ l) × ((answer_of (walk_of T R t bytes l)).asked ≤ records_in R (tree_first T t) (tree_records T t))
  walk_asked =
      let h = subst (λ (w : Result Walked Refusal). (answer_of w).asked ≤ min l most) walk_most (asked_in (min l most)) in
      (omega (arith, h), omega (arith, h))

-- ---- the numbers that a walk gives

same_number : (w : Result Walked Refusal) → Given (answer_of w).number → Given (answer_of (one_more w)).number
same_number (Ok r) h = h
same_number (Err r) h = h

from_number : (meets : ℕ → Met) (l k : ℕ) → Given (answer_of (walk_from meets l k)).number
unfolding walk_from
from_number meets zero k = go (meets k)
  where
    go : (x : Met) → Given (answer_of (by_met (λ j. Err Steps) x)).number
    go (Leaf n) = ended
    go (Line j) = steps
    go Wrong = table
from_number meets (suc l) k = go (meets k) (from_number meets l)
  where
    go : (x : Met) → ((j : ℕ) → Given (answer_of (walk_from meets l j)).number) → Given (answer_of (by_met (λ j. one_more (walk_from meets l j)) x)).number
    go (Leaf n) r = ended
    go (Line j) r = same_number (walk_from meets l j) (r j)
    go Wrong r = table

pub walk_number : (T R : List ℕ) (t : ℕ) (bytes : List ℕ) (l : ℕ) → Given (answer_of (walk_of T R t bytes l)).number
unfolding walk_of
walk_number T R t bytes l = go (tree_there T t)
  where
    go : (b : Bool) → Given (answer_of (cond b (walk_from (meet_at R (tree_first T t) (tree_records T t) bytes) l 0) (Err WalkTable))).number
    go true = from_number (meet_at R (tree_first T t) (tree_records T t) bytes) l 0
    go false = table
