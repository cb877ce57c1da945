-- The walk's loop: after `asked` questions at record k, what is left of the walk is the answer.
use mathlib.Core.Path.{◌≡◌, sym, ap, ap₂, ◌∙◌}
use mathlib.Core.Bool.{Bool, true, false, cond}
use mathlib.Core.List.{List}
use Prim.Native.Nat.{ℕ, ◌+◌, ◌-◌, ◌≤◌, ◌<◌, min}
use native.Mathlib.Omega.{arith}
use Rattle.error.specs.declared.Refusal.{Refusal}
use Rattle.walk.specs.declared.Walked.{Walked}
use Rattle.std.specs.declared.result.Result.{Result}
use Rattle.std.specs.Prelude.{Ok, Err}
use Rattle.error.specs.declared.Refusal.TheVariants.{WalkTable, Steps}
use Rattle.table_rows.specs.Rows.{tree_there, tree_first, tree_records, records_in}
use Rattle.walk.specs.declared.Met.{Met}
use Rattle.walk.specs.declared.Met.TheVariants.{Leaf, Line, Wrong}
use Rattle.walk.specs.Walking.{walk_from, meet_at, walk_of, walked}
use Rattle.walk.proofs.Judged.{line_within}
use Rattle.walk.proofs.Round.{plus, plus_none, plus_more, walk_leaf, walk_wrong, walk_stop, walk_on, enough_min}

one_less : (x a : ℕ) → x - a - 1 ≡ x - (a + 1)
one_less x a = omega arith

some_left : {l m : ℕ} (a : ℕ) → a + 1 ≤ l → a + 1 ≤ m → 0 < min l m - a
some_left a h g = omega arith

pub record Following (meets : ℕ → Met) (limit most k asked : ℕ) : Type 0 where
  pub limited : asked ≤ limit
  pub bounded : asked ≤ most
  pub rest : plus asked (walk_from meets (min limit most - asked) k) ≡ walk_from meets limit 0

pub following_none : (R : List ℕ) (first count : ℕ) (bytes : List ℕ) (limit : ℕ) {most : ℕ}
    → most ≡ records_in R first count → Following (meet_at R first count bytes) limit most 0 0
following_none R first count bytes limit {most} e =
    let z : min limit most - 0 ≡ min limit (records_in R first count) = omega arith in
    record {
      limited = omega arith;
      bounded = omega arith;
      rest = plus_none (walk_from (meet_at R first count bytes) (min limit most - 0) 0) ∙ ap (λ (l : ℕ). walk_from (meet_at R first count bytes) l 0) z
          ∙ enough_min (meet_at R first count bytes) 0 (records_in R first count) (λ k j m. line_within R first count bytes k m) limit;
    }

module _ (meets : ℕ → Met) (limit most k asked : ℕ) (f : Following meets limit most k asked) where
  pub following_leaf : {n : ℕ} → meets k ≡ Leaf n → Ok (walked n asked) ≡ walk_from meets limit 0
  following_leaf {n} e = let z : asked ≡ asked + 0 = omega arith in ap (λ (k : ℕ). Ok (walked n k)) z ∙ sym (ap (plus asked) (walk_leaf meets (min limit most - asked) k n e)) ∙ f.rest

  pub following_wrong : meets k ≡ Wrong → Err WalkTable ≡ walk_from meets limit 0
  following_wrong e = sym (ap (plus asked) (walk_wrong meets (min limit most - asked) k e)) ∙ f.rest

  module _ {j : ℕ} (e : meets k ≡ Line j) where
    pub following_end : min limit most ≤ asked → Err Steps ≡ walk_from meets limit 0
    following_end q = sym (ap (plus asked) (walk_stop meets (min limit most - asked) k j (omega arith) e)) ∙ f.rest

    pub following_on : asked < min limit most → Following meets limit most j (asked + 1)
    following_on h =
        let a : asked + 1 ≤ limit = omega arith in
        let b : asked + 1 ≤ most = omega arith in
        record {
          limited = a;
          bounded = b;
          rest = sym (ap (λ (l : ℕ). plus (asked + 1) (walk_from meets l j)) (one_less (min limit most) asked))
              ∙ sym (plus_more asked (walk_from meets (min limit most - asked - 1) j))
              ∙ sym (ap (plus asked) (walk_on meets (min limit most - asked) k j (some_left asked a b) e)) ∙ f.rest;
        }

-- ---- a tree

pub walk_there : (T R : List ℕ) (t : ℕ) (bytes : List ℕ) (limit : ℕ) {w : Result Walked Refusal} {first count : ℕ} → tree_there T t ≡ true
    → first ≡ tree_first T t → count ≡ tree_records T t → w ≡ walk_from (meet_at R first count bytes) limit 0 → w ≡ walk_of T R t bytes limit
unfolding walk_of
walk_there T R t bytes limit e f c h =
    h ∙ ap₂ (λ (a b : ℕ). walk_from (meet_at R a b bytes) limit 0) f c
    ∙ sym (ap (λ (b : Bool). cond b (walk_from (meet_at R (tree_first T t) (tree_records T t) bytes) limit 0) (Err WalkTable)) e)

pub walk_missing : (T R : List ℕ) (t : ℕ) (bytes : List ℕ) (limit : ℕ) → tree_there T t ≡ false → Err WalkTable ≡ walk_of T R t bytes limit
unfolding walk_of
walk_missing T R t bytes limit e = sym (ap (λ (b : Bool). cond b (walk_from (meet_at R (tree_first T t) (tree_records T t) bytes) limit 0) (Err WalkTable)) e)
