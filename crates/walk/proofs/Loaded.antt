-- The walk's answer is the loaded walk of `written` over the rows of its tables, both ways, for any tables.
use mathlib.Core.Path.{◌≡◌, refl, subst}
use mathlib.Core.Bool.{Bool, true, false, cond}
use mathlib.Core.List.{List, [], ◌∷◌}
use Prim.Native.Nat.{ℕ, zero, suc, ◌+◌}
use native.Mathlib.Omega.{arith}
use borrow.Author.Tests.{ltb-true, ltb-false, eqb-true, eqb-false}
use lib.Dec.{ltb, eqb}
use lib.ListN.{length, get_or, take, drop}
use Rattle.error.specs.declared.Refusal.{Refusal}
use Rattle.walk.specs.declared.Walked.{Walked}
use Rattle.std.specs.declared.result.Result.{Result}
use Rattle.std.specs.Prelude.{Ok, Err}
use Rattle.written.specs.Linking.{Nth, Row, branch}
use Rattle.written.specs.Walks.{is_yes, chosen, Outcome, refused, afterwards, Loaded, LoadedTree}
use Rattle.written.proofs.Walk.{nth_once, loaded_once}
use Rattle.error.specs.declared.Refusal.TheVariants.{WalkTable, Steps}
use Rattle.table_rows.specs.Rows.{tree_there, tree_first, tree_records, record_there, record_kind, record_question, record_pdf, record_yes, record_no, record_row, tree_table, record_table}
use Rattle.table_rows.proofs.Stand.{nth_at, nth_below, tree_there_lem, tree_missing, record_stands, record_out}
use Rattle.walk.specs.declared.Met.{Met}
use Rattle.walk.specs.declared.Met.TheVariants.{Leaf, Line, Wrong}
use Rattle.walk.specs.Walking.{line_at, kind_at, meet_at, one_more, by_met, walk_from, walk_of}
use Rattle.walk.specs.Answer.{outcome_of}

-- one question more, of either
more : (w : Result Walked Refusal) → afterwards (outcome_of w) ≡ outcome_of (one_more w)
more (Ok r) = refl
more (Err r) = refl

module _ (bytes : List ℕ) where
  -- what is met, as the rows have it
  data Sees (rows : List Row) (k : ℕ) : Met → Type 0 where
    wrong : ((m : ℕ) → Loaded bytes rows k m (refused 24)) → Sees rows k Wrong
    leaf : {n a b : ℕ} → Nth rows k (1 ∷ n ∷ a ∷ b ∷ []) → Sees rows k (Leaf n)
    line : {q y n b : ℕ} → Nth rows k (branch q y n) → Nth bytes q b → Sees rows k (Line (chosen (is_yes b) y n))

  module _ (R : List ℕ) (rows : List Row) (i k : ℕ) (stands : Nth rows k (record_row R i)) where
    sees_line : record_kind R i ≡ 0 → Sees rows k (line_at R bytes i)
    unfolding line_at
    sees_line z = go (ltb (record_question R i) (length bytes)) refl
      where
        row : Nth rows k (branch (record_question R i) (record_yes R i) (record_no R i))
        row = subst (λ (c : ℕ). Nth rows k (c ∷ record_question R i ∷ record_yes R i ∷ record_no R i ∷ [])) z stands

        go : (t : Bool) → ltb (record_question R i) (length bytes) ≡ t
            → Sees rows k (cond t (Line (chosen (is_yes (get_or bytes (record_question R i) 0)) (record_yes R i) (record_no R i))) Wrong)
        go true e = line row (nth_at bytes (record_question R i) 0 (ltb-true (record_question R i) (length bytes) e))
        go false e = wrong (λ m. Loaded.unanswered row (λ b h. omega (arith, nth_below h, ltb-false (record_question R i) (length bytes) e)))

    -- neither a line nor a leaf
    sees_other : (c : ℕ) → record_kind R i ≡ c → (c ≡ 0 → ⊥) → (c ≡ 1 → ⊥) → Sees rows k Wrong
    sees_other zero e d t = absurd (d refl)
    sees_other (suc zero) e d t = absurd (t refl)
    sees_other (suc (suc c)) e d t =
        wrong (λ m. Loaded.kind (subst (λ (x : ℕ). Nth rows k (x ∷ record_question R i ∷ record_yes R i ∷ record_no R i ∷ [])) e stands))

    sees_kind : Sees rows k (kind_at R bytes i)
    unfolding kind_at
    sees_kind = go (eqb (record_kind R i) 0) (eqb (record_kind R i) 1) refl refl
      where
        go : (a b : Bool) → eqb (record_kind R i) 0 ≡ a → eqb (record_kind R i) 1 ≡ b → Sees rows k (cond a (line_at R bytes i) (cond b (Leaf (record_pdf R i)) Wrong))
        go true b p q = sees_line (eqb-true (record_kind R i) 0 p)
        go false true p q = leaf (subst (λ (x : ℕ). Nth rows k (x ∷ record_pdf R i ∷ record_yes R i ∷ record_no R i ∷ [])) (eqb-true (record_kind R i) 1 q) stands)
        go false false p q = sees_other (record_kind R i) refl (eqb-false (record_kind R i) 0 p) (eqb-false (record_kind R i) 1 q)

  module _ (R : List ℕ) (first count : ℕ) where
    sees : (k : ℕ) → Sees (take count (drop first (record_table R))) k (meet_at R first count bytes k)
    unfolding meet_at
    sees k = go (record_there R first count k) refl
      where
        go : (t : Bool) → record_there R first count k ≡ t → Sees (take count (drop first (record_table R))) k (cond t (kind_at R bytes (first + k)) Wrong)
        go true e = sees_kind R (take count (drop first (record_table R))) (first + k) k (record_stands R first count k e)
        go false e = wrong (λ m. Loaded.outside (record_out R first count k e))

    loaded_from : (m k : ℕ) → Loaded bytes (take count (drop first (record_table R))) k m (outcome_of (walk_from (meet_at R first count bytes) m k))
    unfolding walk_from
    loaded_from zero k = go (sees k)
      where
        go : {x : Met} → Sees (take count (drop first (record_table R))) k x → Loaded bytes (take count (drop first (record_table R))) k zero (outcome_of (by_met (λ j. Err Steps) x))
        go (wrong f) = f zero
        go (leaf h) = Loaded.leaf h
        go (line h b) = Loaded.met h b
    loaded_from (suc m) k = go (sees k) (loaded_from m)
      where
        go : {x : Met} → Sees (take count (drop first (record_table R))) k x
            → ((j : ℕ) → Loaded bytes (take count (drop first (record_table R))) j m (outcome_of (walk_from (meet_at R first count bytes) m j)))
            → Loaded bytes (take count (drop first (record_table R))) k (suc m) (outcome_of (by_met (λ j. one_more (walk_from (meet_at R first count bytes) m j)) x))
        go (wrong f) r = f (suc m)
        go (leaf h) r = Loaded.leaf h
        go (line {q = q} {y = y} {n = n} {b = b} h a) r =
            subst (Loaded bytes (take count (drop first (record_table R))) k (suc m)) (more (walk_from (meet_at R first count bytes) m (chosen (is_yes b) y n))) (Loaded.goes h a (r (chosen (is_yes b) y n)))

-- ---- a tree

-- the answer is the loaded walk's
pub walk_loaded : (T R : List ℕ) (t : ℕ) (bytes : List ℕ) (limit : ℕ) → LoadedTree bytes (tree_table T) (record_table R) t limit (outcome_of (walk_of T R t bytes limit))
unfolding walk_of
walk_loaded T R t bytes limit = go (tree_there T t) refl
  where
    go : (b : Bool) → tree_there T t ≡ b
        → LoadedTree bytes (tree_table T) (record_table R) t limit (outcome_of (cond b (walk_from (meet_at R (tree_first T t) (tree_records T t) bytes) limit 0) (Err WalkTable)))
    go true e = LoadedTree.there (tree_there_lem T t e) (loaded_from bytes R (tree_first T t) (tree_records T t) limit 0)
    go false e = LoadedTree.missing (tree_missing T t e)

same_row : {a b c d v n a' b' c' d' v' n' : ℕ} → a ∷ b ∷ c ∷ d ∷ v ∷ n ∷ [] ≡ a' ∷ b' ∷ c' ∷ d' ∷ v' ∷ n' ∷ [] → (b ≡ b') × (c ≡ c')
same_row e = (cc, cc)

-- the loaded walk of a tree ends in one way
pub tree_once : {bytes : List ℕ} {trees records : List Row} {t m : ℕ} {o u : Outcome} → LoadedTree bytes trees records t m o → LoadedTree bytes trees records t m u → o ≡ u
tree_once (LoadedTree.missing f) (LoadedTree.missing g) = refl
tree_once (LoadedTree.missing f) (LoadedTree.there h w) = absurd (f _ h)
tree_once (LoadedTree.there h w) (LoadedTree.missing f) = absurd (f _ h)
tree_once {bytes} {trees} {records} {t} {m} {o} {u} (LoadedTree.there {first = f} {count = c} h w) (LoadedTree.there {first = g} {count = d} i v) =
    let e = same_row (nth_once h i) in
    loaded_once (subst (λ (n : ℕ). Loaded bytes (take n (drop g records)) 0 m o) e.1 (subst (λ (n : ℕ). Loaded bytes (take c (drop n records)) 0 m o) e.0 w)) v

-- and the loaded walk's outcome is the answer's
pub loaded_walk : (T R : List ℕ) (t : ℕ) (bytes : List ℕ) (limit : ℕ) {o : Outcome} → LoadedTree bytes (tree_table T) (record_table R) t limit o → o ≡ outcome_of (walk_of T R t bytes limit)
loaded_walk T R t bytes limit h = tree_once h (walk_loaded T R t bytes limit)
