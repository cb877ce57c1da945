-- What a yes of the depth check says of walks over the same tables, whatever the answer bytes and the limit:
--     walk-asks       no walk asks more questions
--     walk_ends       a walk whose limit is at least the depth is not ended by its limit (25)
--     path-asks       some path from the first record asks that many, and ends at a leaf
--     depth-lines     the depth is at most the tree's line records
-- and its answer is the only one that `written` allows (answer-once).
use mathlib.Core.Path.{◌≡◌, refl, sym, ap, ◌∙◌, subst}
use mathlib.Core.List.{List, [], ◌∷◌}
use mathlib.Core.Logic.{◌⊎◌, inl, inr}
use Prim.Native.Nat.{ℕ, ◌≤◌}
use native.Mathlib.Omega.{arith}
use lib.IntN.{ℤ}
use lib.ListN.{length}
use Rattle.error.specs.declared.Refusal.{Refusal}
use Rattle.walk.specs.declared.Walked.{Walked}
use Rattle.std.specs.declared.result.Result.{Result}
use Rattle.std.specs.Prelude.{Ok, Err}
use Rattle.written.specs.Linking.{Nth, Row}
use Rattle.written.specs.Walks.{Outcome, Loaded, LoadedTree}
use Rattle.written.specs.Depths as depths
use Rattle.written.specs.Depths.{DepthSaid, Path, TreeDepth, deep}
use Rattle.written_depth.proofs.Paths.{no_walk_more, depth_enough, some_path, tree_depth_once}
use Rattle.written_depth.proofs.Deepest.{line_records, straight_lines}
use Rattle.table_rows.specs.Rows.{tree_rows, tree_first, tree_records, tree_row, tree_table, record_table}
use Rattle.table_rows.proofs.Stand.{row_of}
use Rattle.walk.specs.Walking.{walk_of}
use Rattle.walk.specs.Answer.{answer_of, outcome_of}
use Rattle.walk.proofs.Loaded.{walk_loaded}
use Rattle.walk_reach.specs.Seeing.{tree_records_of}
use Rattle.walk_depth.specs.declared.Depth.{Depth}
use Rattle.walk_depth.specs.Said.{said_as, DepthSays}

is_deep : {rows : List Row} {x : DepthSaid} → depths.Depth rows x → x.answer ≡ 1 → x ≡ deep x.questions
is_deep (depths.Depth.bad m g) e = absurd (omega arith)
is_deep (depths.Depth.round g o) e = absurd (omega arith)
is_deep (depths.Depth.deepest g o p all) e = refl

module _ (T R : List ℕ) (t : ℕ) where
  -- the records of tree t
  abbrev pub records_of_tree : List Row
  records_of_tree = tree_records_of R (tree_first T t) (tree_records T t)

  -- what a row of the tree table says of its records
  row_says : {s f c l v e : ℕ} → Nth (tree_table T) t (s ∷ f ∷ c ∷ l ∷ v ∷ e ∷ []) → (f ≡ tree_first T t) × (c ≡ tree_records T t)
  unfolding tree_table
  row_says {s} {f} {c} {l} {v} {e} h = let q : s ∷ f ∷ c ∷ l ∷ v ∷ e ∷ [] ≡ tree_row T t = (row_of (tree_row T) (tree_rows T) h).1 in (cc, cc)

  -- a yes is told of the records of a tree that is there
  depth_of : {w : ℕ} {x : DepthSaid} → TreeDepth (tree_table T) (record_table R) w t x → x.answer ≡ 1 → depths.Depth records_of_tree (deep x.questions)
  depth_of (TreeDepth.missing f) e = absurd (omega arith)
  depth_of (TreeDepth.short h l) e = absurd (omega arith)
  depth_of (TreeDepth.there {first = f} {count = c} {x = x} h l d) e =
      let a = row_says h in
      subst (depths.Depth records_of_tree) (is_deep d e)
      (subst (λ (n : ℕ). depths.Depth (tree_records_of R (tree_first T t) n) x) a.1 (subst (λ (n : ℕ). depths.Depth (tree_records_of R n c) x) a.0 d))

  -- a walk is over these records, or there is no such tree
  walked_in : {bytes : List ℕ} {m : ℕ} {o : Outcome} → LoadedTree bytes (tree_table T) (record_table R) t m o → Loaded bytes records_of_tree 0 m o ⊎ (o ≡ Outcome.refused 24)
  walked_in (LoadedTree.missing f) = inr refl
  walked_in {bytes} {m} (LoadedTree.there {first = f} {count = c} {o = o} h l) =
      let a = row_says h in
      inl (subst (λ (n : ℕ). Loaded bytes (tree_records_of R (tree_first T t) n) 0 m o) a.1 (subst (λ (n : ℕ). Loaded bytes (tree_records_of R n c) 0 m o) a.0 l))

  module _ {w w' : List ℤ} {r : Depth} (says : DepthSays T R t w r w') (yes-said : r.answer ≡ 1) where
    deepest : depths.Depth records_of_tree (deep r.questions)
    deepest = depth_of says.answered yes-said

    pub walk_asks : (bytes : List ℕ) (limit : ℕ) → (answer_of (walk_of T R t bytes limit)).asked ≤ r.questions
    walk_asks bytes limit = go (walk_of T R t bytes limit) (walked_in (walk_loaded T R t bytes limit))
      where
        go : (v : Result Walked Refusal) → Loaded bytes records_of_tree 0 limit (outcome_of v) ⊎ (outcome_of v ≡ Outcome.refused 24) → (answer_of v).asked ≤ r.questions
        go (Ok r) (inl l) = no_walk_more deepest l
        go (Ok r) (inr e) = let z : ◌≡◌ {A = ℕ} 0 1 = cc in absurd (omega arith)
        go (Err c) l = omega arith

    pub walk_ends : (bytes : List ℕ) (limit : ℕ) → r.questions ≤ limit → (answer_of (walk_of T R t bytes limit)).number ≡ 25 → ⊥
    walk_ends bytes limit h e = go (walk_of T R t bytes limit) (walked_in (walk_loaded T R t bytes limit)) e
      where
        go : (v : Result Walked Refusal) → Loaded bytes records_of_tree 0 limit (outcome_of v) ⊎ (outcome_of v ≡ Outcome.refused 24) → (answer_of v).number ≡ 25 → ⊥
        go (Ok r) l q = omega arith
        go (Err c) (inl l) q = depth_enough deepest h (subst (λ (n : ℕ). Loaded bytes records_of_tree 0 limit (Outcome.refused n)) q l)
        go (Err c) (inr u) q = let z : ◌≡◌ {A = ℕ} 25 24 = sym q ∙ (cc) in omega arith

    pub path_asks : (j : ℕ) × (n : ℕ) × (a : ℕ) × (b : ℕ) × Path records_of_tree 0 j r.questions × Nth records_of_tree j (1 ∷ n ∷ a ∷ b ∷ [])
    path_asks = some_path deepest refl

    pub depth_lines : r.questions ≤ line_records records_of_tree
    depth_lines = go deepest refl
      where
        go : {x : DepthSaid} → depths.Depth records_of_tree x → x ≡ deep r.questions → r.questions ≤ line_records records_of_tree
        go (depths.Depth.bad m g) e = let z : ◌≡◌ {A = ℕ} 24 0 = ap (λ (s : DepthSaid). s.number) e in absurd (omega arith)
        go (depths.Depth.round g o) e = let z : ◌≡◌ {A = ℕ} 0 1 = ap (λ (s : DepthSaid). s.answer) e in absurd (omega arith)
        go (depths.Depth.deepest {d = d} g o p all) e = let z : d ≡ r.questions = ap (λ (s : DepthSaid). s.questions) e in subst (λ (n : ℕ). n ≤ line_records records_of_tree) z (straight_lines o p)

  -- `written` allows no other answer
  pub answer_once : {w w' : List ℤ} {r : Depth} {x : DepthSaid} → DepthSays T R t w r w' → TreeDepth (tree_table T) (record_table R) (length w) t x → x ≡ said_as r
  answer_once says d = tree_depth_once d says.answered
