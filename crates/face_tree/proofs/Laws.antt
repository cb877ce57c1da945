-- Each way through the load of one tree by words.
use mathlib.Core.Path.{◌≡◌, sym, ap, ◌∙◌, subst}
use mathlib.Core.Bool.{Bool, true, false, cond}
use mathlib.Core.List.{List}
use Prim.Native.Nat.{ℕ}
use Rattle.head_words.specs.Words.{header_at}
use Rattle.written.specs.Sharing.{Side, Held, holds}
use Rattle.load_choose.specs.declared.Which.{Which}
use Rattle.load_model.specs.Load.{Tables}
use Rattle.load_shared.specs.Beside.{rows_of}
use Rattle.trail_load.specs.Load.{tree_beside, LoadsTree}
use Rattle.face_record.specs.Answers.{judged_of}
use Rattle.face_record.proofs.Laws.{fit, unfit}
use Rattle.face_model.specs.declared.Rows.{Rows}
use Rattle.face_model.specs.Answers.{which_of, no_rows, rows_by}
use Rattle.face_load.specs.Answers.{Filled, filled_by, untouched}
use Rattle.face_shared.specs.Answers.{side_at, standing}
use Rattle.face_tree.specs.Answers.{tree_filled_of, TreeLoadSaid, tree_shared_of, TreeSaid}
use Rattle.load_model.specs.declared.Loaded.{Loaded}
use Rattle.error.specs.declared.Refusal.{Refusal}
use Rattle.std.specs.Prelude.{Result}

module _ (s u : List ℕ) (n t : ℕ) (x : Side) (other : Held) (T : Tables) {j : ℕ} (e : j ≡ judged_of u) where
  pub load_fit : {k : Which} {l : Result Loaded Refusal} {r : Rows} {T₁ : Tables} → j ≡ 0 → k ≡ which_of n → LoadsTree x s (header_at u) k n t other T l T₁ → r ≡ rows_by l → TreeLoadSaid s u n t x other T r T₁
  unfolding tree_filled_of
  load_fit {k} z g i y =
      let E : filled_by (tree_beside x s (header_at u) k n t other T) ≡ tree_filled_of s u n t x other T =
      ap (λ (k : Which). filled_by (tree_beside x s (header_at u) k n t other T)) g
      ∙ sym (ap (λ (c : Bool). cond c (filled_by (tree_beside x s (header_at u) (which_of n) n t other T)) (untouched (judged_of u) T)) (fit u e z)) in
      (y ∙ ap rows_by i.0 ∙ ap (λ (o : Filled). o.rows) E, i.1 ∙ ap (λ (o : Filled). o.tables) E)

  pub load_unfit : {r : Rows} → (j ≡ 0 → ⊥) → r ≡ no_rows j 0 0 → TreeLoadSaid s u n t x other T r T
  unfolding tree_filled_of
  load_unfit z y =
      let E : untouched j T ≡ tree_filled_of s u n t x other T =
      ap (λ (i : ℕ). untouched i T) e ∙ sym (ap (λ (c : Bool). cond c (filled_by (tree_beside x s (header_at u) (which_of n) n t other T)) (untouched (judged_of u) T)) (unfit u e z)) in
      (y ∙ ap (λ (o : Filled). o.rows) E, ap (λ (o : Filled). o.tables) E)

-- ---- beside the other task

module _ (s w : List ℕ) (n k d : ℕ) (mine other : Held) (T : Tables) where
  pub tree_held : holds mine ≡ true → TreeSaid s w n k d mine other T (untouched 29 T).rows T
  unfolding tree_shared_of
  tree_held h =
      let e = ap (λ (b : Bool). cond b (untouched 29 T) (cond (standing d mine other (rows_of T)) (tree_filled_of s w n k (side_at d) other T) (untouched 24 T))) h in
      (sym (ap (λ (o : Filled). o.rows) e), sym (ap (λ (o : Filled). o.tables) e))

  module _ (h : holds mine ≡ false) where
    by_standing : (b : Bool) → standing d mine other (rows_of T) ≡ b → tree_shared_of s w n k d mine other T ≡ cond b (tree_filled_of s w n k (side_at d) other T) (untouched 24 T)
    unfolding tree_shared_of
    by_standing b g =
        ap (λ (b : Bool). cond b (untouched 29 T) (cond (standing d mine other (rows_of T)) (tree_filled_of s w n k (side_at d) other T) (untouched 24 T))) h
        ∙ ap (λ (b : Bool). cond b (tree_filled_of s w n k (side_at d) other T) (untouched 24 T)) g

    pub tree_overlap : standing d mine other (rows_of T) ≡ false → TreeSaid s w n k d mine other T (untouched 24 T).rows T
    tree_overlap g = let e = by_standing false g in (sym (ap (λ (o : Filled). o.rows) e), sym (ap (λ (o : Filled). o.tables) e))

    pub tree_loads : standing d mine other (rows_of T) ≡ true → {o : Held} → o ≡ other → {r : Rows} {T₁ : Tables} → TreeLoadSaid s w n k (side_at d) o T r T₁ → TreeSaid s w n k d mine other T r T₁
    tree_loads g {o} i {r} {T₁} l₀ =
        let l : TreeLoadSaid s w n k (side_at d) other T r T₁ = subst (λ (o : Held). TreeLoadSaid s w n k (side_at d) o T r T₁) i l₀ in
        let e = by_standing true g in
        (l.0 ∙ sym (ap (λ (o : Filled). o.rows) e), l.1 ∙ sym (ap (λ (o : Filled). o.tables) e))
