-- Each way through a load by words.
use mathlib.Core.Path.{◌≡◌, sym, ap, ◌∙◌}
use mathlib.Core.Bool.{Bool, cond}
use mathlib.Core.List.{List}
use Prim.Native.Nat.{ℕ}
use Rattle.head_words.specs.Words.{header_at}
use Rattle.load_choose.specs.declared.Which.{Which}
use Rattle.face_record.specs.Answers.{judged_of}
use Rattle.face_record.proofs.Laws.{fit, unfit}
use Rattle.written.specs.Sharing.{Side, Held}
use Rattle.load_model.specs.Load.{Tables}
use Rattle.load_shared.specs.Beside.{beside_of, LoadsBeside}
use Rattle.face_model.specs.declared.Rows.{Rows}
use Rattle.face_model.specs.Answers.{which_of, no_rows, rows_by}
use Rattle.face_load.specs.Answers.{Filled, filled_by, untouched, filled_of, LoadSaid}
use Rattle.load_model.specs.declared.Loaded.{Loaded}
use Rattle.error.specs.declared.Refusal.{Refusal}
use Rattle.std.specs.Prelude.{Result}

module _ (s u : List ℕ) (n : ℕ) (x : Side) (other : Held) (T : Tables) {j : ℕ} (e : j ≡ judged_of u) where
  pub load_fit : {k : Which} {l : Result Loaded Refusal} {r : Rows} {T₁ : Tables} → j ≡ 0 → k ≡ which_of n → LoadsBeside x s (header_at u) k other T l T₁ → r ≡ rows_by l → LoadSaid s u n x other T r T₁
  unfolding filled_of
  load_fit {k} z g i y =
      let E : filled_by (beside_of x s (header_at u) k other T) ≡ filled_of s u n x other T =
      ap (λ (k : Which). filled_by (beside_of x s (header_at u) k other T)) g
      ∙ sym (ap (λ (c : Bool). cond c (filled_by (beside_of x s (header_at u) (which_of n) other T)) (untouched (judged_of u) T)) (fit u e z)) in
      (y ∙ ap rows_by i.0 ∙ ap (λ (o : Filled). o.rows) E, i.1 ∙ ap (λ (o : Filled). o.tables) E)

  pub load_unfit : {r : Rows} → (j ≡ 0 → ⊥) → r ≡ no_rows j 0 0 → LoadSaid s u n x other T r T
  unfolding filled_of
  load_unfit z y =
      let E : untouched j T ≡ filled_of s u n x other T =
      ap (λ (i : ℕ). untouched i T) e ∙ sym (ap (λ (c : Bool). cond c (filled_by (beside_of x s (header_at u) (which_of n) other T)) (untouched (judged_of u) T)) (unfit u e z)) in
      (y ∙ ap (λ (o : Filled). o.rows) E, ap (λ (o : Filled). o.tables) E)
