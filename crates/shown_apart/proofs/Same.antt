-- The contract of a shared load is `sharedOf` of `load_apart` at this library's plans; that of an unload is `unloadOf`.
use mathlib.Core.Path.{◌≡◌, refl, sym, ap, ◌∙◌, subst, fun_ext}
use mathlib.Core.Bool.{Bool, true, false, cond, ◌&&◌}
use mathlib.Core.List.{List}
use Prim.Native.Nat.{ℕ, ◌≤◌, ◌/◌}
use native.Mathlib.Omega.{arith}
use lib.Dec.{ltb, leb, eqb}
use lib.ListN.{length, take}
use borrow.Author.Tests.{le-leb}
use Rattle.written.specs.Sharing.{Side, Table, questions, patterns, trees, records, values, Tables, Held, nothing, seen, placed, cleared, Stand, holds, stands}
use Rattle.error.specs.declared.Refusal.{Refusal}
use Rattle.error.specs.declared.Refusal.TheVariants as refusal
use Rattle.head_words.specs.Words.{header_at, flags_fit}
use Rattle.load_text.specs.Text.{end_at}
use Rattle.load_plan.specs.Plans.{data_of, planned}
use Rattle.load_plan.specs.declared.Plan.{Plan}
use Rattle.load_model.specs.Load.{Tables as Lent, answer_for, filled, untouched as as_lent}
use Rattle.load_apart.specs.Loads.{Answer, Done, Refused, NoRoom, Overlap, Holding, After, refused, answer_of, untouched, filled_in, beside_for, shared_of, unload_of}
use Rattle.load_apart.proofs.Tests.{stands_is, room_stands_same, holds-nothing}
use Rattle.load_shared.specs.Beside.{rows_of, with_work, placed_in, room_by, beside_of}
use Rattle.load_bounds.specs.Bounds.{need_of, tables_of}
use Rattle.load_shared.specs.Beside as beside
use Rattle.face_record.specs.Answers.{judged_of}
use Rattle.face_model.specs.Answers.{which_of, no_rows, rows_by}
use Rattle.face_load.specs.Answers.{Filled, filled_by, filled_of}
use Rattle.face_load.specs.Answers as load
use Rattle.face_shared.specs.Answers.{side_at, unloaded_of}
use Rattle.face_shared.specs.Answers as face
use Rattle.shown_apart.specs.Real.{ending_of, model_of, planned_by, unfit, planned_of, rows_for}
use Rattle.load_trees.specs.declared.TreeFault.{TreeFault}
use Rattle.std.specs.Prelude.{Err, Ok, Result, ⊤}

-- five tables, one by one, are the tables
pub tables_again : (t : Tables) → tables_of (t questions) (t patterns) (t trees) (t records) (t values) ≡ t
tables_again t = fun_ext at
  where
    at : (k : Table) → tables_of (t questions) (t patterns) (t trees) (t records) (t values) k ≡ t k
    at questions = refl
    at patterns = refl
    at trees = refl
    at records = refl
    at values = refl

-- a call in numbers and the same call as `load_apart` has it
pub record Numbers (f : Filled) (r : After Refusal) : Type 0 where
  pub rows : f.rows ≡ rows_for r.answer
  pub tables : rows_of f.tables ≡ r.tables

as_it_was : (T : Lent) (mine : Held) (f : Filled) (a : Answer Refusal) → f.tables ≡ T → f.rows ≡ rows_for a → Numbers f (untouched a mine (rows_of T))
as_it_was T mine f a e g = record { rows = g; tables = ap rows_of e }

-- what a fill answers is told by the plan's rows and how linking ends
answered : (p : Plan) (o : Result ⊤ TreeFault) → rows_by (answer_for p o) ≡ rows_for (answer_of (need_of p) (ending_of (answer_for p o)))
answered p (Ok _) = refl
answered p (Err l) = refl

module _ (x : Side) (mine other : Held) (T : Lent) where
  filled_so : (d : List ℕ) (p : Plan) → Numbers (filled_by (placed_in x d p T)) (filled_in x (model_of d p T.work) mine (rows_of T))
  unfolding placed_in filled_in filled
  filled_so d p =
      record {
        rows = answered p (end_at (take p.text_end d) p.text p.first);
        tables = tables_again (placed x (need_of p) (rows_of (filled d p (with_work (seen x (need_of p) (rows_of T)) T.work)).tables) (rows_of T));
      }

  beside_so : (d : List ℕ) (o : Result Plan Refusal) → Stand (rows_of T) nothing other → Numbers (filled_by (beside.beside_for x other d o T)) (beside_for x (planned_by d o T.work) mine other (rows_of T))
  beside_so d (Err z) g = record { rows = refl; tables = refl }
  beside_so d (Ok p) g =
      subst
      (λ (b : Bool). Numbers (filled_by (cond (room_by p other T) (placed_in x d p T) (as_lent refusal.Room T))) (cond b (filled_in x (model_of d p T.work) mine (rows_of T)) (untouched NoRoom mine (rows_of T))))
      (sym (ap (λ (b : Bool). b && leb p.lines (length T.work / 6)) (room_stands_same (need_of p) other (rows_of T) g))) (go (room_by p other T))
    where
      go : (b : Bool) → Numbers (filled_by (cond b (placed_in x d p T) (as_lent refusal.Room T))) (cond b (filled_in x (model_of d p T.work) mine (rows_of T)) (untouched NoRoom mine (rows_of T)))
      go true = filled_so d p
      go false = record { rows = refl; tables = refl }

  -- words that are no record are 20 or 16
  judged_so : (u : List ℕ) → eqb (judged_of u) 0 ≡ false → no_rows (judged_of u) 0 0 ≡ rows_for (Refused (unfit (judged_of u)))
  unfolding judged_of
  judged_so u e = go (ltb (length u) 647) (flags_fit u) e
    where
      go : (b c : Bool) → eqb (cond b 20 (cond c 0 16)) 0 ≡ false → no_rows (cond b 20 (cond c 0 16)) 0 0 ≡ rows_for (Refused (unfit (cond b 20 (cond c 0 16))))
      go true c e = refl
      go false true e = let v : ◌≡◌ {A = ℕ} 0 1 = cc in absurd (omega arith)
      go false false e = refl

  words_so : (s u : List ℕ) (n : ℕ) → Stand (rows_of T) nothing other → Numbers (filled_of s u n x other T) (beside_for x (planned_of s u n T.work) mine other (rows_of T))
  unfolding filled_of planned_of beside_of
  words_so s u n g = go (eqb (judged_of u) 0) refl
    where
      go : (b : Bool) → eqb (judged_of u) 0 ≡ b
          → Numbers (cond b (filled_by (beside_of x s (header_at u) (which_of n) other T)) (load.untouched (judged_of u) T))
          (beside_for x (cond b (planned_by (data_of s (header_at u)) (planned s (header_at u) (which_of n)) T.work) (refused (unfit (judged_of u)))) mine other (rows_of T))
      go true e = beside_so (data_of s (header_at u)) (planned s (header_at u) (which_of n)) g
      go false e = record { rows = judged_so u e; tables = refl }

-- ---- a shared load, of a side that is one of the two

module _ (s u : List ℕ) (n d : ℕ) (side : d ≤ 1) (mine other : Held) (T : Lent) where
  pub shared_so : Numbers (face.shared_of s u n d mine other T) (shared_of (side_at d) (planned_of s u n T.work) mine other (rows_of T))
  unfolding face.shared_of shared_of
  shared_so =
      subst
      (λ (c : Bool). Numbers (cond (holds mine) (load.untouched 29 T) (cond c (filled_of s u n (side_at d) other T) (load.untouched 24 T)))
      (cond (holds mine) (untouched Holding mine (rows_of T)) (cond (stands (rows_of T) mine other) (beside_for (side_at d) (planned_of s u n T.work) mine other (rows_of T)) (untouched Overlap mine (rows_of T)))))
      (sym (ap (λ (b : Bool). b && stands (rows_of T) mine other) (le-leb d 1 side))) (go (holds mine) refl (stands (rows_of T) mine other) refl)
    where
      go : (a : Bool) → holds mine ≡ a → (b : Bool) → stands (rows_of T) mine other ≡ b
          → Numbers (cond a (load.untouched 29 T) (cond b (filled_of s u n (side_at d) other T) (load.untouched 24 T)))
          (cond a (untouched Holding mine (rows_of T)) (cond b (beside_for (side_at d) (planned_of s u n T.work) mine other (rows_of T)) (untouched Overlap mine (rows_of T))))
      go true h b g = record { rows = refl; tables = refl }
      go false h true g =
          words_so (side_at d) mine other T s u n (subst (λ (m : Held). Stand (rows_of T) m other) (holds-nothing mine h) (stands_is (rows_of T) mine other g))
      go false h false g = record { rows = refl; tables = refl }

-- a side that is neither: 29 or 24, and everything as it was
pub shared_neither : (s u : List ℕ) (n d : ℕ) → leb d 1 ≡ false → (mine other : Held) (T : Lent) → (face.shared_of s u n d mine other T).tables ≡ T
unfolding face.shared_of
shared_neither s u n d e mine other T =
    ap (λ (c : Bool). (cond (holds mine) (load.untouched 29 T) (cond (c && stands (rows_of T) mine other) (filled_of s u n (side_at d) other T) (load.untouched 24 T))).tables) e ∙ go (holds mine)
  where
    go : (a : Bool) → (cond a (load.untouched 29 T) (load.untouched 24 T)).tables ≡ T
    go true = refl
    go false = refl

-- ---- an unload

module _ (d : ℕ) (side : d ≤ 1) (mine other : Held) (t : Tables) where
  pub unload_so : unloaded_of d mine other t ≡ (unload_of {R = Refusal} (side_at d) mine other t).tables
  unfolding unloaded_of unload_of
  unload_so = ap (λ (c : Bool). cond (c && stands t mine other) (cleared (side_at d) mine t) t) (le-leb d 1 side) ∙ go (stands t mine other)
    where
      go : (b : Bool) → cond b (cleared (side_at d) mine t) t ≡ (cond b (record { answer = Done nothing; tables = cleared (side_at d) mine t; held = nothing }) (untouched {R = Refusal} Overlap mine t)).tables
      go true = refl
      go false = refl

pub unload_neither : (d : ℕ) → leb d 1 ≡ false → (mine other : Held) (t : Tables) → unloaded_of d mine other t ≡ t
unfolding unloaded_of
unload_neither d e mine other t = ap (λ (c : Bool). cond (c && stands t mine other) (cleared (side_at d) mine t) t) e
