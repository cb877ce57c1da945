-- What the contracts of `larsavim_load_shared` and `larsavim_unload` say of the other task, of any file, words, bounds and tables: it sees the same rows, so that its walks and checks
-- are the same; and of bounds that stand: those that are handed back do.
use mathlib.Core.Path.{◌≡◌, refl, sym, ap, ◌∙◌, subst, fun_ext}
use mathlib.Core.Bool.{Bool, true, false, cond, ◌&&◌}
use mathlib.Core.List.{List, [], ◌∷◌}
use mathlib.Core.Logic.{◌⊎◌, inl, inr}
use Prim.Native.Nat.{ℕ, ◌≤◌, ◌<◌}
use native.Mathlib.Omega.{arith}
use lib.Dec.{leb, eqb}
use lib.ListN.{length}
use lib.Seq.{sets}
use borrow.Author.Tests.{leb-true}
use Rattle.laws.proofs.Tables.{sets_at}
use Rattle.written.specs.Sharing.{Side, opposite, Table, questions, patterns, trees, records, values, Tables, Held, seen, Stand, holds, stands, room_beside}
use Rattle.error.specs.Numbers.{number_of}
use Rattle.error.specs.declared.LinkFault.TheVariants as fault
use Rattle.error.specs.declared.Refusal.{Refusal}
use Rattle.error.specs.declared.Refusal.TheVariants as refusal
use Rattle.load_model.specs.Load.{Tables as Lent}
use Rattle.load_apart.specs.Loads.{Answer, Done, Refused, NoRoom, Overlap, Holding, Model, Planned, refused, model, held_after, untouched, filled_in, beside_for, shared_of, unload_of}
use Rattle.load_apart.proofs.Apart as apart
use Rattle.load_shared.specs.Beside.{rows_of}
use Rattle.load_bounds.specs.Bounds.{tables_of}
use Rattle.load_unload.specs.Unloads.{Tabled}
use Rattle.walk.specs.Walking.{walk_of}
use Rattle.walk_leaves.specs.Checks.{leaves_fit}
use Rattle.face_model.specs.declared.Rows.{Rows}
use Rattle.face_shared.specs.Answers.{held_at, side_at}
use Rattle.larsavim.specs.Sharing.{LoadShares, UnloadTells}
use Rattle.face_put.specs.Put.{held_left}
use Rattle.shown_apart.specs.Real.{planned_of, rows_for}
use Rattle.shown_apart.proofs.Fills.{words_fill}
use Rattle.shown_apart.proofs.Kept.{keeps_of}
use Rattle.shown_apart.proofs.Same.{shared_so, shared_neither, unload_so, unload_neither}
use Rattle.promises.specs.Housing.{five_of}

-- ---- bounds as they are handed back

-- no refusal has the number 0
never_zero : (z : Refusal) → eqb (number_of z) 0 ≡ false
never_zero refusal.Split = refl
never_zero (refusal.Utf8 p) = refl
never_zero (refusal.Eof p) = refl
never_zero (refusal.ExpectedBool p) = refl
never_zero (refusal.ExpectedInteger p) = refl
never_zero (refusal.ExpectedArrayComma p) = refl
never_zero (refusal.ExpectedMapColon p) = refl
never_zero (refusal.ExpectedMapNewline p) = refl
never_zero refusal.Field = refl
never_zero (refusal.Number p) = refl
never_zero refusal.Limit = refl
never_zero refusal.NoPosition = refl
never_zero refusal.NoStream = refl
never_zero refusal.UseGv = refl
never_zero refusal.Range = refl
never_zero (refusal.Text p) = refl
never_zero refusal.State = refl
never_zero refusal.Block = refl
never_zero refusal.Room = refl
never_zero (refusal.Unlinked fault.NodeRef t k) = refl
never_zero (refusal.Unlinked fault.QuestionRef t k) = refl
never_zero (refusal.Unlinked fault.LoneNode t k) = refl
never_zero refusal.WalkTable = refl
never_zero refusal.Steps = refl
never_zero refusal.NoTrailer = refl
never_zero refusal.TrailerSum = refl
never_zero refusal.TrailerRows = refl
never_zero refusal.Held = refl
never_zero refusal.OtherRows = refl

-- the bounds after a load are told by its answer
after_held : (x : Side) (p : Planned Refusal) (mine other : Held) (t : Tables) → (shared_of x p mine other t).held ≡ held_after mine (shared_of x p mine other t).answer
unfolding shared_of filled_in
after_held x p mine other t = go (holds mine) (stands t mine other) p
  where
    room : (b : Bool) (m : Model Refusal) → (cond b (filled_in x m mine t) (untouched NoRoom mine t)).held ≡ held_after mine (cond b (filled_in x m mine t) (untouched NoRoom mine t)).answer
    room true m = refl
    room false m = refl

    go : (a b : Bool) (p : Planned Refusal)
        → (cond a (untouched Holding mine t) (cond b (beside_for x p mine other t) (untouched Overlap mine t))).held
        ≡ held_after mine (cond a (untouched Holding mine t) (cond b (beside_for x p mine other t) (untouched Overlap mine t))).answer
    go true b p = refl
    go false false p = refl
    go false true (refused z) = refl
    go false true (model m) = room (room_beside m.need other t && m.worked) m

-- five numbers in front are the bounds
pub five : (l : List ℕ) → 5 ≤ length l → (n : Held) → held_at (sets l 0 (five_of n)) ≡ n
five l h n = fun_ext at
  where
    at : (k : Table) → held_at (sets l 0 (five_of n)) k ≡ n k
    at questions = sets_at (five_of n) l 0 0 0 (omega arith) (omega arith)
    at patterns = sets_at (five_of n) l 0 1 0 (omega arith) (omega arith)
    at trees = sets_at (five_of n) l 0 2 0 (omega arith) (omega arith)
    at records = sets_at (five_of n) l 0 3 0 (omega arith) (omega arith)
    at values = sets_at (five_of n) l 0 4 0 (omega arith) (omega arith)

held_left_lem : (held : List ℕ) → 5 ≤ length held → (a : Answer Refusal) → held_at (held_left (rows_for a) held) ≡ held_after (held_at held) a
unfolding held_left
held_left_lem held h (Done n) = five held h n
held_left_lem held h (Refused z) = ap (λ (b : Bool). held_at (cond b (sets held 0 (0 ∷ 0 ∷ 0 ∷ 0 ∷ 0 ∷ [])) held)) (never_zero z)
held_left_lem held h NoRoom = refl
held_left_lem held h Overlap = refl
held_left_lem held h Holding = refl

-- ---- a shared load

module _ {s w : List ℕ} {n d : ℕ} {held other : List ℕ} {T : Lent} {out : List ℕ} {r : ℕ} {held₁ : List ℕ} {T₁ : Lent} {out₁ : List ℕ} where
  -- the other sees the same rows
  pub load_apart : LoadShares s w n d held other T out r held₁ T₁ out₁ → seen (opposite (side_at d)) (held_at other) (rows_of T₁) ≡ seen (opposite (side_at d)) (held_at other) (rows_of T)
  load_apart (LoadShares.no_room k a b c e) = ap (λ (U : Lent). seen (opposite (side_at d)) (held_at other) (rows_of U)) c
  load_apart (LoadShares.told k l m i a b c) = go (leb d 1) refl
    where
      go : (b : Bool) → leb d 1 ≡ b → seen (opposite (side_at d)) (held_at other) (rows_of T₁) ≡ seen (opposite (side_at d)) (held_at other) (rows_of T)
      go false e = ap (λ (U : Lent). seen (opposite (side_at d)) (held_at other) (rows_of U)) (i.1 ∙ shared_neither s w n d e (held_at held) (held_at other) T)
      go true e =
          ap (λ (U : Lent). seen (opposite (side_at d)) (held_at other) (rows_of U)) i.1
          ∙ ap (seen (opposite (side_at d)) (held_at other)) (shared_so s w n d (leb-true d 1 e) (held_at held) (held_at other) T).tables
          ∙ apart.rows_apart (side_at d) (held_at held) (held_at other) (rows_of T) (keeps_of (words_fill s w n T.work))

  -- what a task sees before the call is what it sees after it: its walks and its leaf check
  pub walk_apart : LoadShares s w n d held other T out r held₁ T₁ out₁ → (tree : ℕ) (answers : List ℕ) (limit : ℕ)
      → walk_of (seen (opposite (side_at d)) (held_at other) (rows_of T₁) trees) (seen (opposite (side_at d)) (held_at other) (rows_of T₁) records) tree answers limit
      ≡ walk_of (seen (opposite (side_at d)) (held_at other) (rows_of T) trees) (seen (opposite (side_at d)) (held_at other) (rows_of T) records) tree answers limit
  walk_apart c tree answers limit = ap (λ (t : Tables). walk_of (t trees) (t records) tree answers limit) (load_apart c)

  pub leaves_apart : LoadShares s w n d held other T out r held₁ T₁ out₁ → (wide : ℕ)
      → leaves_fit (seen (opposite (side_at d)) (held_at other) (rows_of T₁) questions) (seen (opposite (side_at d)) (held_at other) (rows_of T₁) trees) (seen (opposite (side_at d)) (held_at other) (rows_of T₁) records) (seen (opposite (side_at d)) (held_at other) (rows_of T₁) values) wide
      ≡ leaves_fit (seen (opposite (side_at d)) (held_at other) (rows_of T) questions) (seen (opposite (side_at d)) (held_at other) (rows_of T) trees) (seen (opposite (side_at d)) (held_at other) (rows_of T) records) (seen (opposite (side_at d)) (held_at other) (rows_of T) values) wide
  leaves_apart c wide = ap (λ (t : Tables). leaves_fit (t questions) (t trees) (t records) (t values) wide) (load_apart c)

  -- bounds that stood still do
  pub load_stands : LoadShares s w n d held other T out r held₁ T₁ out₁ → d ≤ 1 → Stand (rows_of T) (held_at held) (held_at other) → Stand (rows_of T₁) (held_at held₁) (held_at other)
  load_stands (LoadShares.no_room k a b c e) side g =
      subst (λ (l : List ℕ). Stand (rows_of T₁) (held_at l) (held_at other)) (sym b) (subst (λ (U : Lent). Stand (rows_of U) (held_at held) (held_at other)) (sym c) g)
  load_stands (LoadShares.told {x = x} k l m i a b c) side g =
      let G = shared_of (side_at d) (planned_of s w n T.work) (held_at held) (held_at other) (rows_of T) in
      let N = shared_so s w n d side (held_at held) (held_at other) T in
      let t : rows_of T₁ ≡ G.tables = ap rows_of i.1 ∙ N.tables in
      let u : held_at held₁ ≡ G.held =
      ap held_at (b ∙ ap (λ (y : Rows). held_left y held) (i.0 ∙ N.rows)) ∙ held_left_lem held l G.answer ∙ sym (after_held (side_at d) (planned_of s w n T.work) (held_at held) (held_at other) (rows_of T)) in
      subst (λ (h : Held). Stand (rows_of T₁) h (held_at other)) (sym u)
      (subst (λ (t : Tables). Stand t G.held (held_at other)) (sym t) (apart.bounds_stand (side_at d) (held_at held) (held_at other) (rows_of T) (keeps_of (words_fill s w n T.work)) g))

-- ---- an unload

tabled : (x : Tables) (q a t c v : List ℕ) → Tabled x q a t c v → tables_of q a t c v ≡ x
tabled x q a t c v e = fun_ext at
  where
    at : (k : Table) → tables_of q a t c v k ≡ x k
    at questions = e.questions
    at patterns = e.patterns
    at trees = e.trees
    at records = e.records
    at values = e.values

module _ {d : ℕ} {held other q a t c v : List ℕ} {r : ℕ} {held₁ q₁ a₁ t₁ c₁ v₁ : List ℕ} where
  -- the tables after it
  pub unload_left : UnloadTells d held other q a t c v r held₁ q₁ a₁ t₁ c₁ v₁ → d ≤ 1 → 5 ≤ length held → 5 ≤ length other
      → tables_of q₁ a₁ t₁ c₁ v₁ ≡ (unload_of {R = Refusal} (side_at d) (held_at held) (held_at other) (tables_of q a t c v)).tables
  unload_left (UnloadTells.no_room k e f g) side h i = absurd (short k)
    where
      short : (length held < 5) ⊎ (length other < 5) → ⊥
      short (inl x) = omega arith
      short (inr x) = omega arith
  unload_left (UnloadTells.told k l u e f) side h i = tabled _ q₁ a₁ t₁ c₁ v₁ u.tables ∙ unload_so d side (held_at held) (held_at other) (tables_of q a t c v)

  -- the other sees the same rows
  pub unload_apart : UnloadTells d held other q a t c v r held₁ q₁ a₁ t₁ c₁ v₁
      → seen (opposite (side_at d)) (held_at other) (tables_of q₁ a₁ t₁ c₁ v₁) ≡ seen (opposite (side_at d)) (held_at other) (tables_of q a t c v)
  unload_apart (UnloadTells.no_room k e f g) = ap (seen (opposite (side_at d)) (held_at other)) (tabled (tables_of q a t c v) q₁ a₁ t₁ c₁ v₁ g)
  unload_apart (UnloadTells.told k l u e f) = go (leb d 1) refl
    where
      go : (b : Bool) → leb d 1 ≡ b → seen (opposite (side_at d)) (held_at other) (tables_of q₁ a₁ t₁ c₁ v₁) ≡ seen (opposite (side_at d)) (held_at other) (tables_of q a t c v)
      go false e = ap (seen (opposite (side_at d)) (held_at other)) (tabled _ q₁ a₁ t₁ c₁ v₁ u.tables ∙ unload_neither d e (held_at held) (held_at other) (tables_of q a t c v))
      go true e =
          ap (seen (opposite (side_at d)) (held_at other)) (tabled _ q₁ a₁ t₁ c₁ v₁ u.tables ∙ unload_so d (leb-true d 1 e) (held_at held) (held_at other) (tables_of q a t c v))
          ∙ apart.unload_rows_apart Refusal (side_at d) (held_at held) (held_at other) (tables_of q a t c v)
