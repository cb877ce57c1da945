-- `larsavim_load_tree`: after a `larsavim_trailed` that answered 0, tree k is what a full load of the model has for it; and demand 1 by number, of any file, words, bounds and tables.
use mathlib.Core.Path.{◌≡◌, refl, sym, ap, ◌∙◌, subst}
use mathlib.Core.Bool.{Bool, true, false, cond, true≢false}
use mathlib.Core.List.{List}
use Prim.Native.Nat.{ℕ, ◌≤◌}
use native.Mathlib.Omega.{arith}
use borrow.Author.Tests.{eq-eqb, ne_eqb}
use lib.Dec.{eqb}
use lib.ListN.{length}
use lib.Seq.{sets}
use Rattle.written.specs.Record as record_of
use Rattle.written.specs.Said as said
use Rattle.written.specs.Linking.{Nth}
use Rattle.written.specs.Models as models
use Rattle.written.specs.Sharing.{Held, holds}
use Rattle.written.specs.Trailer.{Trailed}
use Rattle.written_models.proofs.Openings.{refused_low}
use Rattle.written_trailer.proofs.TrailerExactly.{finds_zero}
use Rattle.error.specs.Numbers.{number_of}
use Rattle.error.specs.declared.Refusal.{Refusal}
use Rattle.error.specs.declared.Refusal.TheVariants as refusal
use Rattle.head_record.specs.Record.{header_record}
use Rattle.head_de.proofs.Sound.{Bytes}
use Rattle.head_words.specs.Words.{header_at}
use Rattle.load_plan.specs.Plans.{data_of}
use Rattle.load_model.specs.Load.{Tables, After, untouched as lent_as_before}
use Rattle.load_shared.specs.Beside.{rows_of, room_by}
use Rattle.trail_plan.specs.Plans.{tree_planned}
use Rattle.trail_load.specs.Load.{tree_placed_in, tree_beside_for, tree_beside}
use Rattle.face_record.specs.Answers.{judged_of}
use Rattle.face_model.specs.declared.Rows.{Rows}
use Rattle.face_model.specs.Answers.{which_of as which_at, no_rows, rows_by}
use Rattle.face_load.specs.Answers.{Filled, filled_by, untouched}
use Rattle.face_shared.specs.Answers.{held_at, side_at, standing}
use Rattle.face_tree.specs.Answers.{tree_filled_of, tree_shared_of}
use Rattle.face_trail.proofs.Above.{above_zero}
use Rattle.larsavim.specs.Sharing.{TreeShares}
use Rattle.face_put.specs.Put.{held_left}
use Rattle.larsavim.specs.Trails.{TrailedTells}
use Rattle.shown_models.proofs.Chosen.{which_of}
use Rattle.shown_load.specs.Stored.{Stored}
use Rattle.shown_one.proofs.Plan.{tree_planned_lem}
use Rattle.shown_one.proofs.AsFull.{S-short}
use Rattle.shown_one.proofs.Beside.{Refuses, tree_refuses}
use Rattle.promises.specs.Opening.{record_words}
use Rattle.promises.specs.Trailing.{AfterTrailed}
use Rattle.promises.proofs.Moved.{moved₃}
use Rattle.promises.proofs.Trailing.{trailed_kept}
use Rattle.promises.proofs.OneTree.{within, tree_words_said, trailed_reaches, CallAsFull, call_as_full, P}
use Rattle.load_model.specs.declared.Loaded.{Loaded}
use Rattle.load_plan.specs.declared.Plan.{Plan}
use Rattle.std.specs.Prelude.{Err, Ok, Result}

-- ---- a file whose trailer was found

pub found_trailed : {s w out : List ℕ} {r : ℕ} {w' o : List ℕ} → AfterTrailed s w out r w' o → r ≡ 0 → (rows : List ℕ) × (begin : ℕ) × Trailed s rows begin
found_trailed (AfterTrailed.short_out a) e = absurd (omega (arith, e))
found_trailed (AfterTrailed.unopened a x) e = absurd (omega (arith, (refused_low x).0, e))
found_trailed (AfterTrailed.few_words a x l) e = absurd (omega (arith, e))
found_trailed (AfterTrailed.answered {b = b} {numbers = numbers} k a x l f n) e = (numbers, b, finds_zero f e)

shared_number : (s w : List ℕ) (n k d : ℕ) (mine other : Held) (T : Tables) (b₁ b₂ : Bool) → holds mine ≡ b₁ → standing d mine other (rows_of T) ≡ b₂ → (tree_shared_of s w n k d mine other T).rows.number ≡ 0
    → (cond b₁ (untouched 29 T) (cond b₂ (tree_filled_of s w n k (side_at d) other T) (untouched 24 T))).rows.number ≡ 0
unfolding tree_shared_of
shared_number s w n k d mine other T b₁ b₂ g h e =
    sym (ap (λ (o : Bool). (cond o (untouched 29 T) (cond (standing d mine other (rows_of T)) (tree_filled_of s w n k (side_at d) other T) (untouched 24 T))).rows.number) g
    ∙ ap (λ (o : Bool). (cond b₁ (untouched 29 T) (cond o (tree_filled_of s w n k (side_at d) other T) (untouched 24 T))).rows.number) h) ∙ e

module _ {s : List ℕ} (bytes : Bytes s) {h : record_of.Header} (says : record_of.Says s h) (m : models.Model) {F : Tables} {X : After} (K : Stored s (header_record h) (which_of m) F X) {k : ℕ} {x : said.Tree} {y : said.TreePlace}
    (i : Nth K.t.trees k x) (j : Nth K.l.trees k y) where
  -- the trailer is found once, then a tree is loaded through it
  pub after_trailed : {w₀ out₀ : List ℕ} {r₀ : ℕ} {w₁ o₁ : List ℕ} → TrailedTells s w₀ out₀ r₀ w₁ o₁ → r₀ ≡ 0
      → (w : List ℕ) → 647 ≤ length w → (d : ℕ) (held other : List ℕ) (T : Tables) (out : List ℕ) {r : ℕ} {held₁ : List ℕ} {T₁ : Tables} {out₁ : List ℕ}
      → 8 ≤ length out → 5 ≤ length held → 5 ≤ length other → holds (held_at held) ≡ false → standing d (held_at held) (held_at other) (rows_of T) ≡ true → room_by (P bytes says m K i j) (held_at other) T ≡ true
      → TreeShares s (sets w 0 (record_words h)) (models.model_number m) k d held other T out r held₁ T₁ out₁ → CallAsFull bytes says m K i j d held other T out r held₁ T₁ out₁
  after_trailed t e = let f = found_trailed (trailed_kept t) e in call_as_full bytes says m K i j f.2

  -- a call that answered 0 found room for that tree, of a task that held nothing
  module _ {rows : List ℕ} {begin : ℕ} (t : Trailed s rows begin) (d : ℕ) (other : Held) (T : Tables) where
    room_there : (rows_by (tree_beside (side_at d) s (header_record h) (which_of m) (models.model_number m) k other T).answer).number ≡ 0 → room_by (P bytes says m K i j) other T ≡ true
    unfolding tree_beside
    room_there e = go (room_by (P bytes says m K i j) other T) refl
      where
        planned_so : Ok (P bytes says m K i j) ≡ tree_planned s (header_record h) (which_of m) (models.model_number m) k
        planned_so = tree_planned_lem s (header_record h) (which_of m) K.chose i j (S-short s (header_record h) (which_of m) (within bytes says m) K.chose) (trailed_reaches bytes says m K t)

        no_room : room_by (P bytes says m K i j) other T ≡ false → ⊥
        no_room f =
            let z : (rows_by (Err refusal.Room)).number ≡ 0 =
            sym (ap (λ (b : Bool). (rows_by (cond b (tree_placed_in (side_at d) (data_of s (header_record h)) k (P bytes says m K i j) T) (lent_as_before refusal.Room T)).answer).number) f)
            ∙ ap (λ (o : Result Plan Refusal). (rows_by (tree_beside_for (side_at d) other (data_of s (header_record h)) k o T).answer).number) planned_so ∙ e in
            omega (arith, z)

        go : (b : Bool) → room_by (P bytes says m K i j) other T ≡ b → b ≡ true
        go true f = refl
        go false f = absurd (no_room f)

  -- both calls answered 0
  pub both_zero : {w₀ out₀ : List ℕ} {r₀ : ℕ} {w₁ o₁ : List ℕ} → TrailedTells s w₀ out₀ r₀ w₁ o₁ → r₀ ≡ 0
      → (w : List ℕ) → 647 ≤ length w → (d : ℕ) (held other : List ℕ) (T : Tables) (out : List ℕ) {r : ℕ} {held₁ : List ℕ} {T₁ : Tables} {out₁ : List ℕ}
      → TreeShares s (sets w 0 (record_words h)) (models.model_number m) k d held other T out r held₁ T₁ out₁ → r ≡ 0 → CallAsFull bytes says m K i j d held other T out r held₁ T₁ out₁
  both_zero t e w enough d held other T out (TreeShares.no_room q a b c f) z = absurd (omega (arith, a, z))
  both_zero t e w enough d held other T out {r} {held₁} {T₁} {out₁} (TreeShares.told {x = x} l n q u a b c) z = go (holds (held_at held)) refl (standing d (held_at held) (held_at other) (rows_of T)) refl
    where
      N : ℕ
      N = models.model_number m

      W : List ℕ
      W = sets w 0 (record_words h)

      f : (rows : List ℕ) × (begin : ℕ) × Trailed s rows begin
      f = found_trailed (trailed_kept t) e

      number : (tree_shared_of s W N k d (held_at held) (held_at other) T).rows.number ≡ 0
      number = ap (λ (y : Rows). y.number) (sym u.0) ∙ sym a ∙ z

      at : (b₁ b₂ : Bool) → holds (held_at held) ≡ b₁ → standing d (held_at held) (held_at other) (rows_of T) ≡ b₂
          → (cond b₁ (untouched 29 T) (cond b₂ (tree_filled_of s W N k (side_at d) (held_at other) T) (untouched 24 T))).rows.number ≡ 0
      at b₁ b₂ g h = shared_number s W N k d (held_at held) (held_at other) T b₁ b₂ g h number

      go : (b₁ : Bool) → holds (held_at held) ≡ b₁ → (b₂ : Bool) → standing d (held_at held) (held_at other) (rows_of T) ≡ b₂ → CallAsFull bytes says m K i j d held other T out r held₁ T₁ out₁
      go true g b₂ h = absurd (let y : ◌≡◌ {A = ℕ} 29 0 = at true b₂ g h in omega (arith, y))
      go false g false h = absurd (let y : ◌≡◌ {A = ℕ} 24 0 = at false false g h in omega (arith, y))
      go false g true o =
          call_as_full bytes says m K i j f.2 w enough d held other T out l n q g o
          (room_there f.2 d (held_at other) T (ap (λ (y : Filled). y.rows.number) (sym (tree_words_said s m k (side_at d) (held_at other) T w h enough)) ∙ at false true g o))
          (TreeShares.told {x = x} l n q u a b c)

-- ---- demand 1 by number

-- a number, the task's bounds and what was lent after it: done; or refused, the bounds as they were, and the tables too unless linking refused the tree
pub data TreeByNumber (d : ℕ) (held : List ℕ) (T : Tables) : ℕ → List ℕ → Tables → Type 0 where
  done : {held₁ : List ℕ} {T₁ : Tables} → TreeByNumber d held T 0 held₁ T₁
  as_before : {r : ℕ} → TreeByNumber d held T r held T
  linking : {z : Refusal} {T₁ : Tables} → Refuses (side_at d) T z T₁ → TreeByNumber d held T (number_of z) held T₁

-- bounds change where the number is 0 alone
bounds_kept : (x : Rows) (held : List ℕ) → ¬ (x.number ≡ 0) → held_left x held ≡ held
unfolding held_left
bounds_kept x held n = rw (ne_eqb x.number 0 n)

module _ (s w : List ℕ) (n k d : ℕ) (held other : List ℕ) (T : Tables) where
  -- what was filled, or nothing
  abbrev ByNumber : Filled → Type 0
  ByNumber f = TreeByNumber d held T f.rows.number (held_left f.rows held) f.tables

  refused_so : (j : ℕ) → ¬ (j ≡ 0) → ByNumber (untouched j T)
  refused_so j e = subst (λ (b : List ℕ). TreeByNumber d held T j b T) (sym (bounds_kept (no_rows j 0 0) held e)) (TreeByNumber.as_before {r = j})

  loaded_so : (A : After) → ((z : Refusal) → A.answer ≡ Err z → Refuses (side_at d) T z A.tables) → ByNumber (filled_by A)
  loaded_so A f = go A.answer refl
    where
      go : (l : Result Loaded Refusal) → A.answer ≡ l → TreeByNumber d held T (rows_by l).number (held_left (rows_by l) held) A.tables
      go (Ok l) q = TreeByNumber.done
      go (Err z) q =
          subst (λ (b : List ℕ). TreeByNumber d held T (number_of z) b A.tables) (sym (bounds_kept (rows_by (Err z)) held (λ e. let p = above_zero z in omega (arith, e, p))))
          (TreeByNumber.linking (f z q))

  by_words : ByNumber (tree_filled_of s w n k (side_at d) (held_at other) T)
  unfolding tree_filled_of
  by_words = go (eqb (judged_of w) 0) refl
    where
      B : After
      B = tree_beside (side_at d) s (header_at w) (which_at n) n k (held_at other) T

      go : (b : Bool) → eqb (judged_of w) 0 ≡ b → ByNumber (cond b (filled_by B) (untouched (judged_of w) T))
      go true e = loaded_so B (λ z q. tree_refuses (side_at d) s (header_at w) (which_at n) n k (held_at other) T q)
      go false e = refused_so (judged_of w) (λ z. true≢false (sym (eq-eqb (judged_of w) 0 z) ∙ e))

  by_bounds : ByNumber (tree_shared_of s w n k d (held_at held) (held_at other) T)
  unfolding tree_shared_of
  by_bounds = go (holds (held_at held)) (standing d (held_at held) (held_at other) (rows_of T))
    where
      go : (a b : Bool) → ByNumber (cond a (untouched 29 T) (cond b (tree_filled_of s w n k (side_at d) (held_at other) T) (untouched 24 T)))
      go true b = refused_so 29 (λ e. omega arith)
      go false true = by_words
      go false false = refused_so 24 (λ e. omega arith)

  pub tree_by_number : {out : List ℕ} {r : ℕ} {held₁ : List ℕ} {T₁ : Tables} {out₁ : List ℕ} → TreeShares s w n k d held other T out r held₁ T₁ out₁ → TreeByNumber d held T r held₁ T₁
  tree_by_number (TreeShares.no_room q e f g i) = moved₃ (TreeByNumber d held T) e f g (TreeByNumber.as_before {r = 20})
  tree_by_number (TreeShares.told {x = x} l m q u e f g) =
      moved₃ (TreeByNumber d held T) (e ∙ ap (λ (y : Rows). y.number) u.0) (f ∙ ap (λ (y : Rows). held_left y held) u.0) u.1 by_bounds
