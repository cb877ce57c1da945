-- `larsavim_load_shared`, of words that an opening of the file wrote, and `larsavim_unload` keep their promises. That neither changes what the other task sees, of any words, bounds
-- and tables, is said in Apart.
use mathlib.Core.Path.{◌≡◌, refl, sym, ap, ◌∙◌, subst, fun_ext}
use mathlib.Core.Bool.{Bool, true, false, cond, true≢false}
use mathlib.Core.List.{List, [], ◌∷◌}
use Prim.Native.Nat.{ℕ, ◌≤◌}
use borrow.Author.Tests.{leb-true, le-leb}
use lib.Dec.{leb}
use lib.ListN.{length}
use lib.Seq.{sets}
use Rattle.written.specs.Record as record_of
use Rattle.written.specs.Models as models
use Rattle.written.specs.Sharing.{Table, questions, patterns, trees, records, values, Tables, Held, cleared, holds, stands}
use Rattle.head_de.proofs.Sound.{Bytes}
use Rattle.load_model.specs.Load.{Tables as Lent}
use Rattle.load_apart.proofs.Tests.{both, stands_is, is_stands, holds-nothing, nothing-holds}
use Rattle.load_shared.specs.Beside.{rows_of}
use Rattle.load_bounds.specs.Bounds.{tables_of}
use Rattle.load_unload.specs.Unloads.{Tabled}
use Rattle.face_model.specs.declared.Rows.{Rows}
use Rattle.face_load.specs.Answers as load
use Rattle.face_load.specs.Answers.{Filled, filled_of}
use Rattle.face_shared.specs.Answers.{held_at, side_at, standing, shared_of, unloaded_of}
use Rattle.face_put.specs.Put.{rows_numbers, held_left}
use Rattle.larsavim.specs.Sharing.{LoadShares, UnloadTells}
use Rattle.promises.specs.Opening.{record_words}
use Rattle.promises.specs.Sharing.{Standing, BesideEnds, SharedEnds, AfterShared, AfterUnload}
use Rattle.promises.proofs.Moved.{moved₃, moved₄}
use Rattle.promises.proofs.Beside.{beside_ends, words_said}

-- the test of the side and of the bounds
pub standing_is : (d : ℕ) (mine other : Held) (t : Tables) → standing d mine other t ≡ true → Standing d mine other t
standing_is d mine other t e = let b = both (leb d 1) (stands t mine other) e in (leb-true d 1 b.0, stands_is t mine other b.1)

is_standing : (d : ℕ) (mine other : Held) (t : Tables) → Standing d mine other t → standing d mine other t ≡ true
is_standing d mine other t (a, b) = rw (le-leb d 1 a, is_stands t mine other b)

pub not_standing : (d : ℕ) (mine other : Held) (t : Tables) → standing d mine other t ≡ false → ¬ Standing d mine other t
not_standing d mine other t e h = true≢false (sym (is_standing d mine other t h) ∙ e)

-- ---- a shared load

module _ {s : List ℕ} (bytes : Bytes s) {h : record_of.Header} (says : record_of.Says s h) (m : models.Model) (w : List ℕ) (enough : 647 ≤ length w) (d : ℕ) where
  abbrev W : List ℕ
  W = sets w 0 (record_words h)

  module _ (mine other : Held) (t : Lent) where
    pub shared_ends : SharedEnds d s h m mine other t (rows_numbers (shared_of s W (models.model_number m) d mine other t).rows) (shared_of s W (models.model_number m) d mine other t).tables
    unfolding shared_of
    shared_ends = go (holds mine) refl (standing d mine other (rows_of t)) refl
      where
        go : (a : Bool) → holds mine ≡ a → (b : Bool) → standing d mine other (rows_of t) ≡ b
            → SharedEnds d s h m mine other t (rows_numbers (cond a (load.untouched 29 t) (cond b (filled_of s W (models.model_number m) (side_at d) other t) (load.untouched 24 t))).rows)
            (cond a (load.untouched 29 t) (cond b (filled_of s W (models.model_number m) (side_at d) other t) (load.untouched 24 t))).tables
        go true e b f = SharedEnds.holding (λ n. true≢false (sym e ∙ nothing-holds mine n))
        go false e true f =
            SharedEnds.loads (holds-nothing mine e) (standing_is d mine other (rows_of t) f)
            (subst (λ (o : Filled). BesideEnds (side_at d) s h m other t (rows_numbers o.rows) o.tables) (sym (words_said s m (side_at d) other t w h enough))
            (beside_ends bytes says m (side_at d) other t))
        go false e false f = SharedEnds.overlap (holds-nothing mine e) (not_standing d mine other (rows_of t) f)

  pub shared_kept : (held other : List ℕ) (t : Lent) (out : List ℕ) {r : ℕ} {held₁ : List ℕ} {u : Lent} {o : List ℕ}
      → LoadShares s W (models.model_number m) d held other t out r held₁ u o → AfterShared s h m d held other t out r held₁ u o
  unfolding held_left
  shared_kept held other t out (LoadShares.no_room k a b c e) = moved₄ (AfterShared s h m d held other t out) a b c e (AfterShared.short k)
  shared_kept held other t out (LoadShares.told {x = x} k l n i a b c) =
      moved₄ (AfterShared s h m d held other t out) (a ∙ ap (λ (r : Rows). r.number) i.0) (b ∙ ap (λ (r : Rows). held_left r held) i.0) i.1 (c ∙ ap (λ (r : Rows). sets out 0 (rows_numbers r)) i.0)
      (AfterShared.ended k l n (shared_ends (held_at held) (held_at other) t))

-- ---- an unload

-- five slices as tables
five : (x : Tables) {q a t c v : List ℕ} → Tabled x q a t c v → tables_of q a t c v ≡ x
five x {q} {a} {t} {c} {v} e = fun_ext at
  where
    at : (k : Table) → tables_of q a t c v k ≡ x k
    at questions = e.questions
    at patterns = e.patterns
    at trees = e.trees
    at records = e.records
    at values = e.values

pub unload_kept : (d : ℕ) (held other q a t c v : List ℕ) {r : ℕ} {held₁ q₁ a₁ t₁ c₁ v₁ : List ℕ} → UnloadTells d held other q a t c v r held₁ q₁ a₁ t₁ c₁ v₁
    → AfterUnload d held other (tables_of q a t c v) r held₁ (tables_of q₁ a₁ t₁ c₁ v₁)
unfolding unloaded_of
unload_kept d held other q a t c v (UnloadTells.no_room k e f g) = moved₃ (AfterUnload d held other (tables_of q a t c v)) e f (five (tables_of q a t c v) g) (AfterUnload.short k)
unload_kept d held other q a t c v (UnloadTells.told {b = b} k l u e f) =
    let T = tables_of q a t c v in
    let z : b ≡ standing d (held_at held) (held_at other) T = u.done in
    moved₃ (AfterUnload d held other T) (e ∙ ap (λ (b : Bool). cond b 0 24) z) (f ∙ ap (λ (b : Bool). cond b (sets held 0 (0 ∷ 0 ∷ 0 ∷ 0 ∷ 0 ∷ [])) held) z) (five (unloaded_of d (held_at held) (held_at other) T) u.tables)
    (go (standing d (held_at held) (held_at other) T) refl)
  where
    go : (b : Bool) → standing d (held_at held) (held_at other) (tables_of q a t c v) ≡ b
        → AfterUnload d held other (tables_of q a t c v) (cond b 0 24) (cond b (sets held 0 (0 ∷ 0 ∷ 0 ∷ 0 ∷ 0 ∷ [])) held) (cond b (cleared (side_at d) (held_at held) (tables_of q a t c v)) (tables_of q a t c v))
    go true s = AfterUnload.unloaded k l (standing_is d (held_at held) (held_at other) (tables_of q a t c v) s)
    go false s = AfterUnload.overlap k l (not_standing d (held_at held) (held_at other) (tables_of q a t c v) s)
