-- A field's number and its name: a number below the table's length is that of one name.
use mathlib.Core.Path.{◌≡◌, refl, sym, ap, ◌∙◌}
use mathlib.Core.Bool.{Bool, true, false, cond}
use mathlib.Core.List.Memᴰ
use mathlib.Core.List.{List, [], ◌∷◌, Memᴰ}
use mathlib.Core.Logic.{⊎_elim}
use Prim.Native.Nat.{ℕ, suc, ◌<◌}
use native.Mathlib.Omega.{arith}
use lib.ListN.{length}
use Rattle.written.specs.Bytes.{same}
use Rattle.written.specs.HeaderText.{Field}
use Rattle.written.proofs.Tests.{differ}
use Rattle.written_apart.proofs.ApartFile.{same_same}
use Rattle.written_total.proofs.Total.{same_true, Named}
use Rattle.head_fields.specs.Fields.{field_index}

pub index_named : (T : List Field) (w : List ℕ) (f : Field) → Memᴰ f T → f.name ≡ w → field_index T w < length T
unfolding field_index
index_named [] w f m e = elim m [ ]
index_named (g ∷ T) w f m e = go (same g.name w) refl (λ n. index_named T w f n e)
  where
    go : (t : Bool) → same g.name w ≡ t → (Memᴰ f T → field_index T w < length T) → cond t 0 (suc (field_index T w)) < suc (length T)
    go true q rec = omega arith
    go false q rec = ⊎_elim (λ p. differ (ap (λ (v : List ℕ). same v w) (ap (λ (h : Field). h.name) (sym p) ∙ e) ∙ same_same w) q) (λ n. omega (arith, rec n)) (Memᴰ.cases_cons m)

pub named_index : (T : List Field) (w : List ℕ) → field_index T w < length T → Named T w
unfolding field_index
named_index [] w h = absurd (omega arith)
named_index (g ∷ T) w h = go (same g.name w) refl h (λ k. named_index T w k)
  where
    go : (t : Bool) → same g.name w ≡ t → cond t 0 (suc (field_index T w)) < suc (length T) → (field_index T w < length T → Named T w) → Named (g ∷ T) w
    go true q k rec = record { field = g; of_table = Memᴰ.head refl; same_name = same_true g.name w q }
    go false q k rec = let n = rec (omega arith) in record { field = n.field; of_table = Memᴰ.tail n.of_table; same_name = n.same_name }

pub index_one : (T : List Field) (v w : List ℕ) → field_index T v < length T → field_index T v ≡ field_index T w → v ≡ w
unfolding field_index
index_one [] v w h e = absurd (omega arith)
index_one (g ∷ T) v w h e = go (same g.name v) refl (same g.name w) refl h e (λ k f. index_one T v w k f)
  where
    go : (t : Bool) → same g.name v ≡ t → (u : Bool) → same g.name w ≡ u → cond t 0 (suc (field_index T v)) < suc (length T) → cond t 0 (suc (field_index T v)) ≡ cond u 0 (suc (field_index T w))
        → (field_index T v < length T → field_index T v ≡ field_index T w → v ≡ w) → v ≡ w
    go true p true q k f rec = sym (same_true g.name v p) ∙ same_true g.name w q
    go true p false q k f rec = absurd (omega arith)
    go false p true q k f rec = absurd (omega arith)
    go false p false q k f rec = rec (omega arith) (omega arith)
