-- What a shared load, the load of one tree and an unload promise fixes what they return and every lent slice.
use mathlib.Core.Path.{◌≡◌, sym, ap, ◌∙◌}
use mathlib.Core.Bool.{Bool, true, false, cond}
use mathlib.Core.List.{List, [], ◌∷◌}
use mathlib.Core.Logic.{◌⊎◌, inl, inr}
use Prim.Native.Nat.{ℕ, ◌≤◌, ◌<◌}
use native.Mathlib.Omega.{arith}
use lib.ListN.{length}
use lib.Seq.{sets}
use Rattle.written.specs.Sharing as sharing
use Rattle.load_model.specs.Load.{Tables}
use Rattle.load_unload.specs.Unloads.{Tabled}
use Rattle.face_model.specs.declared.Rows.{Rows}
use Rattle.face_shared.specs.Answers.{held_at, UnloadSaid}
use Rattle.face_put.specs.Put.{rows_numbers, held_left}
use Rattle.larsavim.specs.Sharing.{LoadShares, TreeShares, UnloadTells}

-- a slice that is long enough is not too short
not_short : {a b c : ℕ} → (a < 8) ⊎ ((b < 5) ⊎ (c < 5)) → 8 ≤ a → 5 ≤ b → 5 ≤ c → ⊥
not_short (inl h) x y z = omega arith
not_short (inr (inl h)) x y z = omega arith
not_short (inr (inr h)) x y z = omega arith

not_short₂ : {b c : ℕ} → (b < 5) ⊎ (c < 5) → 5 ≤ b → 5 ≤ c → ⊥
not_short₂ (inl h) y z = omega arith
not_short₂ (inr h) y z = omega arith

pub shared_once : {s w : List ℕ} {n d : ℕ} {held other : List ℕ} {T : Tables} {out : List ℕ} {r r' : ℕ} {h h' : List ℕ} {T₁ T₂ : Tables} {o o' : List ℕ}
    → LoadShares s w n d held other T out r h T₁ o → LoadShares s w n d held other T out r' h' T₂ o' → (r ≡ r') × (h ≡ h') × (T₁ ≡ T₂) × (o ≡ o')
shared_once (LoadShares.no_room k a b c e) (LoadShares.no_room l a' b' c' e') = (a ∙ sym a', b ∙ sym b', c ∙ sym c', e ∙ sym e')
shared_once (LoadShares.no_room k a b c e) (LoadShares.told l m n x a' b' e') = absurd (not_short k l m n)
shared_once (LoadShares.told l m n x a' b' e') (LoadShares.no_room k a b c e) = absurd (not_short k l m n)
shared_once {held = held} {out = out} (LoadShares.told {x = x} l m n i a b c) (LoadShares.told {x = y} l' m' n' j a' b' c') =
    let e : x ≡ y = i.0 ∙ sym j.0 in (
      a ∙ ap (λ (z : Rows). z.number) e ∙ sym a',
      b ∙ ap (λ (z : Rows). held_left z held) e ∙ sym b',
      i.1 ∙ sym j.1,
      c ∙ ap (λ (z : Rows). sets out 0 (rows_numbers z)) e ∙ sym c',
    )

pub tree_once : {s w : List ℕ} {n k d : ℕ} {held other : List ℕ} {T : Tables} {out : List ℕ} {r r' : ℕ} {h h' : List ℕ} {T₁ T₂ : Tables} {o o' : List ℕ}
    → TreeShares s w n k d held other T out r h T₁ o → TreeShares s w n k d held other T out r' h' T₂ o' → (r ≡ r') × (h ≡ h') × (T₁ ≡ T₂) × (o ≡ o')
tree_once (TreeShares.no_room k a b c e) (TreeShares.no_room l a' b' c' e') = (a ∙ sym a', b ∙ sym b', c ∙ sym c', e ∙ sym e')
tree_once (TreeShares.no_room k a b c e) (TreeShares.told l m n x a' b' e') = absurd (not_short k l m n)
tree_once (TreeShares.told l m n x a' b' e') (TreeShares.no_room k a b c e) = absurd (not_short k l m n)
tree_once {held = held} {out = out} (TreeShares.told {x = x} l m n i a b c) (TreeShares.told {x = y} l' m' n' j a' b' c') =
    let e : x ≡ y = i.0 ∙ sym j.0 in (
      a ∙ ap (λ (z : Rows). z.number) e ∙ sym a',
      b ∙ ap (λ (z : Rows). held_left z held) e ∙ sym b',
      i.1 ∙ sym j.1,
      c ∙ ap (λ (z : Rows). sets out 0 (rows_numbers z)) e ∙ sym c',
    )

-- five slices that are the same tables
pub record Same (q a t c v q' a' t' c' v' : List ℕ) : Type 0 where
  pub questions : q ≡ q'
  pub patterns : a ≡ a'
  pub trees : t ≡ t'
  pub records : c ≡ c'
  pub values : v ≡ v'

tabled_same : {x : sharing.Tables} {q a t c v q' a' t' c' v' : List ℕ} → Tabled x q a t c v → Tabled x q' a' t' c' v' → Same q a t c v q' a' t' c' v'
tabled_same e f =
    record {
      questions = e.questions ∙ sym f.questions;
      patterns = e.patterns ∙ sym f.patterns;
      trees = e.trees ∙ sym f.trees;
      records = e.records ∙ sym f.records;
      values = e.values ∙ sym f.values;
    }

pub unload_once : {d : ℕ} {held other q a t c v : List ℕ} {r r' : ℕ} {h h' q₁ a₁ t₁ c₁ v₁ q₂ a₂ t₂ c₂ v₂ : List ℕ} → UnloadTells d held other q a t c v r h q₁ a₁ t₁ c₁ v₁
    → UnloadTells d held other q a t c v r' h' q₂ a₂ t₂ c₂ v₂ → (r ≡ r') × (h ≡ h') × Same q₁ a₁ t₁ c₁ v₁ q₂ a₂ t₂ c₂ v₂
unload_once (UnloadTells.no_room k a b c) (UnloadTells.no_room l a' b' c') = (a ∙ sym a', b ∙ sym b', tabled_same c c')
unload_once (UnloadTells.no_room k a b c) (UnloadTells.told m n x a' b') = absurd (not_short₂ k m n)
unload_once (UnloadTells.told m n x a' b') (UnloadTells.no_room k a b c) = absurd (not_short₂ k m n)
unload_once {held = held} (UnloadTells.told {b = p} m n i a b) (UnloadTells.told {b = q} m' n' j a' b') =
    let e : p ≡ q = i.done ∙ sym j.done in (
      a ∙ ap (λ (z : Bool). cond z 0 24) e ∙ sym a',
      b ∙ ap (λ (z : Bool). cond z (sets held 0 (0 ∷ 0 ∷ 0 ∷ 0 ∷ 0 ∷ [])) held) e ∙ sym b',
      tabled_same i.tables j.tables,
    )

-- ---- each way through an unload

module _ (d : ℕ) (held other q a t c v : List ℕ) {b : Bool} {q₁ a₁ t₁ c₁ v₁ : List ℕ} (l : 5 ≤ length held) (m : 5 ≤ length other) (u : UnloadSaid d (held_at held) (held_at other) q a t c v b q₁ a₁ t₁ c₁ v₁) where
  pub unload_refused : b ≡ false → UnloadTells d held other q a t c v 24 held q₁ a₁ t₁ c₁ v₁
  unload_refused e = UnloadTells.told l m u (sym (ap (λ (b : Bool). cond b 0 24) e)) (sym (ap (λ (b : Bool). cond b (sets held 0 (0 ∷ 0 ∷ 0 ∷ 0 ∷ 0 ∷ [])) held) e))

  pub unload_zeroed : b ≡ true → {held₁ : List ℕ} → held₁ ≡ sets held 0 (0 ∷ 0 ∷ 0 ∷ 0 ∷ 0 ∷ []) → UnloadTells d held other q a t c v 0 held₁ q₁ a₁ t₁ c₁ v₁
  unload_zeroed e f = UnloadTells.told l m u (sym (ap (λ (b : Bool). cond b 0 24) e)) (f ∙ sym (ap (λ (b : Bool). cond b (sets held 0 (0 ∷ 0 ∷ 0 ∷ 0 ∷ 0 ∷ [])) held) e))
