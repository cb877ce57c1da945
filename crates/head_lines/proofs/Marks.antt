-- The marks of the fields that stood are those of the fields that the lines so far have.
use mathlib.Core.Path.{◌≡◌, refl, sym, ap, ◌∙◌}
use mathlib.Core.Bool.{Bool, true, false, cond}
use mathlib.Core.List.{List, [], ◌∷◌, ◌++◌}
use Prim.Native.Nat.{ℕ, zero, suc, ◌≤◌, ◌<◌}
use native.Mathlib.Omega.{arith}
use native.Mathlib.Decide.{dec_lt, ℕ_discrete}
use borrow.Author.Tests.{lt-ltb, le-ltb, ltb-true}
use lib.Dec.{ltb}
use lib.ListN.{length, get_or, set, length-set}
use lib.Seq.{get_or-set_same, get_or-set_other}
use Rattle.written.specs.Bytes.{same}
use Rattle.written.specs.HeaderText.{Field, Entry, values_of}
use Rattle.written.specs.Faults.{Repeats}
use Rattle.written.proofs.Tests.{differ}
use Rattle.written_apart.proofs.ApartFile.{values_append, same_same}
use Rattle.written_total.proofs.Total.{same_true}
use Rattle.head_fields.specs.Fields.{field_index}
use Rattle.head_fields.proofs.Names.{index_named, named_index, index_one}
use Rattle.head_lines.specs.Lines.{stood_at, marked, unseen}

pub record Marks (T : List Field) (m : List Bool) (xs : List Entry) : Type 0 where
  pub ten : length m ≡ 10
  pub room : length T ≤ 10
  pub stood : (w : List ℕ) → field_index T w < length T → get_or m (field_index T w) false ≡ ltb 0 (length (values_of w xs))
  pub past : (k : ℕ) → length T ≤ k → get_or m k false ≡ false

unseen_none : (k : ℕ) → get_or unseen k false ≡ false
unfolding unseen
unseen_none zero = refl
unseen_none (suc zero) = refl
unseen_none (suc (suc zero)) = refl
unseen_none (suc (suc (suc zero))) = refl
unseen_none (suc (suc (suc (suc zero)))) = refl
unseen_none (suc (suc (suc (suc (suc zero))))) = refl
unseen_none (suc (suc (suc (suc (suc (suc zero)))))) = refl
unseen_none (suc (suc (suc (suc (suc (suc (suc zero))))))) = refl
unseen_none (suc (suc (suc (suc (suc (suc (suc (suc zero)))))))) = refl
unseen_none (suc (suc (suc (suc (suc (suc (suc (suc (suc zero))))))))) = refl
unseen_none (suc (suc (suc (suc (suc (suc (suc (suc (suc (suc k)))))))))) = refl

pub marks_none : (T : List Field) → length T ≤ 10 → Marks T unseen []
unfolding unseen values_of
marks_none T h = record { ten = refl; room = h; stood = λ w k. unseen_none (field_index T w); past = λ k l. unseen_none k }

module _ {T : List Field} {m : List Bool} {xs : List Entry} (h : Marks T m xs) where
  pub stood_repeats : (w : List ℕ) → stood_at m (field_index T w) ≡ true → Repeats T xs w
  unfolding stood_at
  stood_repeats w e = go (dec_lt (field_index T w) (length T))
    where
      at : (t : Bool) → cond t (get_or m (field_index T w) false) false ≡ true → get_or m (field_index T w) false ≡ true
      at true f = f
      at false f = differ f refl

      go : Dec (field_index T w < length T) → Repeats T xs w
      go (yes k) =
          let n = named_index T w k in
          record { field = n.field; of_table = n.of_table; same_name = n.same_name; before = ltb-true 0 (length (values_of w xs)) (sym (h.stood w k) ∙ at (ltb (field_index T w) 10) e) }
      go (no k) = differ (at (ltb (field_index T w) 10) e) (h.past (field_index T w) (omega arith))

  pub new_repeats : (w : List ℕ) → stood_at m (field_index T w) ≡ false → ¬ Repeats T xs w
  unfolding stood_at
  new_repeats w e r =
      let k = index_named T w r.field r.of_table r.same_name in
      let f : get_or m (field_index T w) false ≡ false = sym (ap (λ (t : Bool). cond t (get_or m (field_index T w) false) false) (lt-ltb (field_index T w) 10 (omega (arith, h.room)))) ∙ e in
      differ {A = ⊥} (lt-ltb 0 (length (values_of w xs)) r.before) (sym (h.stood w k) ∙ f)

  -- with one more line
  count_other : (w : List ℕ) (x : Entry) → same w x.name ≡ false → length (values_of w (xs ++ (x ∷ []))) ≡ length (values_of w xs)
  unfolding values_of
  count_other w x e =
      let q : length (values_of w (x ∷ [])) ≡ 0 = ap (λ (t : Bool). length (cond t (x.value ∷ []) [])) e in
      omega (arith, values_append w xs (x ∷ []))

  count_one : (w : List ℕ) (x : Entry) → same w x.name ≡ true → 0 < length (values_of w (xs ++ (x ∷ [])))
  unfolding values_of
  count_one w x e =
      let q : length (values_of w (x ∷ [])) ≡ 1 = ap (λ (t : Bool). length (cond t (x.value ∷ []) [])) e in
      omega (arith, values_append w xs (x ∷ []))

  pub marks_more : (x : Entry) → Marks T (marked (length T) m (field_index T x.name)) (xs ++ (x ∷ []))
  unfolding marked
  marks_more x = go (dec_lt (field_index T x.name) (length T))
    where
      k : ℕ
      k = field_index T x.name

      -- a name whose number is another is another name
      other : (w : List ℕ) → ¬ (field_index T w ≡ k) → same w x.name ≡ false
      other w n = by (same w x.name) refl
        where
          by : (t : Bool) → same w x.name ≡ t → t ≡ false
          by true e = absurd (n (ap (field_index T) (same_true w x.name e)))
          by false e = refl

      kept : (w : List ℕ) → field_index T w < length T → ¬ (field_index T w ≡ k) → get_or m (field_index T w) false ≡ ltb 0 (length (values_of w (xs ++ (x ∷ []))))
      kept w l n = h.stood w l ∙ ap (ltb 0) (sym (count_other w x (other w n)))

      set_stood : k < length T → (w : List ℕ) → (l : field_index T w < length T) → Dec (field_index T w ≡ k) → get_or (set m k true) (field_index T w) false ≡ ltb 0 (length (values_of w (xs ++ (x ∷ []))))
      set_stood i w l (yes e) =
          let v : w ≡ x.name = index_one T w x.name l e in
          let c = count_one w x (ap (λ (u : List ℕ). same u x.name) v ∙ same_same x.name) in
          ap (λ (n : ℕ). get_or (set m k true) n false) e ∙ get_or-set_same m k true false (omega (arith, h.ten, h.room)) ∙ sym (lt-ltb 0 (length (values_of w (xs ++ (x ∷ [])))) c)
      set_stood i w l (no n) = get_or-set_other m k (field_index T w) true false n ∙ kept w l n

      go : Dec (k < length T) → Marks T (cond (ltb k (length T)) (set m k true) m) (xs ++ (x ∷ []))
      go (yes i) =
          rw (lt-ltb k (length T) i)
          (record {
            ten = length-set m k true ∙ h.ten;
            room = h.room;
            stood = λ w l. set_stood i w l (ℕ_discrete (field_index T w) k);
            past = λ j l. get_or-set_other m k j true false (λ e. omega arith) ∙ h.past j l;
          })
      go (no i) =
          let u : length T ≤ k = omega arith in
          rw (le-ltb k (length T) u) (record { ten = h.ten; room = h.room; stood = λ w l. kept w l (λ e. omega arith); past = λ j l. h.past j l })
