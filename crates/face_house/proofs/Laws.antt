-- Each way through the call.
use mathlib.Core.Path.{◌≡◌, refl, sym, ap, ap₂, ◌∙◌, subst}
use mathlib.Core.Bool.{Bool, true, false, cond, ◌&&◌}
use mathlib.Core.List.{List, [], ◌∷◌}
use Prim.Native.Nat.{ℕ, ◌≤◌}
use native.Mathlib.Omega.{arith}
use borrow.Author.Tests.{ne_eqb, eq-eqb}
use lib.Dec.{leb}
use lib.ListN.{length, set}
use lib.Seq.{sets}
use Rattle.written.specs.Sharing.{Side, Held, holds}
use Rattle.error.specs.declared.Refusal.{Refusal}
use Rattle.head_record.specs.declared.Header.{Header}
use Rattle.head_record_fits.specs.Fits.{record_fits}
use Rattle.head_words.specs.Words.{word_at, header_at}
use Rattle.load_choose.specs.declared.Which.TheVariants.{Duration}
use Rattle.load_choose.proofs.Words.{counts}
use Rattle.load_model.specs.Load.{Tables as Lent}
use Rattle.load_shared.specs.Beside.{rows_of}
use Rattle.load_bounds.specs.Bounds.{held_of, stands_at}
use Rattle.load_bounds.specs.declared.Held.{Held as Bounds}
use Rattle.load_bounds.proofs.Laws.{stands_at_lem}
use Rattle.load_voice.specs.Voice.{next_model, models_after}
use Rattle.house_types.specs.Types.{types_rule}
use Rattle.house_step.specs.Steps.{bounds_of, step_of}
use Rattle.house_voice.specs.Voice.{one_refused, all_judged, broken, voice_on, voice_from, voice_of}
use Rattle.house_voice.specs.declared.Broken.{Broken}
use Rattle.house_voice.proofs.Laws.{fits-judged}
use Rattle.face_record.specs.declared.Said.{Said}
use Rattle.face_open.specs.Answers.{open_said, open_words}
use Rattle.face_shared.specs.Answers.{held_at, side_at, standing}
use Rattle.face_rule.specs.declared.House.{House}
use Rattle.face_rule.specs.Answers.{house, refused_as, ruled_by}
use Rattle.face_house.specs.Answers.{After, untouched, said_by, bounds_numbers, held_by, opened_of, opening_by, opening_of, house_of, before_at, Opened, Is, Housed}
use Rattle.house_step.specs.declared.Judged.{Judged}
use Rattle.std.specs.Prelude.{Err, Ok, Result}

-- ---- the bounds

pub bounds_put : (l : Bounds) (t : List ℕ) {u : List ℕ} → u ≡ sets t 0 (l.questions ∷ l.patterns ∷ l.trees ∷ l.records ∷ []) → set u 4 l.values ≡ sets t 0 (bounds_numbers l)
bounds_put l t e = ap (λ (u : List ℕ). set u 4 l.values) e

-- ---- a file that opened

-- a voice whose models loaded has a record that fits
voice_fits : (x : Side) (s : List ℕ) (h : Header) (other : Held) (T : Lent) {b : Broken} {l : Bounds} → all_judged b l ≡ (voice_of x s h other T).answer → record_fits (length s) h ≡ true
unfolding voice_of voice_from models_after
voice_fits x s h other T {b} {l} e = go (step_of x s h Duration (held_of (bounds_of 0 0 0 0 0)) other T).answer refl e
  where
    go : (o : Result Judged Refusal) → (step_of x s h Duration (held_of (bounds_of 0 0 0 0 0)) other T).answer ≡ o
        → all_judged b l ≡ (voice_on (voice_from x s h other (models_after 16 s h (next_model s h Duration))) Duration (broken 0 0) (step_of x s h Duration (held_of (bounds_of 0 0 0 0 0)) other T).tables o).answer
        → record_fits (length s) h ≡ true
    go (Ok j) q e = fits-judged s h Duration x (held_of (bounds_of 0 0 0 0 0)) other T (sym q)
    go (Err z) q e = let u : ◌≡◌ {A = ℕ} 0 1 = cc in absurd (omega arith)

module _ (x : Side) (s w held : List ℕ) (other : Held) (T : Lent) {T₁ : Lent} (t : T₁ ≡ (voice_of x s (header_at w) other T).tables) where
  pub opened_refused : {z : Refusal} {m : ℕ} {r : House} → one_refused z m ≡ (voice_of x s (header_at w) other T).answer → r ≡ refused_as z m → Opened x s w held other T r held T₁
  unfolding opened_of
  opened_refused e k = (k ∙ ap (said_by s (header_at w)) e, ap (held_by held) e, t)

  module _ {b : Broken} {l : Bounds} (e : all_judged b l ≡ (voice_of x s (header_at w) other T).answer) where
    pub few_types : word_at w 22 ≤ 8
    few_types = (counts (length s) w (voice_fits x s (header_at w) other T e)).types

    pub opened-judged : {r : House} {held₁ : List ℕ} → held₁ ≡ sets held 0 (bounds_numbers l) → r ≡ ruled_by (types_rule s (header_at w)) b → Opened x s w held other T r held₁ T₁
    unfolding opened_of
    opened-judged i k = (k ∙ ap (said_by s (header_at w)) e, i ∙ ap (held_by held) e, t)

-- ---- 29, 24, or 0

module _ (d : ℕ) (mine other : Held) (q a t c v : ℕ) where
  pub before_held : holds mine ≡ true → 29 ≡ before_at d mine other q a t c v
  unfolding before_at
  before_held h = sym (ap (λ (b : Bool). cond b 29 (cond (leb d 1 && stands_at mine other q a t c v) 0 24)) h)

  pub before_by : holds mine ≡ false → (b : Bool) → (leb d 1 && stands_at mine other q a t c v) ≡ b → cond b 0 24 ≡ before_at d mine other q a t c v
  unfolding before_at
  before_by h b k = sym (ap₂ (λ (x y : Bool). cond x 29 (cond y 0 24)) h k)

-- ---- the call

module _ (s w : List ℕ) (d : ℕ) (held other : List ℕ) (T : Lent) where
  -- as the code judges it first
  module _ {mine theirs : Held} {n : ℕ} (i : mine ≡ held_at held) (j : theirs ≡ held_at other)
      (e : n ≡ before_at d mine theirs (length T.questions) (length T.patterns) (length T.trees) (length T.records) (length T.values)) where
    first_is : n ≡ cond (holds (held_at held)) 29 (cond (standing d (held_at held) (held_at other) (rows_of T)) 0 24)
    unfolding before_at
    first_is =
        e ∙ ap₂ (λ (m o : Held). before_at d m o (length T.questions) (length T.patterns) (length T.trees) (length T.records) (length T.values)) i j
        ∙ ap (λ (b : Bool). cond (holds (held_at held)) 29 (cond (leb d 1 && b) 0 24)) (stands_at_lem (held_at held) (held_at other) T.questions T.patterns T.trees T.records T.values)

    -- refused before the file is read
    pub house_first : ¬ (n ≡ 0) → {r : House} → r ≡ house n 0 0 0 → Housed s w d held other T r w held T
    unfolding house_of
    house_first h {r} k =
        subst (λ (x : After). Is x r w held T) (sym (go (holds (held_at held)) (standing d (held_at held) (held_at other) (rows_of T)) first_is)) (k, refl, refl, refl)
      where
        go : (b c : Bool) → n ≡ cond b 29 (cond c 0 24)
            → cond b (untouched (house 29 0 0 0) w held T) (cond c (opening_of (side_at d) s w held (held_at other) T) (untouched (house 24 0 0 0) w held T)) ≡ untouched (house n 0 0 0) w held T
        go true c q = ap (λ (m : ℕ). untouched (house m 0 0 0) w held T) (sym q)
        go false true q = absurd (h q)
        go false false q = ap (λ (m : ℕ). untouched (house m 0 0 0) w held T) (sym q)

    module _ (z : n ≡ 0) {o : Said} {w₁ : List ℕ} (f : o ≡ open_said s (length w)) (g : w₁ ≡ open_words s w) where
      opening_is : house_of s w d held other T ≡ opening_by (side_at d) s w₁ held (held_at other) T o
      unfolding house_of opening_of
      opening_is =
          go (holds (held_at held)) (standing d (held_at held) (held_at other) (rows_of T)) first_is
          ∙ ap₂ (λ (u : List ℕ) (o : Said). opening_by (side_at d) s u held (held_at other) T o) (sym g) (sym f)
        where
          go : (b c : Bool) → n ≡ cond b 29 (cond c 0 24)
              → cond b (untouched (house 29 0 0 0) w held T) (cond c (opening_of (side_at d) s w held (held_at other) T) (untouched (house 24 0 0 0) w held T)) ≡ opening_of (side_at d) s w held (held_at other) T
          go true c q = absurd (omega (arith, q, z))
          go false true q = refl
          go false false q = absurd (omega (arith, q, z))

      pub house_unopened : ¬ (o.number ≡ 0) → {r : House} → r ≡ house o.number o.place 0 0 → Housed s w d held other T r w₁ held T
      house_unopened h {r} k =
          subst (λ (x : After). Is x r w₁ held T)
          (sym (opening_is ∙ ap (λ (b : Bool). cond b (opened_of (side_at d) s w₁ held (held_at other) T) (untouched (house o.number o.place 0 0) w₁ held T)) (ne_eqb o.number 0 h)))
          (k, refl, refl, refl)

      pub house-opened : o.number ≡ 0 → {r : House} {held₁ : List ℕ} {T₁ : Lent} → Opened (side_at d) s w₁ held theirs T r held₁ T₁ → Housed s w d held other T r w₁ held₁ T₁
      unfolding opened_of
      house-opened h {r} {held₁} {T₁} k =
          let y = subst (λ (m : Held). Opened (side_at d) s w₁ held m T r held₁ T₁) j k in
          subst (λ (x : After). Is x r w₁ held₁ T₁)
          (sym (opening_is ∙ ap (λ (b : Bool). cond b (opened_of (side_at d) s w₁ held (held_at other) T) (untouched (house o.number o.place 0 0) w₁ held T)) (eq-eqb o.number 0 h)))
          (y.0, refl, y.1, y.2)
