-- The laws of going over a voice's models: the models that are left, from the state that the loop is in, end as all of them do from the first.
use mathlib.Core.Path.{◌≡◌, refl, sym, ap, ap₂, ◌∙◌}
use mathlib.Core.Bool.{Bool, true, false, cond}
use mathlib.Core.List.{List, [], ◌∷◌}
use Prim.Native.Nat.{ℕ, zero, suc, ◌-◌, ◌≤◌, ◌<◌}
use native.Mathlib.Omega.{arith}
use borrow.Author.Tests.{ne_eqb, eq-eqb}
use lib.Dec.{eqb}
use lib.ListN.{length}
use Rattle.written.specs.Sharing.{Side, Held, nothing, questions, patterns, trees, records, values}
use Rattle.error.specs.declared.Refusal.{Refusal}
use Rattle.error.specs.declared.Refusal.TheVariants as refusal
use Rattle.head_record.specs.declared.Header.{Header}
use Rattle.head_record_fits.specs.Fits.{record_fits}
use Rattle.load_choose.specs.Chosen.{asked, chosen_of}
use Rattle.load_choose.specs.declared.Which.{Which}
use Rattle.load_choose.specs.declared.Which.TheVariants.{Duration}
use Rattle.load_plan.specs.Plans.{data_of, planned_for, planned}
use Rattle.load_plan.specs.declared.Plan.{Plan}
use Rattle.load_model.specs.Load.{Tables as Lent}
use Rattle.load_bounds.specs.Bounds.{held_of}
use Rattle.load_bounds.specs.declared.Held.{Held as Bounds}
use Rattle.load_voice.specs.Voice.{next_model, models_after, models_of}
use Rattle.trail_voice.specs.Voice.{which_number}
use Rattle.trail_voice.proofs.Laws.{At, first_at, next_at, last_one, then_ones}
use Rattle.house_step.specs.Steps.{judged_as, bounds_of, step_for, emptied, step_of}
use Rattle.house_voice.specs.Voice.{one_refused, all_judged, After, broken, first_of, voice_on, voice_from, voice_of, JudgesVoice}
use Rattle.house_voice.specs.declared.Broken.{Broken}
use Rattle.std.specs.Prelude.{Err, None, Ok, Some, Result}

-- ---- the first broken rule

module _ (b : Broken) (n m : ℕ) where
  pub first_kept : ¬ (b.rule ≡ 0) → b ≡ first_of b n m
  unfolding first_of
  first_kept h = sym (ap (λ (c : Bool). cond c (cond (eqb n 0) b (broken n m)) b) (ne_eqb b.rule 0 h))

  pub first_none : b.rule ≡ 0 → n ≡ 0 → b ≡ first_of b n m
  unfolding first_of
  first_none h e = sym (ap₂ (λ (c d : Bool). cond c (cond d b (broken n m)) b) (eq-eqb b.rule 0 h) (eq-eqb n 0 e))

  pub first_new : b.rule ≡ 0 → ¬ (n ≡ 0) → broken n m ≡ first_of b n m
  unfolding first_of
  first_new h e = sym (ap₂ (λ (c d : Bool). cond c (cond d b (broken n m)) b) (eq-eqb b.rule 0 h) (ne_eqb n 0 e))

-- ---- a model that is loaded is of a record that fits

module _ (s : List ℕ) (h : Header) (w : Which) where
  fits-planned : {p : Plan} → Ok p ≡ planned s h w → record_fits (length s) h ≡ true
  unfolding planned chosen_of
  fits-planned {p} e = go (record_fits (length s) h) refl e
    where
      go : (b : Bool) → record_fits (length s) h ≡ b → Ok p ≡ planned_for (data_of s h) (cond b (asked s h w) (Err refusal.Range)) → record_fits (length s) h ≡ true
      go true r e = r
      go false r e = let u : ◌≡◌ {A = ℕ} 0 1 = cc in absurd (omega arith)

  pub fits-judged : (x : Side) (mine other : Held) (T : Lent) {n : ℕ} {l : Bounds} → judged_as n l ≡ (step_of x s h w mine other T).answer → record_fits (length s) h ≡ true
  unfolding step_of
  fits-judged x mine other T {n} {l} e = go (planned s h w) refl e
    where
      go : (o : Result Plan Refusal) → planned s h w ≡ o → judged_as n l ≡ (step_for x other (data_of s h) o (emptied x mine other T)).answer → record_fits (length s) h ≡ true
      go (Ok p) q e = fits-planned (sym q)
      go (Err z) q e = let u : ◌≡◌ {A = ℕ} 0 1 = cc in absurd (omega arith)

-- ---- the loop

-- tables keep their lengths
pub record Long (T₀ T : Lent) : Type 0 where
  pub questions : length T.questions ≡ length T₀.questions
  pub patterns : length T.patterns ≡ length T₀.patterns
  pub trees : length T.trees ≡ length T₀.trees
  pub records : length T.records ≡ length T₀.records
  pub values : length T.values ≡ length T₀.values
  pub work : length T.work ≡ length T₀.work

pub long_none : (T : Lent) → Long T T
long_none T = record { questions = refl; patterns = refl; trees = refl; records = refl; values = refl; work = refl }

-- the bounds of a task that holds nothing
nobody_is : {l : Bounds} → held_of l ≡ nothing → l ≡ bounds_of 0 0 0 0 0
nobody_is e i = bounds_of (e i questions) (e i patterns) (e i trees) (e i records) (e i values)

module _ (x : Side) (s : List ℕ) (h : Header) (other : Held) where
  pub record Judging (T₀ T : Lent) (w : Which) (b : Broken) (l : Bounds) : Type 0 where
    pub left : ℕ
    pub at : At s h w left
    pub low : which_number w ≤ 16
    pub same : voice_from x s h other (models_after left s h (Some w)) b l T ≡ voice_of x s h other T₀
    pub long : Long T₀ T

  pub judging_none : (T : Lent) {l : Bounds} → held_of l ≡ nothing → Judging T T Duration (broken 0 0) l
  unfolding voice_of
  judging_none T e =
      record { left = 17; at = first_at s h; low = omega arith; same = ap (λ (l : Bounds). voice_from x s h other (models_of s h) (broken 0 0) l T) (nobody_is e); long = long_none T }

  module _ {T₀ T : Lent} {w : Which} {b : Broken} {l : Bounds} (c : Judging T₀ T w b l) {T₁ : Lent} (t : T₁ ≡ (step_of x s h w (held_of l) other T).tables) where
    refused_some : (m : ℕ) → 0 < m → {z : Refusal} → Err z ≡ (step_of x s h w (held_of l) other T).answer
        → record { answer = one_refused z (which_number w); tables = T₁ } ≡ voice_from x s h other (models_after m s h (Some w)) b l T
    unfolding models_after voice_from
    refused_some zero k e = absurd (omega arith)
    refused_some (suc m) k e = ap₂ (voice_on (voice_from x s h other (models_after m s h (next_model s h w))) w b) t e

    pub voice_refused : {z : Refusal} {m : ℕ} → Err z ≡ (step_of x s h w (held_of l) other T).answer → m ≡ which_number w → JudgesVoice x s h other T₀ (one_refused z m) T₁
    voice_refused {z} e k =
        let y = refused_some c.left (omega (arith, c.at.enough, c.low)) e ∙ c.same in
        (ap (one_refused z) k ∙ ap (λ (a : After). a.answer) y, ap (λ (a : After). a.tables) y)

    module _ {n m : ℕ} {l₁ : Bounds} {b₁ : Broken} (e : judged_as n l₁ ≡ (step_of x s h w (held_of l) other T).answer) (k : m ≡ which_number w) (f : b₁ ≡ first_of b n m) where
      pub fits_so : record_fits (length s) h ≡ true
      fits_so = fits-judged s h w x (held_of l) other T e

      -- the rest, from the state after this model
      rest_is : (ws : List Which) → voice_from x s h other ws b₁ l₁ T₁ ≡ voice_from x s h other (w ∷ ws) b l T
      unfolding voice_from
      rest_is ws =
          ap (λ (b : Broken). voice_from x s h other ws b l₁ T₁) (f ∙ ap (first_of b n) k)
          ∙ ap₂ (voice_on (voice_from x s h other ws) w b) t e

      pub judging_more : {v : Which} → Some v ≡ next_model s h w → Long T₀ T₁ → Judging T₀ T₁ v b₁ l₁
      judging_more {v} g j =
          let z = next_at s h fits_so c.at g in
          record {
            left = c.left - 1;
            at = z.0;
            low = z.2;
            same =
                rest_is (models_after (c.left - 1) s h (Some v)) ∙ sym (ap (λ (ws : List Which). voice_from x s h other ws b l T) (then_ones s h fits_so c.at g)) ∙ c.same;
            long = j;
          }

      pub goes_up : {v : Which} → Some v ≡ next_model s h w → 17 - which_number v < 17 - which_number w
      goes_up g = let z = next_at s h fits_so c.at g in omega (arith, z.1, z.2)

      pub voice_judged : None ≡ next_model s h w → JudgesVoice x s h other T₀ (all_judged b₁ l₁) T₁
      unfolding voice_from
      voice_judged g =
          let y = rest_is [] ∙ sym (ap (λ (ws : List Which). voice_from x s h other ws b l T) (last_one s h fits_so c.at g)) ∙ c.same in
          (ap (λ (a : After). a.answer) y, ap (λ (a : After). a.tables) y)
