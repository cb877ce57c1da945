-- A load is refused for what is wrong alone: whatever number it answers, file, record and tables are wrong in just that way, and in none that comes before it. A load that is not
-- refused has stored the model (`load-Stored`), so nothing is left open. Assumes that the file is a slice (its length below 2^63, its elements bytes), and that the record's arrays
-- have their lengths.
use Rattle.tree_survey.specs.declared.SurveyError.TheVariants as fault
use Rattle.tree_survey.specs.declared.SurveyError.{SurveyError}
use Rattle.tree_survey.specs.declared.Survey.{Survey}
use Rattle.load_range.proofs.Same.{same_bounds}
use mathlib.Core.Path.{◌≡◌, refl, sym, ap, ap₂, ◌∙◌, subst}
use mathlib.Core.Bool.{Bool, true, false, cond, ◌&&◌}
use mathlib.Core.List.{List}
use Prim.Native.Nat.{ℕ, ◌+◌, ◌^◌, ◌≤◌, ◌<◌}
use native.Mathlib.Omega.{arith}
use borrow.Author.Tests.{leb-true, le-leb}
use lib.Dec.{leb}
use lib.ListN.{length, take, drop}
use Rattle.written.specs.Tables.{Negative}
use Rattle.written.specs.Blocks as written-block
use Rattle.laws.specs.Steps.{Ending, done_at, broken_at}
use Rattle.laws.specs.Totals.{total}
use Rattle.error.specs.declared.Refusal.{Refusal}
use Rattle.error.specs.declared.Refusal.TheVariants as refusal
use Rattle.head_record.specs.declared.Header.{Header}
use Rattle.tree_question.specs.Questions.{questions_at}
use Rattle.tree_survey.specs.Survey.{survey_at}
use Rattle.tree_survey.proofs.Said.{negative_said}
use Rattle.pdf_blocks.specs.Values.{words_at, block_at}
use Rattle.pdf_blocks.proofs.Joined.{Small, block_read}
use Rattle.load_choose.specs.Chosen.{chosen, chosen_of}
use Rattle.load_range.specs.Ranges.{bounds, within_of}
use Rattle.load_choose.specs.Entries.{Arrays, Choice}
use Rattle.load_choose.specs.declared.Which.{Which}
use Rattle.load_choose.proofs.Joined.{chosen_so}
use Rattle.load_text.specs.Text.{end_at}
use Rattle.load_plan.specs.Plans.{read_as, placed, text_of, entries_for, entries_of, plan_for, block_in, block_of, plan_in, plan_of, data_of, planned_for, planned}
use Rattle.load_plan.specs.declared.Plan.{Plan}
use Rattle.load_plan.proofs.Laws.{Was, was}
use Rattle.load_model.specs.Load.{Tables, room_in, filled, untouched, load_for, load_of}
use Rattle.shown_breaks.proofs.Place.{broken_breaks}
use Rattle.shown_load.specs.Refused.{Within, NotLoaded, not_chosen, text_outside, no_text, negative_state, block_outside, no_block, no_room, not_linked}
use Rattle.shown_load.proofs.Texts.{small_take, small_drop, counted_whole, spoken, natural, counted}
use Rattle.shown_load.proofs.Says as says
use Rattle.load_range.specs.declared.Bounds.{Bounds}
use Rattle.load_choose.specs.declared.Chosen.{Chosen}
use Rattle.load_plan.specs.declared.Text.{Text}
use Rattle.std.specs.Prelude.{Err, None, Ok, Some, Option, Result}

-- ---- a range

pub within_is : (a b n : ℕ) {x y : ℕ} → within_of a b n ≡ bounds x y → (a ≤ b + 1) × (b + 1 ≤ n) × (x ≡ a) × (y ≡ b + 1)
unfolding within_of
within_is a b n {x} {y} e = go (leb a (b + 1)) refl (leb (b + 1) n) refl e
  where
    go : (c : Bool) → leb a (b + 1) ≡ c → (d : Bool) → leb (b + 1) n ≡ d → cond (c && d) (bounds a (b + 1)) None ≡ bounds x y → (a ≤ b + 1) × (b + 1 ≤ n) × (x ≡ a) × (y ≡ b + 1)
    go true c true d e = (leb-true _ _ c, leb-true _ _ d, sym (same_bounds e).0, sym (same_bounds e).1)
    go true c false d e = let u : ◌≡◌ {A = ℕ} 0 1 = cc in absurd (omega arith)
    go false c k d e = let u : ◌≡◌ {A = ℕ} 0 1 = cc in absurd (omega arith)

pub outside_is : (a b n : ℕ) → within_of a b n ≡ None → ¬ ((a ≤ b + 1) × (b + 1 ≤ n))
unfolding within_of
outside_is a b n e h = go (cond (leb a (b + 1) && leb (b + 1) n) (bounds a (b + 1)) None) e (rw (le-leb _ _ h.0, le-leb _ _ h.1) refl)
  where
    go : (z : Option Bounds) → z ≡ None → z ≡ bounds a (b + 1) → ⊥
    go z p q = let k : None ≡ bounds a (b + 1) = sym p ∙ q in let u : ◌≡◌ {A = ℕ} 0 1 = cc in omega arith

-- ---- the tree text

module _ (s : List ℕ) (h : Header) (which : Which) (short : length s < 2 ^ 63) (small : Small s) (arrays : Arrays h) (L : Tables) where
  abbrev Not : Refusal → Type 0
  Not = NotLoaded s h which L

  text_not : {u v x y k : ℕ} → Choice s h which (chosen u v x y k) → Within u v (data_of s h) → {z : Refusal} → text_of (take (v + 1) (data_of s h)) u ≡ Err z → Not z
  unfolding text_of
  text_not {u} {v} asked inside {z} e = go (questions_at S u).ending refl (survey_at S u) refl e
    where
      S : List ℕ
      S = take (v + 1) (data_of s h)

      silent : {k : ℕ} → survey_at S u ≡ Err (fault.Broken k) → refusal.Text k ≡ z → Not z
      silent {k} m e = subst Not e (no_text asked inside (broken_breaks S u k m))

      negative : survey_at S u ≡ (Err fault.Negative) → refusal.State ≡ z → Not z
      negative m e = let k = negative_said u m in subst Not e (negative_state asked inside k.2 k.3)

      go : (n : Ending) → (questions_at S u).ending ≡ n → (o : Result Survey SurveyError) → survey_at S u ≡ o → placed n o ≡ Err z → Not z
      go (done_at f) n (Ok r) m e = let u : ◌≡◌ {A = ℕ} 0 1 = cc in absurd (omega arith)
      go (broken_at f) n (Ok r) m e = absurd (counted_whole S u m n)
      go (done_at f) n (Err (fault.Broken k)) m e = silent m (let u : refusal.Text k ≡ z = cc in u)
      go (broken_at f) n (Err (fault.Broken k)) m e = silent m (let u : refusal.Text k ≡ z = cc in u)
      go (done_at f) n (Err fault.Negative) m e = negative m (let u : refusal.State ≡ z = cc in u)
      go (broken_at f) n (Err fault.Negative) m e = negative m (let u : refusal.State ≡ z = cc in u)

  -- ---- the block

  module _ {u v x y k : ℕ} (asked : Choice s h which (chosen u v x y k)) (inside : Within u v (data_of s h)) {f q p t r l : ℕ}
      (read : read_as f q p t r l ≡ text_of (take (v + 1) (data_of s h)) u) where
    abbrev S : List ℕ
    S = take (v + 1) (data_of s h)

    known : Was S u f q p t r l
    known = was S u read

    block_small : (c : ℕ) → Small (take c (data_of s h))
    block_small c = small_take c (data_of s h) (small_take h.data_len (drop h.data_start s) (small_drop h.data_start s small))

    entries_not : (b c : ℕ) → b ≡ x → c ≡ y + 1 → Within x y (data_of s h) → {z : Refusal} → entries_of (take c (data_of s h)) (plan_for u (v + 1) f q p t r l k b c) ≡ Err z → Not z
    unfolding entries_of
    entries_not b c i j w {z} e = go (block_at t k (take c (data_of s h)) b) refl e
      where
        at_own : block_at t k (take c (data_of s h)) b ≡ block_at (length (spoken S u known).text.trees) k (take (y + 1) (data_of s h)) x
        at_own = ap₂ (λ (m n : ℕ). block_at m k (take n (data_of s h)) b) (counted S u known).1 j ∙ ap (block_at (length (spoken S u known).text.trees) k (take (y + 1) (data_of s h))) i

        go : (o : Option ℕ) → block_at t k (take c (data_of s h)) b ≡ o → entries_for (plan_for u (v + 1) f q p t r l k b c) o ≡ Err z → Not z
        go (Some n) m e = let u : ◌≡◌ {A = ℕ} 0 1 = cc in absurd (omega arith)
        go None m e =
            let g : refusal.Block ≡ z = cc in
            subst Not g
            (no_block asked inside (spoken S u known).says (natural S u known) w
            (λ rows vs a.
            let o = (block_read (take (y + 1) (data_of s h)) (block_small (y + 1)) (length (spoken S u known).text.trees) k x a).0 in
            let e : Some (written-block.total (words_at (take (y + 1) (data_of s h)) x (length (spoken S u known).text.trees))) ≡ None = o ∙ sym at_own ∙ m in
            let n : ◌≡◌ {A = ℕ} 0 1 = cc in
            omega arith))

    block_not : (o : Option Bounds) → within_of x y (length (data_of s h)) ≡ o → {z : Refusal} → block_in (data_of s h) u (v + 1) f q p t r l k o ≡ Err z → Not z
    block_not (Some t) m e = let record { start = b; end = c } = t in let w = within_is x y (length (data_of s h)) m in entries_not b c w.2 w.3 (w.0, w.1) e
    block_not None m {z} e =
        let g : refusal.Range ≡ z = cc in
        subst Not g (block_outside asked inside (spoken S u known).says (natural S u known) (outside_is x y (length (data_of s h)) m))

  -- ---- before the tables are looked at

  plan_not : {u v x y k : ℕ} → Choice s h which (chosen u v x y k) → {z : Refusal} → plan_of (data_of s h) u v x y k ≡ Err z → Not z
  unfolding plan_of
  plan_not {u} {v} {x} {y} {k} asked {z} e = go (within_of u v (length D)) refl e
    where
      D : List ℕ
      D = data_of s h

      in_text : Within u v D → (o : Result Text Refusal) → text_of (take (v + 1) D) u ≡ o → block_of D u (v + 1) o x y k ≡ Err z → Not z
      in_text w (Ok b) m e = block_not asked w (sym m) (within_of x y (length D)) refl e
      in_text w (Err r) m e = let g : r ≡ z = cc in subst Not g (text_not asked w m)

      go : (o : Option Bounds) → within_of u v (length D) ≡ o → plan_in D x y k o ≡ Err z → Not z
      go (Some b) m e =
          let w = within_is u v (length D) m in
          in_text (w.0, w.1) (text_of (take (v + 1) D) u) refl
          (ap₂ (λ (i j : ℕ). block_of D i j (text_of (take j D) i) x y k) (sym w.2) (sym w.3) ∙ e)
      go None m e = let g : refusal.Range ≡ z = cc in subst Not g (text_outside asked (outside_is u v (length D) m))

  pub needs_not : {z : Refusal} → planned s h which ≡ Err z → Not z
  unfolding planned
  needs_not {z} e = go (chosen_of s h which) (chosen_so s h arrays which) e
    where
      go : (c : Result Chosen Refusal) → Choice s h which c → planned_for (data_of s h) c ≡ Err z → Not z
      go (Ok m) c e = plan_not c e
      go (Err r) c e = let g : r ≡ z = cc in subst Not g (not_chosen c)

-- ---- every load

pub load_not : (s : List ℕ) (h : Header) (which : Which) → length s < 2 ^ 63 → Small s → Arrays h → (L : Tables) {z : Refusal}
    → (load_of s h which L).answer ≡ Err z → NotLoaded s h which L z
unfolding load_of filled
load_not s h which short small arrays L {z} e = go (planned s h which) refl e
  where
    N : Refusal → Type 0
    N = NotLoaded s h which L

    room : (p : Plan) → Ok p ≡ planned s h which → (c : Bool) → room_in p L ≡ c
        → (cond c (filled (data_of s h) p L) (untouched refusal.Room L)).answer ≡ Err z → N z
    room p m true c e = not_linked (says.chose s h which short small p m) c (says.refused s h which short small L p m (end_at (take p.text_end (data_of s h)) p.text p.first) refl z e)
    room p m false c e = let g : refusal.Room ≡ z = cc in subst N g (no_room (says.chose s h which short small p m) c)

    go : (o : Result Plan Refusal) → planned s h which ≡ o → (load_for (data_of s h) o L).answer ≡ Err z → N z
    go (Ok p) m e = room p (sym m) (room_in p L) refl e
    go (Err x) m e = let g : x ≡ z = cc in subst N g (needs_not s h which short small arrays L m)
