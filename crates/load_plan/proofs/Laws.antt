-- Each way through the stages; and what a plan says of the text and of the block.
use mathlib.Core.Path.{◌≡◌, refl, sym, ap, ap₂, ◌∙◌, subst}
use mathlib.Core.Bool.{Bool, true, false, cond, ◌&&◌}
use mathlib.Core.List.{List}
use Prim.Native.Nat.{ℕ, ◌+◌, ◌≤◌}
use native.Mathlib.Omega.{arith}
use lib.Dec.{leb}
use lib.ListN.{length, take}
use lib.Seq.{length-take-le}
use borrow.Author.Tests.{leb-true}
use Rattle.tree_survey.specs.declared.SurveyError.TheVariants as fault
use Rattle.tree_survey.specs.declared.SurveyError.{SurveyError}
use Rattle.tree_survey.specs.declared.Survey.{Survey}
use Rattle.text_parts.specs.Parts.{read_to}
use Rattle.laws.specs.Steps.{Ending, done_at, broken_at}
use Rattle.laws.specs.Totals.{total, largest, any_of}
use Rattle.error.specs.declared.Refusal.TheVariants as refusal
use Rattle.tree_question.specs.Questions.{questions_at}
use Rattle.tree_survey_questions.specs.Counts.{pattern_count, questions_counted, questions_of}
use Rattle.tree_body.specs.Trees.{trees_at}
use Rattle.written.specs.Said.{QuestionPlace}
use Rattle.tree_survey.specs.Survey as tree-survey
use Rattle.tree_survey.specs.Survey.{text_read, text_at, tree_negative, tree_records, tree_lines, survey_ended, survey_of, survey_at, counts_of}
use Rattle.tree_survey.proofs.Whole.{asked, not_asked}
use Rattle.error.specs.declared.Refusal.{Refusal}
use Rattle.head_record.specs.declared.Header.{Header}
use Rattle.pdf_blocks.specs.Values.{block_at}
use Rattle.load_choose.specs.Chosen.{chosen_of}
use Rattle.load_range.specs.Ranges.{bounds, within_of}
use Rattle.load_choose.specs.declared.Which.{Which}
use Rattle.load_plan.specs.declared.Plan.{Plan}
use Rattle.load_range.proofs.Same.{same_bounds}
use Rattle.load_plan.proofs.Same.{same_read}
use Rattle.load_plan.specs.Plans.{read_as, placed, text_of, Sound, with_entries, entries_for, entries_of, plan_for, block_in, block_of, plan_in, plan_of, data_of, planned_for, planned}
use Rattle.load_range.specs.declared.Bounds.{Bounds}
use Rattle.load_choose.specs.declared.Chosen.{Chosen}
use Rattle.load_plan.specs.declared.Text.{Text}
use Rattle.std.specs.Prelude.{Err, None, Ok, Some, Option, Result}

module _ (s : List ℕ) (i : ℕ) where
  module _ {q p f : ℕ} (h : Ok (read_to (questions_of q p) f) ≡ questions_counted 0 0 (questions_at s i)) where
    done : (questions_at s i).ending ≡ done_at f
    done = (asked (questions_at s i) q p f h).done

    pub text_read_lem : {t r l : ℕ} → Ok (counts_of q p t r l) ≡ survey_at s i → read_as f q p t r l ≡ text_of s i
    unfolding text_of
    text_read_lem v = ap₂ placed (sym done) v

    pub text_state : (Err fault.Negative) ≡ survey_at s i → Err refusal.State ≡ text_of s i
    unfolding text_of
    text_state v = ap₂ placed (sym done) v

    pub text_broken : {k : ℕ} → Err (fault.Broken k) ≡ survey_at s i → Err (refusal.Text k) ≡ text_of s i
    unfolding text_of
    text_broken v = ap₂ placed (sym done) v

  pub text_none : {k : ℕ} → Err k ≡ questions_counted 0 0 (questions_at s i) → Err (fault.Broken k) ≡ survey_at s i → Err (refusal.Text k) ≡ text_of s i
  unfolding text_of
  text_none {k} h v = ap₂ placed (sym (not_asked (questions_at s i) k h)) v

  -- ---- what is known of a text that was read

  pub record Was (f q p t r l : ℕ) : Type 0 where
    pub begins : (questions_at s i).ending ≡ done_at f
    pub ends : ℕ
    pub through : (trees_at s f).ending ≡ done_at ends
    pub survey : survey_at s i ≡ Ok (counts_of q p t r l)
    pub asked : q ≡ length (questions_at s i).items
    pub patterns : p ≡ total pattern_count (questions_at s i).items
    pub trees : t ≡ length (trees_at s f).items
    pub records : r ≡ total tree_records (trees_at s f).items
    pub lines : l ≡ largest tree_lines 0 (trees_at s f).items

  pub was : {f q p t r l : ℕ} → read_as f q p t r l ≡ text_of s i → Was f q p t r l
  unfolding text_of survey_at survey_of text_at
  was {f} {q} {p} {t} {r} {l} h = go (questions_at s i).ending refl h
    where
      qs : List QuestionPlace
      qs = (questions_at s i).items

      go : (d : Ending) → (questions_at s i).ending ≡ d → read_as f q p t r l ≡ placed d (survey_of (text_read s qs d)) → Was f q p t r l
      go (broken_at x) e h = let u : ◌≡◌ {A = ℕ} 0 1 = cc in absurd (omega arith)
      go (done_at x) e h = grown (trees_at s x).ending refl h
        where
          T : tree-survey.Text
          T = text_read s qs (done_at x)

          grown : (d : Ending) → (trees_at s x).ending ≡ d → read_as f q p t r l ≡ placed (done_at x) (survey_ended T d) → Was f q p t r l
          grown (broken_at y) e' h = let u : ◌≡◌ {A = ℕ} 0 1 = cc in absurd (omega arith)
          grown (done_at y) e' h = pick (any_of tree_negative false (trees_at s x).items) refl h
            where
              C : Result Survey SurveyError
              C = Ok (counts_of (length qs) (total pattern_count qs) (length (trees_at s x).items) (total tree_records (trees_at s x).items) (largest tree_lines 0 (trees_at s x).items))

              pick : (b : Bool) → any_of tree_negative false (trees_at s x).items ≡ b → read_as f q p t r l ≡ placed (done_at x) (cond b (Err fault.Negative) C) → Was f q p t r l
              pick true n h = let u : ◌≡◌ {A = ℕ} 0 1 = cc in absurd (omega arith)
              pick false n h =
                  let same = same_read h in
                  let a : f ≡ x = same.0 in
                  let b : q ≡ length qs = same.1 in
                  let c : p ≡ total pattern_count qs = same.2 in
                  let t' : t ≡ length (trees_at s x).items = same.3 in
                  let r' : r ≡ total tree_records (trees_at s x).items = same.4 in
                  let l' : l ≡ largest tree_lines 0 (trees_at s x).items = same.5 in
                  record {
                    begins = e ∙ ap done_at (sym a);
                    ends = y;
                    through = ap (λ (k : ℕ). (trees_at s k).ending) a ∙ e';
                    survey =
                        ap (λ (d : Ending). survey_of (text_read s qs d)) e ∙ ap (survey_ended T) e' ∙ ap (λ (b : Bool). cond b (Err fault.Negative) C) n
                        ∙ sym (λ z. Ok (counts_of (b z) (c z) (t' z) (r' z) (l' z)));
                    asked = b;
                    patterns = c;
                    trees = t' ∙ ap (λ (k : ℕ). length (trees_at s k).items) (sym a);
                    records = r' ∙ ap (λ (k : ℕ). total tree_records (trees_at s k).items) (sym a);
                    lines = l' ∙ ap (λ (k : ℕ). largest tree_lines 0 (trees_at s k).items) (sym a);
                  }

-- ---- what is known of a plan, in the data d

within_in : (x y n : ℕ) {b c : ℕ} → bounds b c ≡ within_of x y n → (b ≤ c) × (c ≤ n)
unfolding within_of
within_in x y n {b} {c} h = go (leb x (y + 1)) refl (leb (y + 1) n) refl h
  where
    go : (l : Bool) → leb x (y + 1) ≡ l → (m : Bool) → leb (y + 1) n ≡ m → bounds b c ≡ cond (l && m) (bounds x (y + 1)) None → (b ≤ c) × (c ≤ n)
    go true e true k h =
        let same = same_bounds h in
        let u = same.0 in
        let v = same.1 in
        (omega (arith, leb-true x (y + 1) e), omega (arith, leb-true (y + 1) n k))
    go true e false k h = let z : ◌≡◌ {A = ℕ} 0 1 = cc in absurd (omega arith)
    go false e m k h = let z : ◌≡◌ {A = ℕ} 0 1 = cc in absurd (omega arith)

module _ (d : List ℕ) (p : Plan) where
  entries_sound : (z : List ℕ) (o : Plan) → Ok p ≡ entries_of z o → (p ≡ with_entries o p.entries) × (block_at o.trees o.width z o.block ≡ Some p.entries)
  unfolding entries_of
  entries_sound z o h = go (block_at o.trees o.width z o.block) refl h
    where
      go : (b : Option ℕ) → block_at o.trees o.width z o.block ≡ b → Ok p ≡ entries_for o b → (p ≡ with_entries o p.entries) × (block_at o.trees o.width z o.block ≡ Some p.entries)
      go (Some n) e h =
          let u : p ≡ with_entries o n = cc in
          (u ∙ ap (with_entries o) (sym (ap (λ (p : Plan). p.entries) u)), e ∙ ap Some (sym (ap (λ (p : Plan). p.entries) u)))
      go None e h = let u : ◌≡◌ {A = ℕ} 0 1 = cc in absurd (omega arith)

  pub plan_sound : (u v x y w : ℕ) → Ok p ≡ plan_of d u v x y w → Sound d p
  unfolding plan_of
  plan_sound u v x y w h = go (within_of u v (length d)) h
    where
      in_block : (a e f q r n m l : ℕ) → read_as f q r n m l ≡ text_of (take e d) a → (b : Option Bounds) → b ≡ within_of x y (length d) → Ok p ≡ block_in d a e f q r n m l w b → Sound d p
      in_block a e f q r n m l t None k h = let z : ◌≡◌ {A = ℕ} 0 1 = cc in absurd (omega arith)
      in_block a e f q r n m l t (Some p) k h =
          let record { start = b; end = c } = p in
          let i = within_in x y (length d) k in
          let z = entries_sound (take c d) (plan_for a e f q r n m l w b c) h in
          subst (Sound d) (sym z.0) (record { text = t; begins = omega (arith, i.0, i.1, length-take-le c d i.1); block = z.1 })

      in_text : (a e : ℕ) (t : Result Text Refusal) → t ≡ text_of (take e d) a → Ok p ≡ block_of d a e t x y w → Sound d p
      in_text a e (Err r) k h = let z : ◌≡◌ {A = ℕ} 0 1 = cc in absurd (omega arith)
      in_text a e (Ok t) k h = let record { first = f; questions = q; patterns = r; trees = n; records = m; lines = l } = t in in_block a e f q r n m l k (within_of x y (length d)) refl h

      go : (b : Option Bounds) → Ok p ≡ plan_in d x y w b → Sound d p
      go None h = let z : ◌≡◌ {A = ℕ} 0 1 = cc in absurd (omega arith)
      go (Some b) h = let record { start = a; end = e } = b in in_text a e (text_of (take e d) a) refl h

pub needs_sound : (s : List ℕ) (h : Header) (which : Which) (p : Plan) → Ok p ≡ planned s h which → Sound (data_of s h) p
unfolding planned
needs_sound s h which p k = go (chosen_of s h which) k
  where
    go : (c : Result Chosen Refusal) → Ok p ≡ planned_for (data_of s h) c → Sound (data_of s h) p
    go (Err r) k = let z : ◌≡◌ {A = ℕ} 0 1 = cc in absurd (omega arith)
    go (Ok m) k = let record { tree_from = u; tree_to = v; pdf_from = x; pdf_to = y; width = w } = m in plan_sound (data_of s h) p u v x y w k
