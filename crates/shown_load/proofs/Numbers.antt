-- Demand 1 of a load, by number: whatever is refused with 1 to 20 leaves everything lent as before; 21 to 23 leave each slice zero at every index; no
-- other number comes.
use mathlib.Core.Path.{◌≡◌, refl, sym, ap, ◌∙◌, subst}
use mathlib.Core.Bool.{Bool, true, false, cond, ◌&&◌}
use mathlib.Core.List.{List}
use Prim.Native.Nat.{ℕ, ◌*◌, ◌≤◌, ◌<◌}
use native.Mathlib.Omega.{arith}
use lib.Dec.{ltb}
use lib.IntN.{pos}
use lib.ListN.{length, get_or, replicate, take}
use Rattle.tree_survey.specs.declared.SurveyError.TheVariants as fault
use Rattle.tree_survey.specs.declared.SurveyError.{SurveyError}
use Rattle.tree_survey.specs.declared.Survey.{Survey}
use Rattle.error.specs.Numbers.{fault_number, number_of}
use Rattle.error.specs.declared.LinkFault.{LinkFault}
use Rattle.error.specs.declared.LinkFault.TheVariants.{NodeRef, QuestionRef, LoneNode}
use Rattle.error.specs.declared.Refusal.{Refusal}
use Rattle.error.specs.declared.Refusal.TheVariants as refusal
use Rattle.head_record.specs.declared.Header.{Header}
use Rattle.head_record.specs.declared.Range.{Range}
use Rattle.head_record.specs.declared.StreamData.{StreamData}
use Rattle.head_record.specs.declared.PositionData.{PositionData}
use Rattle.head_record.specs.Empty.{no_span}
use Rattle.text_parts.specs.Parts.{bytes_of}
use Rattle.head_record_fits.specs.Fits.{record_fits}
use Rattle.tree_survey.specs.Survey.{survey_at}
use Rattle.laws.specs.Steps.{Ending, done_at, broken_at}
use Rattle.tree_question.specs.Questions.{questions_at}
use Rattle.pdf_blocks.specs.Values.{block_at}
use Rattle.load_choose.specs.Chosen.{chosen, model_of, stream_model, gv_model, position_named, stream_named, with_position, with_stream, named, numbered, asked, chosen_of}
use Rattle.load_range.specs.Ranges.{within_of}
use Rattle.load_choose.specs.declared.Which.{Which}
use Rattle.load_choose.specs.declared.Which.TheVariants.{Duration, Stream, Gv}
use Rattle.load_text.specs.Text.{end_at}
use Rattle.load_plan.specs.Plans.{placed, text_of, entries_for, entries_of, plan_for, block_in, block_of, plan_in, plan_of, data_of, planned_for, planned}
use Rattle.load_plan.specs.declared.Plan.{Plan}
use Rattle.load_model.specs.Load.{Tables, After, room_in, answer_for, filled_by, filled, untouched, load_for, load_of, Loads}
use Rattle.load_range.specs.declared.Bounds.{Bounds}
use Rattle.load_choose.specs.declared.Chosen.{Chosen}
use Rattle.load_model.specs.declared.Loaded.{Loaded}
use Rattle.load_plan.specs.declared.Text.{Text}
use Rattle.load_trees.specs.declared.TreeFault.{TreeFault}
use Rattle.std.specs.Prelude.{Err, None, Ok, Some, Option, Result, ⊤}

-- ---- before the tables are looked at, no number is above 19

abbrev Early : Result Chosen Refusal → Type 0
Early (Ok m) = Unit {0}
Early (Err r) = number_of r ≤ 19

model_early : (t p : Range) (w : ℕ) → Early (model_of t p w)
unfolding model_of
model_early t p w = go (ltb 4096 w)
  where
    go : (c : Bool) → Early (cond c (Err refusal.Limit) (chosen t.from t.to p.from p.to w))
    go true = omega arith
    go false = tt

stream_early : (d : StreamData) (p : PositionData) → Early (stream_model d p)
unfolding stream_model
stream_early d p = model_early _ _ _

gv_early : (d : StreamData) (p : PositionData) → Early (gv_model d p)
unfolding gv_model
gv_early d p = go (d.use_gv && p.has_gv_tree && p.has_gv_pdf)
  where
    go : (c : Bool) → Early (cond c (model_of p.gv_tree p.gv_pdf (2 * d.vector_length)) (Err refusal.UseGv))
    go true = model_early _ _ _
    go false = omega arith

-- what linking refuses is 21, 22 or 23
pub fault_between : (g : LinkFault) → (20 < fault_number g) × (fault_number g ≤ 23)
fault_between NodeRef = (omega arith, omega arith)
fault_between QuestionRef = (omega arith, omega arith)
fault_between LoneNode = (omega arith, omega arith)

module _ (make : StreamData → PositionData → Result Chosen Refusal) (early : (d : StreamData) (p : PositionData) → Early (make d p)) where
  named_early : (s : List ℕ) (h : Header) (w : List ℕ) → Early (named make s h w)
  unfolding named
  named_early s h w = go (position_named s h.positions h.position_count w)
    where
      of_stream : (p : PositionData) (f : Option ℕ) → Early (with_stream (λ d. make d p) h.streams f)
      of_stream p (Some k) = early _ p
      of_stream p None = omega arith

      go : (f : Option ℕ) → Early (with_position (λ p. with_stream (λ d. make d p) h.streams (stream_named s h.streams h.stream_count w)) h.positions f)
      go (Some k) = of_stream _ (stream_named s h.streams h.stream_count w)
      go None = omega arith

  numbered_early : (s : List ℕ) (h : Header) (i : ℕ) → Early (numbered make s h i)
  unfolding numbered
  numbered_early s h i = go (ltb i h.global.stream_type_count) (named make s h (bytes_of s (get_or h.global.stream_type i no_span))) (named_early s h _)
    where
      go : (c : Bool) (x : Result Chosen Refusal) → Early x → Early (cond c x (Err refusal.NoPosition))
      go true x e = e
      go false x e = omega arith

chosen_early : (s : List ℕ) (h : Header) (which : Which) → Early (chosen_of s h which)
unfolding chosen_of
chosen_early s h which = go (record_fits (length s) h) (asked s h which) (of which)
  where
    of : (which : Which) → Early (asked s h which)
    of Duration = model_early _ _ _
    of (Stream i) = numbered_early stream_model stream_early s h i
    of (Gv i) = numbered_early gv_model gv_early s h i

    go : (c : Bool) (x : Result Chosen Refusal) → Early x → Early (cond c x (Err refusal.Range))
    go true x e = e
    go false x e = omega arith

abbrev pub Before : Result Plan Refusal → Type 0
Before (Ok p) = Unit {0}
Before (Err r) = number_of r ≤ 19

text_before : (s : List ℕ) (i : ℕ) {r : Refusal} → text_of s i ≡ Err r → number_of r ≤ 19
unfolding text_of
text_before s i {r} e = go (questions_at s i).ending (survey_at s i) e
  where
    go : (d : Ending) (x : Result Survey SurveyError) → placed d x ≡ Err r → number_of r ≤ 19
    go (done_at f) (Ok r) e = let u : ◌≡◌ {A = ℕ} 0 1 = cc in absurd (omega arith)
    go (broken_at f) (Ok y) e = let u : refusal.Text f ≡ r = cc in subst (λ (x : Refusal). number_of x ≤ 19) u (omega arith)
    go (done_at f) (Err (fault.Broken k)) e = let u : refusal.Text k ≡ r = cc in subst (λ (x : Refusal). number_of x ≤ 19) u (omega arith)
    go (broken_at f) (Err (fault.Broken k)) e = let u : refusal.Text k ≡ r = cc in subst (λ (x : Refusal). number_of x ≤ 19) u (omega arith)
    go (done_at f) (Err fault.Negative) e = let u : refusal.State ≡ r = cc in subst (λ (x : Refusal). number_of x ≤ 19) u (omega arith)
    go (broken_at f) (Err fault.Negative) e = let u : refusal.State ≡ r = cc in subst (λ (x : Refusal). number_of x ≤ 19) u (omega arith)

entries_before : (s : List ℕ) (p : Plan) → Before (entries_of s p)
unfolding entries_of
entries_before s p = go (block_at p.trees p.width s p.block)
  where
    go : (b : Option ℕ) → Before (entries_for p b)
    go (Some n) = tt
    go None = omega arith

plan_before : (d : List ℕ) (u v x y w : ℕ) → Before (plan_of d u v x y w)
unfolding plan_of
plan_before d u v x y w = go (within_of u v (length d))
  where
    in_block : (a e f q p t r l : ℕ) (b : Option Bounds) → Before (block_in d a e f q p t r l w b)
    in_block a e f q p t r l (Some m) = let record { start = b; end = c } = m in entries_before (take c d) (plan_for a e f q p t r l w b c)
    in_block a e f q p t r l None = omega arith

    in_text : (a e : ℕ) (t : Result Text Refusal) → text_of (take e d) a ≡ t → Before (block_of d a e t x y w)
    in_text a e (Ok b) k = let record { first = f; questions = q; patterns = p; trees = t; records = r; lines = l } = b in in_block a e f q p t r l (within_of x y (length d))
    in_text a e (Err r) k = text_before (take e d) a k

    go : (b : Option Bounds) → Before (plan_in d x y w b)
    go (Some b) = let record { start = a; end = e } = b in in_text a e (text_of (take e d) a) refl
    go None = omega arith

pub planned_before : (s : List ℕ) (h : Header) (which : Which) → Before (planned s h which)
unfolding planned
planned_before s h which = go (chosen_of s h which) (chosen_early s h which)
  where
    go : (c : Result Chosen Refusal) → Early c → Before (planned_for (data_of s h) c)
    go (Ok m) e = let record { tree_from = u; tree_to = v; pdf_from = x; pdf_to = y; width = w } = m in plan_before (data_of s h) u v x y w
    go (Err r) e = e

-- ---- the three ways of a load

module _ (s : List ℕ) (h : Header) (which : Which) (L : Tables) where
  pub data Way : After → Type 0 where
    -- refused before anything is written
    kept : (x : Refusal) → number_of x ≤ 20 → Way (untouched x L)
    -- the rows of a plan, linked or zero
    written : (p : Plan) → Ok p ≡ planned s h which → room_in p L ≡ true → Way (filled (data_of s h) p L)

  pub way : Way (load_of s h which L)
  unfolding load_of
  way = go (planned s h which) refl (planned_before s h which)
    where
      go : (o : Result Plan Refusal) → o ≡ planned s h which → Before o → Way (load_for (data_of s h) o L)
      go (Err x) e k = kept x (omega arith)
      go (Ok p) e k = room (room_in p L) refl
        where
          room : (c : Bool) → room_in p L ≡ c
              → Way (cond c (filled (data_of s h) p L) (untouched refusal.Room L))
          room true m = written p e m
          room false m = kept refusal.Room (omega arith)

  -- ---- demand 1

  -- every slice is as before
  abbrev pub Untouched : After → Type 0
  Untouched x = x.tables ≡ L

  -- every slice is zero over its whole length
  abbrev pub AllZero : After → Type 0
  AllZero x =
      (x.tables.questions ≡ replicate (length L.questions) 0) × (x.tables.patterns ≡ replicate (length L.patterns) 0) × (x.tables.trees ≡ replicate (length L.trees) 0)
      × (x.tables.records ≡ replicate (length L.records) 0) × (x.tables.values ≡ replicate (length L.values) 0) × (x.tables.work ≡ replicate (length L.work) (pos 0))

  -- by number
  abbrev pub ByNumber : After → Refusal → Type 0
  ByNumber x y = (number_of y ≤ 23) × (number_of y ≤ 20 → Untouched x) × (20 < number_of y → AllZero x)

  linked_number : (p : Plan) (e : Result ⊤ TreeFault) → (y : Refusal) → answer_for p e ≡ Err y → (c : List ℕ) (i f : ℕ) (d : List ℕ) → ByNumber (filled_by p c i f d e L) y
  linked_number p (Ok _) y h c i f d = let u : ◌≡◌ {A = ℕ} 0 1 = cc in absurd (omega arith)
  linked_number p (Err m) y h c i f d =
      let record { fault = g; tree = x; line = k } = m in
      let u : refusal.Unlinked g x k ≡ y = cc in
      let n : fault_number g ≡ number_of y = ap number_of u in
      let b = fault_between g in
      (omega (arith, n, b.1), λ l. absurd (omega (arith, n, b.0)), λ l. (refl, refl, refl, refl, refl, refl))

  way_number : (x : After) → Way x → (y : Refusal) → x.answer ≡ Err y → ByNumber x y
  unfolding filled
  way_number x (kept z n) y k =
      let u : z ≡ y = cc in
      let m : number_of z ≡ number_of y = ap number_of u in
      (omega arith, λ l. refl, λ l. absurd (omega arith))
  way_number x (written p e m) y k =
      linked_number p (end_at (take p.text_end (data_of s h)) p.text p.first) y k (take p.text_end (data_of s h)) p.text p.first (take p.block_end (data_of s h))

  -- every refusal of a load has a number up to 23; up to 20 it changes nothing that is lent; above, everything lent is zero
  pub demand₁ : (y : Refusal) → (load_of s h which L).answer ≡ Err y → ByNumber (load_of s h which L) y
  demand₁ y e = way_number (load_of s h which L) way y e

  -- ---- the contract determines the outcome: the answer and all that is lent

  pub load_once : {l l' : Result Loaded Refusal} {L₁ L₂ : Tables} → Loads s h which L l L₁ → Loads s h which L l' L₂ → (l ≡ l') × (L₁ ≡ L₂)
  load_once e k = (e.0 ∙ sym k.0, e.1 ∙ sym k.1)

  pub needs_once : {o o' : Result Plan Refusal} → o ≡ planned s h which → o' ≡ planned s h which → o ≡ o'
  needs_once e k = e ∙ sym k
