-- Each way through the stages of one tree; the sizes of a block that is used up.
use Rattle.text_parts.specs.Parts.{read_to}
use Rattle.std.specs.declared.option.Option.{Option}
use Rattle.trail_find.proofs.Same.{same_rows}
use mathlib.Core.Path.{◌≡◌, refl, sym, ap, ap₂, ◌∙◌}
use mathlib.Core.Bool.{Bool, true, false, cond, ◌&&◌}
use mathlib.Core.List.{List, [], ◌∷◌}
use Prim.Native.Nat.{ℕ, zero, suc, ◌+◌, ◌-◌, ◌*◌, ◌≤◌, ◌<◌}
use native.Mathlib.Nat.{le-mul_of_pos_right}
use native.Mathlib.Omega.{arith}
use borrow.Author.Tests.{eqb-true, eqb-false}
use lib.Dec.{leb, eqb, ltb}
use lib.ListN.{length, take}
use Rattle.written.specs.Blocks.{total}
use Rattle.error.specs.declared.Refusal.{Refusal}
use Rattle.error.specs.declared.Refusal.TheVariants as refusal
use Rattle.head_record.specs.declared.Header.{Header}
use Rattle.head_record_fits.specs.Fits.{record_fits}
use Rattle.tree_question.specs.Questions.{questions_at}
use Rattle.tree_survey_questions.specs.Counts.{questions_counted, questions_of}
use Rattle.tree_body.specs.Trees.{tree_step_at}
use Rattle.tree_survey.specs.Survey.{tree_surveyed}
use Rattle.tree_survey.specs.declared.TreeSurvey.{TreeSurvey}
use Rattle.pdf_blocks.specs.Values.{word_at, words_at, block_at}
use Rattle.load_choose.specs.Chosen.{chosen, chosen_of}
use Rattle.load_range.specs.Ranges.{bounds, within_of}
use Rattle.load_choose.specs.declared.Which.{Which}
use Rattle.load_plan.specs.Plans.{read_as, plan_for, data_of}
use Rattle.load_plan.specs.declared.Plan.{Plan}
use Rattle.trail_find.specs.Rows.{rows_from, trail_at, offsets_at, nth_of}
use Rattle.trail_plan.specs.Plans.{tree_for, asked_for, tree_text_of, with_tree, entries_for, entries_of, block_in, block_of, row_in, text_in, RowOf, tree_of, chosen_tree, trail_tree, tree_planned}
use Rattle.load_plan.specs.declared.Text.{Text}
use Rattle.trail_find.specs.declared.Trail.{Trail}
use Rattle.std.specs.Prelude.{Err, None, Ok, Result, Some}

-- ---- the text

module _ (s : List ℕ) (i f : ℕ) where
  pub text_asked : {q p j : ℕ} {u : TreeSurvey} {o : Result Text Refusal} → Ok (read_to (questions_of q p) j) ≡ questions_counted 0 0 (questions_at s i) → u ≡ tree_surveyed (tree_step_at s f) → o ≡ tree_for f q p u → o ≡ tree_text_of s i f
  unfolding tree_text_of
  text_asked {q} {p} h e z = z ∙ ap (tree_for f q p) e ∙ ap (asked_for s f) h

  pub text_broken : {j : ℕ} → Err j ≡ questions_counted 0 0 (questions_at s i) → Err (refusal.Text j) ≡ tree_text_of s i f
  unfolding tree_text_of
  text_broken h = ap (asked_for s f) h

-- ---- the block

-- the entries of tree k and of those before it are among all
pub total-part : (s : List ℕ) (i k n : ℕ) → k < n → total (words_at s i k) + word_at s (i + 4 * k) ≤ total (words_at s i n)
unfolding words_at total
total-part s i k zero h = absurd (omega arith)
total-part s i zero (suc n) h = let e : i + 4 * 0 ≡ i = omega arith in omega (arith, ap (word_at s) e)
total-part s i (suc k) (suc n) h =
    let e : i + 4 * suc k ≡ i + 4 + 4 * k = omega arith in
    omega (arith, ap (word_at s) e, total-part s (i + 4) k n (omega arith))

-- what the block of n trees says of its size
pub record Size (n w : ℕ) (s : List ℕ) (i k : ℕ) : Type 0 where
  pub counts : i + 4 * n ≤ length s
  pub few : total (words_at s i k) + word_at s (i + 4 * k) ≤ length s
  pub values : i + 4 * n + 4 * (total (words_at s i k) * w) + 4 * (word_at s (i + 4 * k) * w) ≤ length s

pub block_size : (n w : ℕ) (s : List ℕ) (i k e : ℕ) → k < n → Some e ≡ block_at n w s i → Size n w s i k
unfolding block_at
block_size n w s i k e l h =
    go (leb (4 * n) (length s - i)) (eqb (length s - i) (4 * (n + total (words_at s i n) * w))) refl (eqb w 0) refl (eqb (total (words_at s i n)) 0) refl h
  where
    sum : ℕ
    sum = total (words_at s i n)

    part : total (words_at s i k) + word_at s (i + 4 * k) ≤ sum
    part = total-part s i k n l

    positive : ¬ (w ≡ 0) → 0 < w
    positive h = omega (arith, h)

    made : length s - i ≡ 4 * (n + sum * w) → sum ≤ sum * w → Size n w s i k
    made e z =
        let m : 4 * (n + sum * w) ≡ 4 * n + 4 * (sum * w) = omega arith in
        let g = grow (total (words_at s i k)) (word_at s (i + 4 * k)) sum part in
        let r = sized (total (words_at s i k)) (word_at s (i + 4 * k)) (sum * w) (total (words_at s i k) * w) (word_at s (i + 4 * k) * w) (e ∙ m) (omega (arith, z, part)) g in
        record { counts = r.0; few = r.1; values = r.2 }
      where
        grow : (a b c : ℕ) → a + b ≤ c → a * w + b * w ≤ c * w
        grow a b c h =
            let d : c ≡ a + b + (c - (a + b)) = omega arith in
            let x : (a + b + (c - (a + b))) * w ≡ a * w + b * w + (c - (a + b)) * w = omega arith in
            let y : c * w ≡ a * w + b * w + (c - (a + b)) * w = ap (λ (c : ℕ). c * w) d ∙ x in
            omega (arith, y)

        sized : (a b c x y : ℕ) → length s - i ≡ 4 * n + 4 * c → a + b ≤ c → x + y ≤ c → (i + 4 * n ≤ length s) × (a + b ≤ length s) × (i + 4 * n + 4 * x + 4 * y ≤ length s)
        sized a b c x y e f g = (omega arith, omega arith, omega arith)

    go : (x y : Bool) → eqb (length s - i) (4 * (n + sum * w)) ≡ y → (z : Bool) → eqb w 0 ≡ z → (u : Bool) → eqb sum 0 ≡ u
        → Some e ≡ cond (x && (y && cond z u true)) (Some sum) None → Size n w s i k
    go true true a true b true c h = made (eqb-true _ _ a) (omega (arith, eqb-true sum 0 c))
    go true true a false b u c h = made (eqb-true _ _ a) (le-mul_of_pos_right {m = w} sum (positive (eqb-false w 0 b)))
    go true true a true b false c h = let u : ◌≡◌ {A = ℕ} 0 1 = cc in absurd (omega arith)
    go true false a z b u c h = let u : ◌≡◌ {A = ℕ} 0 1 = cc in absurd (omega arith)
    go false y a z b u c h = let u : ◌≡◌ {A = ℕ} 0 1 = cc in absurd (omega arith)

module _ (s : List ℕ) (p : Plan) (n k : ℕ) where
  pub entries_wrong : None ≡ block_at n p.width s p.block → Err refusal.Block ≡ entries_of s p n k
  unfolding entries_of
  entries_wrong h = ap (entries_for s p n k) h

  pub entries_fit : {e b m : ℕ} → Some e ≡ block_at n p.width s p.block → b ≡ total (words_at s p.block k) → m ≡ word_at s (p.block + 4 * k)
      → Ok (with_tree p (p.block + 4 * n + 4 * (b * p.width)) m) ≡ entries_of s p n k
  unfolding entries_of
  entries_fit {m = m} h x y =
      ap₂ (λ (b m : ℕ). Ok (with_tree p (p.block + 4 * n + 4 * (b * p.width)) m)) x y ∙ ap (entries_for s p n k) h

module _ (d : List ℕ) (a e x y w n k : ℕ) (f q p t r l : ℕ) {o : Result Text Refusal} (h : o ≡ read_as f q p t r l) where
  pub block_inside : {b c : ℕ} {z : List ℕ} {u : Result Plan Refusal} → bounds b c ≡ within_of x y (length d) → z ≡ take c d → u ≡ entries_of z (plan_for a e f q p t r l w b c) n k → u ≡ block_of d a e o x y w n k
  block_inside {b} {c} g i v =
      v ∙ ap (λ (z : List ℕ). entries_of z (plan_for a e f q p t r l w b c) n k) i ∙ ap (block_in d a e f q p t r l w n k) g ∙ sym (ap (λ (t : Result Text Refusal). block_of d a e t x y w n k) h)

-- ---- the tree

module _ (d : List ℕ) (u v x y w n k : ℕ) (o : Option ℕ) {a e : ℕ} (h : bounds a e ≡ within_of u v (length d)) where
  pub tree_there : {f : ℕ} {z : List ℕ} {t : Result Text Refusal} {r : Result Plan Refusal} → o ≡ Some f → z ≡ take e d → t ≡ tree_text_of z a f → r ≡ block_of d a e t x y w n k → r ≡ tree_of d u v x y w n k o
  unfolding tree_of
  tree_there {f} g i j l =
      l ∙ ap (λ (t : Result Text Refusal). block_of d a e t x y w n k) (j ∙ ap (λ (z : List ℕ). tree_text_of z a f) i) ∙ sym (ap (row_in d a e x y w n k) g) ∙ ap (text_in d x y w n k o) h

-- ---- the rows

pub nth_inside : (os : List ℕ) (k : ℕ) {f : ℕ} → nth_of os k ≡ Some f → k < length os
unfolding nth_of
nth_inside [] k h = let u : ◌≡◌ {A = ℕ} 0 1 = cc in absurd (omega arith)
nth_inside (x ∷ os) zero h = omega arith
nth_inside (x ∷ os) (suc k) h = omega (arith, nth_inside os k h)

pub row_of : (os : List ℕ) (k : ℕ) {n : ℕ} {o : Option ℕ} → n ≡ length os → o ≡ nth_of os k → RowOf n k o
row_of os k {n} e z = record { inside = λ f h. inside (nth_inside os k (sym z ∙ h)) }
  where
    inside : k < length os → k < n
    inside h = omega (arith, e)

pub rows_inside : (s : List ℕ) (n : ℕ) {b c : ℕ} → rows_from b c ≡ trail_at s n → b + 12 * c ≤ length s
unfolding trail_at
rows_inside s n {b} {c} h = go (ltb n 12) (eqb (word_at s (length s - 12 + 4) + 12 * word_at s (length s - 12)) (length s - 12)) refl h
  where
    go : (x y : Bool) → eqb (word_at s (length s - 12 + 4) + 12 * word_at s (length s - 12)) (length s - 12) ≡ y
        → rows_from b c ≡ cond x (Err refusal.NoTrailer) (cond y (rows_from (word_at s (length s - 12 + 4)) (word_at s (length s - 12))) (Err refusal.TrailerRows)) → b + 12 * c ≤ length s
    go false true e h =
        let same = same_rows h in
        let i : b ≡ word_at s (length s - 12 + 4) = same.0 in
        let j : c ≡ word_at s (length s - 12) = same.1 in
        let z : word_at s (length s - 12 + 4) + 12 * word_at s (length s - 12) ≡ length s - 12 = eqb-true _ _ e in
        omega arith
    go false false e h = let u : ◌≡◌ {A = ℕ} 0 1 = cc in absurd (omega arith)
    go true y e h = let u : ◌≡◌ {A = ℕ} 0 1 = cc in absurd (omega arith)

module _ (s : List ℕ) (h : Header) (which : Which) (m k : ℕ) where
  pub needs_unfit : record_fits (length s) h ≡ false → Err refusal.Range ≡ tree_planned s h which m k
  unfolding tree_planned
  needs_unfit f = sym (ap (λ (b : Bool). cond b (trail_tree s h which m k (trail_at s h.data_len)) (Err refusal.Range)) f)

  module _ (f : record_fits (length s) h ≡ true) where
    by_trail : {t : Result Trail Refusal} → t ≡ trail_at s h.data_len → trail_tree s h which m k t ≡ tree_planned s h which m k
    unfolding tree_planned
    by_trail e =
        ap (trail_tree s h which m k) e ∙ sym (ap (λ (b : Bool). cond b (trail_tree s h which m k (trail_at s h.data_len)) (Err refusal.Range)) f)

    pub needs_no_rows : {r : Refusal} → Err r ≡ trail_at s h.data_len → Err r ≡ tree_planned s h which m k
    needs_no_rows e = by_trail e

    module _ {b c : ℕ} (e : rows_from b c ≡ trail_at s h.data_len) where
      pub needs_refused : {r : Refusal} → Err r ≡ chosen_of s h which → Err r ≡ tree_planned s h which m k
      needs_refused g = ap (chosen_tree (data_of s h) (offsets_at s m b c) k) g ∙ by_trail e

      pub needs_tree : {u v x y w n : ℕ} {d : List ℕ} {z : Option ℕ} {o : Result Plan Refusal} → chosen u v x y w ≡ chosen_of s h which → d ≡ data_of s h → n ≡ length (offsets_at s m b c)
          → z ≡ nth_of (offsets_at s m b c) k → o ≡ tree_of d u v x y w n k z → o ≡ tree_planned s h which m k
      needs_tree {u} {v} {x} {y} {w} {n} {z = z} g i j l q =
          q ∙ ap (λ (d : List ℕ). tree_of d u v x y w n k z) i ∙ ap₂ (λ (n : ℕ) (z : Option ℕ). tree_of (data_of s h) u v x y w n k z) j l
          ∙ ap (chosen_tree (data_of s h) (offsets_at s m b c) k) g ∙ by_trail e
