-- What a plan and the room for it give each stage that writes; and each way through filling.
use mathlib.Core.Path.{◌≡◌, refl, sym, ap, ap₂, ◌∙◌, subst}
use mathlib.Core.Bool.{Bool, true, false, cond, ◌&&◌}
use mathlib.Core.List.{List, [], ◌∷◌}
use Prim.Native.Nat.{ℕ, zero, suc, ◌+◌, ◌-◌, ◌*◌, ◌/◌, ◌%◌, ◌≤◌, ◌<◌}
use native.Mathlib.Omega.{arith}
use lib.Dec.{leb, eqb}
use lib.IntN.{ℤ}
use lib.ListN.{length, take, drop, replicate, length-append}
use lib.Seq.{sets}
use borrow.Author.Tests.{leb-true, eqb-true}
use Rattle.written.specs.Bytes.{part}
use Rattle.written.specs.Blocks.{total}
use Rattle.pdf_blocks.specs.Values.{words_at, block_at, entry_at, values_at}
use Rattle.pdf_values.specs.Folded.{with_blocks}
use Rattle.pdf_values.proofs.Laws.{entry_width}
use Rattle.tree_question.specs.Questions.{questions_at}
use Rattle.load_questions.specs.Words.{pattern_words}
use Rattle.load_trees.specs.Trees.{all_linked}
use Rattle.load_text.specs.Text.{Fits, words_at as question_rows, end_at, trees_stored, records_stored, kept, TextFilled}
use Rattle.load_text.proofs.Laws.{kept_done, kept_not}
use Rattle.load_plan.specs.Plans.{Sound}
use Rattle.load_plan.specs.declared.Plan.{Plan}
use Rattle.load_plan.proofs.Laws.{was}
use Rattle.load_model.specs.Load.{Tables, lent, room_for, BlockRoom, answer_for, blocks_of, kept_trees, filled, Fills}
use Rattle.load_model.specs.declared.Loaded.{Loaded}
use Rattle.error.specs.declared.Refusal.{Refusal}
use Rattle.load_trees.specs.declared.TreeFault.{TreeFault}
use Rattle.std.specs.Prelude.{Result, ⊤, Some, None}

-- ---- the size of a block

pub length_values : (s : List ℕ) (i w n : ℕ) → length (values_at s i w n) ≡ n * w
unfolding values_at
length_values s i w zero = omega arith
length_values s i w (suc n) =
    length-append (entry_at s i (w / 2) (eqb (w % 2) 1)) (values_at s (i + 4 * w) w n) ∙ ap₂ (λ (a b : ℕ). a + b) (entry_width s i w) (length_values s (i + 4 * w) w n) ∙ omega arith

pub block_size : (t w : ℕ) (s : List ℕ) (i e : ℕ) → block_at t w s i ≡ Some e → (length s - i ≡ 4 * (t + e * w)) × (total (words_at s i t) ≡ e)
unfolding block_at
block_size t w s i e h = go (leb (4 * t) (length s - i)) (eqb (length s - i) (4 * (t + total (words_at s i t) * w))) refl (cond (eqb w 0) (eqb (total (words_at s i t)) 0) true) h
  where
    go : (x y : Bool) → eqb (length s - i) (4 * (t + total (words_at s i t) * w)) ≡ y → (z : Bool) → cond (x && (y && z)) (Some (total (words_at s i t))) None ≡ Some e
        → (length s - i ≡ 4 * (t + e * w)) × (total (words_at s i t) ≡ e)
    go true true k true h =
        let u : total (words_at s i t) ≡ e = cc in
        (eqb-true (length s - i) (4 * (t + total (words_at s i t) * w)) k ∙ ap (λ (m : ℕ). 4 * (t + m * w)) u, u)
    go true true k false h = let u : ◌≡◌ {A = ℕ} 0 1 = cc in absurd (omega arith)
    go true false k z h = let u : ◌≡◌ {A = ℕ} 0 1 = cc in absurd (omega arith)
    go false y k z h = let u : ◌≡◌ {A = ℕ} 0 1 = cc in absurd (omega arith)

-- what fill_block knows of a block's size
module _ (s : List ℕ) (p : Plan) {t v : ℕ} (h : BlockRoom s p t v) where
  size : (p.block + 4 * p.trees + 4 * (p.entries * p.width) ≤ length s) × (total (words_at s p.block p.trees) ≡ p.entries)
  size =
      let z = block_size p.trees p.width s p.block p.entries h.fits in
      let m : 4 * (p.trees + p.entries * p.width) ≡ 4 * p.trees + 4 * (p.entries * p.width) = omega arith in
      let k : length s - p.block ≡ 4 * p.trees + 4 * (p.entries * p.width) = z.0 ∙ m in
      (within (p.entries * p.width) k, z.1)
    where
      within : (n : ℕ) → length s - p.block ≡ 4 * p.trees + 4 * n → p.block + 4 * p.trees + 4 * n ≤ length s
      within n k = omega (arith, h.begins)

  pub rows_fit : (p.block + 4 * p.trees ≤ length s) × (6 * p.trees ≤ t) × (p.block + 4 * p.trees + 4 * (total (words_at s p.block p.trees) * p.width) ≤ length s)
  rows_fit = (
    omega (arith, size.0),
    h.rows,
    subst (λ (m : ℕ). p.block + 4 * p.trees + 4 * (m * p.width) ≤ length s) (sym size.1) size.0,
  )

  pub values_fit : (p.block + 4 * p.trees + 4 * length (values_at s (p.block + 4 * p.trees) p.width p.entries) ≤ length s) × (length (values_at s (p.block + 4 * p.trees) p.width p.entries) ≤ v)
  values_fit =
      let l = length_values s (p.block + 4 * p.trees) p.width p.entries in (
        subst (λ (m : ℕ). p.block + 4 * p.trees + 4 * m ≤ length s) (sym l) size.0,
        subst (λ (m : ℕ). m ≤ v) (sym l) h.room,
      )

-- ---- the room

pub record Room (p : Plan) (q a t r v w : ℕ) : Type 0 where
  pub questions : p.questions ≤ q / 4
  pub patterns : p.patterns ≤ a / 2
  pub trees : p.trees ≤ t / 6
  pub records : p.records ≤ r / 4
  pub values : p.entries * p.width ≤ v
  pub work : p.lines ≤ w / 6

module _ (p : Plan) (q a t r v w : ℕ) where
  pub room_is : room_for p q a t r v w ≡ true → Room p q a t r v w
  unfolding room_for
  room_is h =
      go (leb p.questions (q / 4)) refl (leb p.patterns (a / 2)) refl (leb p.trees (t / 6)) refl (leb p.records (r / 4)) refl (leb (p.entries * p.width) v) refl
      (leb p.lines (w / 6)) refl h
    where
      go : (x₁ : Bool) → leb p.questions (q / 4) ≡ x₁ → (x₂ : Bool) → leb p.patterns (a / 2) ≡ x₂ → (x₃ : Bool) → leb p.trees (t / 6) ≡ x₃
          → (x₄ : Bool) → leb p.records (r / 4) ≡ x₄ → (x₅ : Bool) → leb (p.entries * p.width) v ≡ x₅
          → (x₆ : Bool) → leb p.lines (w / 6) ≡ x₆ → (x₁ && x₂ && x₃ && x₄ && x₅ && x₆) ≡ true → Room p q a t r v w
      go true e₁ true e₂ true e₃ true e₄ true e₅ true e₆ h =
          record {
            questions = leb-true _ _ e₁;
            patterns = leb-true _ _ e₂;
            trees = leb-true _ _ e₃;
            records = leb-true _ _ e₄;
            values = leb-true _ _ e₅;
            work = leb-true _ _ e₆;
          }
      go false e₁ x₂ e₂ x₃ e₃ x₄ e₄ x₅ e₅ x₆ e₆ h = let u : ◌≡◌ {A = ℕ} 0 1 = cc in absurd (omega arith)
      go true e₁ false e₂ x₃ e₃ x₄ e₄ x₅ e₅ x₆ e₆ h = let u : ◌≡◌ {A = ℕ} 0 1 = cc in absurd (omega arith)
      go true e₁ true e₂ false e₃ x₄ e₄ x₅ e₅ x₆ e₆ h = let u : ◌≡◌ {A = ℕ} 0 1 = cc in absurd (omega arith)
      go true e₁ true e₂ true e₃ false e₄ x₅ e₅ x₆ e₆ h = let u : ◌≡◌ {A = ℕ} 0 1 = cc in absurd (omega arith)
      go true e₁ true e₂ true e₃ true e₄ false e₅ x₆ e₆ h = let u : ◌≡◌ {A = ℕ} 0 1 = cc in absurd (omega arith)
      go true e₁ true e₂ true e₃ true e₄ true e₅ false e₆ h = let u : ◌≡◌ {A = ℕ} 0 1 = cc in absurd (omega arith)

-- ---- a plan with room for it

module _ (d : List ℕ) (p : Plan) (s : Sound d p) (q a t r v w : ℕ) (h : room_for p q a t r v w ≡ true) where
  pub text_fits : {S : List ℕ} → S ≡ take p.text_end d → Fits S p.text p.first p.questions q a t r w
  text_fits e =
      let k = was (take p.text_end d) p.text s.text in
      let m = room_is p q a t r v w h in
      subst (λ (S : List ℕ). Fits S p.text p.first p.questions q a t r w) (sym e)
      record {
        begins = k.begins;
        through = record { end = k.ends; done = k.through };
        asked = k.asked;
        question_room = omega (arith, m.questions);
        pattern_room = omega (arith, m.patterns, k.patterns);
        tree_room = omega (arith, m.trees, k.trees);
        record_room = omega (arith, m.records, k.records);
        work_room = omega (arith, m.work, k.lines);
      }

  -- of trees that have kept their length
  pub block_fits : {B : List ℕ} {n : ℕ} → B ≡ take p.block_end d → n ≡ t → BlockRoom B p n v
  block_fits {B} {n} e l =
      let m = room_is p q a t r v w h in
      subst (λ (B : List ℕ). BlockRoom B p n v) (sym e) record { begins = s.begins; fits = s.block; rows = omega (arith, m.trees); room = m.values }

-- ---- no product wraps

pub take_short : (n : ℕ) (l : List ℕ) → length (take n l) ≤ length l
take_short zero l = omega arith
take_short (suc n) [] = omega arith
take_short (suc n) (x ∷ l) = omega (arith, take_short n l)

drop_short : (n : ℕ) (l : List ℕ) → length (drop n l) ≤ length l
drop_short zero l = omega arith
drop_short (suc n) [] = omega arith
drop_short (suc n) (x ∷ l) = omega (arith, drop_short n l)

pub part_short : (s : List ℕ) (i n : ℕ) → length (part s i n) ≤ length s
part_short s i n = omega (arith, take_short n (drop i s), drop_short i s)

pub few_values : (d : List ℕ) (p : Plan) → Sound d p → 4 * (p.entries * p.width) ≤ length d
few_values d p s =
    let B = take p.block_end d in
    let z = (block_size p.trees p.width B p.block p.entries s.block).0 in
    let m : 4 * (p.trees + p.entries * p.width) ≡ 4 * p.trees + 4 * (p.entries * p.width) = omega arith in
    below (p.entries * p.width) (z ∙ m)
  where
    below : (n : ℕ) → length (take p.block_end d) - p.block ≡ 4 * p.trees + 4 * n → 4 * n ≤ length d
    below n k = omega (arith, take_short p.block_end d)

pub small_values : (d : List ℕ) (p : Plan) → Sound d p → length d < 18446744073709551616 → p.entries * p.width < 9223372036854775808
small_values d p s h = below (p.entries * p.width) (few_values d p s)
  where
    below : (n : ℕ) → 4 * n ≤ length d → n < 9223372036854775808
    below n k = omega arith

-- ---- each way through

pub same_lent : {q q₁ a a₁ t t₁ r r₁ v v₁ : List ℕ} {w w₁ : List ℤ} → q ≡ q₁ → a ≡ a₁ → t ≡ t₁ → r ≡ r₁ → v ≡ v₁ → w ≡ w₁ → lent q a t r v w ≡ lent q₁ a₁ t₁ r₁ v₁ w₁
same_lent e₁ e₂ e₃ e₄ e₅ e₆ z = lent (e₁ z) (e₂ z) (e₃ z) (e₄ z) (e₅ z) (e₆ z)

-- from the text's rows on: the block beside them, or zeros
module _ (d : List ℕ) (p : Plan) (T : Tables) {S : List ℕ} {o : Result ⊤ TreeFault} {l : Result Loaded Refusal} {q a t r : List ℕ} {w : List ℤ} (x : S ≡ take p.text_end d)
    (e : TextFilled S p.text p.first T.questions T.patterns T.trees T.records T.work o q a t r w) (k : l ≡ answer_for p o) {b : Bool} (told : b ≡ all_linked o) where
  ends : o ≡ end_at (take p.text_end d) p.text p.first
  ends = e.0 ∙ ap (λ (S : List ℕ). end_at S p.text p.first) x

  filled_is : {t₁ v₁ B : List ℕ} → B ≡ take p.block_end d → t₁ ≡ kept_trees o T.trees (trees_stored S p.text p.first) (blocks_of p B)
      → v₁ ≡ kept o T.values (values_at B (p.block + 4 * p.trees) p.width p.entries) → Fills d p T l (lent q a t₁ r v₁ w)
  unfolding filled
  filled_is {B = B} y f g = (
    k ∙ ap (answer_for p) ends,
    same_lent
        (e.1 ∙ ap₂ (λ (o : Result ⊤ TreeFault) (S : List ℕ). kept o T.questions (question_rows S p.text)) ends x)
        (e.2 ∙ ap₂ (λ (o : Result ⊤ TreeFault) (S : List ℕ). kept o T.patterns (pattern_words (questions_at S p.text).items)) ends x)
        (f ∙ ap₂ (λ (o : Result ⊤ TreeFault) (S : List ℕ). kept_trees o T.trees (trees_stored S p.text p.first) (blocks_of p B)) ends x
        ∙ ap (λ (B : List ℕ). kept_trees (end_at (take p.text_end d) p.text p.first) T.trees (trees_stored (take p.text_end d) p.text p.first) (blocks_of p B)) y)
        (e.4 ∙ ap₂ (λ (o : Result ⊤ TreeFault) (S : List ℕ). kept o T.records (records_stored S p.text p.first)) ends x)
        (g ∙ ap₂ (λ (o : Result ⊤ TreeFault) (B : List ℕ). kept o T.values (values_at B (p.block + 4 * p.trees) p.width p.entries)) ends y)
        e.5,
  )

  module _ {v : Bool} (f : b ≡ v) where
    -- the test of the two tables that the block fills
    trees_by : (words : List ℕ) (B : List ℕ) → kept_trees o T.trees words (blocks_of p B) ≡ cond v (with_blocks (sets T.trees 0 words) 0 (blocks_of p B)) (replicate (length T.trees) 0)
    trees_by words B = ap (λ (c : Bool). cond c (with_blocks (sets T.trees 0 words) 0 (blocks_of p B)) (replicate (length T.trees) 0)) (sym told ∙ f)

    text_by : t ≡ cond v (sets T.trees 0 (trees_stored S p.text p.first)) (replicate (length T.trees) 0)
    text_by = e.3 ∙ ap (λ (c : Bool). cond c (sets T.trees 0 (trees_stored S p.text p.first)) (replicate (length T.trees) 0)) (sym told ∙ f)

  pub fill_done : {t₁ v₁ B : List ℕ} → b ≡ true → B ≡ take p.block_end d → (t₁ ≡ with_blocks t 0 (blocks_of p B)) × (v₁ ≡ sets T.values 0 (values_at B (p.block + 4 * p.trees) p.width p.entries))
      → Fills d p T l (lent q a t₁ r v₁ w)
  fill_done {B = B} f y g =
      filled_is y (g.0 ∙ ap (λ (u : List ℕ). with_blocks u 0 (blocks_of p B)) (text_by f) ∙ sym (trees_by f (trees_stored S p.text p.first) B)) (kept_done o T.values (values_at B (p.block + 4 * p.trees) p.width p.entries) told f g.1)

  pub fill_zero : {v₁ : List ℕ} → b ≡ false → v₁ ≡ replicate (length T.values) 0 → Fills d p T l (lent q a t r v₁ w)
  fill_zero f g =
      let B = take p.block_end d in
      filled_is refl (text_by f ∙ sym (trees_by f (trees_stored S p.text p.first) B)) (kept_not o T.values (values_at B (p.block + 4 * p.trees) p.width p.entries) told f refl g)
