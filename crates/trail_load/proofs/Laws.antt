-- What a plan of one tree and the room for it give each stage that writes; and each way through filling and loading.
use mathlib.Core.Path.{◌≡◌, refl, sym, ap, ap₂, ◌∙◌, subst}
use mathlib.Core.Bool.{Bool, true, false, not, cond, ◌&&◌}
use mathlib.Core.List.{List, [], ◌∷◌}
use Prim.Native.Nat.{ℕ, ◌+◌, ◌*◌, ◌/◌, ◌≤◌, ◌<◌}
use native.Mathlib.Omega.{arith}
use lib.Dec.{leb}
use lib.IntN.{ℤ}
use lib.ListN.{length, take, replicate}
use lib.Seq.{sets}
use borrow.Author.Tests.{le-leb, lt-leb, not-true, not-false}
use Rattle.written.specs.Sharing.{Side, Held, questions, patterns, trees, records, values, Stand, stands}
use Rattle.error.specs.declared.Refusal.{Refusal}
use Rattle.error.specs.declared.Refusal.TheVariants as refusal
use Rattle.head_record.specs.declared.Header.{Header}
use Rattle.tree_question.specs.Questions.{questions_at}
use Rattle.pdf_blocks.specs.Values.{values_at}
use Rattle.pdf_values.specs.Folded.{with_blocks}
use Rattle.load_choose.specs.declared.Which.{Which}
use Rattle.load_questions.specs.Words.{pattern_words}
use Rattle.load_trees.specs.Trees.{all_linked}
use Rattle.load_text.specs.Text.{words_at, kept}
use Rattle.load_text.proofs.Laws.{kept_done, kept_not}
use Rattle.load_plan.specs.Plans.{data_of}
use Rattle.load_plan.specs.declared.Plan.{Plan}
use Rattle.load_model.specs.Load.{Tables, lent, room_for, answer_for, kept_trees, untouched, Is}
use Rattle.load_model.proofs.Laws.{length_values, room_is, take_short, same_lent}
use Rattle.load_apart.proofs.Tests.{stands_is}
use Rattle.load_bounds.specs.declared.Held.{Held as Bounds}
use Rattle.load_shared.specs.Beside.{rows_of, Fits as Room, room_by}
use Rattle.load_bounds.specs.Bounds.{need_of, held_of, stands_at}
use Rattle.load_bounds.proofs.Laws.{stands_at_lem}
use Rattle.trail_link.specs.One.{Fits, one_result, one_end, one_row, OneFilled}
use Rattle.trail_plan.specs.Plans.{tree_planned, SoundTree}
use Rattle.trail_load.specs.Load.{ValueRoom, only_block, tree_filled, tree_placed_in, tree_beside_for, tree_beside, FillsTree, FillsOwnTree, LoadsTree}
use Rattle.load_model.specs.declared.Loaded.{Loaded}
use Rattle.load_trees.specs.declared.TreeFault.{TreeFault}
use Rattle.std.specs.Prelude.{Err, Ok, Result, ⊤}

-- ---- the values of one tree

module _ (s : List ℕ) (p : Plan) {t v : ℕ} (h : ValueRoom s p t v) where
  pub values_fit : (p.block + 4 * length (values_at s p.block p.width p.entries) ≤ length s) × (length (values_at s p.block p.width p.entries) ≤ v)
  values_fit =
      let l = length_values s p.block p.width p.entries in (
        subst (λ (m : ℕ). p.block + 4 * m ≤ length s) (sym l) h.inside,
        subst (λ (m : ℕ). m ≤ v) (sym l) h.room,
      )

pub row_filled : (p : Plan) (t : List ℕ) {t₁ : List ℕ} → t₁ ≡ sets t 4 (0 ∷ p.entries ∷ []) → t₁ ≡ with_blocks t 0 (only_block p)
unfolding with_blocks
row_filled p t e = e

pub small_values : (d : List ℕ) (p : Plan) → SoundTree d p → length d < 18446744073709551616 → p.entries * p.width < 9223372036854775808
small_values d p s h = below (p.entries * p.width) s.values
  where
    below : (n : ℕ) → p.block + 4 * n ≤ length (take p.block_end d) → n < 9223372036854775808
    below n k = omega (arith, take_short p.block_end d)

-- ---- a plan with room for it

module _ (d : List ℕ) (p : Plan) (s : SoundTree d p) (q a t r v w : ℕ) (h : room_for p q a t r v w ≡ true) where
  pub text_fits : {S : List ℕ} → S ≡ take p.text_end d → Fits S p.text p.first p.questions q a t r w
  text_fits e =
      let m = room_is p q a t r v w h in
      subst (λ (S : List ℕ). Fits S p.text p.first p.questions q a t r w) (sym e)
      record {
        read = s.asked;
        whole = s.whole;
        asked = s.questions;
        question_room = omega (arith, m.questions);
        pattern_room = omega (arith, m.patterns, s.patterns);
        tree_room = omega (arith, m.trees, s.trees);
        record_room = omega (arith, m.records, s.records);
        work_room = omega (arith, m.work, s.lines);
      }

  -- of trees that have kept their length
  pub values_room : {B : List ℕ} {n : ℕ} → B ≡ take p.block_end d → n ≡ t → ValueRoom B p n v
  values_room {B} {n} e l =
      let m = room_is p q a t r v w h in
      subst (λ (B : List ℕ). ValueRoom B p n v) (sym e) record { inside = s.values; row = omega (arith, m.trees, s.trees); room = m.values }

-- ---- each way through filling

-- from the text's rows on: the values beside them, or zeros
module _ (d : List ℕ) (k : ℕ) (p : Plan) (T : Tables) {S : List ℕ} {o : Result ⊤ TreeFault} {l : Result Loaded Refusal} {q a t r : List ℕ} {w : List ℤ} (x : S ≡ take p.text_end d)
    (e : OneFilled S p.text p.first k T.questions T.patterns T.trees T.records T.work o q a t r w) (g : l ≡ answer_for p o) {b : Bool} (told : b ≡ all_linked o) where
  ends : o ≡ one_end (take p.text_end d) p.text p.first k
  ends = e.0 ∙ ap (λ (S : List ℕ). one_end S p.text p.first k) x

  filled_is : {t₁ v₁ B : List ℕ} → B ≡ take p.block_end d → t₁ ≡ kept_trees o T.trees (one_row S p.text p.first) (only_block p)
      → v₁ ≡ kept o T.values (values_at B p.block p.width p.entries) → FillsTree d k p T l (lent q a t₁ r v₁ w)
  unfolding tree_filled
  filled_is y f h = (
    g ∙ ap (answer_for p) ends,
    same_lent
        (e.1 ∙ ap₂ (λ (o : Result ⊤ TreeFault) (S : List ℕ). kept o T.questions (words_at S p.text)) ends x)
        (e.2 ∙ ap₂ (λ (o : Result ⊤ TreeFault) (S : List ℕ). kept o T.patterns (pattern_words (questions_at S p.text).items)) ends x)
        (f ∙ ap₂ (λ (o : Result ⊤ TreeFault) (S : List ℕ). kept_trees o T.trees (one_row S p.text p.first) (only_block p)) ends x)
        (e.4 ∙ ap₂ (λ (o : Result ⊤ TreeFault) (S : List ℕ). kept o T.records (one_result S p.text p.first).rows) ends x)
        (h ∙ ap₂ (λ (o : Result ⊤ TreeFault) (B : List ℕ). kept o T.values (values_at B p.block p.width p.entries)) ends y)
        e.5,
  )

  module _ {v : Bool} (f : b ≡ v) where
    -- the test of the two tables that hold what the block says
    trees_by : kept_trees o T.trees (one_row S p.text p.first) (only_block p)
        ≡ cond v (with_blocks (sets T.trees 0 (one_row S p.text p.first)) 0 (only_block p)) (replicate (length T.trees) 0)
    trees_by = ap (λ (c : Bool). cond c (with_blocks (sets T.trees 0 (one_row S p.text p.first)) 0 (only_block p)) (replicate (length T.trees) 0)) (sym told ∙ f)

    text_by : t ≡ cond v (sets T.trees 0 (one_row S p.text p.first)) (replicate (length T.trees) 0)
    text_by = e.3 ∙ ap (λ (c : Bool). cond c (sets T.trees 0 (one_row S p.text p.first)) (replicate (length T.trees) 0)) (sym told ∙ f)

  pub fill_done : {t₁ v₁ B : List ℕ} → b ≡ true → B ≡ take p.block_end d → (t₁ ≡ with_blocks t 0 (only_block p)) × (v₁ ≡ sets T.values 0 (values_at B p.block p.width p.entries))
      → FillsTree d k p T l (lent q a t₁ r v₁ w)
  fill_done {B = B} f y h =
      filled_is y (h.0 ∙ ap (λ (u : List ℕ). with_blocks u 0 (only_block p)) (text_by f) ∙ sym (trees_by f)) (kept_done o T.values (values_at B p.block p.width p.entries) told f h.1)

  pub fill_zero : {v₁ : List ℕ} → b ≡ false → v₁ ≡ replicate (length T.values) 0 → FillsTree d k p T l (lent q a t r v₁ w)
  fill_zero f h =
      filled_is refl (text_by f ∙ sym (trees_by f)) (kept_not o T.values (values_at (take p.block_end d) p.block p.width p.entries) told f refl h)

-- ---- each way through a load

module _ (x : Side) (s : List ℕ) (h : Header) (which : Which) (m k : ℕ) (other : Held) (T : Tables) where
  pub load_refused : {z : Refusal} → Err z ≡ tree_planned s h which m k → LoadsTree x s h which m k other T (Err z) T
  unfolding tree_beside
  load_refused {z} e = subst (λ (o : Result Plan Refusal). Is (tree_beside_for x other (data_of s h) k o T) (Err z) T) e (refl, refl)

  module _ (p : Plan) (e : Ok p ≡ tree_planned s h which m k) where
    by_room : (b : Bool) → room_by p other T ≡ b → {l : Result Loaded Refusal} {T₁ : Tables} → Is (cond b (tree_placed_in x (data_of s h) k p T) (untouched refusal.Room T)) l T₁ → LoadsTree x s h which m k other T l T₁
    unfolding tree_beside
    by_room b g {l} {T₁} z =
        subst (λ (o : Result Plan Refusal). Is (tree_beside_for x other (data_of s h) k o T) l T₁) e (subst (λ (b : Bool). Is (cond b (tree_placed_in x (data_of s h) k p T) (untouched refusal.Room T)) l T₁) (sym g) z)

    -- the rows as the code judges them, of bounds that are the plan's need
    module _ (n : Bounds) {b : Bool} (i : held_of n ≡ need_of p)
        (j : b ≡ stands_at (held_of n) other (length T.questions) (length T.patterns) (length T.trees) (length T.records) (length T.values)) where
      rows_judged : stands (rows_of T) (need_of p) other ≡ b
      rows_judged =
          sym (stands_at_lem (need_of p) other T.questions T.patterns T.trees T.records T.values)
          ∙ ap (λ (m : Held). stands_at m other (length T.questions) (length T.patterns) (length T.trees) (length T.records) (length T.values)) (sym i) ∙ sym j

      pub load_no_rows : not b ≡ true → LoadsTree x s h which m k other T (Err refusal.Room) T
      load_no_rows f = by_room false (ap (λ (c : Bool). c && leb p.lines (length T.work / 6)) (rows_judged ∙ not-true b f)) (refl, refl)

      pub load_no_lines : not b ≡ false → length T.work / 6 < p.lines → LoadsTree x s h which m k other T (Err refusal.Room) T
      load_no_lines f l = by_room false (ap (λ (c : Bool). c && leb p.lines (length T.work / 6)) (rows_judged ∙ not-false b f) ∙ lt-leb _ _ l) (refl, refl)

      pub load_filled : not b ≡ false → p.lines ≤ length T.work / 6 → {d : List ℕ} {l : Result Loaded Refusal} {T₁ : Tables} → d ≡ data_of s h → FillsOwnTree x d k p T l T₁ → LoadsTree x s h which m k other T l T₁
      load_filled f g {d} {l} {T₁} y z =
          by_room true (ap (λ (c : Bool). c && leb p.lines (length T.work / 6)) (rows_judged ∙ not-false b f) ∙ le-leb _ _ g) (subst (λ (d : List ℕ). FillsOwnTree x d k p T l T₁) y z)

      -- bounds that stand have room for a plan that needs them
      pub load_fits : not b ≡ false → p.lines ≤ length T.work / 6 → Room p (length T.questions) (length T.patterns) (length T.trees) (length T.records) (length T.values) (length T.work)
      load_fits f l =
          let g : Stand (rows_of T) (need_of p) other = stands_is (rows_of T) (need_of p) other (rows_judged ∙ not-false b f) in
          record {
            questions = omega (arith, g questions);
            patterns = omega (arith, g patterns);
            trees = omega (arith, g trees);
            records = omega (arith, g records);
            values = omega (arith, g values);
            lines = l;
          }
