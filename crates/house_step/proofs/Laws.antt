-- What a load has left is what judging asks for; and each way through a step.
use mathlib.Core.Path.{◌≡◌, refl, sym, ap, ◌∙◌, subst}
use mathlib.Core.Bool.{Bool, true, false, cond}
use mathlib.Core.List.{List, ◌++◌, append-nil}
use Prim.Native.Nat.{ℕ, ◌*◌, ◌/◌, ◌≤◌}
use native.Mathlib.Omega.{arith}
use lib.Dec.{leb}
use lib.ListN.{length, take, drop_of_length-le}
use lib.Seq.{sets, length-sets}
use Rattle.laws.proofs.Tables.{sets-front}
use Rattle.laws.proofs.Every.{first_of}
use Rattle.written.specs.Sharing.{Side, Held, questions, patterns, trees, values, own, seen, start_of, put_rows, Stand, stands}
use Rattle.error.specs.declared.Refusal.{Refusal}
use Rattle.error.specs.declared.Refusal.TheVariants as refusal
use Rattle.head_record.specs.declared.Header.{Header}
use Rattle.tree_question.specs.Questions.{questions_at}
use Rattle.load_choose.specs.declared.Which.{Which}
use Rattle.load_questions.specs.Words.{pattern_words}
use Rattle.load_questions.proofs.Rows.{patterns_length}
use Rattle.load_text.specs.Text.{end_at, kept}
use Rattle.load_plan.specs.Plans.{Sound, data_of, planned}
use Rattle.load_plan.specs.declared.Plan.{Plan}
use Rattle.load_plan.proofs.Laws.{was}
use Rattle.load_model.specs.Load.{loaded, Tables as Lent, lent, After, answer_for, filled, untouched}
use Rattle.load_model.proofs.Laws.{same_lent}
use Rattle.load_apart.specs.Loads.{unload_of}
use Rattle.load_apart.proofs.Rows.{length_own, own_put}
use Rattle.load_apart.proofs.Tests.{stands_is}
use Rattle.load_shared.specs.Beside.{rows_of, with_work, placed_in, room_by, beside_for}
use Rattle.load_bounds.specs.Bounds.{need_of}
use Rattle.load_unload.specs.Unloads.{Tabled}
use Rattle.house_own.specs.Own.{rule_in, LoadedIn}
use Rattle.house_step.specs.Steps.{judged_as, bounds_of, ruled_as, step_for, emptied, step_of, Is, StepsPlanned, Steps}
use Rattle.house_step.specs.declared.Judged.{Judged}
use Rattle.load_trees.specs.declared.TreeFault.{TreeFault}
use Rattle.std.specs.Prelude.{Err, Ok, Result, ⊤}

-- words that fill a table are the table
sets_all : (t words : List ℕ) → length words ≡ length t → sets t 0 words ≡ words
sets_all t words e =
    sets-front t words (omega arith) ∙ ap (λ (l : List ℕ). words ++ l) (drop_of_length-le t {i = length words} (omega arith)) ∙ append-nil words

-- ---- a plan in the data d

module _ (x : Side) (d : List ℕ) (p : Plan) (other : Held) (T : Lent) where
  module _ (sound : Sound d p) where
    words : List ℕ
    words = pattern_words (questions_at (take p.text_end d) p.text).items

    words_length : length (pattern_words (questions_at (take p.text_end d) p.text).items) ≡ 2 * p.patterns
    words_length =
        patterns_length (questions_at (take p.text_end d) p.text).items ∙ ap (λ (n : ℕ). 2 * n) (sym (was (take p.text_end d) p.text sound.text).patterns)

    module _ (g : Stand (rows_of T) (need_of p) other) where
      pattern_room : p.patterns ≤ length T.patterns / 2
      pattern_room = omega (arith, g patterns)

      -- whatever is put into the other tables
      rows_in : (q a t v : List ℕ) → a ≡ pattern_words (questions_at (take p.text_end d) p.text).items
          → LoadedIn x d p (length (put_rows x 4 T.questions p.questions q)) (put_rows x 2 T.patterns p.patterns a) (length (put_rows x 6 T.trees p.trees t))
          (length (put_rows x 1 T.values (p.entries * p.width) v))
      rows_in q a t v e =
          record {
            sound = sound;
            question_rows = omega (arith, g questions, length-sets T.questions (start_of x 4 (length T.questions) p.questions) q);
            pattern_rows = omega (arith, g patterns, length-sets T.patterns (start_of x 2 (length T.patterns) p.patterns) a);
            tree_rows = omega (arith, g trees, length-sets T.trees (start_of x 6 (length T.trees) p.trees) t);
            value_rows = omega (arith, g values, length-sets T.values (start_of x 1 (length T.values) (p.entries * p.width)) v);
            there = own_put x 2 T.patterns p.patterns a (ap length e ∙ words_length) pattern_room ∙ e;
          }

      -- the pattern rows of a plan that is linked
      linked_there : (o : Result ⊤ TreeFault) {q a t c v : ℕ} → loaded q a t c v ≡ answer_for p o
          → kept o (own x 2 T.patterns p.patterns) (pattern_words (questions_at (take p.text_end d) p.text).items) ≡ pattern_words (questions_at (take p.text_end d) p.text).items
      linked_there (Ok _) e =
          sets_all (own x 2 T.patterns p.patterns) (pattern_words (questions_at (take p.text_end d) p.text).items) (words_length ∙ sym (length_own x 2 T.patterns p.patterns pattern_room))
      linked_there (Err l) e = let u : ◌≡◌ {A = ℕ} 0 1 = cc in absurd (omega arith)

      placed_in_lem : {q a t c v : ℕ} {T₁ : Lent} → loaded q a t c v ≡ (placed_in x d p T).answer → T₁ ≡ (placed_in x d p T).tables
          → LoadedIn x d p (length T₁.questions) T₁.patterns (length T₁.trees) (length T₁.values)
      unfolding placed_in filled
      placed_in_lem e y =
          subst (λ (U : Lent). LoadedIn x d p (length U.questions) U.patterns (length U.trees) (length U.values)) (sym y)
          (rows_in after.tables.questions after.tables.patterns after.tables.trees after.tables.values (linked_there (end_at (take p.text_end d) p.text p.first) e))
        where
          after : After
          after = filled d p (with_work (seen x (need_of p) (rows_of T)) T.work)

    -- a load that is done leaves what judging asks for
    pub loaded_in : {q a t c v : ℕ} {T₁ : Lent} → loaded q a t c v ≡ (beside_for x other d (Ok p) T).answer → T₁ ≡ (beside_for x other d (Ok p) T).tables
        → LoadedIn x d p (length T₁.questions) T₁.patterns (length T₁.trees) (length T₁.values)
    loaded_in {q} {a} {t} {c} {v} {T₁} e y = go (room_by p other T) refl e y
      where
        go : (b : Bool) → room_by p other T ≡ b → loaded q a t c v ≡ (cond b (placed_in x d p T) (untouched refusal.Room T)).answer
            → T₁ ≡ (cond b (placed_in x d p T) (untouched refusal.Room T)).tables → LoadedIn x d p (length T₁.questions) T₁.patterns (length T₁.trees) (length T₁.values)
        go true r e y = placed_in_lem (stands_is (rows_of T) (need_of p) other (first_of (stands (rows_of T) (need_of p) other) (leb p.lines (length T.work / 6)) r)) e y
        go false r e y = let u : ◌≡◌ {A = ℕ} 0 1 = cc in absurd (omega arith)

  pub step_refused : {z : Refusal} {T₁ : Lent} → Err z ≡ (beside_for x other d (Ok p) T).answer → T₁ ≡ (beside_for x other d (Ok p) T).tables
      → StepsPlanned x d p other T (Err z) T₁
  step_refused e y = (ap (ruled_as x d p (beside_for x other d (Ok p) T).tables) e, y)

  pub step_judged : {q a t c v n : ℕ} {T₁ : Lent} → loaded q a t c v ≡ (beside_for x other d (Ok p) T).answer → T₁ ≡ (beside_for x other d (Ok p) T).tables
      → n ≡ rule_in x d p T₁.questions T₁.trees T₁.values → {r : List ℕ} → r ≡ T₁.patterns
      → StepsPlanned x d p other T (judged_as n (bounds_of q a t c v)) (lent T₁.questions r T₁.trees T₁.records T₁.values T₁.work)
  step_judged {q} {a} {t} {c} {v} {n} {T₁} e y i j = (
    ap (λ (m : ℕ). judged_as m (bounds_of q a t c v)) (i ∙ ap (λ (U : Lent). rule_in x d p U.questions U.trees U.values) y)
        ∙ ap (ruled_as x d p (beside_for x other d (Ok p) T).tables) e,
    same_lent refl j refl refl refl refl ∙ y,
  )

-- ---- the model asked for

module _ (x : Side) (s : List ℕ) (h : Header) (which : Which) (mine other : Held) (T : Lent) {q a t c v : List ℕ}
    (u : Tabled (unload_of {R = Refusal} x mine other (rows_of T)).tables q a t c v) where
  emptied_is : lent q a t c v T.work ≡ emptied x mine other T
  emptied_is = same_lent u.questions u.patterns u.trees u.records u.values refl

  pub next_refused : {z : Refusal} → Err z ≡ planned s h which → Steps x s h which mine other T (Err z) (lent q a t c v T.work)
  unfolding step_of
  next_refused {z} e =
      subst (λ (o : Result Plan Refusal). Is (step_for x other (data_of s h) o (emptied x mine other T)) (Err z) (lent q a t c v T.work)) e (refl, emptied_is)

  pub next_planned : {p : Plan} → Ok p ≡ planned s h which → {d : List ℕ} {l : Result Judged Refusal} {T₁ : Lent} → d ≡ data_of s h → StepsPlanned x d p other (lent q a t c v T.work) l T₁
      → Steps x s h which mine other T l T₁
  unfolding step_of
  next_planned {p} e {d} {l} {T₁} y z =
      subst (λ (o : Result Plan Refusal). Is (step_for x other (data_of s h) o (emptied x mine other T)) l T₁) e
      (subst (λ (U : Lent). Is (step_for x other (data_of s h) (Ok p) U) l T₁) emptied_is (subst (λ (d : List ℕ). StepsPlanned x d p other (lent q a t c v T.work) l T₁) y z))
