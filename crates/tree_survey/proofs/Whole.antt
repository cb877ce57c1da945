-- The laws of the survey of a whole text: its questions, then its trees.
use mathlib.Core.Path.{◌≡◌, refl, sym, ap, ◌∙◌}
use mathlib.Core.Bool.{Bool, true, false, cond}
use mathlib.Core.List.{List}
use Prim.Native.Nat.{ℕ, ◌+◌}
use native.Mathlib.Omega.{arith}
use lib.ListN.{length}
use Rattle.tree_survey.specs.declared.SurveyError.TheVariants as fault
use Rattle.text_parts.specs.Parts.{read_to}
use Rattle.std.specs.Prelude.{Ok, Err}
use Rattle.written.specs.Said.{QuestionPlace}
use Rattle.laws.specs.Steps.{Ending, done_at, broken_at, Reading}
use Rattle.laws.specs.Totals.{total, largest, any_of}
use Rattle.tree_question.specs.Questions.{questions_at}
use Rattle.tree_survey_questions.specs.Counts.{pattern_count, questions_ended, questions_counted, questions_of}
use Rattle.tree_body.specs.Trees.{Tree, trees_at}
use Rattle.tree_survey.specs.Survey.{text_read, text_at, tree_negative, tree_records, tree_lines, trees_ended, trees_counted, survey_ended, survey_of, survey_at, trees_of, counts_of}

-- what a count of questions that succeeded says
pub record Asked (r : Reading QuestionPlace) (n m e : ℕ) : Type 0 where
  pub done : r.ending ≡ done_at e
  pub count : length r.items ≡ n
  pub patterns : total pattern_count r.items ≡ m

pub asked : (r : Reading QuestionPlace) (n m e : ℕ) → Ok (read_to (questions_of n m) e) ≡ questions_counted 0 0 r → Asked r n m e
unfolding questions_counted
asked r n m e h = go r.ending refl h
  where
    go : (d : Ending) → r.ending ≡ d → Ok (read_to (questions_of n m) e) ≡ questions_ended (0 + length r.items) (0 + total pattern_count r.items) d → Asked r n m e
    go (done_at x) q h =
        let u : e ≡ x = grind arith in
        let v : n ≡ 0 + length r.items = grind arith in
        let w : m ≡ 0 + total pattern_count r.items = grind arith in
        record { done = q ∙ ap done_at (sym u); count = omega arith; patterns = omega arith }
    go (broken_at x) q h = let u : ◌≡◌ {A = ℕ} 0 1 = cc in absurd (omega arith)

pub not_asked : (r : Reading QuestionPlace) (e : ℕ) → Err e ≡ questions_counted 0 0 r → r.ending ≡ broken_at e
unfolding questions_counted
not_asked r e h = go r.ending h
  where
    go : (d : Ending) → Err e ≡ questions_ended (0 + length r.items) (0 + total pattern_count r.items) d → d ≡ broken_at e
    go (done_at x) h = let u : ◌≡◌ {A = ℕ} 0 1 = cc in absurd (omega arith)
    go (broken_at x) h = let u : e ≡ x = cc in ap broken_at (sym u)

-- what a count of trees that succeeded says
record Grown (r : Reading Tree) (b : Bool) (n m k : ℕ) : Type 0 where
  end : ℕ
  done : r.ending ≡ done_at end
  below : any_of tree_negative false r.items ≡ b
  count : length r.items ≡ n
  records : total tree_records r.items ≡ m
  lines : largest tree_lines 0 r.items ≡ k

grown : (r : Reading Tree) (b : Bool) (n m k : ℕ) → Ok (trees_of b n m k) ≡ trees_counted false 0 0 0 r → Grown r b n m k
unfolding trees_counted
grown r b n m k h = go r.ending refl h
  where
    go : (d : Ending) → r.ending ≡ d → Ok (trees_of b n m k) ≡ trees_ended (any_of tree_negative false r.items) (0 + length r.items) (0 + total tree_records r.items) (largest tree_lines 0 r.items) d → Grown r b n m k
    go (done_at x) q h =
        let u : b ≡ any_of tree_negative false r.items = grind arith in
        let v : n ≡ 0 + length r.items = grind arith in
        let w : m ≡ 0 + total tree_records r.items = grind arith in
        let z : k ≡ largest tree_lines 0 r.items = grind arith in
        record { end = x; done = q; below = sym u; count = omega arith; records = omega arith; lines = sym z }
    go (broken_at x) q h = let u : ◌≡◌ {A = ℕ} 0 1 = cc in absurd (omega arith)

not_grown : (r : Reading Tree) (e : ℕ) → Err e ≡ trees_counted false 0 0 0 r → r.ending ≡ broken_at e
unfolding trees_counted
not_grown r e h = go r.ending h
  where
    go : (d : Ending) → Err e ≡ trees_ended (any_of tree_negative false r.items) (0 + length r.items) (0 + total tree_records r.items) (largest tree_lines 0 r.items) d → d ≡ broken_at e
    go (done_at x) h = let u : ◌≡◌ {A = ℕ} 0 1 = cc in absurd (omega arith)
    go (broken_at x) h = let u : e ≡ x = cc in ap broken_at (sym u)

module _ (s : List ℕ) (i : ℕ) where
  -- the questions don't fit
  pub no_questions : {e : ℕ} → Err e ≡ questions_counted 0 0 (questions_at s i) → Err (fault.Broken e) ≡ survey_at s i
  unfolding survey_at survey_of text_at
  no_questions {e} h = sym (ap (λ d. survey_of (text_read s (questions_at s i).items d)) (not_asked (questions_at s i) e h))

  module _ {q p a : ℕ} (h : Ok (read_to (questions_of q p) a) ≡ questions_counted 0 0 (questions_at s i)) where
    done : Asked (questions_at s i) q p a
    done = asked (questions_at s i) q p a h

    trees_at_lem : survey_at s i ≡ survey_of (text_read s (questions_at s i).items (done_at a))
    unfolding survey_at text_at
    trees_at_lem = let d = done in ap (λ e. survey_of (text_read s (questions_at s i).items e)) d.done

    -- the trees don't fit
    pub no_trees : {e : ℕ} → Err e ≡ trees_counted false 0 0 0 (trees_at s a) → Err (fault.Broken e) ≡ survey_at s i
    unfolding survey_of
    no_trees {e} t = sym (trees_at_lem ∙ ap (survey_ended (text_read s (questions_at s i).items (done_at a))) (not_grown (trees_at s a) e t))

    module _ {b : Bool} {n m k : ℕ} (t : Ok (trees_of b n m k) ≡ trees_counted false 0 0 0 (trees_at s a)) where
      g : Grown (trees_at s a) b n m k
      g = grown (trees_at s a) b n m k t

      judged : survey_at s i
          ≡ cond (any_of tree_negative false (trees_at s a).items) (Err fault.Negative)
          (Ok (counts_of (length (questions_at s i).items) (total pattern_count (questions_at s i).items) (length (trees_at s a).items) (total tree_records (trees_at s a).items) (largest tree_lines 0 (trees_at s a).items)))
      unfolding survey_of
      judged = let e = g in trees_at_lem ∙ ap (survey_ended (text_read s (questions_at s i).items (done_at a))) e.done

      pub a_negative : b ≡ true → (Err fault.Negative) ≡ survey_at s i
      a_negative y = let e = g in sym (rw (e.below ∙ y) at judged)

      pub counted : b ≡ false → Ok (counts_of q p n m k) ≡ survey_at s i
      counted y =
          let e = g in
          let d = done in
          let c : survey_at s i ≡ Ok (counts_of (length (questions_at s i).items) (total pattern_count (questions_at s i).items) (length (trees_at s a).items) (total tree_records (trees_at s a).items) (largest tree_lines 0 (trees_at s a).items)) = rw (e.below ∙ y) at judged in
          sym (c ∙ λ z. Ok (counts_of (d.count z) (d.patterns z) (e.count z) (e.records z) (e.lines z)))
