-- Each way through the rules; and what is known of a plan's text.
use mathlib.Core.Path.{◌≡◌, sym, ap, ◌∙◌, subst}
use mathlib.Core.Bool.{Bool, true, false}
use mathlib.Core.List.{List}
use Prim.Native.Nat.{ℕ, ◌≤◌}
use native.Mathlib.Omega.{arith}
use lib.ListN.{length, take}
use lib.Seq.{sets}
use Rattle.table_rows.specs.Rows.{tree_rows}
use Rattle.tree_question.specs.Questions.{questions_at}
use Rattle.tree_body.specs.Trees.{trees_at}
use Rattle.load_questions.specs.Words.{pattern_words}
use Rattle.load_plan.specs.declared.Plan.{Plan}
use Rattle.load_plan.proofs.Laws.{Was, was}
use Rattle.house_values.specs.Values.{values_good}
use Rattle.house_names.specs.Names.{all_last, Room}
use Rattle.house_text.specs.Text.{trees_ids, trees_fit}
use Rattle.house_model.specs.Model.{rule_of, Loaded}

-- the text that a function was given is the plan's
module _ {d : List ℕ} {p : Plan} {a : List ℕ} {n : ℕ} (l : Loaded d p a n) {s : List ℕ} (e : s ≡ take p.text_end d) where
  known : Was (take p.text_end d) p.text p.first p.questions p.patterns p.trees p.records p.lines
  known = was (take p.text_end d) p.text l.sound.text

  pub names_room : Room s p.text p.questions (length a)
  names_room =
      subst (λ (x : List ℕ). Room x p.text p.questions (length a)) (sym e)
      (record { read = record { end = p.first; done = known.begins }; asked = known.asked; room = omega (arith, l.room, known.patterns) })

  pub leaves_room : (t : List ℕ) → length t ≡ n → length (trees_at s p.first).items ≤ tree_rows t
  leaves_room t k = subst (λ (x : List ℕ). length (trees_at x p.first).items ≤ tree_rows t) (sym e) (omega (arith, k, l.rows, known.trees))

  pub patterns_back : {b : List ℕ} → b ≡ sets a 0 (pattern_words (questions_at s p.text).items) → b ≡ a
  patterns_back k = k ∙ ap (λ (x : List ℕ). sets a 0 (pattern_words (questions_at x p.text).items)) e ∙ l.there

module _ (d : List ℕ) (p : Plan) (q t v : List ℕ) {s : List ℕ} (e : s ≡ take p.text_end d) where
  ids_are : {b c : Bool} → b ≡ trees_ids (trees_at s p.first).items → b ≡ c → trees_ids (trees_at (take p.text_end d) p.first).items ≡ c
  ids_are h k = sym (ap (λ (x : List ℕ). trees_ids (trees_at x p.first).items) e) ∙ sym h ∙ k

  names_are : {b c : Bool} → b ≡ all_last s q p.questions → b ≡ c → all_last (take p.text_end d) q p.questions ≡ c
  names_are h k = sym (ap (λ (x : List ℕ). all_last x q p.questions) e) ∙ sym h ∙ k

  leaves_are : {b c : Bool} → b ≡ trees_fit t (trees_at s p.first).items → b ≡ c → trees_fit t (trees_at (take p.text_end d) p.first).items ≡ c
  leaves_are h k = sym (ap (λ (x : List ℕ). trees_fit t (trees_at x p.first).items) e) ∙ sym h ∙ k

  module _ {b : Bool} (h : b ≡ trees_ids (trees_at s p.first).items) where
    pub other_ids : b ≡ false → 32 ≡ rule_of d p q t v
    unfolding rule_of
    other_ids k = rw (ids_are h k)

    module _ (ids : b ≡ true) {c : Bool} (i : c ≡ all_last s q p.questions) where
      pub other_names : c ≡ false → 33 ≡ rule_of d p q t v
      unfolding rule_of
      other_names k = rw (ids_are h ids, names_are i k)

      module _ (names : c ≡ true) {f : Bool} (j : f ≡ trees_fit t (trees_at s p.first).items) where
        pub other_leaves : f ≡ false → 34 ≡ rule_of d p q t v
        unfolding rule_of
        other_leaves k = rw (ids_are h ids, names_are i names, leaves_are j k)

        module _ (leaves : f ≡ true) {g : Bool} (m : g ≡ values_good false p.width v) where
          pub other_means : g ≡ false → 35 ≡ rule_of d p q t v
          unfolding rule_of
          other_means k = rw (ids_are h ids, names_are i names, leaves_are j leaves, sym m ∙ k)

          module _ (means : g ≡ true) {o : Bool} (n : o ≡ values_good true p.width v) where
            pub other_variances : o ≡ false → 36 ≡ rule_of d p q t v
            unfolding rule_of
            other_variances k = rw (ids_are h ids, names_are i names, leaves_are j leaves, sym m ∙ means, sym n ∙ k)

            pub no_other : o ≡ true → 0 ≡ rule_of d p q t v
            unfolding rule_of
            no_other k = rw (ids_are h ids, names_are i names, leaves_are j leaves, sym m ∙ means, sym n ∙ k)
