-- One question, read; and question rows stored one after the other: what is left, stored, gives the table with all of them.
use mathlib.Core.Path.{◌≡◌, refl, sym, ap, ◌∙◌, subst}
use mathlib.Core.List.{List, [], ◌∷◌}
use Prim.Native.Nat.{ℕ, ◌+◌, ◌*◌, ◌≤◌, ◌<◌}
use native.Mathlib.Omega.{arith}
use lib.ListN.{length}
use lib.Seq.{sets, length-sets}
use Rattle.text_parts.specs.declared.Span.{Span}
use Rattle.text_parts.specs.declared.Read.{Read}
use Rattle.text_parts.specs.Parts.{read_to, cut}
use Rattle.std.specs.declared.option.Option.{Option}
use Rattle.std.specs.Prelude.{Some, None}
use Rattle.written.specs.Said.{QuestionPlace}
use Rattle.laws.specs.Steps.{Ending, done_at, broken_at, Reading}
use Rattle.laws.proofs.Tables.{sets-append}
use Rattle.tree_question.specs.Questions.{head_at, item_at, after_question, patterns_at, questions_at}
use Rattle.tree_question.specs.declared.Item.{Item}
use Rattle.tree_question.specs.declared.Item.TheVariants as item
use Rattle.tree_question.proofs.Filling.{span, questions_from_here, questions_next, questions_last, questions_stopped, questions_broken, begins_question, begins_tree}
use Rattle.tree_survey_questions.specs.Counts.{patterns_ended, patterns_counted}
use Rattle.tree_survey_questions.proofs.Counting.{asked_next, asked_last, more_in, final_in}
use Rattle.load_questions.specs.Words.{question_words, row_followed, row_counted, row_headed, row_at}
use Rattle.load_questions.specs.declared.QuestionRow.{QuestionRow}
use Rattle.load_questions.specs.declared.QuestionRow.TheVariants as row

module _ (s : List ℕ) where
  -- the question of a name and of the patterns from f on
  abbrev pub place : ℕ → ℕ → ℕ → QuestionPlace
  place b n f = record { name = span b n; patterns = (patterns_at s f).items }

  -- ---- one question: each way through

  module _ (i : ℕ) {b n f : ℕ} (h : Some (read_to (cut b n) f) ≡ head_at s i) where
    module _ {m e : ℕ} (d : Some (read_to m e) ≡ patterns_counted 0 (patterns_at s f)) where
      followed : {t : Item} → t ≡ after_question s e → row_followed b n f m t ≡ row_at s i
      unfolding row_at
      followed a = ap (row_followed b n f m) a ∙ ap (row_counted s b n f) d ∙ ap (row_headed s) h

      pub row_next : {j : ℕ} → item.Question j ≡ after_question s e → row.Next b n f m j ≡ row_at s i
      row_next a = followed a

      pub row_last : {j : ℕ} → item.Tree j ≡ after_question s e → row.Last b n f m ≡ row_at s i
      row_last a = followed a

    pub row_broken : None ≡ patterns_counted 0 (patterns_at s f) → row.Broken ≡ row_at s i
    unfolding row_at
    row_broken d = ap (row_counted s b n f) d ∙ ap (row_headed s) h

  pub row_none : (i : ℕ) → None ≡ head_at s i → row.Broken ≡ row_at s i
  unfolding row_at
  row_none i h = ap (row_headed s) h

  -- ---- what is answered of one question

  pub record Went (i b n f m j : ℕ) : Type 0 where
    pub items : (questions_from_here s i).items ≡ place b n f ∷ (questions_from_here s j).items
    pub count : length (patterns_at s f).items ≡ m
    pub on : i < j
    pub inside : j ≤ length s
    pub apart : m + i ≤ j

  pub record Ended (i b n f m : ℕ) : Type 0 where
    pub items : (questions_from_here s i).items ≡ place b n f ∷ []
    pub count : length (patterns_at s f).items ≡ m
    pub inside : m + i < length s

  -- the answer of each way through
  abbrev pub Told : ℕ → QuestionRow → Type 0
  Told i (row.Next b n f m j) = Went i b n f m j
  Told i (row.Last b n f m) = Ended i b n f m
  Told i row.Broken = (questions_from_here s i).items ≡ []

  pub told : (i : ℕ) → Told i (row_at s i)
  unfolding row_at patterns_counted
  told i = go (head_at s i) refl
    where
      within : (b n f : ℕ) → Some (read_to (cut b n) f) ≡ head_at s i → (d : Ending) → (patterns_at s f).ending ≡ d → Told i (row_counted s b n f (patterns_ended (0 + length (patterns_at s f).items) d))
      within b n f h (done_at e) q = pick (after_question s e) refl
        where
          pick : (t : Item) → after_question s e ≡ t → Told i (row_followed b n f (0 + length (patterns_at s f).items) t)
          pick (item.Question j) a =
              let u = more_in s i _ j (asked_next s i h (ap (patterns_ended (0 + length (patterns_at s f).items)) (sym q)) (sym a)) in
              record { items = ap (λ (r : Reading QuestionPlace). r.items) (questions_next s i h q (sym a)); count = omega arith; on = u.0; inside = u.1; apart = u.2 }
          pick (item.Tree j) a =
              record {
                items = ap (λ (r : Reading QuestionPlace). r.items) (questions_last s i h q (sym a));
                count = omega arith;
                inside = final_in s i _ j (asked_last s i h (ap (patterns_ended (0 + length (patterns_at s f).items)) (sym q)) (sym a));
              }
      within b n f h (broken_at e) q = ap (λ (r : Reading QuestionPlace). r.items) (questions_stopped s i h q)

      go : (t : Option (Read Span)) → head_at s i ≡ t → Told i (row_headed s t)
      go (Some r) h = within r.value.start r.value.len r.next (sym h) (patterns_at s r.next).ending refl
      go None h = ap (λ (r : Reading QuestionPlace). r.items) (questions_broken s i (sym h))

  module _ (i : ℕ) {r : QuestionRow} (e : r ≡ row_at s i) where
    pub told_of : Told i r
    told_of = subst (Told i) (sym e) (told i)

  -- ---- question rows

  module _ (at : ℕ) (table₀ : List ℕ) where
    abbrev pub words : ℕ → ℕ → List ℕ
    words k i = question_words k (questions_from_here s i).items

    -- k: the row of the first pattern of the question at i
    pub record Asking (table : List ℕ) (i word k : ℕ) : Type 0 where
      pub long : length table ≡ length table₀
      pub room : word + 4 * length (questions_from_here s i).items ≤ length table₀
      pub few : k ≤ i
      pub stored : sets table word (words k i) ≡ sets table₀ 0 (words 0 at)

    pub asking_none : 4 * length (questions_from_here s at).items ≤ length table₀ → Asking table₀ at 0 0
    asking_none h = record { long = refl; room = omega arith; few = omega arith; stored = refl }

    module _ (table : List ℕ) (i word k : ℕ) (p : Asking table i word k) where
      module _ {b n f m j : ℕ} (w : Went i b n f m j) where
        pub next_room : word + 4 ≤ length table
        next_room = omega (arith, p.room, p.long, ap length w.items)

        pub asking_more : (table₁ : List ℕ) → table₁ ≡ sets table word (b ∷ n ∷ k ∷ m ∷ []) → Asking table₁ j (word + 4) (k + m)
        unfolding question_words
        asking_more table₁ u =
            record {
              long = ap length u ∙ length-sets table word (b ∷ n ∷ k ∷ m ∷ []) ∙ p.long;
              room = omega (arith, p.room, ap length w.items);
              few = omega (arith, p.few, w.apart);
              stored =
                  ap (λ (t : List ℕ). sets t (word + 4) (words (k + m) j)) u ∙ sets-append table word (b ∷ n ∷ k ∷ m ∷ []) (words (k + m) j)
                  ∙ ap (λ (x : ℕ). sets table word (b ∷ n ∷ k ∷ x ∷ words (k + x) j)) (sym w.count)
                  ∙ sym (ap (λ (qs : List QuestionPlace). sets table word (question_words k qs)) w.items) ∙ p.stored;
            }

      module _ {b n f m : ℕ} (w : Ended i b n f m) where
        pub last_room : word + 4 ≤ length table
        last_room = omega (arith, p.room, p.long, ap length w.items)

        pub asking_last : (table₁ : List ℕ) → table₁ ≡ sets table word (b ∷ n ∷ k ∷ m ∷ []) → table₁ ≡ sets table₀ 0 (words 0 at)
        unfolding question_words
        asking_last table₁ u =
            u ∙ ap (λ (x : ℕ). sets table word (b ∷ n ∷ k ∷ x ∷ [])) (sym w.count)
            ∙ sym (ap (λ (qs : List QuestionPlace). sets table word (question_words k qs)) w.items) ∙ p.stored

      pub asking_broken : (questions_from_here s i).items ≡ [] → table ≡ sets table₀ 0 (words 0 at)
      unfolding question_words
      asking_broken e = sym (ap (λ (qs : List QuestionPlace). sets table word (question_words k qs)) e) ∙ p.stored

  -- ---- what a text begins with

  module _ (at : ℕ) {j : ℕ} (e : item.Question j ≡ item_at s at) where
    pub first_items : (questions_at s at).items ≡ (questions_from_here s j).items
    first_items = ap (λ (r : Reading QuestionPlace). r.items) (begins_question s at e)

    pub first_room : {n : ℕ} → 4 * length (questions_at s at).items ≤ n → 4 * length (questions_from_here s j).items ≤ n
    first_room h = omega (arith, ap length first_items)

    pub first_asked : (table table₁ : List ℕ) → table₁ ≡ sets table 0 (question_words 0 (questions_from_here s j).items) → table₁ ≡ sets table 0 (question_words 0 (questions_at s at).items)
    first_asked table table₁ u = u ∙ sym (ap (λ (qs : List QuestionPlace). sets table 0 (question_words 0 qs)) first_items)

  pub no_items : (at : ℕ) {j : ℕ} → item.Tree j ≡ item_at s at → (questions_at s at).items ≡ []
  no_items at e = ap (λ (r : Reading QuestionPlace). r.items) (begins_tree s at e)

  pub none_asked : (at : ℕ) {j : ℕ} → item.Tree j ≡ item_at s at → (table : List ℕ) → table ≡ sets table 0 (question_words 0 (questions_at s at).items)
  unfolding question_words
  none_asked at e table = sym (ap (λ (qs : List QuestionPlace). sets table 0 (question_words 0 qs)) (no_items at e))
