-- Pattern rows stored one after the other: what is left, stored, gives the table with all of them.
use mathlib.Core.Path.{◌≡◌, refl, sym, ap, ◌∙◌}
use mathlib.Core.List.{List, [], ◌∷◌, append-nil}
use Prim.Native.Nat.{ℕ, ◌+◌, ◌*◌, ◌≤◌}
use native.Mathlib.Omega.{arith}
use lib.ListN.{length}
use lib.Seq.{sets, length-sets}
use Rattle.text_parts.specs.Parts.{read_to, cut}
use Rattle.std.specs.Prelude.{Some, None}
use Rattle.written.specs.Bytes.{Span}
use Rattle.written.specs.Said.{QuestionPlace}
use Rattle.laws.specs.Steps.{Ending, done_at, broken_at, Reading}
use Rattle.laws.specs.Totals.{total}
use Rattle.laws.proofs.Tables.{sets-append}
use Rattle.tree_question.specs.Questions.{head_at, pattern_step_at, item_at, after_question, patterns_at, questions_at}
use Rattle.tree_question.specs.declared.Item.{Item}
use Rattle.tree_question.specs.declared.Item.TheVariants as item
use Rattle.tree_question.specs.declared.PatternStep.TheVariants as pattern
use Rattle.tree_question.proofs.Filling.{span, patterns_next, patterns_last, patterns_broken, questions_from_here, questions_next, questions_last, questions_stopped, begins_question}
use Rattle.tree_survey_questions.specs.Counts.{pattern_count, patterns_ended, patterns_counted}
use Rattle.tree_survey_questions.proofs.Counting.{counted_done}
use Rattle.load_questions.specs.Words.{Done, span_words, pattern_words}
use Rattle.load_questions.proofs.Laws.{place, Went, Ended, first_items, no_items}

pub span-length : (ws : List Span) → length (span_words ws) ≡ 2 * length ws
unfolding span_words
span-length [] = refl
span-length (w ∷ ws) = omega (arith, span-length ws)

module _ (s : List ℕ) where
  abbrev spans : ℕ → List Span
  spans i = (patterns_at s i).items

  -- ---- the patterns of one question

  module _ (at from : ℕ) (table₀ : List ℕ) where
    pub record Matching (table : List ℕ) (i word : ℕ) : Type 0 where
      pub long : length table ≡ length table₀
      pub room : word + 2 * length (patterns_at s i).items ≤ length table₀
      pub stored : sets table word (span_words (patterns_at s i).items) ≡ sets table₀ from (span_words (patterns_at s at).items)

    pub matching_none : from + 2 * length (patterns_at s at).items ≤ length table₀ → Matching table₀ at from
    matching_none h = record { long = refl; room = h; stored = refl }

    module _ (table : List ℕ) (i word : ℕ) (p : Matching table i word) where
      module _ {b n j : ℕ} (e : pattern.Next b n j ≡ pattern_step_at s i) where
        more : spans i ≡ span b n ∷ spans j
        more = ap (λ (r : Reading Span). r.items) (patterns_next s i e)

        pub next_fits : word + 2 ≤ length table
        next_fits = omega (arith, p.room, p.long, ap length more)

        pub matching_more : (table₁ : List ℕ) → table₁ ≡ sets table word (b ∷ n ∷ []) → Matching table₁ j (word + 2)
        unfolding span_words
        matching_more table₁ u =
            record {
              long = ap length u ∙ length-sets table word (b ∷ n ∷ []) ∙ p.long;
              room = omega (arith, p.room, ap length more);
              stored =
                  ap (λ (t : List ℕ). sets t (word + 2) (span_words (spans j))) u ∙ sets-append table word (b ∷ n ∷ []) (span_words (spans j))
                  ∙ sym (ap (λ (ws : List Span). sets table word (span_words ws)) more) ∙ p.stored;
            }

      module _ {b n j : ℕ} (e : pattern.Last b n j ≡ pattern_step_at s i) where
        only : spans i ≡ span b n ∷ []
        only = ap (λ (r : Reading Span). r.items) (patterns_last s i e)

        pub last_fits : word + 2 ≤ length table
        last_fits = omega (arith, p.room, p.long, ap length only)

        pub matching_last : (table₁ : List ℕ) → table₁ ≡ sets table word (b ∷ n ∷ []) → table₁ ≡ sets table₀ from (span_words (patterns_at s at).items)
        unfolding span_words
        matching_last table₁ u = u ∙ sym (ap (λ (ws : List Span). sets table word (span_words ws)) only) ∙ p.stored

      pub matching_broken : pattern.Broken ≡ pattern_step_at s i → table ≡ sets table₀ from (span_words (patterns_at s at).items)
      unfolding span_words
      matching_broken e = sym (ap (λ (r : Reading Span). sets table word (span_words r.items)) (patterns_broken s i e)) ∙ p.stored

  -- ---- the patterns of all questions

  -- no question is broken on the way to the first tree
  never : (i : ℕ) → Done (questions_from_here s i) → {e : ℕ} → (questions_from_here s i).ending ≡ broken_at e → {A : Type 0} → A
  never i z {e} b =
      let v : broken_at e ≡ done_at z.end = sym b ∙ z.done in
      let u : ◌≡◌ {A = ℕ} 0 1 = cc in absurd (omega arith)

  module _ (i : ℕ) (z : Done (questions_from_here s i)) {b n f : ℕ} (h : Some (read_to (cut b n) f) ≡ head_at s i) where
    standing : (rest : List QuestionPlace) × ((questions_from_here s i).items ≡ place s b n f ∷ rest)
    standing = go (patterns_at s f).ending refl
      where
        go : (d : Ending) → (patterns_at s f).ending ≡ d → (rest : List QuestionPlace) × ((questions_from_here s i).items ≡ place s b n f ∷ rest)
        go (done_at e) d = pick (after_question s e) refl
          where
            pick : (t : Item) → t ≡ after_question s e → (rest : List QuestionPlace) × ((questions_from_here s i).items ≡ place s b n f ∷ rest)
            pick (item.Question j) a = ((questions_from_here s j).items, ap (λ (r : Reading QuestionPlace). r.items) (questions_next s i h d a))
            pick (item.Tree j) a = ([], ap (λ (r : Reading QuestionPlace). r.items) (questions_last s i h d a))
        go (broken_at e) d = never i z (ap (λ (r : Reading QuestionPlace). r.ending) (questions_stopped s i h d))

    pub never_broken : None ≡ patterns_counted 0 (patterns_at s f) → {A : Type 0} → A
    unfolding patterns_counted
    never_broken x {A} = go (patterns_at s f).ending refl x
      where
        go : (d : Ending) → (patterns_at s f).ending ≡ d → None ≡ patterns_ended (0 + length (patterns_at s f).items) d → A
        go (done_at e) d x = let u : ◌≡◌ {A = ℕ} 0 1 = cc in absurd (omega arith)
        go (broken_at e) d x = never i z (ap (λ (r : Reading QuestionPlace). r.ending) (questions_stopped s i h d))

    pub done_next : {m e j : ℕ} → Some (read_to m e) ≡ patterns_counted 0 (patterns_at s f) → item.Question j ≡ after_question s e → Done (questions_from_here s j)
    done_next {m} {e} {j} x a =
        record { end = z.end; done = sym (ap (λ (r : Reading QuestionPlace). r.ending) (questions_next s i h (counted_done s (patterns_at s f) m e x).0 a)) ∙ z.done }

  module _ (at : ℕ) (table₀ : List ℕ) where
    abbrev pub words : ℕ → List ℕ
    words i = pattern_words (questions_from_here s i).items

    abbrev patterns_of : ℕ → ℕ
    patterns_of i = total pattern_count (questions_from_here s i).items

    pub record Listing (table : List ℕ) (i word : ℕ) : Type 0 where
      pub long : length table ≡ length table₀
      pub room : word + 2 * total pattern_count (questions_from_here s i).items ≤ length table₀
      pub stored : sets table word (words i) ≡ sets table₀ 0 (words at)

    pub listing_none : 2 * total pattern_count (questions_from_here s at).items ≤ length table₀ → Listing table₀ at 0
    listing_none h = record { long = refl; room = omega arith; stored = refl }

    module _ (table : List ℕ) (i word : ℕ) (p : Listing table i word) where
      module _ {b n f m j : ℕ} (w : Went s i b n f m j) where
        weight : patterns_of i ≡ length (spans f) + patterns_of j
        unfolding total
        weight = ap (total pattern_count) w.items

        pub next_room : word + 2 * length (patterns_at s f).items ≤ length table
        next_room = omega (arith, p.room, p.long, weight)

        pub next_word : word + 2 * m ≤ length table
        next_word = omega (arith, next_room, w.count)

        pub listing_more : (table₁ : List ℕ) → table₁ ≡ sets table word (span_words (patterns_at s f).items) → Listing table₁ j (word + 2 * m)
        unfolding pattern_words
        listing_more table₁ u =
            let e : word + 2 * m ≡ word + length (span_words (spans f)) = omega (arith, span-length (spans f), w.count) in
            record {
              long = ap length u ∙ length-sets table word (span_words (spans f)) ∙ p.long;
              room = omega (arith, p.room, weight, w.count);
              stored =
                  ap (λ (t : List ℕ). sets t (word + 2 * m) (words j)) u ∙ ap (λ (x : ℕ). sets (sets table word (span_words (spans f))) x (words j)) e
                  ∙ sets-append table word (span_words (spans f)) (words j)
                  ∙ sym (ap (λ (qs : List QuestionPlace). sets table word (pattern_words qs)) w.items) ∙ p.stored;
            }

      -- the question at i, of questions that can be read
      pub standing_room : Done (questions_from_here s i) → {b n f : ℕ} → Some (read_to (cut b n) f) ≡ head_at s i → word + 2 * length (patterns_at s f).items ≤ length table
      unfolding total
      standing_room z h = let a = standing i z h in omega (arith, p.room, p.long, ap (total pattern_count) a.1)

      module _ {b n f m : ℕ} (w : Ended s i b n f m) where
        final : patterns_of i ≡ length (spans f) + 0
        unfolding total
        final = ap (total pattern_count) w.items

        pub last_room : word + 2 * length (patterns_at s f).items ≤ length table
        last_room = omega (arith, p.room, p.long, final)

        pub listing_last : (table₁ : List ℕ) → table₁ ≡ sets table word (span_words (patterns_at s f).items) → table₁ ≡ sets table₀ 0 (words at)
        unfolding pattern_words
        listing_last table₁ u =
            u ∙ ap (sets table word) (sym (append-nil (span_words (spans f))))
            ∙ sym (ap (λ (qs : List QuestionPlace). sets table word (pattern_words qs)) w.items) ∙ p.stored

      pub listing_broken : (questions_from_here s i).items ≡ [] → table ≡ sets table₀ 0 (words at)
      unfolding pattern_words
      listing_broken e = sym (ap (λ (qs : List QuestionPlace). sets table word (pattern_words qs)) e) ∙ p.stored

  -- ---- what a text begins with

  pub first_patterns : (at : ℕ) {j n : ℕ} → item.Question j ≡ item_at s at → 2 * total pattern_count (questions_at s at).items ≤ n → 2 * total pattern_count (questions_from_here s j).items ≤ n
  first_patterns at e h = omega (arith, ap (total pattern_count) (first_items s at e))

  pub first_done : (at : ℕ) {j : ℕ} → item.Question j ≡ item_at s at → Done (questions_at s at) → Done (questions_from_here s j)
  first_done at e z = record { end = z.end; done = sym (ap (λ (r : Reading QuestionPlace). r.ending) (begins_question s at e)) ∙ z.done }

  pub first_listed : (at : ℕ) {j : ℕ} → item.Question j ≡ item_at s at → (table table₁ : List ℕ)
      → table₁ ≡ sets table 0 (pattern_words (questions_from_here s j).items) → table₁ ≡ sets table 0 (pattern_words (questions_at s at).items)
  first_listed at e table table₁ u = u ∙ sym (ap (λ (qs : List QuestionPlace). sets table 0 (pattern_words qs)) (first_items s at e))

  pub none_listed : (at : ℕ) {j : ℕ} → item.Tree j ≡ item_at s at → (table : List ℕ) → table ≡ sets table 0 (pattern_words (questions_at s at).items)
  unfolding pattern_words
  none_listed at e table = sym (ap (λ (qs : List QuestionPlace). sets table 0 (pattern_words qs)) (no_items s at e))
