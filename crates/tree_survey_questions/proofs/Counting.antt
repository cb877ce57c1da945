-- The laws of counting patterns and questions: a turn of a loop counts one more of those that are read, and goes up.
use mathlib.Core.Path.{◌≡◌, refl, sym, ap, ap₂, ◌∙◌}
use mathlib.Core.List.{List}
use Prim.Native.Nat.{ℕ, suc, ◌+◌, ◌≤◌, ◌<◌}
use native.Mathlib.Omega.{arith}
use lib.ListN.{length}
use Rattle.text_parts.specs.declared.Span.{Span as Piece}
use Rattle.text_parts.specs.declared.Read.{Read}
use Rattle.text_parts.specs.Parts.{read_to, cut}
use Rattle.std.specs.declared.option.Option.{Option}
use Rattle.std.specs.Prelude.{Some, None, Ok, Err}
use Rattle.written.specs.Bytes.{Span}
use Rattle.written.specs.Said.{Question, QuestionPlace}
use Rattle.written.specs.TreeText.{Parted, last as only, next as then, Comma, PatternAt, bare, quoted, byte, end, QuestionAt, question}
use Rattle.written.proofs.Once.{run₁-lt, run-le}
use Rattle.written.proofs.Decide.{pattern_le, comma-lt, parting_lt}
use Rattle.laws.specs.Steps.{Ending, done_at, broken_at, Step, next, last, broken, Reading, read_of}
use Rattle.laws.specs.Totals.{total}
use Rattle.laws.proofs.Runs.{byte_in}
use Rattle.laws.proofs.Parted.{onward}
use Rattle.laws.proofs.Steps.{each_weighs}
use Rattle.text_spaces.proofs.Joined.{closed-lt, closed_inside}
use Rattle.tree_question.specs.Questions.{head_at, pattern_step_at, pattern_step, patterns_at, item_at, after_question, question_followed, question_read, question_headed, question_step_at, questions_from, questions_at}
use Rattle.tree_question.specs.declared.Item.{Item}
use Rattle.tree_question.specs.declared.Item.TheVariants as item
use Rattle.tree_question.specs.declared.PatternStep.{PatternStep}
use Rattle.tree_question.specs.declared.PatternStep.TheVariants as pattern
use Rattle.tree_question.proofs.Filling.{patterns_are, headed, questions_from_here, questions_are}
use Rattle.tree_question.proofs.Joined.{pattern_step_here, pattern_reads, question_reads}
use Rattle.tree_survey_questions.specs.Counts.{patterns_ended, patterns_counted, pattern_count, question_surveyed, questions_ended, questions_counted, questions_of}
use Rattle.tree_survey_questions.specs.declared.QuestionSurvey.TheVariants as survey

module _ (s : List ℕ) where
  -- ---- patterns

  -- the step of a pattern's answer
  stepped : (i : ℕ) {a : PatternStep} → a ≡ pattern_step_at s i → pattern_step_here s i ≡ pattern_step i a
  stepped i e = ap (pattern_step i) (sym e)

  pub next_in : (i : ℕ) {b n j : ℕ} → pattern.Next b n j ≡ pattern_step_at s i → (i < j) × (j ≤ length s)
  next_in i {b} {n} {j} e = (onward (pattern_reads s)).on i j (record { start = b; len = n }) (stepped i e)

  step_lt : (i j : ℕ) (w : Span) → pattern_step_here s i ≡ last w j → (i < j) × (j ≤ length s)
  step_lt i j w e = let r = (pattern_reads s).was_done i j w e in (omega (arith, pattern_le s r.item, closed-lt s r.rest), closed_inside s r.rest)

  pub last_in : (i : ℕ) {b n j : ℕ} → pattern.Last b n j ≡ pattern_step_at s i → (i < j) × (j ≤ length s)
  last_in i {b} {n} {j} e = step_lt i j (record { start = b; len = n }) (stepped i e)

  pub record Counting (at i n : ℕ) : Type 0 where
    pub same : patterns_counted n (patterns_at s i) ≡ patterns_counted 0 (patterns_at s at)
    pub few : n ≤ i

  pub counted_more : {at i n b k j : ℕ} → Counting at i n → pattern.Next b k j ≡ pattern_step_at s i → Counting at j (n + 1)
  unfolding patterns_counted
  counted_more {i = i} {n = n} {b = b} {k = k} {j = j} c e =
      let u = next_in i e in
      let m : n + 1 + length (patterns_at s j).items ≡ n + suc (length (patterns_at s j).items) = omega arith in
      record {
        same =
            ap (λ (x : ℕ). patterns_ended x (patterns_at s j).ending) m
            ∙ sym (ap (patterns_counted n) (patterns_are s i ∙ ap (read_of (patterns_at s)) (stepped i e))) ∙ c.same;
        few = omega (arith, c.few, u.0);
      }

  pub counted_last : {at i n b k j : ℕ} → Counting at i n → pattern.Last b k j ≡ pattern_step_at s i → Some (read_to (n + 1) j) ≡ patterns_counted 0 (patterns_at s at)
  unfolding patterns_counted
  counted_last {i = i} {n = n} c e = sym (ap (patterns_counted n) (patterns_are s i ∙ ap (read_of (patterns_at s)) (stepped i e))) ∙ c.same

  pub counted_broken : {at i n : ℕ} → Counting at i n → pattern.Broken ≡ pattern_step_at s i → None ≡ patterns_counted 0 (patterns_at s at)
  unfolding patterns_counted
  counted_broken {i = i} {n = n} c e = sym (ap (patterns_counted n) (patterns_are s i ∙ ap (read_of (patterns_at s)) (stepped i e))) ∙ c.same

  -- ---- one question

  pub counted_done : (r : Reading Span) (k e : ℕ) → Some (read_to k e) ≡ patterns_counted 0 r → (r.ending ≡ done_at e) × (length r.items ≡ k)
  unfolding patterns_counted
  counted_done r k e h = go r.ending refl h
    where
      go : (d : Ending) → r.ending ≡ d → Some (read_to k e) ≡ patterns_ended (0 + length r.items) d → (r.ending ≡ done_at e) × (length r.items ≡ k)
      go (done_at x) q h = let u : e ≡ x = grind arith in let v : k ≡ 0 + length r.items = grind arith in (q ∙ ap done_at (sym u), omega arith)
      go (broken_at x) q h = let u : ◌≡◌ {A = ℕ} 0 1 = cc in absurd (omega arith)

  counted_not : (r : Reading Span) → None ≡ patterns_counted 0 r → (e : ℕ) × (r.ending ≡ broken_at e)
  unfolding patterns_counted
  counted_not r h = go r.ending refl h
    where
      go : (d : Ending) → r.ending ≡ d → None ≡ patterns_ended (0 + length r.items) d → (e : ℕ) × (r.ending ≡ broken_at e)
      go (done_at x) q h = let u : ◌≡◌ {A = ℕ} 0 1 = cc in absurd (omega arith)
      go (broken_at x) q h = (x, q)

  module _ (i : ℕ) {b n f : ℕ} (h : Some (read_to (cut b n) f) ≡ head_at s i) where
    module _ {k e : ℕ} (d : Some (read_to k e) ≡ patterns_counted 0 (patterns_at s f)) where
      followed : question_step_at s i ≡ question_followed (record { name = record { start = b; len = n }; patterns = (patterns_at s f).items }) (after_question s e)
      followed = headed s i h ∙ ap (question_read s i (record { start = b; len = n }) (patterns_at s f).items) (counted_done (patterns_at s f) k e d).0

      long : length (patterns_at s f).items ≡ k
      long = (counted_done (patterns_at s f) k e d).1

      pub asked_next : {j : ℕ} → item.Question j ≡ after_question s e → survey.Next k j ≡ question_surveyed (question_step_at s i)
      asked_next {j} a =
          ap (λ (m : ℕ). survey.Next m j) (sym long)
          ∙ sym (ap question_surveyed (followed ∙ ap (question_followed (record { name = record { start = b; len = n }; patterns = (patterns_at s f).items })) (sym a)))

      pub asked_last : {j : ℕ} → item.Tree j ≡ after_question s e → survey.Last k j ≡ question_surveyed (question_step_at s i)
      asked_last {j} a =
          ap (λ (m : ℕ). survey.Last m j) (sym long)
          ∙ sym (ap question_surveyed (followed ∙ ap (question_followed (record { name = record { start = b; len = n }; patterns = (patterns_at s f).items })) (sym a)))

    pub asked_broken : None ≡ patterns_counted 0 (patterns_at s f) → survey.Broken ≡ question_surveyed (question_step_at s i)
    asked_broken d = sym (ap question_surveyed (headed s i h ∙ ap (question_read s i (record { start = b; len = n }) (patterns_at s f).items) (counted_not (patterns_at s f) d).1))

  pub asked_none : (i : ℕ) → None ≡ head_at s i → survey.Broken ≡ question_surveyed (question_step_at s i)
  unfolding question_step_at
  asked_none i h = ap (λ t. question_surveyed (question_headed s i t)) h

  -- ---- all questions

  -- patterns take a byte each at least
  pattern_lt : {i j : ℕ} {x : List ℕ} {w : Span} → PatternAt s i j x w → i < j
  pattern_lt (bare r) = run₁-lt r
  pattern_lt (quoted (byte p end) r (byte q end)) = omega (arith, run₁-lt r)

  patterns_size : {i j : ℕ} {xs : List (List ℕ)} {ws : List Span} → Parted (Comma s) (PatternAt s) i j xs ws → length ws + i ≤ j
  patterns_size (only t) = omega (arith, pattern_lt t)
  patterns_size (then t p r) = omega (arith, pattern_lt t, comma-lt s p, patterns_size r)

  question_size : {i j : ℕ} {x : Question} {q : QuestionPlace} → QuestionAt s i j x q → (pattern_count q + i < j) × (j ≤ length s)
  question_size (question (byte p (byte p' end)) r n t (byte o end) u ps v (byte z end)) =
      (omega (arith, run₁-lt r, run₁-lt n, run₁-lt t, run-le u, patterns_size ps, run-le v), byte_in s _ z (omega arith))

  step_next : (i j : ℕ) (q : QuestionPlace) → question_step_at s i ≡ next q j → (i < j) × (j ≤ length s) × (pattern_count q + i ≤ j)
  step_next i j q e =
      let r = (question_reads s).was_on i j q e in
      let a = (onward (question_reads s)).on i j q e in
      let z = question_size r.item in
      let p : pattern_count q ≡ pattern_count r.laid = ap pattern_count r.is in
      (a.0, a.1, omega (arith, z.0, parting_lt s r.rest))

  step_last : (i j : ℕ) (q : QuestionPlace) → question_step_at s i ≡ last q j → pattern_count q + i < length s
  step_last i j q e =
      let r = (question_reads s).was_done i j q e in
      let z = question_size r.item in
      let p : pattern_count q ≡ pattern_count r.laid = ap pattern_count r.is in
      omega (arith, z.0, z.1)

  surveyed_next : (i k j : ℕ) → survey.Next k j ≡ question_surveyed (question_step_at s i) → (q : QuestionPlace) × (question_step_at s i ≡ next q j) × (pattern_count q ≡ k)
  surveyed_next i k j h = go (question_step_at s i) refl h
    where
      go : (t : Step QuestionPlace) → question_step_at s i ≡ t → survey.Next k j ≡ question_surveyed t → (q : QuestionPlace) × (question_step_at s i ≡ next q j) × (pattern_count q ≡ k)
      go (next q x) e h = let u : j ≡ x = cc in let v : k ≡ pattern_count q = cc in (q, e ∙ ap (next q) (sym u), sym v)
      go (last q x) e h = let u : ◌≡◌ {A = ℕ} 0 1 = cc in absurd (omega arith)
      go (broken x) e h = let u : ◌≡◌ {A = ℕ} 0 1 = cc in absurd (omega arith)

  surveyed_last : (i k j : ℕ) → survey.Last k j ≡ question_surveyed (question_step_at s i) → (q : QuestionPlace) × (question_step_at s i ≡ last q j) × (pattern_count q ≡ k)
  surveyed_last i k j h = go (question_step_at s i) refl h
    where
      go : (t : Step QuestionPlace) → question_step_at s i ≡ t → survey.Last k j ≡ question_surveyed t → (q : QuestionPlace) × (question_step_at s i ≡ last q j) × (pattern_count q ≡ k)
      go (last q x) e h = let u : j ≡ x = cc in let v : k ≡ pattern_count q = cc in (q, e ∙ ap (last q) (sym u), sym v)
      go (next q x) e h = let u : ◌≡◌ {A = ℕ} 0 1 = cc in absurd (omega arith)
      go (broken x) e h = let u : ◌≡◌ {A = ℕ} 0 1 = cc in absurd (omega arith)

  -- where no question can be read, its start is the place
  surveyed_broken : (i : ℕ) → survey.Broken ≡ question_surveyed (question_step_at s i) → question_step_at s i ≡ broken i
  unfolding question_step_at
  surveyed_broken i h = go (head_at s i) h
    where
      within : (b n f : ℕ) (d : Ending) → survey.Broken ≡ question_surveyed (question_read s i (record { start = b; len = n }) (patterns_at s f).items d) → question_read s i (record { start = b; len = n }) (patterns_at s f).items d ≡ broken i
      within b n f (done_at e) h = pick (after_question s e) h
        where
          pick : (t : Item) → survey.Broken ≡ question_surveyed (question_followed (record { name = record { start = b; len = n }; patterns = (patterns_at s f).items }) t)
              → question_followed (record { name = record { start = b; len = n }; patterns = (patterns_at s f).items }) t ≡ broken i
          pick (item.Question j) h = let u : ◌≡◌ {A = ℕ} 0 1 = cc in absurd (omega arith)
          pick (item.Tree j) h = let u : ◌≡◌ {A = ℕ} 0 1 = cc in absurd (omega arith)
      within b n f (broken_at e) h = refl

      go : (t : Option (Read Piece)) → survey.Broken ≡ question_surveyed (question_headed s i t) → question_headed s i t ≡ broken i
      go (Some r) h = within r.value.start r.value.len r.next (patterns_at s r.next).ending h
      go None h = refl

  pub more_in : (i k j : ℕ) → survey.Next k j ≡ question_surveyed (question_step_at s i) → (i < j) × (j ≤ length s) × (k + i ≤ j)
  more_in i k j h = let r = surveyed_next i k j h in let z = step_next i j r.0 r.1 in (z.0, z.1, omega (arith, z.2, r.2))

  pub final_in : (i k j : ℕ) → survey.Last k j ≡ question_surveyed (question_step_at s i) → k + i < length s
  final_in i k j h = let r = surveyed_last i k j h in omega (arith, step_last i j r.0 r.1, r.2)

  pub record Surveying (at i n m : ℕ) : Type 0 where
    pub same : questions_counted n m (questions_from_here s i) ≡ questions_counted 0 0 (questions_from_here s at)
    pub few : n ≤ i
    pub few_patterns : m ≤ i

  pub surveyed_more : {at i n m k j : ℕ} → Surveying at i n m → survey.Next k j ≡ question_surveyed (question_step_at s i) → Surveying at j (n + 1) (m + k)
  unfolding questions_counted total
  surveyed_more {i = i} {n = n} {m = m} {k = k} {j = j} c h =
      let r = surveyed_next i k j h in
      let u = more_in i k j h in
      let p : n + 1 + length (questions_from_here s j).items ≡ n + suc (length (questions_from_here s j).items) = omega arith in
      let q : m + k + total pattern_count (questions_from_here s j).items ≡ m + (pattern_count r.0 + total pattern_count (questions_from_here s j).items) = omega (arith, r.2) in
      record {
        same =
            ap₂ (λ x y. questions_ended x y (questions_from_here s j).ending) p q
            ∙ sym (ap (questions_counted n m) (questions_are s i ∙ ap (read_of (questions_from_here s)) r.1)) ∙ c.same;
        few = omega (arith, c.few, u.0);
        few_patterns = omega (arith, c.few_patterns, u.2);
      }

  pub surveyed_end : {at i n m k j : ℕ} → Surveying at i n m → survey.Last k j ≡ question_surveyed (question_step_at s i) → Ok (read_to (questions_of (n + 1) (m + k)) j) ≡ questions_counted 0 0 (questions_from_here s at)
  unfolding questions_counted total
  surveyed_end {i = i} {n = n} {m = m} {k = k} {j = j} c h =
      let r = surveyed_last i k j h in
      let q : m + k ≡ m + (pattern_count r.0 + 0) = omega (arith, r.2) in
      ap (λ (x : ℕ). Ok (read_to (questions_of (n + 1) x) j)) q ∙ sym (ap (questions_counted n m) (questions_are s i ∙ ap (read_of (questions_from_here s)) r.1)) ∙ c.same

  pub surveyed_none : {at i n m : ℕ} → Surveying at i n m → survey.Broken ≡ question_surveyed (question_step_at s i) → Err i ≡ questions_counted 0 0 (questions_from_here s at)
  unfolding questions_counted
  surveyed_none {i = i} {n = n} {m = m} c h = sym (ap (questions_counted n m) (questions_are s i ∙ ap (read_of (questions_from_here s)) (surveyed_broken i h))) ∙ c.same

  -- ---- a question has a pattern at least

  pattern_some : {i j : ℕ} {xs : List (List ℕ)} {ws : List Span} → Parted (Comma s) (PatternAt s) i j xs ws → 0 < length ws
  pattern_some (only t) = omega arith
  pattern_some (then t p r) = omega arith

  question_some : {i j : ℕ} {x : Question} {q : QuestionPlace} → QuestionAt s i j x q → 0 < pattern_count q
  question_some (question (byte p (byte p' end)) r n t (byte o end) u ps v (byte z end)) = pattern_some ps

  pub each_asked : (i : ℕ) → length (questions_at s i).items ≤ total pattern_count (questions_at s i).items
  unfolding questions_at total
  each_asked i = go (item_at s i)
    where
      some_next : (i j : ℕ) (q : QuestionPlace) → question_step_at s i ≡ next q j → 0 < pattern_count q
      some_next i j q e = let r = (question_reads s).was_on i j q e in let p : pattern_count q ≡ pattern_count r.laid = ap pattern_count r.is in omega (arith, question_some r.item)

      some_last : (i j : ℕ) (q : QuestionPlace) → question_step_at s i ≡ last q j → 0 < pattern_count q
      some_last i j q e = let r = (question_reads s).was_done i j q e in let p : pattern_count q ≡ pattern_count r.laid = ap pattern_count r.is in omega (arith, question_some r.item)

      go : (t : Item) → length (questions_from s t).items ≤ total pattern_count (questions_from s t).items
      go (item.Question j) = each_weighs (question_step_at s) pattern_count some_next some_last (length s) j
      go (item.Tree j) = omega arith
