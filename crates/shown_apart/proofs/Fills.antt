-- The fill of this library is such as `load_apart` asks for: it keeps lengths, doesn't see what stood in tables of just the rows needed, and leaves zeros where linking refuses.
use mathlib.Core.Path.{◌≡◌, refl, sym, ap, ◌∙◌}
use mathlib.Core.Bool.{Bool, true, false, cond}
use mathlib.Core.List.{List, [], ◌∷◌, ◌++◌, append-nil}
use Prim.Native.Nat.{ℕ, suc, ◌+◌, ◌*◌}
use native.Mathlib.Nat.{one-mul}
use native.Mathlib.Omega.{arith}
use lib.Dec.{eqb}
use lib.IntN.{ℤ}
use lib.ListN.{length, take, replicate, length-replicate, drop_of_length-le}
use lib.Seq.{sets, length-sets}
use Rattle.written.specs.Sharing.{Table, questions, patterns, trees, records, values, width, Tables, Exactly}
use Rattle.written.specs.Blocks as written
use Rattle.laws.proofs.Tables.{sets-front}
use Rattle.error.specs.declared.Refusal.{Refusal}
use Rattle.head_record.specs.declared.Header.{Header}
use Rattle.head_words.specs.Words.{header_at}
use Rattle.tree_question.specs.Questions.{questions_at}
use Rattle.tree_body.specs.Trees.{trees_at}
use Rattle.pdf_blocks.specs.Values.{values_at}
use Rattle.pdf_values.specs.Folded.{with_blocks}
use Rattle.load_choose.specs.declared.Which.{Which}
use Rattle.load_questions.specs.Words.{pattern_words}
use Rattle.load_questions.proofs.Rows.{patterns_length, questions_length}
use Rattle.load_trees.specs.Trees.{all_linked}
use Rattle.load_text.specs.Text.{words_at, end_at, trees_stored, records_stored}
use Rattle.load_plan.specs.Plans.{Sound, data_of, planned}
use Rattle.load_plan.specs.declared.Plan.{Plan}
use Rattle.load_plan.proofs.Laws.{Was, was, needs_sound}
use Rattle.load_model.specs.Load.{answer_for, blocks_of, filled}
use Rattle.load_model.proofs.Laws.{length_values}
use Rattle.load_apart.specs.Loads.{unlinked, Filled, Planned, Keeps, Whole, Zeroes, Fills, Every, none, one}
use Rattle.load_bounds.specs.Bounds.{need_of, tables_of}
use Rattle.shown_text.proofs.Tables.{stored-length}
use Rattle.face_record.specs.Answers.{judged_of}
use Rattle.face_model.specs.Answers.{which_of}
use Rattle.shown_apart.specs.Real.{ending_of, model_of, planned_by, unfit, planned_of}
use Rattle.load_trees.specs.declared.TreeFault.{TreeFault}
use Rattle.std.specs.Prelude.{Err, Ok, Result, ⊤}

-- words that fill a table are the table
pub sets_all : (t words : List ℕ) → length words ≡ length t → sets t 0 words ≡ words
sets_all t words e =
    sets-front t words (omega arith) ∙ ap (λ (l : List ℕ). words ++ l) (drop_of_length-le t {i = length words} (omega arith)) ∙ append-nil words

pub length_blocks : (t : List ℕ) (k : ℕ) (bs : List written.Row) → length (with_blocks t k bs) ≡ length t
unfolding with_blocks
length_blocks t k [] = refl
length_blocks t k (b ∷ bs) = length_blocks (sets t (6 * k + 4) (b.first ∷ b.entries ∷ [])) (suc k) bs ∙ length-sets t (6 * k + 4) (b.first ∷ b.entries ∷ [])

-- a table of m numbers after linking, with the words that f makes of it or zeros
kept_exact : (b : Bool) (words t : List ℕ) (m : ℕ) (f : List ℕ → List ℕ) → (b ≡ true → length words ≡ m) → length t ≡ m
    → cond b (f (sets t 0 words)) (replicate (length t) 0) ≡ cond b (f words) (replicate m 0)
kept_exact true words t m f l e = ap f (sets_all t words (l refl ∙ sym e))
kept_exact false words t m f l e = ap (λ (n : ℕ). replicate n 0) e

exact_long : (b : Bool) (words : List ℕ) (m : ℕ) (f : List ℕ → List ℕ) → (b ≡ true → length (f words) ≡ m) → length (cond b (f words) (replicate m 0)) ≡ m
exact_long true words m f l = l refl
exact_long false words m f l = length-replicate m 0

module _ (d : List ℕ) (p : Plan) (sound : Sound d p) (w : List ℤ) where
  abbrev S : List ℕ
  S = take p.text_end d

  abbrev B : List ℕ
  B = take p.block_end d

  abbrev o : Result ⊤ TreeFault
  o = end_at S p.text p.first

  abbrev k : Was S p.text p.first p.questions p.patterns p.trees p.records p.lines
  k = was S p.text sound.text

  linked_done : (o : Result ⊤ TreeFault) → all_linked o ≡ true → o ≡ Ok tt
  linked_done (Ok _) e = refl
  linked_done (Err l) e = let u : ◌≡◌ {A = ℕ} 0 1 = cc in absurd (omega arith)

  -- ---- how many words are stored

  pub question_words : length (words_at S p.text) ≡ 4 * p.questions
  question_words = questions_length 0 (questions_at S p.text).items ∙ ap (λ (n : ℕ). 4 * n) (sym k.asked)

  pub pattern_words_lem : length (pattern_words (questions_at S p.text).items) ≡ 2 * p.patterns
  pattern_words_lem = patterns_length (questions_at S p.text).items ∙ ap (λ (n : ℕ). 2 * n) (sym k.patterns)

  tree_words : all_linked o ≡ true → length (trees_stored S p.text p.first) ≡ 6 * p.trees
  tree_words e =
      (stored-length S (words_at S p.text) (length (questions_at S p.text).items) 0 0 (trees_at S p.first).items (linked_done o e)).0 ∙ ap (λ (n : ℕ). 6 * n) (sym k.trees)

  record_words : all_linked o ≡ true → length (records_stored S p.text p.first) ≡ 4 * p.records
  record_words e =
      (stored-length S (words_at S p.text) (length (questions_at S p.text).items) 0 0 (trees_at S p.first).items (linked_done o e)).1 ∙ ap (λ (n : ℕ). 4 * n) (sym k.records)

  value_words : length (values_at B (p.block + 4 * p.trees) p.width p.entries) ≡ 1 * (p.entries * p.width)
  value_words = length_values B (p.block + 4 * p.trees) p.width p.entries ∙ sym (one-mul (p.entries * p.width))

  same : List ℕ → List ℕ
  same l = l

  -- ---- what a fill makes of tables of just the rows needed

  abbrev exact : Filled Refusal
  exact =
      record {
        ending = ending_of (answer_for p o);
        tables =
            tables_of (cond (all_linked o) (same (words_at S p.text)) (replicate (4 * p.questions) 0))
            (cond (all_linked o) (same (pattern_words (questions_at S p.text).items)) (replicate (2 * p.patterns) 0))
            (cond (all_linked o) (with_blocks (trees_stored S p.text p.first) 0 (blocks_of p B)) (replicate (6 * p.trees) 0))
            (cond (all_linked o) (same (records_stored S p.text p.first)) (replicate (4 * p.records) 0))
            (cond (all_linked o) (same (values_at B (p.block + 4 * p.trees) p.width p.entries)) (replicate (1 * (p.entries * p.width)) 0));
      }

  fill_is : (t : Tables) → Exactly (need_of p) t → (model_of d p w).fill t ≡ exact
  unfolding filled same
  fill_is t e =
      let a = kept_exact (all_linked o) (words_at S p.text) (t questions) (4 * p.questions) same (λ b. question_words) (e questions) in
      let b = kept_exact (all_linked o) (pattern_words (questions_at S p.text).items) (t patterns) (2 * p.patterns) same (λ b. pattern_words_lem) (e patterns) in
      let c = kept_exact (all_linked o) (trees_stored S p.text p.first) (t trees) (6 * p.trees) (λ (l : List ℕ). with_blocks l 0 (blocks_of p B)) tree_words (e trees) in
      let f = kept_exact (all_linked o) (records_stored S p.text p.first) (t records) (4 * p.records) same record_words (e records) in
      let g = kept_exact (all_linked o) (values_at B (p.block + 4 * p.trees) p.width p.entries) (t values) (1 * (p.entries * p.width)) same (λ b. value_words) (e values) in
      λ i. record { ending = ending_of (answer_for p o); tables = tables_of (a i) (b i) (c i) (f i) (g i) }

  exact_rows : Exactly (need_of p) exact.tables
  unfolding same
  exact_rows questions = exact_long (all_linked o) (words_at S p.text) (4 * p.questions) same (λ b. question_words)
  exact_rows patterns = exact_long (all_linked o) (pattern_words (questions_at S p.text).items) (2 * p.patterns) same (λ b. pattern_words_lem)
  exact_rows trees =
      exact_long (all_linked o) (trees_stored S p.text p.first) (6 * p.trees) (λ (l : List ℕ). with_blocks l 0 (blocks_of p B))
      (λ b. length_blocks (trees_stored S p.text p.first) 0 (blocks_of p B) ∙ tree_words b)
  exact_rows records = exact_long (all_linked o) (records_stored S p.text p.first) (4 * p.records) same record_words
  exact_rows values = exact_long (all_linked o) (values_at B (p.block + 4 * p.trees) p.width p.entries) (1 * (p.entries * p.width)) same (λ b. value_words)

  keeps : Keeps (model_of d p w)
  keeps t e j = ap (λ (f : Filled Refusal). length (f.tables j)) (fill_is t e) ∙ exact_rows j

  whole : Whole (model_of d p w)
  whole s t e f = fill_is s e ∙ sym (fill_is t f)

  -- a refused link is not linked
  unlinked_not : (o : Result ⊤ TreeFault) (z : Refusal) → ending_of (answer_for p o) ≡ unlinked z → all_linked o ≡ false
  unlinked_not (Ok _) z e = let u : ◌≡◌ {A = ℕ} 0 1 = cc in absurd (omega arith)
  unlinked_not (Err l) z e = refl

  by_not : (words zeros : List ℕ) (b : Bool) → b ≡ false → cond b words zeros ≡ zeros
  by_not words zeros b e = ap (λ (c : Bool). cond c words zeros) e

  zeroes : Zeroes (model_of d p w)
  zeroes t e z h j =
      let n : all_linked o ≡ false = unlinked_not o z (sym (ap (λ (f : Filled Refusal). f.ending) (fill_is t e)) ∙ h) in
      ap (λ (f : Filled Refusal). f.tables j) (fill_is t e) ∙ at n j
    where
      at : all_linked o ≡ false → (j : Table) → exact.tables j ≡ replicate (width j * need_of p j) 0
      at n questions = by_not (same (words_at S p.text)) (replicate (4 * p.questions) 0) (all_linked o) n
      at n patterns = by_not (same (pattern_words (questions_at S p.text).items)) (replicate (2 * p.patterns) 0) (all_linked o) n
      at n trees = by_not (with_blocks (trees_stored S p.text p.first) 0 (blocks_of p B)) (replicate (6 * p.trees) 0) (all_linked o) n
      at n records = by_not (same (records_stored S p.text p.first)) (replicate (4 * p.records) 0) (all_linked o) n
      at n values = by_not (same (values_at B (p.block + 4 * p.trees) p.width p.entries)) (replicate (1 * (p.entries * p.width)) 0) (all_linked o) n

  pub model_fills : Fills (model_of d p w)
  model_fills = record { keeps = keeps; whole = whole; zeroes = zeroes }

pub planned_fills : (s : List ℕ) (h : Header) (which : Which) (w : List ℤ) → Every Fills (planned_by (data_of s h) (planned s h which) w)
planned_fills s h which w = go (planned s h which) refl
  where
    go : (x : Result Plan Refusal) → x ≡ planned s h which → Every Fills (planned_by (data_of s h) x w)
    go (Err z) e = none
    go (Ok p) e = one (model_fills (data_of s h) p (needs_sound s h which p e) w)

-- of any file, any words, any number
pub words_fill : (s u : List ℕ) (n : ℕ) (w : List ℤ) → Every Fills (planned_of s u n w)
unfolding planned_of
words_fill s u n w = go (eqb (judged_of u) 0)
  where
    go : (b : Bool) → Every Fills (cond b (planned_by (data_of s (header_at u)) (planned s (header_at u) (which_of n)) w) (Planned.refused (unfit (judged_of u))))
    go true = planned_fills s (header_at u) (which_of n) w
    go false = none
