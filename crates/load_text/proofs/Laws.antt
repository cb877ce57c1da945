-- A whole text: the question words and the index of names as parts of their tables; what each way through leaves in a table.
use mathlib.Core.Path.{◌≡◌, sym, ap, ap₂, ◌∙◌}
use mathlib.Core.Bool.{Bool, true, false, cond}
use mathlib.Core.List.{List}
use Prim.Native.Nat.{ℕ, ◌-◌, ◌*◌, ◌≤◌}
use native.Mathlib.Omega.{arith}
use lib.IntN.{ℤ, pos}
use lib.ListN.{length, take, drop, replicate}
use lib.Seq.{sets, length-sets}
use Rattle.laws.proofs.Tables.{part-sets, sets_over}
use Rattle.laws.specs.Totals.{total}
use Rattle.link_order.specs.Keys.{key_of, name_key, name_at}
use Rattle.link_sort.specs.Sorted.{sorted}
use Rattle.link_sort.proofs.Index.{length-sorted}
use Rattle.link_search.specs.Found.{count_from}
use Rattle.link_search.specs.Index.{Index}
use Rattle.link_search.proofs.Last.{length-count}
use Rattle.tree_question.specs.Questions.{questions_at}
use Rattle.tree_survey_questions.specs.Counts.{pattern_count}
use Rattle.tree_survey_questions.proofs.Counting.{each_asked}
use Rattle.tree_body.specs.Trees.{trees_at}
use Rattle.load_questions.specs.Words.{pattern_words}
use Rattle.load_questions.proofs.Rows.{patterns_length, questions_length}
use Rattle.load_trees.specs.Trees.{all_linked, trees_end, tree_words, record_words, work_after}
use Rattle.load_text.specs.Text.{Fits, name_index, words_at, end_at, trees_stored, records_stored, kept, TextLinked, TextFilled}
use Rattle.load_trees.specs.declared.TreeFault.{TreeFault}
use Rattle.std.specs.Prelude.{Result, ⊤}

-- a front that was stored, lent
front : (t₀ t₁ xs : List ℕ) (m : ℕ) → t₁ ≡ sets t₀ 0 xs → m ≡ length xs → m ≤ length t₀ → take (m - 0) (drop 0 t₁) ≡ xs
front t₀ t₁ xs m e l h =
    let z : m - 0 ≡ length xs = omega arith in
    ap₂ (λ (k : ℕ) (t : List ℕ). take k (drop 0 t)) z e ∙ part-sets t₀ 0 xs (omega arith)

index_length : (s x : List ℕ) (n : ℕ) → length (name_index s x n) ≡ n
index_length s x n = length-sorted (key_of (λ e. name_key (name_at s x e))) (count_from 0 n) ∙ length-count 0 n

-- n questions from i on, and room for their rows in tables of so many words
pub record Asked (s : List ℕ) (i n q p : ℕ) : Type 0 where
  pub asked : n ≡ length (questions_at s i).items
  pub question_room : 4 * n ≤ q
  pub pattern_room : 2 * total pattern_count (questions_at s i).items ≤ p

pub asked_of : {s : List ℕ} {i f n q p t r w : ℕ} → Fits s i f n q p t r w → Asked s i n q p
asked_of h = record { asked = h.asked; question_room = h.question_room; pattern_room = h.pattern_room }

module _ (s : List ℕ) (i n : ℕ) {q p : ℕ} (h : Asked s i n q p) where
  -- the index has room where the patterns have
  pub index_room : n ≤ p
  index_room = omega (arith, h.pattern_room, h.asked, each_asked s i)

  pub asked_words : (q₀ q₁ : List ℕ) → length q₀ ≡ q → q₁ ≡ sets q₀ 0 (words_at s i) → take (4 * n - 0) (drop 0 q₁) ≡ words_at s i
  asked_words q₀ q₁ l e = front q₀ q₁ (words_at s i) (4 * n) e (omega (arith, h.asked, questions_length 0 (questions_at s i).items)) (omega (arith, h.question_room))

  module _ (p₀ p₁ x : List ℕ) (l : length p₀ ≡ p) (e : p₁ ≡ sets p₀ 0 (name_index s x n)) where
    pub name_index_lem : take (n - 0) (drop 0 p₁) ≡ name_index s x n
    name_index_lem = front p₀ p₁ (name_index s x n) n e (sym (index_length s x n)) (omega (arith, index_room))

    pub index_count : length (take (n - 0) (drop 0 p₁)) ≡ n
    index_count = ap length name_index_lem ∙ index_length s x n

    pub is_index : Index (λ e. name_key (name_at s x e)) (take (n - 0) (drop 0 p₁))
    is_index = record { is = name_index_lem ∙ ap (λ (m : ℕ). sorted (key_of (λ e. name_key (name_at s x e))) (count_from 0 m)) (sym index_count) }

    -- what was linked by these was linked by the text's own
    module _ (f : ℕ) (y : x ≡ words_at s i) where
      pub index_asked : length (take (n - 0) (drop 0 p₁)) ≡ length (questions_at s i).items
      index_asked = index_count ∙ h.asked

      pub linked_as : {o : Result ⊤ TreeFault} → o ≡ trees_end s x (length (take (n - 0) (drop 0 p₁))) 0 (trees_at s f).items → o ≡ end_at s i f
      linked_as u = u ∙ ap₂ (λ (a : List ℕ) (m : ℕ). trees_end s a m 0 (trees_at s f).items) y index_asked

      pub rows_as : {t₁ : List ℕ} (t₀ : List ℕ) → t₁ ≡ sets t₀ 0 (tree_words s x (length (take (n - 0) (drop 0 p₁))) 0 (trees_at s f).items) → t₁ ≡ sets t₀ 0 (trees_stored s i f)
      rows_as t₀ u = u ∙ ap₂ (λ (a : List ℕ) (m : ℕ). sets t₀ 0 (tree_words s a m 0 (trees_at s f).items)) y index_asked

      pub records_as : {t₁ : List ℕ} (t₀ : List ℕ) → t₁ ≡ sets t₀ 0 (record_words s x (length (take (n - 0) (drop 0 p₁))) (trees_at s f).items) → t₁ ≡ sets t₀ 0 (records_stored s i f)
      records_as t₀ u = u ∙ ap₂ (λ (a : List ℕ) (m : ℕ). sets t₀ 0 (record_words s a m (trees_at s f).items)) y index_asked

      pub work_as : {w₁ : List ℤ} (w₀ : List ℤ) → w₁ ≡ work_after s x (length (take (n - 0) (drop 0 p₁))) w₀ (trees_at s f).items → w₁ ≡ work_after s (words_at s i) n w₀ (trees_at s f).items
      work_as w₀ u = u ∙ ap₂ (λ (a : List ℕ) (m : ℕ). work_after s a m w₀ (trees_at s f).items) y index_count

  -- ---- what is left in a table

  -- the pattern rows stand over the index
  pub patterns_over : {p₁ p₂ : List ℕ} (p₀ x : List ℕ) → p₁ ≡ sets p₀ 0 (name_index s x n) → p₂ ≡ sets p₁ 0 (pattern_words (questions_at s i).items) → p₂ ≡ sets p₀ 0 (pattern_words (questions_at s i).items)
  patterns_over p₀ x e u =
      u ∙ ap (λ (t : List ℕ). sets t 0 (pattern_words (questions_at s i).items)) e
      ∙ sets_over (name_index s x n) (pattern_words (questions_at s i).items) p₀ 0 (omega (arith, index_length s x n, patterns_length (questions_at s i).items, h.asked, each_asked s i))

module _ (o : Result ⊤ TreeFault) (t₀ words : List ℕ) {b : Bool} (told : b ≡ all_linked o) where
  kept_is : {l : List ℕ} {v : Bool} → b ≡ v → l ≡ cond v (sets t₀ 0 words) (replicate (length t₀) 0) → l ≡ kept o t₀ words
  kept_is e u = u ∙ sym (ap (λ (b : Bool). cond b (sets t₀ 0 words) (replicate (length t₀) 0)) (sym told ∙ e))

  pub kept_done : {t₁ : List ℕ} → b ≡ true → t₁ ≡ sets t₀ 0 words → t₁ ≡ kept o t₀ words
  kept_done e u = kept_is e u

  -- a refused link leaves zeros
  pub kept_not : {m : ℕ} {t₂ : List ℕ} → b ≡ false → m ≡ length t₀ → t₂ ≡ replicate m 0 → t₂ ≡ kept o t₀ words
  kept_not e l v = kept_is e (v ∙ ap (λ (m : ℕ). replicate m 0) l)

-- the two ways on from linked trees: the patterns over the index, or zeros
module _ (s : List ℕ) (i f n : ℕ) (q p t r : List ℕ) (w : List ℤ) (fits : Fits s i f n (length q) (length p) (length t) (length r) (length w)) {o : Result ⊤ TreeFault} {q₁ p₁ t₁ r₁ : List ℕ} {w₁ w₂ : List ℤ}
    (l : TextLinked s i f n q p t r w o q₁ p₁ t₁ r₁ w₁) (long : length w₁ ≡ length w) (zero : w₂ ≡ replicate (length w₁) (pos 0)) {b : Bool} (told : b ≡ all_linked o) where
  work_zero : w₂ ≡ replicate (length w) (pos 0)
  work_zero = zero ∙ ap (λ (m : ℕ). replicate m (pos 0)) long

  pub text_kept : {p₂ : List ℕ} → b ≡ true → p₂ ≡ sets p₁ 0 (pattern_words (questions_at s i).items) → TextFilled s i f q p t r w o q₁ p₂ t₁ r₁ w₂
  text_kept d e = (
    l.0,
    kept_done o q (words_at s i) told d l.1,
    kept_done o p (pattern_words (questions_at s i).items) told d (patterns_over s i n (asked_of fits) p (words_at s i) l.2 e),
    kept_done o t (trees_stored s i f) told d l.3,
    kept_done o r (records_stored s i f) told d l.4,
    work_zero,
  )

  pub text_zero : {q₂ p₂ t₂ r₂ : List ℕ} → b ≡ false
      → (q₂ ≡ replicate (length q₁) 0) × (p₂ ≡ replicate (length p₁) 0) × (t₂ ≡ replicate (length t₁) 0) × (r₂ ≡ replicate (length r₁) 0) → TextFilled s i f q p t r w o q₂ p₂ t₂ r₂ w₂
  text_zero d z = (
    l.0,
    kept_not o q (words_at s i) told d (ap length l.1 ∙ length-sets q 0 (words_at s i)) z.0,
    kept_not o p (pattern_words (questions_at s i).items) told d (ap length l.2 ∙ length-sets p 0 (name_index s (words_at s i) n)) z.1,
    kept_not o t (trees_stored s i f) told d (ap length l.3 ∙ length-sets t 0 (trees_stored s i f)) z.2,
    kept_not o r (records_stored s i f) told d (ap length l.4 ∙ length-sets r 0 (records_stored s i f)) z.3,
    work_zero,
  )
