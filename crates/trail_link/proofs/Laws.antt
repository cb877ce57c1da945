-- One tree: linked by the words of the text's own questions; what each way through leaves in a table.
use mathlib.Core.Path.{◌≡◌, ap, ap₂, ◌∙◌, subst}
use mathlib.Core.Bool.{Bool, true, false}
use mathlib.Core.List.{List}
use Prim.Native.Nat.{ℕ}
use lib.IntN.{ℤ, pos}
use lib.ListN.{length, replicate}
use lib.Seq.{sets, length-sets}
use Rattle.tree_question.specs.Questions.{questions_at}
use Rattle.tree_body.specs.Trees.{head_at}
use Rattle.load_questions.specs.Words.{pattern_words}
use Rattle.load_tree.specs.declared.TreeFill.{TreeFill}
use Rattle.load_trees.specs.Trees.{all_linked, head_state, head_body, row_words, work_of, ended_at, TreeFilled}
use Rattle.load_text.specs.Text.{name_index, words_at}
use Rattle.load_text.proofs.Laws.{Asked, patterns_over, kept_done, kept_not}
use Rattle.trail_link.specs.One.{Fits, one_result, one_end, one_row, OneLinked, OneFilled}
use Rattle.load_tree.specs.declared.Filled.{Filled}
use Rattle.error.specs.declared.LineFault.{LineFault}
use Rattle.load_trees.specs.declared.TreeFault.{TreeFault}
use Rattle.std.specs.Prelude.{Result, ⊤}

pub asked_of : {s : List ℕ} {i f n q p t r w : ℕ} → Fits s i f n q p t r w → Asked s i n q p
asked_of h = record { asked = h.asked; question_room = h.question_room; pattern_room = h.pattern_room }

-- what was linked by x and m was linked by the text's own
module _ (s : List ℕ) (i f n k : ℕ) (t r : List ℕ) (w : List ℤ) {x : List ℕ} {m : ℕ} (y : x ≡ words_at s i) (c : m ≡ length (questions_at s i).items) (d : m ≡ n) {z : TreeFill}
    {t₁ r₁ : List ℕ} {w₁ : List ℤ} (e : TreeFilled s x m (head_at s f) 0 0 t r w z t₁ r₁ w₁) where
  own : TreeFilled s (words_at s i) (length (questions_at s i).items) (head_at s f) 0 0 t r w z t₁ r₁ w₁
  own = subst (λ (x : List ℕ). TreeFilled s x (length (questions_at s i).items) (head_at s f) 0 0 t r w z t₁ r₁ w₁) y (subst (λ (m : ℕ). TreeFilled s x m (head_at s f) 0 0 t r w z t₁ r₁ w₁) c e)

  pub ended_as : {o : Result ⊤ TreeFault} → o ≡ ended_at k z.filled → o ≡ one_end s i f k
  ended_as u = u ∙ ap (ended_at k) own.0.0

  pub row_as : t₁ ≡ sets t 0 (one_row s i f)
  row_as = own.1 ∙ ap (λ (g : Result Filled LineFault). sets t 0 (row_words (head_state (head_at s f)) 0 g)) own.0.0

  pub records_as : r₁ ≡ sets r 0 (one_result s i f).rows
  records_as = own.0.2

  pub work_as : w₁ ≡ work_of s (words_at s i) n w (head_body s (head_at s f))
  work_as = e.0.3 ∙ ap₂ (λ (x : List ℕ) (m : ℕ). work_of s x m w (head_body s (head_at s f))) y d

-- the two ways on from a linked tree: the patterns over the index, or zeros
module _ (s : List ℕ) (i f n k : ℕ) (q p t r : List ℕ) (w : List ℤ) (fits : Fits s i f n (length q) (length p) (length t) (length r) (length w)) {o : Result ⊤ TreeFault} {q₁ p₁ t₁ r₁ : List ℕ} {w₁ w₂ : List ℤ}
    (l : OneLinked s i f n k q p t r w o q₁ p₁ t₁ r₁ w₁) (long : length w₁ ≡ length w) (zero : w₂ ≡ replicate (length w₁) (pos 0)) {b : Bool} (told : b ≡ all_linked o) where
  work_zero : w₂ ≡ replicate (length w) (pos 0)
  work_zero = zero ∙ ap (λ (m : ℕ). replicate m (pos 0)) long

  pub one_kept : {p₂ : List ℕ} → b ≡ true → p₂ ≡ sets p₁ 0 (pattern_words (questions_at s i).items) → OneFilled s i f k q p t r w o q₁ p₂ t₁ r₁ w₂
  one_kept d e = (
    l.0,
    kept_done o q (words_at s i) told d l.1,
    kept_done o p (pattern_words (questions_at s i).items) told d (patterns_over s i n (asked_of fits) p (words_at s i) l.2 e),
    kept_done o t (one_row s i f) told d l.3,
    kept_done o r (one_result s i f).rows told d l.4,
    work_zero,
  )

  pub one_zero : {q₂ p₂ t₂ r₂ : List ℕ} → b ≡ false
      → (q₂ ≡ replicate (length q₁) 0) × (p₂ ≡ replicate (length p₁) 0) × (t₂ ≡ replicate (length t₁) 0) × (r₂ ≡ replicate (length r₁) 0) → OneFilled s i f k q p t r w o q₂ p₂ t₂ r₂ w₂
  one_zero d z = (
    l.0,
    kept_not o q (words_at s i) told d (ap length l.1 ∙ length-sets q 0 (words_at s i)) z.0,
    kept_not o p (pattern_words (questions_at s i).items) told d (ap length l.2 ∙ length-sets p 0 (name_index s (words_at s i) n)) z.1,
    kept_not o t (one_row s i f) told d (ap length l.3 ∙ length-sets t 0 (one_row s i f)) z.2,
    kept_not o r (one_result s i f).rows told d (ap length l.4 ∙ length-sets r 0 (one_result s i f).rows) z.3,
    work_zero,
  )
