-- What the text and the block of a model say, once the survey has counted them; and that parts of a file of bytes are bytes.
use mathlib.Core.Path.{◌≡◌, sym, ap, ◌∙◌}
use mathlib.Core.Bool.{Bool, true, false, cond}
use mathlib.Core.List.{List, [], ◌∷◌}
use Prim.Native.Nat.{ℕ, zero, suc}
use native.Mathlib.Omega.{arith}
use lib.ListN.{length, take, drop}
use Rattle.tree_survey.specs.declared.SurveyError.TheVariants as fault
use Rattle.tree_survey.specs.declared.SurveyError.{SurveyError}
use Rattle.tree_survey.specs.declared.Survey.{Survey}
use Rattle.std.specs.declared.result.Result.{Result}
use Rattle.std.specs.Prelude.{Ok, Err}
use Rattle.written.specs.Said as said
use Rattle.written.specs.Tables.{Negative}
use Rattle.laws.specs.Steps.{Ending, done_at, broken_at}
use Rattle.laws.specs.Totals.{total, largest, any_of}
use Rattle.tree_question.specs.Questions.{questions_at}
use Rattle.tree_survey.specs.Survey.{text_read, text_at, survey_at, counts_of}
use Rattle.tree_survey.specs.Said.{said_patterns, said_negative, said_tree_records, said_tree_lines, said_survey}
use Rattle.tree_survey.proofs.Joined.{Spoken, says_read, whole_says}
use Rattle.tree_survey.proofs.Said.{survey_said, said_negative_lem}
use Rattle.pdf_blocks.proofs.Joined.{Small}
use Rattle.load_plan.proofs.Laws.{Was}

-- ---- bytes of a part are bytes

pub small_take : (n : ℕ) (s : List ℕ) → Small s → Small (take n s)
small_take zero s h k = omega arith
small_take (suc n) [] h k = h k
small_take (suc n) (x ∷ s) h zero = h zero
small_take (suc n) (x ∷ s) h (suc k) = small_take n s (λ j. h (suc j)) k

pub small_drop : (n : ℕ) (s : List ℕ) → Small s → Small (drop n s)
small_drop zero s h k = h k
small_drop (suc n) [] h k = h k
small_drop (suc n) (x ∷ s) h k = small_drop n s (λ j. h (suc j)) k

-- ---- a text that the survey has counted

-- its questions are whole
pub counted_whole : (S : List ℕ) (u : ℕ) {f q p t r l : ℕ} → survey_at S u ≡ Ok (counts_of q p t r l) → ¬ ((questions_at S u).ending ≡ broken_at f)
unfolding text_at
counted_whole S u {f} {q} {p} {t} {r} {l} m n =
    let k = whole_says S u (λ j e. let z : Ok (counts_of q p t r l) ≡ Err (fault.Broken j) = sym m ∙ e in let u : ◌≡◌ {A = ℕ} 0 1 = cc in omega arith) in
    let i : (text_at S u).ending ≡ done_at (length S) = ap (λ x. x.ending) (says_read S k.says) in
    let j : (text_at S u).ending ≡ broken_at f = ap (λ (o : Ending). (text_read S (questions_at S u).items o).ending) n in
    let l : done_at (length S) ≡ broken_at f = sym i ∙ j in
    let u : ◌≡◌ {A = ℕ} 0 1 = cc in
    omega arith

module _ (S : List ℕ) (i : ℕ) {f q p t r l : ℕ} (m : Was S i f q p t r l) where
  pub spoken : Spoken S i
  spoken = whole_says S i (λ k e. let z : Ok (counts_of q p t r l) ≡ Err (fault.Broken k) = sym m.survey ∙ e in let u : ◌≡◌ {A = ℕ} 0 1 = cc in omega arith)

  pub natural : ¬ Negative spoken.text.trees
  natural n =
      let z : Ok (counts_of q p t r l) ≡ (Err fault.Negative) = sym m.survey ∙ said_negative_lem spoken.says n in
      let u : ◌≡◌ {A = ℕ} 0 1 = cc in
      omega arith

  pub counted : (q ≡ length spoken.text.questions) × (t ≡ length spoken.text.trees) × (r ≡ total said_tree_records spoken.text.trees)
      × (p ≡ total said_patterns spoken.text.questions) × (l ≡ largest said_tree_lines 0 spoken.text.trees)
  unfolding said_survey
  counted = go (any_of said_negative false spoken.text.trees) (sym m.survey ∙ survey_said spoken.says)
    where
      T : said.Text
      T = spoken.text

      C : Result Survey SurveyError
      C = Ok (counts_of (length T.questions) (total said_patterns T.questions) (length T.trees) (total said_tree_records T.trees) (largest said_tree_lines 0 T.trees))

      go : (b : Bool) → Ok (counts_of q p t r l) ≡ cond b (Err fault.Negative) C
          → (q ≡ length T.questions) × (t ≡ length T.trees) × (r ≡ total said_tree_records T.trees) × (p ≡ total said_patterns T.questions) × (l ≡ largest said_tree_lines 0 T.trees)
      go true k = let u : ◌≡◌ {A = ℕ} 0 1 = cc in absurd (omega arith)
      go false k =
          let x : q ≡ length T.questions = grind arith in
          let y : t ≡ length T.trees = grind arith in
          let z : r ≡ total said_tree_records T.trees = grind arith in
          let v : p ≡ total said_patterns T.questions = grind arith in
          let w : l ≡ largest said_tree_lines 0 T.trees = grind arith in
          (x, y, z, v, w)
