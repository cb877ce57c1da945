-- What loading a tree text stores is the rows of what the text says, with 0, 0 where each tree's block goes, and it is refused exactly where `written` refuses the model: each tree, all trees, both ways.
-- Assumes of the text only that s from i on says t, that its first tree stands at f, that no state is negative and that s is shorter than 2^63 bytes.
use mathlib.Core.Path.{◌≡◌, refl, sym, ap, ◌∙◌, subst}
use mathlib.Core.List.{List, map, zip_with, flatten}
use Prim.Native.Nat.{ℕ, ◌+◌, ◌^◌, ◌<◌}
use native.Mathlib.Omega.{arith}
use lib.ListN.{length}
use Rattle.written.specs.Said as said
use Rattle.written.specs.Said.{Text, Layout, QuestionPlace}
use Rattle.written.specs.TreeText.{Parted, Parting, TreeAt, trees, Says, without, with_questions}
use Rattle.written.specs.Linking.{Nth, Row, Records, Refused}
use Rattle.written.specs.Tables.{pattern_rows, question_rows, LinesOf, TreeRows, ModelRefused, Negative}
use Rattle.written.proofs.Walk.{nth_once, no_row}
use Rattle.laws.specs.Steps.{Ending, done_at, broken_at}
use Rattle.error.specs.Numbers.{fault_number}
use Rattle.error.specs.declared.LinkFault.{LinkFault}
use Rattle.link_order.specs.Keys.{name_at}
use Rattle.tree_question.specs.Questions.{questions_at}
use Rattle.tree_body.specs.Trees.{Tree, tree_of, trees_at}
use Rattle.tree_survey.specs.Survey as survey
use Rattle.tree_survey.specs.Survey.{text_read, text_at}
use Rattle.tree_survey.specs.Said.{text_of}
use Rattle.tree_survey.proofs.Joined.{says_read}
use Rattle.tree_survey.proofs.Said.{same_length}
use Rattle.pdf_values.specs.Folded.{begun}
use Rattle.load_questions.specs.Words.{pattern_words, question_words}
use Rattle.load_questions.proofs.Rows.{questions_joined, patterns_joined}
use Rattle.load_tree.specs.Bodies.{unfilled, filled, TreeResult, body_result}
use Rattle.load_trees.specs.Trees.{trees_end, tree_words, record_words}
use Rattle.load_text.specs.Text.{words_at, end_at, trees_stored, records_stored}
use Rattle.shown_text.specs.Refusals.{RefusedAs, refused}
use Rattle.shown_text.proofs.Words.{parted_nth, question_named, questions_few}
use Rattle.shown_text.proofs.OneTree.{Verdict, tree_verdict}
use Rattle.written.proofs.ModelOnce.{model_rows_once, model_refused_once, model_never_both}
use Rattle.shown_text.proofs.AllTrees.{ModelVerdict, trees_verdict}
use Rattle.load_tree.specs.declared.Filled.{Filled}
use Rattle.error.specs.declared.LineFault.{LineFault}
use Rattle.load_trees.specs.declared.TreeFault.{TreeFault}
use Rattle.std.specs.Prelude.{Err, Ok, Result, ⊤}

-- ---- what a text that says something has

-- its questions' rows and its trees, where they stand
record Parts (s : List ℕ) (t : Text) (l : Layout) : Type 0 where
  asked : length l.questions ≡ length t.questions
  few : length t.questions < 2 ^ 63
  named : (e : ℕ) (q : said.Question) → Nth t.questions e q → name_at s (question_words 0 l.questions) e ≡ q.name
  begin : ℕ
  end : ℕ
  stand : Parted (Parting s) (TreeAt s) begin end t.trees l.trees

parts : {s : List ℕ} {i : ℕ} {t : Text} {l : Layout} → length s < 2 ^ 63 → Says s i t l → Parts s t l
parts short (without (trees a p b)) = record { asked = refl; few = omega arith; named = λ e q h. absurd (no_row h); begin = _; end = _; stand = p }
parts {s} short (with_questions q (trees a p b)) =
    record { asked = sym (same_length q); few = omega (arith, questions_few s q); named = question_named s q; begin = _; end = _; stand = p }

-- such a text has a first tree, so that what is said below of f is said of every such text
pub says_begins : {s : List ℕ} {i : ℕ} {t : Text} {l : Layout} → Says s i t l → (f : ℕ) × ((questions_at s i).ending ≡ done_at f)
unfolding text_at
says_begins {s} {i} says = go (questions_at s i).ending refl (ap (λ (r : survey.Text). r.ending) (says_read s says))
  where
    go : (e : Ending) → (questions_at s i).ending ≡ e → (text_read s (questions_at s i).items (questions_at s i).ending).ending ≡ done_at (length s) → (f : ℕ) × ((questions_at s i).ending ≡ done_at f)
    go (done_at f) q h = (f, q)
    go (broken_at k) q h =
        let z : broken_at k ≡ done_at (length s) = sym (ap (λ (e : Ending). (text_read s (questions_at s i).items e).ending) q) ∙ h in
        let u : ◌≡◌ {A = ℕ} 0 1 = cc in absurd (omega arith)

refused_as : {o : Result ⊤ TreeFault} {c d a b k m : ℕ} → RefusedAs o c a k → c ≡ d → a ≡ b → k ≡ m → RefusedAs o d b m
refused_as {o} {c} {d} {a} {b} {k} {m} r p q e = subst (λ (j : ℕ). RefusedAs o d b j) e (subst (λ (j : ℕ). RefusedAs o d j k) q (subst (λ (j : ℕ). RefusedAs o j a k) p r))

module _ {s : List ℕ} {i f : ℕ} {t : Text} {l : Layout} (says : Says s i t l) (begins : (questions_at s i).ending ≡ done_at f) (short : length s < 2 ^ 63) where
  read : text_read s (questions_at s i).items (done_at f) ≡ text_of s t l
  unfolding text_at
  read = sym (ap (text_read s (questions_at s i).items) begins) ∙ says_read s says

  pub questions_are : (questions_at s i).items ≡ l.questions
  questions_are = ap (λ (r : survey.Text). r.questions) read

  pub trees_are : (trees_at s f).items ≡ zip_with tree_of t.trees l.trees
  trees_are = ap (λ (r : survey.Text). r.trees) read

  -- ---- questions and patterns

  -- the question rows are those of the layout
  pub text_questions : words_at s i ≡ flatten (question_rows 0 l.questions)
  text_questions = ap (question_words 0) questions_are ∙ questions_joined 0 l.questions

  pub text_patterns : pattern_words (questions_at s i).items ≡ flatten (pattern_rows l.questions)
  text_patterns = ap pattern_words questions_are ∙ patterns_joined l.questions

  -- ---- 1. one tree

  -- what is done with tree a of the text
  abbrev pub result_of : said.Tree → said.TreePlace → TreeResult
  result_of x y = body_result s (words_at s i) (length (questions_at s i).items) (tree_of x y).body

  module _ {a : ℕ} {x : said.Tree} {y : said.TreePlace} (h : Nth t.trees a x) (g : Nth l.trees a y) where
    pub tree_said : Verdict t.questions x.body (result_of x y).ends (result_of x y).rows
    tree_said =
        let p = parts short says in
        let n = parted_nth p.stand h in
        let z : n.0 ≡ y = nth_once n.3 g in
        let v = tree_verdict s (question_words 0 l.questions) t.questions p.named p.few (subst (λ (u : said.TreePlace). TreeAt s n.1 n.2 x u) z n.4) in
        subst (λ (ws : List QuestionPlace). (let r = body_result s (question_words 0 ws) (length ws) (tree_of x y).body in Verdict t.questions x.body r.ends r.rows)) (sym questions_are)
        (subst (λ (k : ℕ). (let r = body_result s (question_words 0 l.questions) k (tree_of x y).body in Verdict t.questions x.body r.ends r.rows)) (sym p.asked) v)

    as_ended : {e : Result Filled LineFault} → (result_of x y).ends ≡ e → Verdict t.questions x.body e (result_of x y).rows
    as_ended e = subst (λ (r : Result Filled LineFault). Verdict t.questions x.body r (result_of x y).rows) e tree_said

    -- a tree that has its records has those of `written`
    pub tree_done : {m k : ℕ} → (result_of x y).ends ≡ filled m k
        → (rows : List Row) × Records t.questions x.body rows × (flatten rows ≡ (result_of x y).rows) × (length rows ≡ m) × LinesOf x.body k
    tree_done e = as_ended e

    -- 21: an id that no line bears; 22: a question that no QS line has; 23: a node as the one reference
    pub tree_refused : {g : LinkFault} {k : ℕ} → (result_of x y).ends ≡ unfilled g k → Refused t.questions x.body (fault_number g) k
    tree_refused e = as_ended e

  -- ---- all trees

  module _ (natural : ¬ Negative t.trees) where
    pub text_said : ModelVerdict t.questions t.trees 0 0 (end_at s i f) (trees_stored s i f) (records_stored s i f)
    text_said =
        let p = parts short says in
        subst (λ (ws : List QuestionPlace). As ws (length ws) (trees_at s f).items) (sym questions_are)
        (subst (λ (n : ℕ). As l.questions n (trees_at s f).items) (sym p.asked)
        (subst (λ (zs : List Tree). As l.questions (length t.questions) zs) (sym trees_are)
        (trees_verdict s (question_words 0 l.questions) t.questions p.named p.few p.stand natural 0 0)))
      where
        As : List QuestionPlace → ℕ → List Tree → Type 0
        As ws n zs = ModelVerdict t.questions t.trees 0 0 (trees_end s (question_words 0 ws) n 0 zs) (tree_words s (question_words 0 ws) n 0 zs) (record_words s (question_words 0 ws) n zs)

    all_ended : {e : Result ⊤ TreeFault} → end_at s i f ≡ e → ModelVerdict t.questions t.trees 0 0 e (trees_stored s i f) (records_stored s i f)
    all_ended e = subst (λ (o : Result ⊤ TreeFault). ModelVerdict t.questions t.trees 0 0 o (trees_stored s i f) (records_stored s i f)) e text_said

    -- 2. what is stored is what the text says of the model's rows
    pub text_done : end_at s i f ≡ Ok tt
        → (trees : List Row) × (records : List Row) × TreeRows t.questions 0 t.trees trees records × (trees_stored s i f ≡ flatten (map begun trees)) × (records_stored s i f ≡ flatten records)
    text_done e = let v = all_ended e in (v.0, v.1, v.2, sym v.3, sym v.4)

    -- 3. where linking is refused, so is the model, with that number, tree and line
    pub text_refused : {e : Result ⊤ TreeFault} {c a k : ℕ} → end_at s i f ≡ e → RefusedAs e c a k → ModelRefused t.questions t.trees c a k
    text_refused q r = go r (all_ended q)
      where
        at : {c a k : ℕ} → (j : ℕ) × (a ≡ 0 + j) × ModelRefused t.questions t.trees c j k → ModelRefused t.questions t.trees c a k
        at {c} {a} {k} (j, e, m) = let z : j ≡ a = omega (arith, e) in subst (λ (n : ℕ). ModelRefused t.questions t.trees c n k) z m

        go : {e : Result ⊤ TreeFault} {c a k : ℕ} → RefusedAs e c a k → ModelVerdict t.questions t.trees 0 0 e (trees_stored s i f) (records_stored s i f) → ModelRefused t.questions t.trees c a k
        go refused v = at v

    -- ---- 4. conversely

    -- a linking is done or refused
    done_or_refused : (o : Result ⊤ TreeFault) → end_at s i f ≡ o → {A : Type 0} → (end_at s i f ≡ Ok tt → A) → ((c a k : ℕ) → RefusedAs o c a k → ModelRefused t.questions t.trees c a k → A) → A
    done_or_refused (Ok _) e d r = d e
    done_or_refused (Err l) e d r = let record { fault = g; tree = a; line = k } = l in r (fault_number g) a k refused (text_refused e refused)

    -- a model that has rows is linked, and its rows are stored
    pub rows_stored : {trees records : List Row} → TreeRows t.questions 0 t.trees trees records
        → (end_at s i f ≡ (Ok tt)) × (trees_stored s i f ≡ flatten (map begun trees)) × (records_stored s i f ≡ flatten records)
    rows_stored rs = done_or_refused (end_at s i f) refl
        (λ e.
        let d = text_done e in
        let z = model_rows_once d.2 rs refl in
        (e, d.3 ∙ ap (λ (l : List Row). flatten (map begun l)) z.0, d.4 ∙ ap flatten z.1))
        (λ c a k r m. absurd (model_never_both rs m))

    -- a model that is refused ends so, with that number, tree and line
    pub refused_ends : {c a k : ℕ} → ModelRefused t.questions t.trees c a k → RefusedAs (end_at s i f) c a k
    refused_ends {c} {a} {k} m = done_or_refused (end_at s i f) refl
        (λ e. absurd (model_never_both (text_done e).2 m))
        (λ d b j r n. let z = model_refused_once n m in refused_as r z.0 z.1 z.2)
