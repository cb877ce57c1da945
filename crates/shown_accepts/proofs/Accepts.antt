-- The verdict on somebody else's rows is the one that `written` has: number, place and line.
use mathlib.Core.Path.{◌≡◌, refl, sym, ◌∙◌, subst}
use mathlib.Core.Logic.{◌⊎◌, inl, inr}
use mathlib.Core.List.{List, [], ◌∷◌, Forall₂}
use Prim.Native.Nat.{ℕ, zero, suc}
use native.Mathlib.Omega.{arith}
use Rattle.error.specs.declared.LineFault.{LineFault}
use Rattle.tree_survey.specs.declared.SurveyError.TheVariants as fault
use Rattle.tree_survey.specs.declared.SurveyError.{SurveyError}
use Rattle.tree_survey.specs.declared.Survey.{Survey}
use Rattle.std.specs.declared.result.Result.{Result}
use Rattle.error.specs.declared.Refusal.{Refusal}
use Rattle.std.specs.Prelude.{Ok, Err, Bool}
use Rattle.std.specs.declared.option.Option.{Option}
use Rattle.written.specs.Said as said
use Rattle.written.specs.Said.{Text, Layout}
use Rattle.written.specs.TreeText.{Says}
use Rattle.written.specs.Linking.{Nth, here, there}
use Rattle.written.specs.Tables.{Negative}
use Rattle.written.specs.Breaks.{Breaks}
use Rattle.written.specs.Suppliers.{Accepts, AcceptsIn, breaks, says}
use Rattle.written.proofs.Walk.{no_row}
use Rattle.laws.specs.Steps.{Ending, done_at}
use Rattle.error.specs.declared.Refusal.TheVariants as refusal
use Rattle.table_rows.specs.Rows.{record_table}
use Rattle.tree_question.specs.Questions.{questions_at}
use Rattle.tree_body.specs.Trees.{head_at, trees_at}
use Rattle.tree_survey.specs.Survey.{survey_at, counts_of}
use Rattle.tree_survey.proofs.Joined.{whole_says}
use Rattle.tree_survey.proofs.Said.{said_negative_lem, negative_said}
use Rattle.link_find.specs.Find.{star_of}
use Rattle.link_alone.specs.Alone.{judged_head}
use Rattle.walk_accepts.specs.Accepting.{found_tree, in_text, surveyed, chosen_tree, accepted_of, accepts_at, accepts_of, accepts_told}
use Rattle.shown_breaks.proofs.Place.{broken_breaks}
use Rattle.shown_text.proofs.Text.{says_begins}
use Rattle.shown_accepts.proofs.Verdicts.{Verdict, fits, other, refused}
use Rattle.shown_accepts.proofs.Texts.{Reads, tree_judged, tree_missing}
use Rattle.shown_accepts.proofs.Lines.{QuestionSaid}

-- a tree of that number, or none
tree? : (ts : List said.Tree) (k : ℕ) → ((e : said.Tree) × Nth ts k e) ⊎ ((e : said.Tree) → ¬ Nth ts k e)
tree? [] k = inr (λ e h. no_row h)
tree? (t ∷ ts) zero = inl (t, here)
tree? (t ∷ ts) (suc k) = go (tree? ts k)
  where
    past : {e : said.Tree} → ((e : said.Tree) → ¬ Nth ts k e) → Nth (t ∷ ts) (suc k) e → ⊥
    past {e} n (there h) = n e h

    go : ((e : said.Tree) × Nth ts k e) ⊎ ((e : said.Tree) → ¬ Nth ts k e) → ((e : said.Tree) × Nth (t ∷ ts) (suc k) e) ⊎ ((e : said.Tree) → ¬ Nth (t ∷ ts) (suc k) e)
    go (inl r) = inl (r.0, there r.1)
    go (inr n) = inr (λ e h. past n h)

-- ---- the tree that is chosen

-- why there is none, or where it stands and what it says
pub data Chosen (s : List ℕ) (t : ℕ) : Result ℕ Refusal → Type 0 where
  breaks_at : {p : ℕ} → Breaks s 0 p → Chosen s t (Err (refusal.Text p))
  negative : {x : Text} {u : Layout} → Says s 0 x u → Negative x.trees → Chosen s t (Err refusal.State)
  missing : {x : Text} {u : Layout} → Says s 0 x u → ¬ Negative x.trees → ((e : said.Tree) → ¬ Nth x.trees t e) → Chosen s t (Err refusal.WalkTable)
  tree : {x : Text} {u : Layout} {e : said.Tree} {i : ℕ} → Says s 0 x u → ¬ Negative x.trees → Nth x.trees t e
      → ((R : List ℕ) → Verdict x.questions R e.body (judged_head s (questions_at s 0).items R (head_at s i)))
      → Forall₂ (QuestionSaid s) x.questions (questions_at s 0).items → Reads s e.body (head_at s i) → Chosen s t (Ok i)

pub chosen : (s : List ℕ) (t : ℕ) → Chosen s t (chosen_tree s t)
unfolding chosen_tree
chosen s t = go (survey_at s 0) refl
  where
    in_it : {q p n r l : ℕ} → survey_at s 0 ≡ Ok (counts_of q p n r l) → Chosen s t (in_text s t (questions_at s 0).ending)
    in_it {q} {p} {n} {r} {l} e =
        let k = whole_says s 0 (λ j w. let z : Ok (counts_of q p n r l) ≡ Err (fault.Broken j) = sym e ∙ w in let y : ◌≡◌ {A = ℕ} 0 1 = cc in omega arith) in
        let natural : ¬ Negative k.text.trees = λ w. (let z : Ok (counts_of q p n r l) ≡ (Err fault.Negative) = sym e ∙ said_negative_lem k.says w in let y : ◌≡◌ {A = ℕ} 0 1 = cc in omega arith) in
        let b = says_begins k.says in
        subst (λ (d : Ending). Chosen s t (in_text s t d)) (sym b.1) (found k.says natural b.0 b.1 (tree? k.text.trees t))
      where
        found : {x : Text} {u : Layout} → Says s 0 x u → ¬ Negative x.trees → (f : ℕ) → (questions_at s 0).ending ≡ done_at f → ((e : said.Tree) × Nth x.trees t e) ⊎ ((e : said.Tree) → ¬ Nth x.trees t e)
            → Chosen s t (found_tree (star_of (trees_at s f).items t))
        found h w f d (inl r) =
            subst (λ (a : Option ℕ). Chosen s t (found_tree a)) (sym (tree_judged s h d r.1).1) (let j = tree_judged s h d r.1 in tree h w r.1 j.2 j.3 j.4)
        found h w f d (inr n) = subst (λ (a : Option ℕ). Chosen s t (found_tree a)) (sym (tree_missing s h d n)) (missing h w n)

    go : (a : Result Survey SurveyError) → survey_at s 0 ≡ a → Chosen s t (surveyed s t a)
    go (Ok x) e = in_it e
    go (Err (fault.Broken p)) e = breaks_at (broken_breaks s 0 p e)
    go (Err fault.Negative) e = let k = negative_said 0 e in negative k.2 k.3

-- ---- the verdict in numbers

told_in : (s : List ℕ) (t : ℕ) (R : List ℕ) {x : Text} {e : said.Tree} {j : Result Bool LineFault} → ¬ Negative x.trees → Nth x.trees t e → Verdict x.questions R e.body j
    → (let r = accepts_told (accepted_of t j) in Accepts x (record_table R) t r.number r.place r.line)
told_in s t R w h (fits r l) = Accepts.accepted w h r l
told_in s t R w h (other r l) = Accepts.other w h r l
told_in s t R w h (refused f) = Accepts.unlinked w h f

-- what is answered is what `written` says of the text, the tree and the rows
pub accepts_said : (s : List ℕ) (t : ℕ) (R : List ℕ) → (let r = accepts_told (accepts_of s t R) in AcceptsIn s 0 (record_table R) t r.number r.place r.line)
unfolding accepts_of
accepts_said s t R = go (chosen s t)
  where
    go : {c : Result ℕ Refusal} → Chosen s t c → (let r = accepts_told (accepts_at s t R c) in AcceptsIn s 0 (record_table R) t r.number r.place r.line)
    go (breaks_at b) = breaks b
    go (negative h n) = says h (Accepts.negative n)
    go (missing h w n) = says h (Accepts.missing w n)
    go (tree h w n v q g) = says h (told_in s t R w n (v R))
