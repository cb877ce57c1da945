-- A tree of a text by its number: where it stands, and what is judged of it.
use mathlib.Core.Path.{◌≡◌, refl, sym, ap, ◌∙◌, subst}
use mathlib.Core.List.{List, [], ◌∷◌, zip_with, Forall₂}
use Prim.Native.Nat.{ℕ, zero, suc}
use native.Mathlib.Omega.{arith}
use lib.ListN.{length}
use Rattle.std.specs.Prelude.{Some, None}
use Rattle.written.specs.Said as said
use Rattle.written.specs.Said.{QuestionPlace, Text, Layout}
use Rattle.written.specs.TreeText.{Parted, last, next, Parting, LineParting, LineAt, BodyAt, TreeAt, tree as grown, trees, Says, without, with_questions}
use Rattle.written.specs.Linking.{Nth, here, there}
use Rattle.written.proofs.Walk.{no_row}
use Rattle.laws.specs.Steps.{Ending, done_at, broken_at, Step, broken, read_of, read_from, read}
use Rattle.tree_question.specs.Questions.{questions_at}
use Rattle.tree_line.specs.Lines.{line_of, lines_at}
use Rattle.tree_line.specs.declared.Line as code
use Rattle.laws.specs.Steps as step
use Rattle.written.specs.Bytes.{Span}
use Rattle.tree_reference.specs.References.{index_of}
use Rattle.tree_reference.specs.declared.TreeIndex.{TreeIndex}
use lib.IntN.{ℤ}
use Rattle.tree_body.specs.Trees.{Tree, Body, lone, braces, body_of, tree_of, head_at, after_tree, tree_followed, tree_read, tree_headed, tree_step_at, trees_at}
use Rattle.tree_body.specs.declared.TreeHead.{TreeHead}
use Rattle.tree_body.specs.declared.TreeHead.TheVariants as head
use Rattle.tree_body.specs.declared.TreeStep.{TreeStep}
use Rattle.tree_body.specs.declared.TreeStep.TheVariants as after
use Rattle.tree_survey_lines.proofs.Counting.{lines_some}
use Rattle.tree_survey.specs.Survey as survey
use Rattle.tree_survey.specs.Survey.{text_read, text_at}
use Rattle.tree_survey.specs.Said.{text_of}
use Rattle.tree_survey.proofs.Joined.{says_read}
use Rattle.link_find.specs.Find.{star_of}
use Rattle.link_find.proofs.Finding.{star_next, star_last}
use Rattle.link_alone.specs.Alone.{judged_single, single_in, judged_ending, judged_braces, judged_head}
use Rattle.shown_text.proofs.Words.{parted_nth}
use Rattle.shown_accepts.proofs.Lines.{LineSaid, lines_said, QuestionSaid, questions_said}
use Rattle.shown_accepts.proofs.Verdicts.{Verdict, judged_body, body_verdict}

-- ---- where trees stand

pub star_there : {ts : List Tree} {k : ℕ} {t : Tree} → Nth ts k t → star_of ts k ≡ Some t.star
unfolding star_of
star_there here = refl
star_there (there h) = star_there h

pub star_none : (ts : List Tree) (k : ℕ) → ((t : Tree) → ¬ Nth ts k t) → star_of ts k ≡ None
unfolding star_of
star_none [] k n = refl
star_none (t ∷ ts) zero n = absurd (n t here)
star_none (t ∷ ts) (suc k) n = star_none ts k (λ u h. n u (there h))

-- a step that took a tree
data Took (t : Tree) : Step Tree → Type 0 where
  on : {j : ℕ} → Took t (step.next t j)
  end : {j : ℕ} → Took t (step.last t j)

-- a tree and where it stands
record Stands (s : List ℕ) (t : Tree) : Type 0 where
  at : ℕ
  step : Step Tree
  is : tree_step_at s at ≡ step
  took : Took t step

module _ (s : List ℕ) where
  stood : (f i : ℕ) {k : ℕ} {t : Tree} → Nth (read_from (tree_step_at s) f i).items k t → Stands s t
  unfolding read_from
  stood zero i h = absurd (no_row h)
  stood (suc f) i {k} {t} h = go (tree_step_at s i) refl h (λ p k h. stood f p h)
    where
      first : {j k : ℕ} {x : Tree} {xs : List Tree} → tree_step_at s i ≡ step.next x j → ((k : ℕ) → Nth xs k t → Stands s t) → Nth (x ∷ xs) k t → Stands s t
      first e f here = record { at = i; step = step.next t _; is = e; took = on }
      first e f (there {k = k} h) = f k h

      only : {j k : ℕ} {x : Tree} → tree_step_at s i ≡ step.last x j → Nth (x ∷ []) k t → Stands s t
      only e here = record { at = i; step = step.last t _; is = e; took = end }
      only e (there h) = absurd (no_row h)

      go : (z : Step Tree) → tree_step_at s i ≡ z → Nth (read_of (read_from (tree_step_at s) f) z).items k t → ((p k : ℕ) → Nth (read_from (tree_step_at s) f p).items k t → Stands s t) → Stands s t
      go (step.next x p) e h r = first e (r p) h
      go (step.last x p) e h r = only e h
      go (broken p) e h r = absurd (no_row h)

  stands : (i : ℕ) {k : ℕ} {t : Tree} → Nth (trees_at s i).items k t → Stands s t
  unfolding trees_at read
  stands i h = stood (suc (length s)) i h

  -- it stands where it says
  stands_there : {t : Tree} (w : Stands s t) → t.star ≡ w.at
  stands_there {t} w = go w.step w.is w.took
    where
      go : (z : Step Tree) → tree_step_at s w.at ≡ z → Took t z → t.star ≡ w.at
      go (step.next x j) e on = star_next s w.at j t e
      go (step.last x j) e end = star_last s w.at j t e
      go (broken _) e x3 = elim x3 [ ]

  -- what the head of a tree tells of its body
  pub data Headed : Body → TreeHead → Type 0 where
    one : {x : ℤ} {r : TreeIndex} {e : ℕ} → Headed (lone r) (head.Lone x r e)
    none : {x : ℤ} {e : ℕ} → Headed (braces []) (head.Empty x e)
    lines : {x : ℤ} {f e : ℕ} → (lines_at s f).ending ≡ done_at e → Headed (braces (lines_at s f).items) (head.Lines x f)

  followed : (u : Tree) (a : TreeStep) {t : Tree} {z : Step Tree} → tree_followed s u a ≡ z → Took t z → u.body ≡ t.body
  followed u (after.Next k) {t} e (on {j = j}) = let q : u ≡ t = cc in ap (λ (x : Tree). x.body) q
  followed u (after.Next k) e (end {j = j}) = let q : ◌≡◌ {A = ℕ} 0 1 = cc in absurd (omega arith)
  followed u after.End e (on {j = j}) = let q : ◌≡◌ {A = ℕ} 0 1 = cc in absurd (omega arith)
  followed u after.End {t} e (end {j = j}) = let q : u ≡ t = cc in ap (λ (x : Tree). x.body) q
  followed u (after.Broken k) e (on {j = j}) = let q : ◌≡◌ {A = ℕ} 0 1 = cc in absurd (omega arith)
  followed u (after.Broken k) e (end {j = j}) = let q : ◌≡◌ {A = ℕ} 0 1 = cc in absurd (omega arith)

  headed : (i : ℕ) {t : Tree} {z : Step Tree} → tree_step_at s i ≡ z → Took t z → Headed t.body (head_at s i)
  unfolding tree_step_at
  headed i {t} {z} e w = go (head_at s i) e
    where
      never : {h : TreeHead} (z : Step Tree) → broken i ≡ z → Took t z → Headed t.body h
      never (step.next u j) h on = let q : ◌≡◌ {A = ℕ} 0 1 = cc in absurd (omega arith)
      never (step.last u j) h end = let q : ◌≡◌ {A = ℕ} 0 1 = cc in absurd (omega arith)
      never (broken _) h x3 = elim x3 [ ]

      within : (x : ℤ) (f : ℕ) (d : Ending) → (lines_at s f).ending ≡ d → tree_read s i x (lines_at s f).items d ≡ z → Headed t.body (head.Lines x f)
      within x f (done_at k) q h = subst (λ (b : Body). Headed b (head.Lines x f)) (followed _ (after_tree s k) h w) (lines q)
      within x f (broken_at k) q h = never z h w

      go : (a : TreeHead) → tree_headed s i a ≡ z → Headed t.body a
      go (head.Lone x r k) h = subst (λ (b : Body). Headed b (head.Lone x r k)) (followed _ (after_tree s k) h w) one
      go (head.Empty x k) h = subst (λ (b : Body). Headed b (head.Empty x k)) (followed _ (after_tree s k) h w) none
      go (head.Lines x f) h = within x f (lines_at s f).ending refl h
      go head.NoTree h = never z h w

  module _ (ps : List QuestionPlace) (R : List ℕ) where
    -- what is judged of the head is what is judged of the body
    lines_body : (f e : ℕ) (ls : List code.Line) → (lines_at s f).items ≡ ls → (lines_at s f).ending ≡ done_at e → judged_single s ps R ls (single_in ls) ≡ judged_body s ps R (braces ls)
    lines_body f e [] q d = absurd (omega (arith, lines_some s f e d, ap length q))
    lines_body f e (l ∷ ls) q d = refl

    head_body : {b : Body} {h : TreeHead} → Headed b h → judged_head s ps R h ≡ judged_body s ps R b
    unfolding judged_braces
    head_body one = refl
    head_body none = refl
    head_body (lines {f = f} {e = e} d) = ap (judged_ending s ps R (lines_at s f).items) d ∙ lines_body f e (lines_at s f).items refl d

  -- ---- a tree as it is said, and its head

  pub data Reads : said.Body → TreeHead → Type 0 where
    one : {x : ℤ} {r : said.Ref} {e : ℕ} → Reads (said.lone r) (head.Lone x (index_of r) e)
    none : {x : ℤ} {e : ℕ} → Reads (said.braces []) (head.Empty x e)
    lines : {x : ℤ} {f e : ℕ} {ls : List said.Line} → (lines_at s f).ending ≡ done_at e → Forall₂ (LineSaid s) ls (lines_at s f).items → Reads (said.braces ls) (head.Lines x f)

  some_lines : {i j : ℕ} {ls : List said.Line} {ws : List Span} → Parted (LineParting s) (LineAt s) i j ls ws → length (zip_with line_of ls ws) ≡ 0 → ⊥
  unfolding zip_with
  some_lines (last t) e = omega (arith, e)
  some_lines (next t q r) e = omega (arith, e)

  no_lines : {ls : List code.Line} → braces ls ≡ braces (zip_with line_of [] []) → ls ≡ []
  unfolding zip_with
  no_lines e = cc

  read_lines : {i j : ℕ} {ls : List said.Line} {ws : List Span} → Parted (LineParting s) (LineAt s) i j ls ws → {b : Body} {h : TreeHead} → b ≡ braces (zip_with line_of ls ws) → Headed b h → Reads (said.braces ls) h
  read_lines p e (one {x = x} {r = r}) = let z : ◌≡◌ {A = ℕ} 0 1 = cc in absurd (omega arith)
  read_lines {ls = ls} {ws = ws} p e none = absurd (let z : [] ≡ zip_with line_of ls ws = cc in some_lines p (ap length (sym z)))
  read_lines {ls = ls} {ws = ws} p e (lines {f = f} d) =
      let z : (lines_at s f).items ≡ zip_with line_of ls ws = cc in
      lines d (subst (Forall₂ (LineSaid s) ls) (sym z) (lines_said s p))

  body_reads : {i j : ℕ} {t : said.Body} {ws : List Span} → BodyAt s i j t ws → {b : Body} {h : TreeHead} → b ≡ body_of t ws → Headed b h → Reads t h
  body_reads (BodyAt.one {r = r} g) e (one {x = x} {r = u} {e = k}) = let z : index_of r ≡ u = cc in subst (λ (v : TreeIndex). Reads (said.lone r) (head.Lone x v k)) z one
  body_reads (BodyAt.one {r = r} g) e none = let z : ◌≡◌ {A = ℕ} 0 1 = cc in absurd (omega arith)
  body_reads (BodyAt.one {r = r} g) e (lines {f = f} d) = let z : ◌≡◌ {A = ℕ} 0 1 = cc in absurd (omega arith)
  body_reads (BodyAt.none a b c) e (one {x = x} {r = u} {e = k}) = let z : ◌≡◌ {A = ℕ} 0 1 = cc in absurd (omega arith)
  body_reads (BodyAt.none a b c) e none = none
  body_reads (BodyAt.none a b c) e (lines {f = f} {e = k} d) = absurd (let z : (lines_at s f).items ≡ [] = no_lines e in omega (arith, lines_some s f k d, ap length z))
  body_reads (BodyAt.lines a b p c d) e w = read_lines p e w

  -- ---- a text

  -- its questions, and its trees where they stand
  record Parts (t : Text) (l : Layout) : Type 0 where
    asks : Forall₂ (QuestionSaid s) t.questions l.questions
    begin : ℕ
    ends : ℕ
    stand : Parted (Parting s) (TreeAt s) begin ends t.trees l.trees

  parts : {i : ℕ} {t : Text} {l : Layout} → Says s i t l → Parts t l
  parts (without (trees a p b)) = record { asks = Forall₂.nil; begin = _; ends = _; stand = p }
  parts (with_questions q (trees a p b)) = record { asks = questions_said s q; begin = _; ends = _; stand = p }

  nth-zip : {A B C : Type 0} (f : A → B → C) {xs : List A} {ys : List B} {k : ℕ} {x : A} {y : B} → Nth xs k x → Nth ys k y → Nth (zip_with f xs ys) k (f x y)
  unfolding zip_with
  nth-zip f here here = here
  nth-zip f (there h) (there g) = there (nth-zip f h g)

  zip-nth : {A B C : Type 0} (f : A → B → C) (xs : List A) (ys : List B) {k : ℕ} {z : C} → Nth (zip_with f xs ys) k z → (x : A) × Nth xs k x
  unfolding zip_with
  zip-nth f [] ys h = absurd (no_row h)
  zip-nth f (x ∷ xs) [] h = absurd (no_row h)
  zip-nth f (x ∷ xs) (y ∷ ys) here = (x, here)
  zip-nth f (x ∷ xs) (y ∷ ys) (there h) = let r = zip-nth f xs ys h in (r.0, there r.1)

  module _ {i f : ℕ} {t : Text} {l : Layout} (says : Says s i t l) (begins : (questions_at s i).ending ≡ done_at f) where
    read_all : text_read s (questions_at s i).items (done_at f) ≡ text_of s t l
    unfolding text_at
    read_all = sym (ap (text_read s (questions_at s i).items) begins) ∙ says_read s says

    questions_are : (questions_at s i).items ≡ l.questions
    questions_are = ap (λ (r : survey.Text). r.questions) read_all

    trees_are : (trees_at s f).items ≡ zip_with tree_of t.trees l.trees
    trees_are = ap (λ (r : survey.Text). r.trees) read_all

    -- tree k of the text: it stands somewhere, and is judged as `written` has it
    pub tree_judged : {k : ℕ} {e : said.Tree} → Nth t.trees k e
        → (a : ℕ) × (star_of (trees_at s f).items k ≡ Some a) × ((R : List ℕ) → Verdict t.questions R e.body (judged_head s (questions_at s i).items R (head_at s a)))
        × Forall₂ (QuestionSaid s) t.questions (questions_at s i).items × Reads e.body (head_at s a)
    tree_judged {k} {e} h =
        let p = parts says in
        let n = parted_nth p.stand h in
        let g : Nth (trees_at s f).items k (tree_of e n.0) = subst (λ (ts : List Tree). Nth ts k (tree_of e n.0)) (sym trees_are) (nth-zip tree_of h n.3) in
        let w = stands f g in (
          w.at,
          star_there g ∙ ap Some (stands_there w),
          λ R.
              let v = subst (λ (ws : List QuestionPlace). Verdict t.questions R e.body (judged_body s ws R (tree_of e n.0).body)) (sym questions_are) (tree_verdict p.asks R n.4) in
              subst (Verdict t.questions R e.body) (sym (head_body (questions_at s i).items R (headed w.at w.is w.took))) v,
          subst (Forall₂ (QuestionSaid s) t.questions) (sym questions_are) p.asks,
          tree_reads n.4 (headed w.at w.is w.took),
        )
      where
        tree_verdict : Forall₂ (QuestionSaid s) t.questions l.questions → (R : List ℕ) {a b : ℕ} {x : said.Tree} {y : said.TreePlace} → TreeAt s a b x y
            → Verdict t.questions R x.body (judged_body s l.questions R (tree_of x y).body)
        tree_verdict q R (grown _ _ _ _ _ _ g) = body_verdict R s q g

        tree_reads : {a b : ℕ} {x : said.Tree} {y : said.TreePlace} {h : TreeHead} → TreeAt s a b x y → Headed (tree_of x y).body h → Reads x.body h
        tree_reads (grown _ _ _ _ _ _ g) w = body_reads g refl w

    pub tree_missing : {k : ℕ} → ((e : said.Tree) → ¬ Nth t.trees k e) → star_of (trees_at s f).items k ≡ None
    tree_missing {k} n = star_none (trees_at s f).items k (λ u h. let r = zip-nth tree_of t.trees l.trees (subst (λ (ts : List Tree). Nth ts k u) trees_are h) in n r.0 r.1)
