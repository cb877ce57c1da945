-- The laws of the loops that look for a tree, a question or a line: a turn leaves the answer as it is, and goes up.
use mathlib.Core.Path.{◌≡◌, refl, sym, ap, ap₂, ◌∙◌, subst}
use mathlib.Core.Bool.{Bool, true, false, cond}
use mathlib.Core.List.{List, [], ◌∷◌}
use Prim.Native.Nat.{ℕ, zero, suc, ◌+◌, ◌-◌, ◌≤◌, ◌<◌}
use native.Mathlib.Numerals.{add-one}
use native.Mathlib.Omega.{arith}
use borrow.Author.Tests.{eq-eqb, ne_eqb, eqb-true}
use lib.ListN.{length}
use Rattle.std.specs.declared.option.Option.{Option}
use Rattle.std.specs.Prelude.{Some, None}
use Rattle.written.specs.Said.{QuestionPlace}
use Rattle.written.specs.Linking.{Nth, here, there}
use Rattle.laws.proofs.Nth.{nth_inside, nth_of}
use Rattle.laws.specs.Steps.{Ending, done_at, broken_at, Step, next, last, broken, Reading, read_of}
use Rattle.laws.proofs.Parted.{onward}
use Rattle.tree_question.specs.Questions.{head_at, after_question, patterns_at, question_followed, question_read, question_headed, question_step_at}
use Rattle.tree_question.specs.declared.Item.TheVariants as item
use Rattle.tree_question.proofs.Filling.{headed, questions_from_here, questions_are}
use Rattle.tree_question.proofs.Joined.{question_reads}
use Rattle.tree_line.specs.Lines.{lines_at}
use Rattle.tree_line.specs.declared.Line.{Line}
use Rattle.tree_body.specs.Trees.{Tree, head_at as head_of, after_tree, tree_followed, tree_read, tree_headed, tree_step_at, trees_at}
use Rattle.tree_body.specs.declared.TreeHead.TheVariants as tree
use Rattle.tree_body.specs.declared.TreeStep.{TreeStep}
use Rattle.tree_body.specs.declared.TreeStep.TheVariants as after
use Rattle.tree_body.proofs.Filling.{trees_are}
use Rattle.tree_survey_questions.specs.Counts.{patterns_counted, patterns_ended}
use Rattle.tree_survey_questions.proofs.Counting.{counted_done}
use Rattle.tree_survey.specs.Survey.{tree_surveyed}
use Rattle.tree_survey.specs.declared.TreeSurvey.TheVariants as surveyed
use Rattle.tree_survey.proofs.Counting.{seen_next, seen_last, seen_broken}
use Rattle.written.specs.Bytes.{same}
use Rattle.link_order.specs.Keys.{id_key}
use Rattle.text_parts.specs.Parts.{part_inside, read_to, cut}
use Rattle.link_find.specs.Find.{star_of, last_from, name_step, named, bears, bearer, bearing_from, bearing, placed, ordered}
use Rattle.link_find.specs.declared.NameStep.TheVariants as name

module _ (s : List ℕ) where
  -- ---- trees

  followed_star : (t : Tree) (a : TreeStep) (i j : ℕ) (u : Tree) → t.star ≡ i → tree_followed s t a ≡ next u j → u.star ≡ i
  followed_star t (after.Next k) i j u e h = let z : t ≡ u = cc in ap (λ (x : Tree). x.star) (sym z) ∙ e
  followed_star t after.End i j u e h = let z : ◌≡◌ {A = ℕ} 0 1 = cc in absurd (omega arith)
  followed_star t (after.Broken k) i j u e h = let z : ◌≡◌ {A = ℕ} 0 1 = cc in absurd (omega arith)

  followed_last : (t : Tree) (a : TreeStep) (i j : ℕ) (u : Tree) → t.star ≡ i → tree_followed s t a ≡ last u j → u.star ≡ i
  followed_last t (after.Next k) i j u e h = let z : ◌≡◌ {A = ℕ} 0 1 = cc in absurd (omega arith)
  followed_last t after.End i j u e h = let z : t ≡ u = cc in ap (λ (x : Tree). x.star) (sym z) ∙ e
  followed_last t (after.Broken k) i j u e h = let z : ◌≡◌ {A = ℕ} 0 1 = cc in absurd (omega arith)

  -- a tree that was read at i stands there
  pub star_next : (i j : ℕ) (t : Tree) → tree_step_at s i ≡ next t j → t.star ≡ i
  unfolding tree_step_at
  star_next i j t h = go (head_of s i) h
    where
      within : (x : _) (ls : List Line) (d : Ending) → tree_read s i x ls d ≡ next t j → t.star ≡ i
      within x ls (done_at e) h = followed_star _ (after_tree s e) i j t refl h
      within x ls (broken_at e) h = let z : ◌≡◌ {A = ℕ} 0 1 = cc in absurd (omega arith)

      go : (a : _) → tree_headed s i a ≡ next t j → t.star ≡ i
      go (tree.Lone x r e) h = followed_star _ (after_tree s e) i j t refl h
      go (tree.Empty x e) h = followed_star _ (after_tree s e) i j t refl h
      go (tree.Lines x f) h = within x (lines_at s f).items (lines_at s f).ending h
      go tree.NoTree h = let z : ◌≡◌ {A = ℕ} 0 1 = cc in absurd (omega arith)

  pub star_last : (i j : ℕ) (t : Tree) → tree_step_at s i ≡ last t j → t.star ≡ i
  unfolding tree_step_at
  star_last i j t h = go (head_of s i) h
    where
      within : (x : _) (ls : List Line) (d : Ending) → tree_read s i x ls d ≡ last t j → t.star ≡ i
      within x ls (done_at e) h = followed_last _ (after_tree s e) i j t refl h
      within x ls (broken_at e) h = let z : ◌≡◌ {A = ℕ} 0 1 = cc in absurd (omega arith)

      go : (a : _) → tree_headed s i a ≡ last t j → t.star ≡ i
      go (tree.Lone x r e) h = followed_last _ (after_tree s e) i j t refl h
      go (tree.Empty x e) h = followed_last _ (after_tree s e) i j t refl h
      go (tree.Lines x f) h = within x (lines_at s f).items (lines_at s f).ending h
      go tree.NoTree h = let z : ◌≡◌ {A = ℕ} 0 1 = cc in absurd (omega arith)

  pub record Seeking (first n i left : ℕ) : Type 0 where
    pub same : star_of (trees_at s i).items left ≡ star_of (trees_at s first).items n

  trees_next : (i j : ℕ) (t : Tree) → tree_step_at s i ≡ next t j → (trees_at s i).items ≡ t ∷ (trees_at s j).items
  trees_next i j t e = ap (λ (r : Reading Tree). r.items) (trees_are s i ∙ ap (read_of (trees_at s)) e)

  trees_last : (i j : ℕ) (t : Tree) → tree_step_at s i ≡ last t j → (trees_at s i).items ≡ t ∷ []
  trees_last i j t e = ap (λ (r : Reading Tree). r.items) (trees_are s i ∙ ap (read_of (trees_at s)) e)

  trees_broken : (i j : ℕ) → tree_step_at s i ≡ broken j → (trees_at s i).items ≡ []
  trees_broken i j e = ap (λ (r : Reading Tree). r.items) (trees_are s i ∙ ap (read_of (trees_at s)) e)

  pub seek_here : {first n i left : ℕ} {b : Bool} {m k j : ℕ} → Seeking first n i left → surveyed.Next b m k j ≡ tree_surveyed (tree_step_at s i) → left ≡ 0 → Some i ≡ star_of (trees_at s first).items n
  unfolding star_of
  seek_here {first} {n} {i} {left} {b} {m} {k} {j} c h e =
      let t = seen_next s i b m k j h in
      ap Some (sym (star_next i j t.it t.steps)) ∙ sym (ap₂ star_of (trees_next i j t.it t.steps) e) ∙ c.same

  pub seek_on : {first n i left : ℕ} {b : Bool} {m k j : ℕ} → Seeking first n i left → surveyed.Next b m k j ≡ tree_surveyed (tree_step_at s i) → ¬ (left ≡ 0) → Seeking first n j (left - 1)
  unfolding star_of
  seek_on {left = zero} c h e = absurd (e refl)
  seek_on {i = i} {left = suc left} {b = b} {m = m} {k = k} {j = j} c h e =
      let t = seen_next s i b m k j h in
      let z : suc left - 1 ≡ left = omega arith in
      record { same = ap (star_of (trees_at s j).items) z ∙ sym (ap (λ (l : List Tree). star_of l (suc left)) (trees_next i j t.it t.steps)) ∙ c.same }

  pub seek_end : {first n i left : ℕ} {b : Bool} {m k : ℕ} → Seeking first n i left → surveyed.Last b m k ≡ tree_surveyed (tree_step_at s i) → left ≡ 0 → Some i ≡ star_of (trees_at s first).items n
  unfolding star_of
  seek_end {first} {n} {i} {left} {b} {m} {k} c h e =
      let t = seen_last s i b m k h in
      ap Some (sym (star_last i t.steps.0 t.it t.steps.1)) ∙ sym (ap₂ star_of (trees_last i t.steps.0 t.it t.steps.1) e) ∙ c.same

  pub seek_past : {first n i left : ℕ} {b : Bool} {m k : ℕ} → Seeking first n i left → surveyed.Last b m k ≡ tree_surveyed (tree_step_at s i) → ¬ (left ≡ 0) → None ≡ star_of (trees_at s first).items n
  unfolding star_of
  seek_past {left = zero} c h e = absurd (e refl)
  seek_past {i = i} {left = suc left} {b = b} {m = m} {k = k} c h e =
      let t = seen_last s i b m k h in
      sym (ap (λ (l : List Tree). star_of l (suc left)) (trees_last i t.steps.0 t.it t.steps.1)) ∙ c.same

  pub seek_none : {first n i left j : ℕ} → Seeking first n i left → surveyed.Broken j ≡ tree_surveyed (tree_step_at s i) → None ≡ star_of (trees_at s first).items n
  unfolding star_of
  seek_none {first} {n} {i} {left} {j} c h = sym (ap (λ (l : List Tree). star_of l left) (trees_broken i j (seen_broken s i j h))) ∙ c.same

  -- ---- the name of a question

  module _ (i : ℕ) {b n f : ℕ} (h : Some (read_to (cut b n) f) ≡ head_at s i) where
    module _ {k e : ℕ} (d : Some (read_to k e) ≡ patterns_counted 0 (patterns_at s f)) where
      followed : question_step_at s i ≡ question_followed (record { name = record { start = b; len = n }; patterns = (patterns_at s f).items }) (after_question s e)
      followed = headed s i h ∙ ap (question_read s i (record { start = b; len = n }) (patterns_at s f).items) (counted_done s (patterns_at s f) k e d).0

      pub name_next : {j : ℕ} → item.Question j ≡ after_question s e → name.Next b n j ≡ name_step (question_step_at s i)
      name_next {j} a = sym (ap name_step (followed ∙ ap (question_followed (record { name = record { start = b; len = n }; patterns = (patterns_at s f).items })) (sym a)))

      pub name_last : {j : ℕ} → item.Tree j ≡ after_question s e → name.Last b n ≡ name_step (question_step_at s i)
      name_last {j} a = sym (ap name_step (followed ∙ ap (question_followed (record { name = record { start = b; len = n }; patterns = (patterns_at s f).items })) (sym a)))

    pub name_broken : None ≡ patterns_counted 0 (patterns_at s f) → name.Broken ≡ name_step (question_step_at s i)
    unfolding patterns_counted
    name_broken d = go (patterns_at s f).ending refl d
      where
        go : (x : Ending) → (patterns_at s f).ending ≡ x → None ≡ patterns_ended (0 + length (patterns_at s f).items) x → name.Broken ≡ name_step (question_step_at s i)
        go (done_at e) q d = let u : ◌≡◌ {A = ℕ} 0 1 = cc in absurd (omega arith)
        go (broken_at e) q d = sym (ap name_step (headed s i h ∙ ap (question_read s i (record { start = b; len = n }) (patterns_at s f).items) q))

  pub name_none : (i : ℕ) → None ≡ head_at s i → name.Broken ≡ name_step (question_step_at s i)
  unfolding question_step_at
  name_none i h = ap (λ t. name_step (question_headed s i t)) h

  -- ---- questions

  -- what a question's name tells of the questions from there on
  pub record Named (i b n : ℕ) (rest : List QuestionPlace) : Type 0 where
    pub it : QuestionPlace
    pub start : it.name.start ≡ b
    pub len : it.name.len ≡ n
    pub items : (questions_from_here s i).items ≡ it ∷ rest

  items_are : (i : ℕ) → (questions_from_here s i).items ≡ (read_of (questions_from_here s) (question_step_at s i)).items
  items_are i = ap (λ (r : Reading QuestionPlace). r.items) (questions_are s i)

  pub named_next : (i : ℕ) {b n j : ℕ} → name.Next b n j ≡ name_step (question_step_at s i) → (i < j) × (j ≤ length s) × Named i b n (questions_from_here s j).items
  named_next i {b} {n} {j} h = go (question_step_at s i) refl h
    where
      go : (t : Step QuestionPlace) → question_step_at s i ≡ t → name.Next b n j ≡ name_step t → (i < j) × (j ≤ length s) × Named i b n (questions_from_here s j).items
      go (next q k) e h =
          let u : b ≡ q.name.start = cc in
          let v : n ≡ q.name.len = cc in
          let w : j ≡ k = cc in
          let o = (onward (question_reads s)).on i k q e in
          (omega (arith, o.0), omega (arith, o.1), record { it = q; start = sym u; len = sym v; items = items_are i ∙ ap (λ (x : Step QuestionPlace). (read_of (questions_from_here s) x).items) e ∙ ap (λ (x : ℕ). q ∷ (questions_from_here s x).items) (sym w) })
      go (last q k) e h = let u : ◌≡◌ {A = ℕ} 0 1 = cc in absurd (omega arith)
      go (broken k) e h = let u : ◌≡◌ {A = ℕ} 0 1 = cc in absurd (omega arith)

  pub named_last : (i : ℕ) {b n : ℕ} → name.Last b n ≡ name_step (question_step_at s i) → Named i b n []
  named_last i {b} {n} h = go (question_step_at s i) refl h
    where
      go : (t : Step QuestionPlace) → question_step_at s i ≡ t → name.Last b n ≡ name_step t → Named i b n []
      go (next q k) e h = let u : ◌≡◌ {A = ℕ} 0 1 = cc in absurd (omega arith)
      go (last q k) e h =
          let u : b ≡ q.name.start = cc in
          let v : n ≡ q.name.len = cc in
          record { it = q; start = sym u; len = sym v; items = items_are i ∙ ap (λ (x : Step QuestionPlace). (read_of (questions_from_here s) x).items) e }
      go (broken k) e h = let u : ◌≡◌ {A = ℕ} 0 1 = cc in absurd (omega arith)

  -- the test of a question's name, as it is made
  pub hit : (w : List ℕ) {i b n : ℕ} {rest : List QuestionPlace} {part : List ℕ} {r : Bool} → (q : Named i b n rest) → part ≡ part_inside s b n → r ≡ same part w → r ≡ named s w q.it
  hit w q e h = h ∙ ap (λ (x : List ℕ). same x w) (e ∙ ap₂ (part_inside s) (sym q.start) (sym q.len))

  pub named_none : (i : ℕ) → name.Broken ≡ name_step (question_step_at s i) → (questions_from_here s i).items ≡ []
  named_none i h = go (question_step_at s i) refl h
    where
      go : (t : Step QuestionPlace) → question_step_at s i ≡ t → name.Broken ≡ name_step t → (questions_from_here s i).items ≡ []
      go (next q k) e h = let u : ◌≡◌ {A = ℕ} 0 1 = cc in absurd (omega arith)
      go (last q k) e h = let u : ◌≡◌ {A = ℕ} 0 1 = cc in absurd (omega arith)
      go (broken k) e h = items_are i ∙ ap (λ (x : Step QuestionPlace). (read_of (questions_from_here s) x).items) e

-- ---- the last of a list

module _ {A : Type 0} (p : A → Bool) (k : ℕ) (f : Option ℕ) where
  pub last_on : {x : A} {xs ys : List A} {b : Bool} {g : Option ℕ} → ys ≡ x ∷ xs → b ≡ p x → g ≡ cond b (Some k) f → last_from p (k + 1) g xs ≡ last_from p k f ys
  unfolding last_from
  last_on {x} {xs} {ys} {b} {g} e h q = ap₂ (λ i g. last_from p i g xs) (add-one k) (q ∙ ap (λ (b : Bool). cond b (Some k) f) h) ∙ sym (ap (last_from p k f) e)

  pub last_end : {x : A} {ys : List A} {b : Bool} {g : Option ℕ} → ys ≡ x ∷ [] → b ≡ p x → g ≡ cond b (Some k) f → g ≡ last_from p k f ys
  unfolding last_from
  last_end e h q = q ∙ ap (λ (b : Bool). cond b (Some k) f) h ∙ sym (ap (last_from p k f) e)

  pub last_over : {ys : List A} → ys ≡ [] → f ≡ last_from p k f ys
  unfolding last_from
  last_over e = sym (ap (last_from p k f) e)

-- ---- the last line of an id, itself

module _ (x : ℕ) (f : Option Line) where
  pub bearing_on : {l : Line} {ls ks : List Line} {b : Bool} {g : Option Line} → ks ≡ l ∷ ls → b ≡ bears x l → g ≡ cond b (Some l) f → bearing_from x g ls ≡ bearing_from x f ks
  unfolding bearing_from
  bearing_on {l} {ls} e h q = ap (λ (g : Option Line). bearing_from x g ls) (q ∙ ap (λ (b : Bool). cond b (Some l) f) h) ∙ sym (ap (bearing_from x f) e)

  pub bearing_end : {l : Line} {ks : List Line} {b : Bool} {g : Option Line} → ks ≡ l ∷ [] → b ≡ bears x l → g ≡ cond b (Some l) f → g ≡ bearing_from x f ks
  unfolding bearing_from
  bearing_end {l} e h q = q ∙ ap (λ (b : Bool). cond b (Some l) f) h ∙ sym (ap (bearing_from x f) e)

  pub bearing_over : {ks : List Line} → ks ≡ [] → f ≡ bearing_from x f ks
  unfolding bearing_from
  bearing_over e = sym (ap (bearing_from x f) e)

-- kept where it bears the id
pub hit_kept : {b : Bool} (x y : Option Line) → b ≡ true → x ≡ cond b x y
hit_kept x y e = sym (ap (λ (b : Bool). cond b x y) e)

pub miss_kept : {b : Bool} (x y : Option Line) → b ≡ false → y ≡ cond b x y
miss_kept x y e = sym (ap (λ (b : Bool). cond b x y) e)

-- the line that is kept is the one whose number is found
pub data Stands (all : List Line) : Option ℕ → Option Line → Type 0 where
  nowhere : Stands all None None
  stands : {k : ℕ} {l : Line} → Nth all k l → Stands all (Some k) (Some l)

module _ (x : ℕ) (all : List Line) where
  kept_from : (k : ℕ) (ls : List Line) → ((m : ℕ) (l : Line) → Nth ls m l → Nth all (k + m) l) → {f : Option ℕ} {g : Option Line} → Stands all f g → Stands all (last_from (bears x) k f ls) (bearing_from x g ls)
  unfolding last_from bearing_from
  kept_from k [] h w = w
  kept_from k (l ∷ ls) h {f} {g} w = kept_from (suc k) ls (λ m e n. later m (h (suc m) e (there n))) (go (bears x l))
    where
      later : (m : ℕ) {e : Line} → Nth all (k + suc m) e → Nth all (suc k + m) e
      later m {e} n = let z : k + suc m ≡ suc k + m = omega arith in subst (λ (i : ℕ). Nth all i e) z n

      go : (b : Bool) → Stands all (cond b (Some k) f) (cond b (Some l) g)
      go true = let z : k + 0 ≡ k = omega arith in stands (subst (λ (i : ℕ). Nth all i l) z (h 0 l here))
      go false = w

  pub kept : Stands all (bearer x all) (bearing x all)
  kept = kept_from 0 all (λ m l n. first n) nowhere
    where
      first : {m : ℕ} {l : Line} → Nth all m l → Nth all (0 + m) l
      first {m} {l} n = let z : m ≡ 0 + m = omega arith in subst (λ (i : ℕ). Nth all i l) z n

-- ---- ids in order

module _ (k : ℕ) where
  pub ordered_on : {l : Line} {ls ms : List Line} → ms ≡ l ∷ ls → placed k l ≡ true → ordered (k + 1) ls ≡ ordered k ms
  unfolding ordered
  ordered_on {l} {ls} e q = ap (λ (i : ℕ). ordered i ls) (add-one k) ∙ sym (ap (λ (b : Bool). cond b (ordered (suc k) ls) false) q) ∙ sym (ap (ordered k) e)

  pub ordered_off : {l : Line} {ls ms : List Line} → ms ≡ l ∷ ls → placed k l ≡ false → false ≡ ordered k ms
  unfolding ordered
  ordered_off {l} {ls} e q = sym (ap (λ (b : Bool). cond b (ordered (suc k) ls) false) q) ∙ sym (ap (ordered k) e)

  pub ordered_end : {l : Line} {ms : List Line} {r : Bool} → ms ≡ l ∷ [] → r ≡ placed k l → r ≡ ordered k ms
  unfolding ordered
  ordered_end {l} {ms} {r} e q = go (placed k l) q ∙ sym (ap (ordered k) e)
    where
      go : (b : Bool) → r ≡ b → r ≡ cond b true false
      go true h = h
      go false h = h

  pub ordered_none : {ms : List Line} → ms ≡ [] → true ≡ ordered k ms
  unfolding ordered
  ordered_none e = sym (ap (ordered k) e)

-- ---- one alone

module _ {A : Type 0} (p : A → Bool) where
  -- where the test is true of one alone, that one is the last
  pub last_off : (k : ℕ) (f : Option ℕ) (xs : List A) → ((m : ℕ) (x : A) → Nth xs m x → p x ≡ false) → last_from p k f xs ≡ f
  unfolding last_from
  last_off k f [] h = refl
  last_off k f (x ∷ xs) h = last_off (suc k) (cond (p x) (Some k) f) xs (λ m y n. h (suc m) y (there n)) ∙ ap (λ (b : Bool). cond b (Some k) f) (h 0 x here)

  pub last_is : (k : ℕ) (f : Option ℕ) {xs : List A} {m : ℕ} {x : A} → Nth xs m x → p x ≡ true → ((j : ℕ) (y : A) → m < j → Nth xs j y → p y ≡ false) → last_from p k f xs ≡ Some (k + m)
  unfolding last_from
  last_is k f (here {x = x} {xs = xs}) t h =
      let z : k ≡ k + 0 = omega arith in
      last_off (suc k) (cond (p x) (Some k) f) xs (λ m y n. h (suc m) y (omega arith) (there n)) ∙ ap (λ (b : Bool). cond b (Some k) f) t ∙ ap Some z
  last_is k f (there {y = y} {xs = xs} {k = m} n) t h =
      let z : suc k + m ≡ k + suc m = omega arith in
      last_is (suc k) (cond (p y) (Some k) f) n t (λ j w l o. h (suc j) w (omega arith) (there o)) ∙ ap Some z

-- ---- where ids are in order

module _ (x : ℕ) where
  order_key : (k : ℕ) {ls : List Line} {m : ℕ} {l : Line} → ordered k ls ≡ true → Nth ls m l → id_key l.id + (k + m) ≡ 9223372036854775808
  unfolding ordered
  order_key k {ls = l ∷ ls} o here = go (placed k l) refl o
    where
      go : (b : Bool) → placed k l ≡ b → cond b (ordered (suc k) ls) false ≡ true → id_key l.id + (k + 0) ≡ 9223372036854775808
      go true e q = omega (arith, eqb-true (id_key l.id + k) 9223372036854775808 e)
      go false e q = let u : ◌≡◌ {A = ℕ} 0 1 = cc in absurd (omega arith)
  order_key k {ls = y ∷ ls} {l = l} o (there {k = m} n) = go (placed k y) o (λ q. order_key (suc k) q n)
    where
      go : (b : Bool) → cond b (ordered (suc k) ls) false ≡ true → (ordered (suc k) ls ≡ true → id_key l.id + (suc k + m) ≡ 9223372036854775808) → id_key l.id + (k + suc m) ≡ 9223372036854775808
      go true q r = omega (arith, r q)
      go false q r = let u : ◌≡◌ {A = ℕ} 0 1 = cc in absurd (omega arith)
  order_key k {ls = []} o x8 = elim x8 [ ]

  not_here : (ls : List Line) → ordered 0 ls ≡ true → ((m : ℕ) → m < length ls → ¬ (x + m ≡ 9223372036854775808)) → None ≡ last_from (bears x) 0 None ls
  not_here ls o h = sym (last_off (bears x) 0 None ls (λ m l n. ne_eqb (id_key l.id) x (λ e. h m (nth_inside n) (let r = order_key 0 o n in omega (arith, r)))))

  pub order_above : (ls : List Line) → ordered 0 ls ≡ true → 9223372036854775808 < x → None ≡ last_from (bears x) 0 None ls
  order_above ls o h = not_here ls o (λ m l e. omega arith)

  pub order_past : (ls : List Line) (n : ℕ) → n ≡ length ls → ordered 0 ls ≡ true → x ≤ 9223372036854775808 → ¬ (9223372036854775808 - x < n) → None ≡ last_from (bears x) 0 None ls
  order_past ls n q o h g = not_here ls o (λ m l e. g (omega arith))

  pub order_at : (ls : List Line) (n : ℕ) → n ≡ length ls → ordered 0 ls ≡ true → x ≤ 9223372036854775808 → 9223372036854775808 - x < n → Some (9223372036854775808 - x) ≡ last_from (bears x) 0 None ls
  order_at ls n q o h g =
      let r = nth_of ls (9223372036854775808 - x) (omega arith) in
      let e = order_key 0 o r.1 in
      let z : 9223372036854775808 - x ≡ 0 + (9223372036854775808 - x) = omega arith in
      ap Some z ∙ sym (last_is (bears x) 0 None r.1 (eq-eqb (id_key r.0.id) x (omega (arith, e)))
      (λ j y l n. ne_eqb (id_key y.id) x (λ w. let u = order_key 0 o n in omega (arith, u))))
