-- Trees stored one after another: what is left, stored, gives the tables with all of them.
use mathlib.Core.Path.{◌≡◌, refl, sym, ap, ap₂, ◌∙◌, subst}
use mathlib.Core.Bool.{Bool, true, false, cond}
use mathlib.Core.List.{List, [], ◌∷◌, ◌++◌, append-nil}
use Prim.Native.Nat.{ℕ, suc, ◌+◌, ◌*◌, ◌≤◌, ◌<◌}
use native.Mathlib.Omega.{arith}
use borrow.Author.Tests.{ltb-true, ltb-false}
use lib.Dec.{ltb}
use lib.IntN.{ℤ}
use lib.ListN.{length}
use lib.Seq.{sets, length-sets}
use Rattle.laws.specs.Steps.{Ending, done_at, broken_at, next, broken, Reading, read_of}
use Rattle.laws.specs.Totals.{total, larger, largest}
use Rattle.laws.proofs.Tables.{sets-append}
use Rattle.tree_line.specs.Lines.{lines_at}
use Rattle.tree_body.specs.Trees.{Body, lone, braces, Tree, head_at, after_tree, tree_followed, tree_read, tree_headed, tree_step_at, trees_at}
use Rattle.tree_body.specs.declared.TreeHead.{TreeHead}
use Rattle.error.specs.declared.LinkFault.{LinkFault}
use Rattle.tree_body.specs.declared.TreeHead.TheVariants as head
use Rattle.tree_body.specs.declared.TreeStep.{TreeStep}
use Rattle.tree_body.specs.declared.TreeStep.TheVariants as after
use Rattle.tree_body.proofs.Filling.{trees_are}
use Rattle.tree_survey.specs.Survey.{body_records, body_lines, tree_records, tree_lines}
use Rattle.tree_survey.proofs.Counting.{step_next}
use Rattle.text_parts.specs.Parts.{nat_of}
use Rattle.load_lines.specs.Words.{line_words}
use Rattle.load_tree.specs.Bodies.{unfilled, filled, TreeResult, body_result, place_of, lines_end}
use Rattle.load_tree.specs.declared.TreeFill.{TreeFill}
use Rattle.load_tree.proofs.Laws.{lines_size, lone_size}
use Rattle.load_trees.specs.declared.Following.{Following}
use Rattle.load_trees.specs.declared.Following.TheVariants as following
use Rattle.load_trees.specs.Trees.{unlinked, head_state, head_body, head_end, Whole, Through, leaf, empty, lines, row_words, work_of, ended_at, follows_step, follows_at, then_rest, trees_end, tree_words, record_words, work_after, TreeFilled, TreesFilled}
use Rattle.load_tree.specs.declared.Filled.{Filled}
use Rattle.error.specs.declared.LineFault.{LineFault}
use Rattle.load_trees.specs.declared.TreeFault.{TreeFault}
use Rattle.std.specs.Prelude.{Err, Ok, Result, ⊤}

-- ---- the largest of a list

larger_left : (m n : ℕ) → m ≤ larger m n
unfolding larger
larger_left m n = go (ltb m n) refl
  where
    go : (b : Bool) → ltb m n ≡ b → m ≤ cond b n m
    go true e = omega (arith, ltb-true m n e)
    go false e = omega arith

larger_right : (m n : ℕ) → n ≤ larger m n
unfolding larger
larger_right m n = go (ltb m n) refl
  where
    go : (b : Bool) → ltb m n ≡ b → n ≤ cond b n m
    go true e = omega arith
    go false e = omega (arith, ltb-false m n e)

-- it grows with both
larger_both : (m n k : ℕ) → m ≤ n → larger m k ≤ larger n k
unfolding larger
larger_both m n k h = go (ltb m k) refl
  where
    go : (b : Bool) → ltb m k ≡ b → cond b k m ≤ larger n k
    go true e = larger_right n k
    go false e = omega (arith, larger_left n k)

module _ {A : Type 0} (w : A → ℕ) where
  largest_from : (l : List A) (m : ℕ) → m ≤ largest w m l
  unfolding largest
  largest_from [] m = omega arith
  largest_from (x ∷ l) m = omega (arith, largest_from l (larger m (w x)), larger_left m (w x))

  largest_up : (l : List A) (m n : ℕ) → m ≤ n → largest w m l ≤ largest w n l
  unfolding largest
  largest_up [] m n h = h
  largest_up (x ∷ l) m n h = largest_up l (larger m (w x)) (larger n (w x)) (larger_both m n (w x) h)

  pub largest_first : (x : A) (l : List A) → w x ≤ largest w 0 (x ∷ l)
  unfolding largest
  largest_first x l = omega (arith, largest_from l (larger 0 (w x)), larger_right 0 (w x))

  pub largest_rest : (x : A) (l : List A) → largest w 0 l ≤ largest w 0 (x ∷ l)
  unfolding largest
  largest_rest x l = largest_up l 0 (larger 0 (w x)) (omega arith)

-- ---- one tree, by the step that reads it

module _ (s : List ℕ) where
  abbrev pub items : ℕ → List Tree
  items i = (trees_at s i).items

  pub record Facts (i : ℕ) (t : Tree) : Type 0 where
    pub body : t.body ≡ head_body s (head_at s i)
    pub state : nat_of t.state ≡ head_state (head_at s i)
    pub whole : Whole s (head_at s i)
    pub follows : tree_step_at s i ≡ tree_followed s t (after_tree s (head_end s (head_at s i)))

  -- no step is broken on the way to the end
  never : (i : ℕ) {j : ℕ} → Through s i → tree_step_at s i ≡ broken j → {A : Type 0} → A
  never i {j} z e =
      let v : broken_at j ≡ done_at z.end = sym (ap (λ (r : Reading Tree). r.ending) (trees_are s i ∙ ap (read_of (trees_at s)) e)) ∙ z.done in
      let u : ◌≡◌ {A = ℕ} 0 1 = cc in absurd (omega arith)

  -- a tree whose step is not broken
  pub stands : (i : ℕ) → ((j : ℕ) → ¬ (tree_step_at s i ≡ broken j)) → (t : Tree) × Facts i t
  unfolding tree_step_at
  stands i z = go (head_at s i) refl
    where
      made : (t : Tree) {h : TreeHead} → head_at s i ≡ h → t.body ≡ head_body s h → nat_of t.state ≡ head_state h → Whole s h
          → tree_headed s i (head_at s i) ≡ tree_followed s t (after_tree s (head_end s h)) → Facts i t
      made t e b x w f =
          record {
            body = b ∙ sym (ap (head_body s) e);
            state = x ∙ sym (ap head_state e);
            whole = subst (Whole s) (sym e) w;
            follows = f ∙ sym (ap (λ (h : TreeHead). tree_followed s t (after_tree s (head_end s h))) e);
          }

      go : (h : TreeHead) → head_at s i ≡ h → (t : Tree) × Facts i t
      go (head.Lone x r e) q = let t : Tree = record { star = i; state = x; body = lone r } in (t, made t q refl refl leaf (ap (tree_headed s i) q))
      go (head.Empty x e) q = let t : Tree = record { star = i; state = x; body = braces [] } in (t, made t q refl refl empty (ap (tree_headed s i) q))
      go (head.Lines x f) q = read (lines_at s f).ending refl
        where
          read : (d : Ending) → (lines_at s f).ending ≡ d → (t : Tree) × Facts i t
          read (done_at e) h =
              let t : Tree = record { star = i; state = x; body = braces (lines_at s f).items } in
              let u : lines_end s f ≡ e = ap place_of h in (
                t,
                made t q refl refl (lines (h ∙ ap done_at (sym u)))
                    (ap (tree_headed s i) q ∙ ap (tree_read s i x (lines_at s f).items) h ∙ ap (λ (k : ℕ). tree_followed s t (after_tree s k)) (sym u)),
              )
          read (broken_at e) h = absurd (z i (ap (tree_headed s i) q ∙ ap (tree_read s i x (lines_at s f).items) h))
      go head.NoTree q = absurd (z i (ap (tree_headed s i) q))

  -- the tree at i, and those behind it
  pub record Went (i : ℕ) : Type 0 where
    pub it : Tree
    pub rest : List Tree
    pub all : items i ≡ it ∷ rest
    pub facts : Facts i it

  steps_are : {i : ℕ} {t : Tree} {a : TreeStep} → Facts i t → a ≡ after_tree s (head_end s (head_at s i)) → trees_at s i ≡ read_of (trees_at s) (tree_followed s t a)
  steps_are {i} {t} f e = trees_are s i ∙ ap (read_of (trees_at s)) (f.follows ∙ ap (tree_followed s t) (sym e))

  pub went : (i : ℕ) → Through s i → Went i
  went i z = go (after_tree s (head_end s (head_at s i))) refl
    where
      t : Tree
      t = (stands i (λ j e. never i z e)).0

      f : Facts i t
      f = (stands i (λ j e. never i z e)).1

      all_are : {a : TreeStep} → a ≡ after_tree s (head_end s (head_at s i)) → items i ≡ (read_of (trees_at s) (tree_followed s t a)).items
      all_are e = ap (λ (r : Reading Tree). r.items) (steps_are f e)

      go : (a : TreeStep) → a ≡ after_tree s (head_end s (head_at s i)) → Went i
      go (after.Next j) e = record { it = t; rest = items j; all = all_are e; facts = f }
      go after.End e = record { it = t; rest = []; all = all_are e; facts = f }
      go (after.Broken j) e = never i z (f.follows ∙ ap (tree_followed s t) (sym e))

  module _ {i : ℕ} (w : Went i) where
    tail_is : {l : List Tree} → items i ≡ w.it ∷ l → w.rest ≡ l
    tail_is {l} e = let u : w.it ∷ w.rest ≡ w.it ∷ l = sym w.all ∙ e in cc

    -- another follows
    module _ {j : ℕ} (e : after.Next j ≡ after_tree s (head_end s (head_at s i))) where
      pub went_next : w.rest ≡ items j
      went_next = tail_is (ap (λ (r : Reading Tree). r.items) (steps_are w.facts e))

      pub through_next : Through s i → Through s j
      through_next z = record { end = z.end; done = sym (ap (λ (r : Reading Tree). r.ending) (steps_are w.facts e)) ∙ z.done }

      pub next_inside : (i < j) × (j ≤ length s)
      next_inside = let z = step_next s i j w.it (w.facts.follows ∙ ap (tree_followed s w.it) (sym e)) in (z.0, z.1)

    pub went_last : after.End ≡ after_tree s (head_end s (head_at s i)) → w.rest ≡ []
    went_last e = tail_is (ap (λ (r : Reading Tree). r.items) (steps_are w.facts e))

    pub went_never : {j : ℕ} → after.Broken j ≡ after_tree s (head_end s (head_at s i)) → Through s i → {A : Type 0} → A
    went_never e z = never i z (w.facts.follows ∙ ap (tree_followed s w.it) (sym e))

  -- ---- the tables meanwhile

  module _ (q : List ℕ) (n : ℕ) where
    body_size : (b : Body) {a k : ℕ} → (body_result s q n b).ends ≡ filled a k → (a ≡ body_records b) × (length (body_result s q n b).rows ≡ 4 * a)
    body_size (lone r) h = lone_size s q n r h
    body_size (braces ls) h = lines_size s q n ls h

    module _ (at : ℕ) (trees₀ records₀ : List ℕ) (work₀ : List ℤ) where
      pub record Filling (trees records : List ℕ) (work : List ℤ) (i row first : ℕ) : Type 0 where
        pub through : Through s i
        pub long : length trees ≡ length trees₀
        pub long_records : length records ≡ length records₀
        pub long_work : length work ≡ length work₀
        pub room : 6 * row + 6 * length (items i) ≤ length trees₀
        pub room_records : 4 * first + 4 * total tree_records (items i) ≤ length records₀
        pub room_work : 6 * largest tree_lines 0 (items i) ≤ length work₀
        pub ends : trees_end s q n row (items i) ≡ trees_end s q n 0 (items at)
        pub rows : sets trees (6 * row) (tree_words s q n first (items i)) ≡ sets trees₀ 0 (tree_words s q n 0 (items at))
        pub stored : sets records (4 * first) (record_words s q n (items i)) ≡ sets records₀ 0 (record_words s q n (items at))
        pub left : work_after s q n work (items i) ≡ work_after s q n work₀ (items at)

      -- what is promised at the end
      abbrev pub Ended : Result ⊤ TreeFault → List ℕ → List ℕ → List ℤ → Type 0
      Ended r trees records work = TreesFilled s q n (items at) trees₀ records₀ work₀ r trees records work

      pub filling_none : Through s at → 6 * length (items at) ≤ length trees₀ → 4 * total tree_records (items at) ≤ length records₀ → 6 * largest tree_lines 0 (items at) ≤ length work₀ → Filling trees₀ records₀ work₀ at 0 0
      filling_none z a b c = record { through = z; long = refl; long_records = refl; long_work = refl; room = omega arith; room_records = omega arith; room_work = c; ends = refl; rows = refl; stored = refl; left = refl }

      module _ (trees records : List ℕ) (work : List ℤ) (i row first : ℕ) (p : Filling trees records work i row first) where
        w : Went i
        w = went i p.through

        pub tree_room : (6 * row + 6 ≤ length trees) × (4 * first + 4 * body_records (head_body s (head_at s i)) ≤ length records) × (6 * body_lines (head_body s (head_at s i)) ≤ length work)
        unfolding total
        tree_room = (
          omega (arith, p.room, p.long, ap length w.all),
          omega (arith, p.room_records, p.long_records, ap (total tree_records) w.all, ap body_records w.facts.body),
          omega (arith, p.room_work, p.long_work, ap (largest tree_lines 0) w.all, largest_first tree_lines w.it w.rest, ap body_lines w.facts.body),
        )

        same_body : body_result s q n (head_body s (head_at s i)) ≡ body_result s q n w.it.body
        same_body = sym (ap (body_result s q n) w.facts.body)

        pub tree_whole : Whole s (head_at s i)
        tree_whole = w.facts.whole

        module _ {t : TreeFill} {trees₁ records₁ : List ℕ} {work₁ : List ℤ} (e : TreeFilled s q n (head_at s i) row first trees records work t trees₁ records₁ work₁) where
          abbrev r : Result Filled LineFault
          r = t.filled

          pub same_lengths : (length trees₁ ≡ length trees₀) × (length records₁ ≡ length records₀) × (length work₁ ≡ length work₀)
          same_lengths = (
            ap length e.1 ∙ length-sets trees (6 * row) (row_words (head_state (head_at s i)) first r) ∙ p.long,
            ap length e.0.2 ∙ length-sets records (4 * first) (body_result s q n (head_body s (head_at s i))).rows ∙ p.long_records,
            ap length e.0.3 ∙ same (head_body s (head_at s i)) ∙ p.long_work,
          )
            where
              same : (b : Body) → length (work_of s q n work b) ≡ length work
              same (lone x) = refl
              same (braces ls) = length-sets work 0 (line_words s q n ls)

          ends_are : r ≡ (body_result s q n w.it.body).ends
          ends_are = e.0.0 ∙ ap (λ (r : TreeResult). r.ends) same_body

          rows_are : trees₁ ≡ sets trees (6 * row) (row_words (nat_of w.it.state) first (body_result s q n w.it.body).ends)
          rows_are = e.1 ∙ ap₂ (λ (x : ℕ) (r : Result Filled LineFault). sets trees (6 * row) (row_words x first r)) (sym w.facts.state) ends_are

          records_are : records₁ ≡ sets records (4 * first) (body_result s q n w.it.body).rows
          records_are = e.0.2 ∙ ap (λ (r : TreeResult). sets records (4 * first) r.rows) same_body

          work_is : work₁ ≡ work_of s q n work w.it.body
          work_is = e.0.3 ∙ sym (ap (work_of s q n work) w.facts.body)

          -- the tree has its records, and another follows
          pub filling_more : {j a k : ℕ} → after.Next j ≡ after_tree s t.next → r ≡ filled a k → Filling trees₁ records₁ work₁ j (row + 1) (first + a)
          unfolding total trees_end tree_words record_words work_after
          filling_more {j} {a} {k} f d =
              let g : after.Next j ≡ after_tree s (head_end s (head_at s i)) = f ∙ ap (after_tree s) e.0.1 in
              let y = went_next w g in
              let B = w.it.body in
              let R = body_result s q n B in
              let E : R.ends ≡ filled a k = sym ends_are ∙ d in
              let z = body_size B E in
              let up : row + 1 ≡ suc row = omega arith in
              let six : 6 * (row + 1) ≡ 6 * row + 6 = omega arith in
              let later : 4 * (first + a) ≡ 4 * first + length R.rows = omega (arith, z.1) in
              let all : items i ≡ w.it ∷ items j = w.all ∙ ap (w.it ∷◌) y in
              let X = nat_of w.it.state in
              record {
                through = through_next w g p.through;
                long = same_lengths.0;
                long_records = same_lengths.1;
                long_work = same_lengths.2;
                room = omega (arith, p.room, ap length all);
                room_records = omega (arith, p.room_records, ap (total tree_records) all, z.0);
                room_work = omega (arith, p.room_work, ap (largest tree_lines 0) all, largest_rest tree_lines w.it (items j));
                ends =
                    ap (λ (m : ℕ). trees_end s q n m (items j)) up
                    ∙ sym (ap (λ (f : Result Filled LineFault). then_rest f (ended_at row f) (λ m. trees_end s q n (suc row) (items j))) E)
                    ∙ sym (ap (trees_end s q n row) all) ∙ p.ends;
                rows =
                    ap₂ (λ (t : List ℕ) (m : ℕ). sets t m (tree_words s q n (first + a) (items j))) (rows_are ∙ ap (λ (f : Result Filled LineFault). sets trees (6 * row) (row_words X first f)) E) six
                    ∙ sets-append trees (6 * row) (X ∷ first ∷ a ∷ k ∷ 0 ∷ 0 ∷ []) (tree_words s q n (first + a) (items j))
                    ∙ sym (ap (λ (f : Result Filled LineFault). sets trees (6 * row) (row_words X first f ++ then_rest f [] (λ m. tree_words s q n (first + m) (items j)))) E)
                    ∙ sym (ap (λ (ts : List Tree). sets trees (6 * row) (tree_words s q n first ts)) all) ∙ p.rows;
                stored =
                    ap₂ (λ (t : List ℕ) (m : ℕ). sets t m (record_words s q n (items j))) records_are later
                    ∙ sets-append records (4 * first) R.rows (record_words s q n (items j))
                    ∙ sym (ap (λ (f : Result Filled LineFault). sets records (4 * first) (R.rows ++ then_rest f [] (λ m. record_words s q n (items j)))) E)
                    ∙ sym (ap (λ (ts : List Tree). sets records (4 * first) (record_words s q n ts)) all) ∙ p.stored;
                left =
                    ap (λ (v : List ℤ). work_after s q n v (items j)) work_is
                    ∙ sym (ap (λ (f : Result Filled LineFault). then_rest f (work_of s q n work B) (λ m. work_after s q n (work_of s q n work B) (items j))) E)
                    ∙ sym (ap (work_after s q n work) all) ∙ p.left;
              }

          -- nothing is stored of the others: there are none, or the tree is refused
          closing :
              (f : Result Filled LineFault) → f ≡ (body_result s q n w.it.body).ends
              → then_rest f (ended_at row f) (λ m. trees_end s q n (suc row) w.rest) ≡ ended_at row f
              → then_rest f [] (λ m. tree_words s q n (first + m) w.rest) ≡ []
              → then_rest f [] (λ m. record_words s q n w.rest) ≡ []
              → then_rest f (work_of s q n work w.it.body) (λ m. work_after s q n (work_of s q n work w.it.body) w.rest) ≡ work_of s q n work w.it.body
              → f ≡ r → Ended (ended_at row r) trees₁ records₁ work₁
          unfolding trees_end tree_words record_words work_after
          closing f h a b c d u =
              let B = w.it.body in
              let R = body_result s q n B in
              let X = nat_of w.it.state in (
                ap (ended_at row) (sym u) ∙ sym a ∙ ap (λ (f : Result Filled LineFault). then_rest f (ended_at row f) (λ m. trees_end s q n (suc row) w.rest)) h ∙ sym (ap (trees_end s q n row) w.all) ∙ p.ends,
                rows_are
                    ∙ sym
                    (ap (λ (f : Result Filled LineFault). sets trees (6 * row) (row_words X first R.ends ++ then_rest f [] (λ m. tree_words s q n (first + m) w.rest))) (sym h)
                    ∙ ap (λ (l : List ℕ). sets trees (6 * row) (row_words X first R.ends ++ l)) b ∙ ap (sets trees (6 * row)) (append-nil (row_words X first R.ends)))
                    ∙ sym (ap (λ (ts : List Tree). sets trees (6 * row) (tree_words s q n first ts)) w.all) ∙ p.rows,
                records_are
                    ∙ sym
                    (ap (λ (f : Result Filled LineFault). sets records (4 * first) (R.rows ++ then_rest f [] (λ m. record_words s q n w.rest))) (sym h)
                    ∙ ap (λ (l : List ℕ). sets records (4 * first) (R.rows ++ l)) c ∙ ap (sets records (4 * first)) (append-nil R.rows))
                    ∙ sym (ap (λ (ts : List Tree). sets records (4 * first) (record_words s q n ts)) w.all) ∙ p.stored,
                work_is ∙ sym d ∙ ap (λ (f : Result Filled LineFault). then_rest f (work_of s q n work B) (λ m. work_after s q n (work_of s q n work B) w.rest)) h ∙ sym (ap (work_after s q n work) w.all) ∙ p.left,
              )

          refused : {g : LinkFault} {k : ℕ} → r ≡ unfilled g k → Ended (ended_at row r) trees₁ records₁ work₁
          refused {g} {k} h = closing (unfilled g k) (sym h ∙ ends_are) refl refl refl refl (sym h)

          -- the last tree has its records
          closed_last : {a k : ℕ} → after.End ≡ after_tree s t.next → r ≡ filled a k → Ended (ended_at row r) trees₁ records₁ work₁
          unfolding trees_end tree_words record_words work_after
          closed_last {a} {k} f d =
              let y = went_last w (f ∙ ap (after_tree s) e.0.1) in
              closing (filled a k) (sym d ∙ ends_are) (ap (trees_end s q n (suc row)) y) (ap (tree_words s q n (first + a)) y) (ap (record_words s q n) y)
              (ap (work_after s q n (work_of s q n work w.it.body)) y) (sym d)

          -- another follows, and stands behind this one
          goes_on : {j : ℕ} → after.Next j ≡ after_tree s t.next → (i < j) × (j ≤ length s)
          goes_on f = next_inside w (f ∙ ap (after_tree s) e.0.1)

          -- what follows a tree of a text in the grammar is another, or the end
          never_other : {j : ℕ} → after.Broken j ≡ after_tree s t.next → {A : Type 0} → A
          never_other f = went_never w (f ∙ ap (after_tree s) e.0.1) p.through

          -- ---- the two ways on

          -- another tree at j: this one has a records, and that one stands behind it
          pub filling_on : {j a : ℕ} {x : Following} → x ≡ follows_at s row t.next r → x ≡ following.Tree j a → Filling trees₁ records₁ work₁ j (row + 1) (first + a) × (i < j) × (j ≤ length s)
          filling_on {j} {a} {x} f g = go r refl (sym g ∙ f)
            where
              step : (k b : ℕ) → r ≡ filled b k → (m : TreeStep) → m ≡ after_tree s t.next → following.Tree j a ≡ follows_step b m → Filling trees₁ records₁ work₁ j (row + 1) (first + a) × (i < j) × (j ≤ length s)
              step k b d (after.Next l) u h =
                  let y : l ≡ j = cc in
                  let z : b ≡ a = cc in
                  let v : after.Next j ≡ after_tree s t.next = ap after.Next (sym y) ∙ u in
                  let g = goes_on v in
                  (filling_more v (d ∙ ap (λ (b : ℕ). filled b k) z), g.0, g.1)
              step k b d after.End u h = let z : ◌≡◌ {A = ℕ} 0 1 = cc in absurd (omega arith)
              step k b d (after.Broken l) u h = let z : ◌≡◌ {A = ℕ} 0 1 = cc in absurd (omega arith)

              go : (y : Result Filled LineFault) → r ≡ y → following.Tree j a ≡ follows_at s row t.next r → Filling trees₁ records₁ work₁ j (row + 1) (first + a) × (i < j) × (j ≤ length s)
              go (Ok f) d h = let record { records = b; lines = k } = f in step k b d (after_tree s t.next) refl (h ∙ ap (follows_at s row t.next) d)
              go (Err f) d h = let v = h ∙ ap (follows_at s row t.next) d in let z : ◌≡◌ {A = ℕ} 0 1 = cc in absurd (omega arith)

          -- linking ends
          pub filling_ends : {o : Result ⊤ TreeFault} {x : Following} → x ≡ follows_at s row t.next r → x ≡ following.End o → Ended o trees₁ records₁ work₁
          filling_ends {o} {x} f g = go r refl (sym g ∙ f)
            where
              ends_so : {u : Result ⊤ TreeFault} → o ≡ u → Ended u trees₁ records₁ work₁ → Ended o trees₁ records₁ work₁
              ends_so v z = subst (λ (o : Result ⊤ TreeFault). Ended o trees₁ records₁ work₁) (sym v) z

              step : (k b : ℕ) → r ≡ filled b k → (m : TreeStep) → m ≡ after_tree s t.next → following.End o ≡ follows_step b m → Ended o trees₁ records₁ work₁
              step k b d (after.Next l) u h = let z : ◌≡◌ {A = ℕ} 0 1 = cc in absurd (omega arith)
              step k b d after.End u h = let z : o ≡ (Ok tt) = cc in ends_so (z ∙ sym (ap (ended_at row) d)) (closed_last u d)
              step k b d (after.Broken l) u h = never_other u

              go : (y : Result Filled LineFault) → r ≡ y → following.End o ≡ follows_at s row t.next r → Ended o trees₁ records₁ work₁
              go (Ok f) d h = let record { records = b; lines = k } = f in step k b d (after_tree s t.next) refl (h ∙ ap (follows_at s row t.next) d)
              go (Err f) d h = let record { fault = b; line = k } = f in let v = h ∙ ap (follows_at s row t.next) d in let z : o ≡ unlinked b row k = cc in ends_so (z ∙ sym (ap (ended_at row) d)) (refused d)
