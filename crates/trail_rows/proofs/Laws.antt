-- The laws of rows: the lines of a tree's row are found again from its place; a turn of the loop stores, or compares, one row of those that are left.
use mathlib.Core.Path.{◌≡◌, refl, sym, ap, ap₂, ◌∙◌, subst}
use mathlib.Core.Bool.{Bool, true, false, cond, ◌&&◌}
use mathlib.Core.List.{List, [], ◌∷◌}
use Prim.Native.Nat.{ℕ, suc, ◌+◌, ◌*◌, ◌≤◌, ◌<◌}
use native.Mathlib.Omega.{arith}
use borrow.Author.Tests.{eq-eqb, ne_eqb, eqb-true}
use lib.Dec.{eqb}
use lib.ListN.{length}
use lib.Seq.{sets, length-sets}
use Rattle.written.specs.Blocks.{little_endian}
use Rattle.laws.specs.Steps.{Ending, done_at, broken_at, Step, next, last, broken, Reading, read_of}
use Rattle.laws.proofs.Tables.{sets-append}
use Rattle.tree_reference.specs.References.{same_index}
use Rattle.tree_line.specs.Lines.{line_step_at, lines_at}
use Rattle.tree_line.specs.declared.Line.{Line}
use Rattle.tree_line.specs.declared.LineStep.{LineStep}
use Rattle.tree_line.specs.declared.LineStep.TheVariants as line
use Rattle.tree_body.specs.Trees.{Tree, head_at, after_tree, tree_followed, tree_read, tree_headed, tree_step_at, trees_at}
use Rattle.tree_body.specs.declared.TreeHead.{TreeHead}
use Rattle.tree_body.specs.declared.TreeHead.TheVariants as head
use Rattle.tree_body.specs.declared.TreeStep.{TreeStep}
use Rattle.tree_body.specs.declared.TreeStep.TheVariants as after
use Rattle.tree_body.proofs.Filling.{trees_are}
use Rattle.tree_survey_lines.proofs.Counting.{items_next, items_last, items_broken}
use Rattle.tree_survey.specs.Survey.{tree_lines, tree_surveyed}
use Rattle.tree_survey.specs.declared.TreeSurvey.TheVariants as surveyed
use Rattle.tree_survey.proofs.Counting.{step_next}
use Rattle.trail_bytes.specs.Numbers.{same_words}
use Rattle.trail_bytes.proofs.Numbers.{same_append}
use Rattle.trail_rows.specs.Rows.{row_lines, tree_row, rows_of, row_stepped, first_lines, head_lines, lines_as_row}
use Rattle.trail_rows.specs.declared.RowStep.TheVariants as row

-- ---- one line

pub one_same : (l : Line) {b : Bool} → b ≡ same_index l.no l.yes → b ≡ true → 0 ≡ row_lines (l ∷ [])
one_same l e q = sym (ap (λ (x : Bool). cond x 0 1) (sym e ∙ q))

pub one_other : (l : Line) {b : Bool} → b ≡ same_index l.no l.yes → b ≡ false → 1 ≡ row_lines (l ∷ [])
one_other l e q = sym (ap (λ (x : Bool). cond x 0 1) (sym e ∙ q))

module _ (s : List ℕ) (i : ℕ) where
  pub lines_many : {n : ℕ} → (n ≡ 1 → ⊥) → n ≡ lines_as_row s i n
  unfolding lines_as_row
  lines_many {n} h = sym (ap (λ (b : Bool). cond b (head_lines s (head_at s i)) n) (ne_eqb n 1 h))

  pub lines_one : {n : ℕ} {r : ℕ} {t : TreeHead} → n ≡ 1 → t ≡ head_at s i → r ≡ head_lines s t → r ≡ lines_as_row s i n
  unfolding lines_as_row
  lines_one {n} {r} {t} h e q = q ∙ ap (head_lines s) e ∙ sym (ap (λ (b : Bool). cond b (head_lines s (head_at s i)) n) (eq-eqb n 1 h))

-- ---- the lines are those of the tree that stands there

many : (ls : List Line) → (length ls ≡ 1 → ⊥) → row_lines ls ≡ length ls
many [] h = refl
many (l ∷ []) h = absurd (h refl)
many (l ∷ (k ∷ ls)) h = refl

empty : (ls : List Line) → length ls ≡ 0 → ls ≡ []
empty [] h = refl
empty (l ∷ ls) h = absurd (omega arith)

module _ (s : List ℕ) where
  first_is : (f : ℕ) → length (lines_at s f).items ≡ 1 → first_lines (line_step_at s f) ≡ row_lines (lines_at s f).items
  first_is f h = go (line_step_at s f) refl
    where
      go : (t : LineStep) → t ≡ line_step_at s f → first_lines t ≡ row_lines (lines_at s f).items
      go (line.Next l j) q =
          let none : (lines_at s j).items ≡ [] = empty (lines_at s j).items (omega (arith, ap length (items_next s f q))) in
          sym (ap row_lines (items_next s f q ∙ ap (λ (ls : List Line). l ∷ ls) none))
      go (line.Last l j) q = sym (ap row_lines (items_last s f q))
      go line.Broken q = sym (ap row_lines (items_broken s f q))

  lines_are : (i f : ℕ) → head_lines s (head_at s i) ≡ first_lines (line_step_at s f) → lines_as_row s i (length (lines_at s f).items) ≡ row_lines (lines_at s f).items
  unfolding lines_as_row
  lines_are i f e = go (eqb (length (lines_at s f).items) 1) refl
    where
      n : ℕ
      n = length (lines_at s f).items

      go : (b : Bool) → eqb (length (lines_at s f).items) 1 ≡ b → cond (eqb (length (lines_at s f).items) 1) (head_lines s (head_at s i)) (length (lines_at s f).items) ≡ row_lines (lines_at s f).items
      go true q = ap (λ (b : Bool). cond b (head_lines s (head_at s i)) (length (lines_at s f).items)) q ∙ e ∙ first_is f (eqb-true (length (lines_at s f).items) 1 q)
      go false q =
          ap (λ (b : Bool). cond b (head_lines s (head_at s i)) (length (lines_at s f).items)) q
          ∙ sym (many (lines_at s f).items (λ z. let u : ◌≡◌ {A = Bool} true false = sym (eq-eqb (length (lines_at s f).items) 1 z) ∙ q in let x : ◌≡◌ {A = ℕ} 0 1 = cc in omega arith))

  -- a tree that stands at i
  record Fits (i : ℕ) (t : Tree) : Type 0 where
    stands : t.star ≡ i
    lines : lines_as_row s i (tree_lines t) ≡ tree_row t

  data Fitting (i : ℕ) : Step Tree → Type 0 where
    on : {t : Tree} {j : ℕ} → Fits i t → Fitting i (next t j)
    end : {t : Tree} {j : ℕ} → Fits i t → Fitting i (last t j)
    none : {j : ℕ} → Fitting i (broken j)

  followed : (i : ℕ) (t : Tree) → Fits i t → (a : TreeStep) → Fitting i (tree_followed s t a)
  followed i t f (after.Next j) = on f
  followed i t f after.End = end f
  followed i t f (after.Broken j) = none

  fitting : (i : ℕ) → Fitting i (tree_step_at s i)
  unfolding tree_step_at lines_as_row
  fitting i = go (head_at s i) refl
    where
      go : (t : TreeHead) → head_at s i ≡ t → Fitting i (tree_headed s i (head_at s i))
      go (head.Lone x r e) q =
          subst (Fitting i) (sym (ap (tree_headed s i) q)) (followed i _ (record { stands = refl; lines = refl }) (after_tree s e))
      go (head.Empty x e) q =
          subst (Fitting i) (sym (ap (tree_headed s i) q)) (followed i _ (record { stands = refl; lines = refl }) (after_tree s e))
      go (head.Lines x f) q = subst (Fitting i) (sym (ap (tree_headed s i) q)) (ended (lines_at s f).ending)
        where
          ended : (d : Ending) → Fitting i (tree_read s i x (lines_at s f).items d)
          ended (done_at e) = followed i _ (record { stands = refl; lines = lines_are i f (ap (head_lines s) q) }) (after_tree s e)
          ended (broken_at e) = none
      go head.NoTree q = subst (Fitting i) (sym (ap (tree_headed s i) q)) none

  pub row_next : (i : ℕ) {b : Bool} {m n j r : ℕ} → surveyed.Next b m n j ≡ tree_surveyed (tree_step_at s i) → r ≡ lines_as_row s i n → row.Next r j ≡ row_stepped (tree_step_at s i)
  row_next i {b} {m} {n} {j} {r} h q = go (tree_step_at s i) (fitting i) h
    where
      go : (t : Step Tree) → Fitting i t → surveyed.Next b m n j ≡ tree_surveyed t → row.Next r j ≡ row_stepped t
      go (next t k) (on f) h =
          let w : n ≡ tree_lines t = cc in
          let z : j ≡ k = cc in
          ap₂ row.Next (q ∙ ap (lines_as_row s i) w ∙ f.lines) z
      go (last t k) f h = let u : ◌≡◌ {A = ℕ} 0 1 = cc in absurd (omega arith)
      go (broken k) f h = let u : ◌≡◌ {A = ℕ} 0 1 = cc in absurd (omega arith)

  pub row_last : (i : ℕ) {b : Bool} {m n r : ℕ} → surveyed.Last b m n ≡ tree_surveyed (tree_step_at s i) → r ≡ lines_as_row s i n → row.Last r ≡ row_stepped (tree_step_at s i)
  row_last i {b} {m} {n} {r} h q = go (tree_step_at s i) (fitting i) h
    where
      go : (t : Step Tree) → Fitting i t → surveyed.Last b m n ≡ tree_surveyed t → row.Last r ≡ row_stepped t
      go (last t k) (end f) h = let w : n ≡ tree_lines t = cc in ap row.Last (q ∙ ap (lines_as_row s i) w ∙ f.lines)
      go (next t k) f h = let u : ◌≡◌ {A = ℕ} 0 1 = cc in absurd (omega arith)
      go (broken k) f h = let u : ◌≡◌ {A = ℕ} 0 1 = cc in absurd (omega arith)

  pub row_broken : (i : ℕ) {j : ℕ} → surveyed.Broken j ≡ tree_surveyed (tree_step_at s i) → row.Broken ≡ row_stepped (tree_step_at s i)
  row_broken i {j} h = go (tree_step_at s i) h
    where
      go : (t : Step Tree) → surveyed.Broken j ≡ tree_surveyed t → row.Broken ≡ row_stepped t
      go (broken k) h = refl
      go (next t k) h = let u : ◌≡◌ {A = ℕ} 0 1 = cc in absurd (omega arith)
      go (last t k) h = let u : ◌≡◌ {A = ℕ} 0 1 = cc in absurd (omega arith)

  -- ---- the rows of the trees from i on

  abbrev rows : ℕ → ℕ → List ℕ
  rows m i = rows_of m (trees_at s i).items

  abbrev trees : ℕ → ℕ
  trees i = length (trees_at s i).items

  pub rows_next : (m i : ℕ) {l j : ℕ} → row.Next l j ≡ row_stepped (tree_step_at s i)
      → (rows_of m (trees_at s i).items ≡ m ∷ i ∷ l ∷ rows_of m (trees_at s j).items) × (length (trees_at s i).items ≡ suc (length (trees_at s j).items)) × (i < j) × (j ≤ length s)
  unfolding rows_of
  rows_next m i {l} {j} h = go (tree_step_at s i) refl (fitting i) h
    where
      go : (t : Step Tree) → tree_step_at s i ≡ t → Fitting i t → row.Next l j ≡ row_stepped t
          → (rows m i ≡ m ∷ i ∷ l ∷ rows m j) × (trees i ≡ suc (trees j)) × (i < j) × (j ≤ length s)
      go (next t k) q (on f) h =
          let w : l ≡ tree_row t = cc in
          let z : j ≡ k = cc in
          let e : (trees_at s i).items ≡ t ∷ (trees_at s j).items = ap (λ (r : Reading Tree). r.items) (trees_are s i ∙ ap (read_of (trees_at s)) (q ∙ ap (next t) (sym z))) in
          let u = step_next s i k t q in (
            ap (rows_of m) e ∙ ap₂ (λ (x y : ℕ). m ∷ x ∷ y ∷ rows m j) f.stands (sym w),
            ap length e,
            omega (arith, u.0, z),
            omega (arith, u.1, z),
          )
      go (last t k) q f h = let u : ◌≡◌ {A = ℕ} 0 1 = cc in absurd (omega arith)
      go (broken k) q f h = let u : ◌≡◌ {A = ℕ} 0 1 = cc in absurd (omega arith)

  pub rows_last : (m i : ℕ) {l : ℕ} → row.Last l ≡ row_stepped (tree_step_at s i) → (rows_of m (trees_at s i).items ≡ m ∷ i ∷ l ∷ []) × (length (trees_at s i).items ≡ 1)
  unfolding rows_of
  rows_last m i {l} h = go (tree_step_at s i) refl (fitting i) h
    where
      go : (t : Step Tree) → tree_step_at s i ≡ t → Fitting i t → row.Last l ≡ row_stepped t → (rows m i ≡ m ∷ i ∷ l ∷ []) × (trees i ≡ 1)
      go (last t k) q (end f) h =
          let w : l ≡ tree_row t = cc in
          let e : (trees_at s i).items ≡ t ∷ [] = ap (λ (r : Reading Tree). r.items) (trees_are s i ∙ ap (read_of (trees_at s)) q) in
          (ap (rows_of m) e ∙ ap₂ (λ (x y : ℕ). m ∷ x ∷ y ∷ []) f.stands (sym w), ap length e)
      go (next t k) q f h = let u : ◌≡◌ {A = ℕ} 0 1 = cc in absurd (omega arith)
      go (broken k) q f h = let u : ◌≡◌ {A = ℕ} 0 1 = cc in absurd (omega arith)

  pub rows_none : (m i : ℕ) → row.Broken ≡ row_stepped (tree_step_at s i) → rows_of m (trees_at s i).items ≡ []
  unfolding rows_of
  rows_none m i h = go (tree_step_at s i) refl h
    where
      go : (t : Step Tree) → tree_step_at s i ≡ t → row.Broken ≡ row_stepped t → rows m i ≡ []
      go (broken k) q h = ap (λ (r : Reading Tree). rows_of m r.items) (trees_are s i ∙ ap (read_of (trees_at s)) q)
      go (next t k) q h = let u : ◌≡◌ {A = ℕ} 0 1 = cc in absurd (omega arith)
      go (last t k) q h = let u : ◌≡◌ {A = ℕ} 0 1 = cc in absurd (omega arith)

  -- ---- stored

  module _ (m at : ℕ) (t₀ : List ℕ) (from : ℕ) where
    pub record Storing (t : List ℕ) (i k : ℕ) : Type 0 where
      pub same : sets t k (little_endian (rows_of m (trees_at s i).items)) ≡ sets t₀ from (little_endian (rows_of m (trees_at s at).items))
      pub room : k + 12 * length (trees_at s i).items ≤ length t
      pub long : length t ≡ length t₀

    pub storing_more : {t t' : List ℕ} {i k l j : ℕ} → Storing t i k → row.Next l j ≡ row_stepped (tree_step_at s i) → t' ≡ sets t k (little_endian (m ∷ i ∷ l ∷ [])) → Storing t' j (k + 12)
    unfolding little_endian
    storing_more {t} {t'} {i} {k} {l} {j} p h q =
        let r = rows_next m i h in
        let z = ap length q ∙ length-sets t k (little_endian (m ∷ i ∷ l ∷ [])) in
        record {
          same =
              ap (λ (x : List ℕ). sets x (k + 12) (little_endian (rows m j))) q ∙ sets-append t k (little_endian (m ∷ i ∷ l ∷ [])) (little_endian (rows m j))
              ∙ sym (ap (λ (x : List ℕ). sets t k (little_endian x)) r.0) ∙ p.same;
          room = omega (arith, p.room, r.1, z);
          long = z ∙ p.long;
        }

    pub stored_last : {t t' : List ℕ} {i k l : ℕ} → Storing t i k → row.Last l ≡ row_stepped (tree_step_at s i) → t' ≡ sets t k (little_endian (m ∷ i ∷ l ∷ []))
        → t' ≡ sets t₀ from (little_endian (rows_of m (trees_at s at).items))
    stored_last {t} {k = k} p h q = q ∙ sym (ap (λ (x : List ℕ). sets t k (little_endian x)) (rows_last m _ h).0) ∙ p.same

    pub stored_none : {t : List ℕ} {i k : ℕ} → Storing t i k → row.Broken ≡ row_stepped (tree_step_at s i) → t ≡ sets t₀ from (little_endian (rows_of m (trees_at s at).items))
    unfolding little_endian
    stored_none {t} {i} {k} p h = sym (ap (λ (x : List ℕ). sets t k (little_endian x)) (rows_none m i h)) ∙ p.same

  -- ---- compared

  module _ (m at : ℕ) (file : List ℕ) (from : ℕ) where
    pub record Comparing (i k : ℕ) : Type 0 where
      pub same : same_words file k (rows_of m (trees_at s i).items) ≡ same_words file from (rows_of m (trees_at s at).items)
      pub room : k + 12 * length (trees_at s i).items ≤ length file

    module _ {i k : ℕ} (p : Comparing i k) where
      three : {l j : ℕ} → row.Next l j ≡ row_stepped (tree_step_at s i) → same_words file k (rows m i) ≡ same_words file k (m ∷ i ∷ l ∷ []) && same_words file (k + 12) (rows m j)
      three {l} {j} h = ap (same_words file k) (rows_next m i h).0 ∙ same_append file k (m ∷ i ∷ l ∷ []) (rows m j)

      pub comparing_more : {l j : ℕ} {b : Bool} → row.Next l j ≡ row_stepped (tree_step_at s i) → b ≡ same_words file k (m ∷ i ∷ l ∷ []) → b ≡ true → Comparing j (k + 12)
      comparing_more {l} {j} h q y =
          let r = rows_next m i h in
          record {
            same = sym (three h ∙ ap (λ (c : Bool). c && same_words file (k + 12) (rows m j)) (sym q ∙ y)) ∙ p.same;
            room = omega (arith, p.room, r.1);
          }

      pub compared_other : {l j : ℕ} {b : Bool} → row.Next l j ≡ row_stepped (tree_step_at s i) → b ≡ same_words file k (m ∷ i ∷ l ∷ []) → b ≡ false → false ≡ same_words file from (rows_of m (trees_at s at).items)
      compared_other {l} {j} h q y = sym (three h ∙ ap (λ (c : Bool). c && same_words file (k + 12) (rows m j)) (sym q ∙ y)) ∙ p.same

      pub compared_last : {l : ℕ} {b : Bool} → row.Last l ≡ row_stepped (tree_step_at s i) → b ≡ same_words file k (m ∷ i ∷ l ∷ []) → b ≡ same_words file from (rows_of m (trees_at s at).items)
      compared_last h q = q ∙ sym (ap (same_words file k) (rows_last m i h).0) ∙ p.same

      pub compared_none : row.Broken ≡ row_stepped (tree_step_at s i) → true ≡ same_words file from (rows_of m (trees_at s at).items)
      unfolding same_words
      compared_none h = sym (ap (same_words file k) (rows_none m i h)) ∙ p.same
