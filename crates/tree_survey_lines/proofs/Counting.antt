-- The laws of counting a tree's lines: a turn of the loop counts one more of those that are read, and goes up; lines and PDF references are fewer than bytes.
use mathlib.Core.Path.{◌≡◌, refl, sym, ap, ap₂, ◌∙◌}
use mathlib.Core.Bool.{Bool, true, false, cond}
use mathlib.Core.List.{List, [], ◌∷◌}
use Prim.Native.Nat.{ℕ, suc, ◌+◌, ◌≤◌, ◌<◌}
use native.Mathlib.Omega.{arith}
use lib.ListN.{length}
use Rattle.text_parts.specs.Parts.{read_to}
use Rattle.std.specs.Prelude.{Some, None}
use Rattle.written.specs.Bytes.{Span}
use Rattle.written.specs.Said as says
use Rattle.written.specs.TreeText.{LineAt, line}
use Rattle.written.proofs.Once.{run₁-lt}
use Rattle.written.proofs.Decide.{number_le, reference_le, line_parting_lt}
use Rattle.laws.specs.Steps.{Ending, done_at, broken_at, Step, next, last, broken, Reading, read_of}
use Rattle.laws.specs.Totals.{total}
use Rattle.laws.proofs.Steps.{some, read_is, weighed}
use Rattle.laws.proofs.Parted.{onward}
use Rattle.text_spaces.proofs.Joined.{closed-lt, closed_inside}
use Rattle.tree_reference.specs.References.{same_index, pdf_count}
use Rattle.tree_reference.specs.declared.TreeIndex.{TreeIndex}
use Rattle.tree_reference.specs.declared.TreeIndex.TheVariants.{Node, Pdf}
use Rattle.tree_line.specs.Lines.{line_step_at, line_step, lines_at}
use Rattle.tree_line.specs.declared.Line.{Line}
use Rattle.tree_line.specs.declared.LineStep.{LineStep}
use Rattle.tree_line.specs.declared.LineStep.TheVariants as answer
use Rattle.tree_line.proofs.Joined.{step, reads, read_lines}
use Rattle.tree_survey_lines.specs.Counts.{line_pdfs, line_records, records_of, count_ended, lines_counted, survey_ended, lines_surveyed, line_count, line_survey}

pub pdf_few : (x : TreeIndex) → pdf_count x ≤ 1
pdf_few (Node x) = omega arith
pdf_few (Pdf x) = omega arith

pub line_few : (l : Line) → line_pdfs l ≤ 2
line_few l = omega (arith, pdf_few l.no, pdf_few l.yes)

-- a line, and as many records as it has references
abbrev weight : Line → ℕ
weight l = 1 + line_pdfs l

weights : (ls : List Line) → total weight ls ≡ length ls + total line_pdfs ls
unfolding total
weights [] = refl
weights (l ∷ ls) = omega (arith, weights ls)

-- a tree has at most a record for each line and each PDF reference
pub records_few : (ls : List Line) → records_of ls ≤ length ls + total line_pdfs ls
unfolding records_of total
records_few [] = omega arith
records_few (l ∷ []) = go (same_index l.no l.yes)
  where
    go : (b : Bool) → cond b 1 (1 + line_pdfs l) ≤ 1 + (line_pdfs l + 0)
    go true = omega arith
    go false = omega arith
records_few (l ∷ (k ∷ ls)) = omega arith

module _ (s : List ℕ) where
  lines_are : (i : ℕ) → lines_at s i ≡ read_of (lines_at s) (step s i)
  unfolding lines_at
  lines_are i = read_is (step s) (length s) (onward (reads s)) i

  stepped : (i : ℕ) {a : LineStep} → a ≡ line_step_at s i → step s i ≡ line_step i a
  stepped i e = ap (line_step i) (sym e)

  -- the lines that are read from a place on, by what stands there
  pub items_next : (i : ℕ) {l : Line} {j : ℕ} → answer.Next l j ≡ line_step_at s i → (lines_at s i).items ≡ l ∷ (lines_at s j).items
  items_next i e = ap (λ (r : Reading Line). r.items) (lines_are i ∙ ap (read_of (lines_at s)) (stepped i e))

  pub items_last : (i : ℕ) {l : Line} {j : ℕ} → answer.Last l j ≡ line_step_at s i → (lines_at s i).items ≡ l ∷ []
  items_last i e = ap (λ (r : Reading Line). r.items) (lines_are i ∙ ap (read_of (lines_at s)) (stepped i e))

  pub items_broken : (i : ℕ) → answer.Broken ≡ line_step_at s i → (lines_at s i).items ≡ []
  items_broken i e = ap (λ (r : Reading Line). r.items) (lines_are i ∙ ap (read_of (lines_at s)) (stepped i e))

  -- ---- lines and references are fewer than bytes

  line_size : {i j : ℕ} {l : says.Line} {w : Span} → LineAt s i j l w → 4 + i ≤ j
  line_size (line n r m t v w g) = omega (arith, number_le s n, run₁-lt r, run₁-lt m, run₁-lt t, reference_le s v, run₁-lt w, reference_le s g)

  step_next : (i j : ℕ) (l : Line) → step s i ≡ next l j → (3 + i ≤ j) × (j ≤ length s)
  step_next i j l e = let r = (reads s).was_on i j l e in let u = (onward (reads s)).on i j l e in (omega (arith, line_size r.item, line_parting_lt s r.rest), u.1)

  step_last : (i j : ℕ) (l : Line) → step s i ≡ last l j → (3 + i ≤ j) × (j ≤ length s)
  step_last i j l e = let r = (reads s).was_done i j l e in (omega (arith, line_size r.item, closed-lt s r.rest), closed_inside s r.rest)

  pub next_in : (i : ℕ) {l : Line} {j : ℕ} → answer.Next l j ≡ line_step_at s i → (3 + i ≤ j) × (j ≤ length s)
  next_in i {l} {j} e = step_next i j l (stepped i e)

  pub last_in : (i : ℕ) {l : Line} {j : ℕ} → answer.Last l j ≡ line_step_at s i → (3 + i ≤ j) × (j ≤ length s)
  last_in i {l} {j} e = step_last i j l (stepped i e)

  pub lines_some : (i e : ℕ) → (lines_at s i).ending ≡ done_at e → 0 < length (lines_at s i).items
  unfolding lines_at
  lines_some i e h = some (step s) (length s) i e h

  pub lines_size : (i e : ℕ) → (lines_at s i).ending ≡ done_at e → length (lines_at s i).items + total line_pdfs (lines_at s i).items + i ≤ e
  unfolding lines_at
  lines_size i e h =
      omega (
        arith,
        weights (lines_at s i).items,
        weighed (step s) weight (λ i p l q. omega (arith, (step_next i p l q).0, line_few l)) (λ i p l q. omega (arith, (step_last i p l q).0, line_few l)) (length s) i e h,
      )

  -- ---- the count of lines

  pub record Counting (at i n m : ℕ) : Type 0 where
    pub same : lines_counted n m (lines_at s i) ≡ lines_counted 0 0 (lines_at s at)
    pub few : n + m ≤ i

  pub counted_more : {at i n m k j : ℕ} {l : Line} → Counting at i n m → answer.Next l j ≡ line_step_at s i → k ≡ line_pdfs l → Counting at j (n + 1) (m + k)
  unfolding lines_counted total
  counted_more {i = i} {n = n} {m = m} {k = k} {j = j} {l = l} c e q =
      let u = next_in i e in
      let p : n + 1 + length (lines_at s j).items ≡ n + suc (length (lines_at s j).items) = omega arith in
      let r : m + k + total line_pdfs (lines_at s j).items ≡ m + (line_pdfs l + total line_pdfs (lines_at s j).items) = omega arith in
      record {
        same =
            ap₂ (λ x y. count_ended x y (lines_at s j).ending) p r
            ∙ sym (ap (lines_counted n m) (lines_are i ∙ ap (read_of (lines_at s)) (stepped i e))) ∙ c.same;
        few = omega (arith, c.few, u.0, line_few l);
      }

  pub counted_last : {at i n m k j : ℕ} {l : Line} → Counting at i n m → answer.Last l j ≡ line_step_at s i → k ≡ line_pdfs l → Some (read_to (line_count (n + 1) (m + k)) j) ≡ lines_counted 0 0 (lines_at s at)
  unfolding lines_counted total
  counted_last {i = i} {n = n} {m = m} {k = k} {j = j} {l = l} c e q =
      let r : m + k ≡ m + (line_pdfs l + 0) = omega arith in
      ap (λ (x : ℕ). Some (read_to (line_count (n + 1) x) j)) r ∙ sym (ap (lines_counted n m) (lines_are i ∙ ap (read_of (lines_at s)) (stepped i e))) ∙ c.same

  pub counted_broken : {at i n m : ℕ} → Counting at i n m → answer.Broken ≡ line_step_at s i → None ≡ lines_counted 0 0 (lines_at s at)
  unfolding lines_counted
  counted_broken {i = i} {n = n} {m = m} c e = sym (ap (lines_counted n m) (lines_are i ∙ ap (read_of (lines_at s)) (stepped i e))) ∙ c.same

  -- ---- the lines of a tree

  -- what a count that succeeded says
  pub record Counted (i n m e : ℕ) : Type 0 where
    pub done : (lines_at s i).ending ≡ done_at e
    pub lines : length (lines_at s i).items ≡ n
    pub pdfs : total line_pdfs (lines_at s i).items ≡ m
    pub size : n + m + i ≤ e

  pub counted : (i n m e : ℕ) → Some (read_to (line_count n m) e) ≡ lines_counted 0 0 (lines_at s i) → Counted i n m e
  unfolding lines_counted
  counted i n m e h = go (lines_at s i).ending refl h
    where
      go : (d : Ending) → (lines_at s i).ending ≡ d → Some (read_to (line_count n m) e) ≡ count_ended (0 + length (lines_at s i).items) (0 + total line_pdfs (lines_at s i).items) d → Counted i n m e
      go (done_at x) q h =
          let u : e ≡ x = grind arith in
          let v : n ≡ 0 + length (lines_at s i).items = grind arith in
          let w : m ≡ 0 + total line_pdfs (lines_at s i).items = grind arith in
          record { done = q ∙ ap done_at (sym u); lines = omega arith; pdfs = omega arith; size = omega (arith, lines_size i x q) }
      go (broken_at x) q h = let u : ◌≡◌ {A = ℕ} 0 1 = cc in absurd (omega arith)

  pub not_counted : (i : ℕ) → None ≡ lines_counted 0 0 (lines_at s i) → (e : ℕ) × ((lines_at s i).ending ≡ broken_at e)
  unfolding lines_counted
  not_counted i h = go (lines_at s i).ending refl h
    where
      go : (d : Ending) → (lines_at s i).ending ≡ d → None ≡ count_ended (0 + length (lines_at s i).items) (0 + total line_pdfs (lines_at s i).items) d → (e : ℕ) × ((lines_at s i).ending ≡ broken_at e)
      go (done_at x) q h = let u : ◌≡◌ {A = ℕ} 0 1 = cc in absurd (omega arith)
      go (broken_at x) q h = (x, q)

  -- where reading lines succeeds there is one
  records_more : (l : Line) (i e : ℕ) → (lines_at s i).ending ≡ done_at e → records_of (l ∷ (lines_at s i).items) ≡ length (l ∷ (lines_at s i).items) + total line_pdfs (l ∷ (lines_at s i).items)
  unfolding records_of
  records_more l i e h = go (step s i) (lines_at s i) (lines_are i) h
    where
      go : (t : Step Line) (r : Reading Line) → r ≡ read_of (lines_at s) t → r.ending ≡ done_at e → records_of (l ∷ r.items) ≡ length (l ∷ r.items) + total line_pdfs (l ∷ r.items)
      go (next k p) r q h = rw (ap (λ (m : Reading Line). m.items) q)
      go (last k p) r q h = rw (ap (λ (m : Reading Line). m.items) q)
      go (broken p) r q h = let v : broken_at p ≡ done_at e = sym (ap (λ (m : Reading Line). m.ending) q) ∙ h in let u : ◌≡◌ {A = ℕ} 0 1 = cc in absurd (omega arith)

  pub surveyed_more : (i j : ℕ) {n m k e : ℕ} {l : Line} → answer.Next l j ≡ line_step_at s i → Some (read_to (line_count n m) e) ≡ lines_counted 0 0 (lines_at s j) → k ≡ line_pdfs l
      → Some (read_to (line_survey (n + 1) (n + 1 + (m + k))) e) ≡ lines_surveyed (lines_at s i)
  unfolding lines_surveyed total
  surveyed_more i j {n} {m} {k} {e} {l} a c q =
      let d = counted j n m e c in
      let r = records_more l j e d.done in
      let x : n + 1 ≡ suc (length (lines_at s j).items) = omega (arith, d.lines) in
      let y : n + 1 + (m + k) ≡ records_of (l ∷ (lines_at s j).items) = omega (arith, r, d.lines, d.pdfs) in
      ap₂ (λ u v. Some (read_to (line_survey u v) e)) x y
      ∙ sym (ap lines_surveyed (lines_are i ∙ ap (read_of (lines_at s)) (stepped i a)) ∙ ap (survey_ended (l ∷ (lines_at s j).items)) d.done)

  pub surveyed_stopped : (i j : ℕ) {l : Line} → answer.Next l j ≡ line_step_at s i → None ≡ lines_counted 0 0 (lines_at s j) → None ≡ lines_surveyed (lines_at s i)
  unfolding lines_surveyed
  surveyed_stopped i j {l} a c =
      let d = not_counted j c in
      sym (ap lines_surveyed (lines_are i ∙ ap (read_of (lines_at s)) (stepped i a)) ∙ ap (survey_ended (l ∷ (lines_at s j).items)) d.1)

  pub surveyed_one : (i : ℕ) {k e : ℕ} {l : Line} → answer.Last l e ≡ line_step_at s i → k ≡ line_records l → Some (read_to (line_survey 1 k) e) ≡ lines_surveyed (lines_at s i)
  unfolding lines_surveyed records_of
  surveyed_one i {k} {e} a q = ap (λ (x : ℕ). Some (read_to (line_survey 1 x) e)) q ∙ sym (ap lines_surveyed (lines_are i ∙ ap (read_of (lines_at s)) (stepped i a)))

  pub surveyed_none : (i : ℕ) → answer.Broken ≡ line_step_at s i → None ≡ lines_surveyed (lines_at s i)
  unfolding lines_surveyed
  surveyed_none i a = sym (ap lines_surveyed (lines_are i ∙ ap (read_of (lines_at s)) (stepped i a)))

  -- the counts of a tree's lines fit
  pub room : (i j : ℕ) {n m e : ℕ} {l : Line} → answer.Next l j ≡ line_step_at s i → Some (read_to (line_count n m) e) ≡ lines_counted 0 0 (lines_at s j) → n + m + 3 ≤ length s
  room i j {n} {m} {e} a c =
      let d = counted j n m e c in
      let r = read_lines s j e d.done in
      omega (arith, (next_in i a).0, d.size, closed_inside s r.closed)
