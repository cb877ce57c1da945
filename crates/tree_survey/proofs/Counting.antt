-- The laws of surveying trees: what one tree needs; a turn of the loop counts one more of those that are read, and goes up.
use mathlib.Core.Path.{◌≡◌, refl, sym, ap, ◌∙◌}
use mathlib.Core.Bool.{Bool, false, ◌||◌}
use mathlib.Core.List.{List, [], zip_with}
use Prim.Native.Nat.{ℕ, suc, ◌+◌, ◌≤◌, ◌<◌}
use native.Mathlib.Omega.{arith}
use lib.ListN.{length}
use Rattle.text_parts.specs.Parts.{read_to}
use Rattle.std.specs.Prelude.{Some, None, Ok, Err}
use Rattle.written.specs.Bytes.{Span}
use Rattle.written.specs.Said as says
use Rattle.written.specs.TreeText.{byte, end, BodyAt, one, none, lines, TreeAt, tree}
use Rattle.written.proofs.Once.{run-le}
use Rattle.written.proofs.Decide.{number_le, reference_le, parting_lt}
use Rattle.laws.specs.Steps.{Ending, done_at, broken_at, Step, next, last, broken, Reading, read_of}
use Rattle.laws.specs.Totals.{total, larger, largest, any_of}
use Rattle.laws.proofs.Parted.{onward}
use Rattle.text_spaces.proofs.Joined.{Closed}
use Rattle.tree_line.specs.Lines.{line_of, lines_at}
use Rattle.tree_line.specs.declared.Line.{Line}
use Rattle.tree_line.proofs.Joined.{lines_read}
use Rattle.tree_survey_lines.specs.Counts.{line_pdfs, records_of, survey_ended as lines_ended, lines_surveyed}
use Rattle.tree_survey_lines.proofs.Counting.{lines_size, records_few}
use Rattle.tree_body.specs.Trees.{lone, braces, Tree, body_of, tree_of, head_at, after_tree, tree_followed, tree_read, tree_headed, tree_step_at, trees_at}
use Rattle.tree_body.specs.declared.TreeHead.{TreeHead}
use Rattle.tree_body.specs.declared.TreeHead.TheVariants as head
use Rattle.tree_body.specs.declared.TreeStep.TheVariants as after
use Rattle.tree_body.proofs.Filling.{trees_are}
use Rattle.tree_body.proofs.Joined.{reads}
use Rattle.tree_survey.specs.Survey.{negative, body_records, tree_negative, tree_records, tree_lines, lines_counted, head_counted, tree_surveyed, trees_ended, trees_counted, tree_count, trees_of}
use Rattle.tree_survey.specs.declared.TreeSurvey.TheVariants as surveyed

module _ (s : List ℕ) where
  -- ---- one tree

  -- the tree at i that was counted, and ends at e
  pub record Counted (i : ℕ) (b : Bool) (m n e : ℕ) : Type 0 where
    pub it : Tree
    pub follows : tree_step_at s i ≡ tree_followed s it (after_tree s e)
    pub below : tree_negative it ≡ b
    pub records : tree_records it ≡ m
    pub lines : tree_lines it ≡ n

  pub counted : (i : ℕ) {b : Bool} {m n e : ℕ} → Some (read_to (tree_count b m n) e) ≡ head_counted s (head_at s i) → Counted i b m n e
  unfolding tree_step_at lines_surveyed records_of
  counted i {b} {m} {n} {e} h = go (head_at s i) refl h
    where
      go : (t : TreeHead) → head_at s i ≡ t → Some (read_to (tree_count b m n) e) ≡ head_counted s t → Counted i b m n e
      go (head.Lone x r f) q h =
          let u : b ≡ negative x = grind arith in
          let v : m ≡ 1 = grind arith in
          let w : n ≡ 0 = grind arith in
          let z : e ≡ f = grind arith in
          record { it = record { star = i; state = x; body = lone r }; follows = ap (tree_headed s i) q ∙ ap (λ (k : ℕ). tree_followed s (record { star = i; state = x; body = lone r }) (after_tree s k)) (sym z); below = sym u; records = sym v; lines = sym w }
      go (head.Empty x f) q h =
          let u : b ≡ negative x = grind arith in
          let v : m ≡ 0 = grind arith in
          let w : n ≡ 0 = grind arith in
          let z : e ≡ f = grind arith in
          record { it = record { star = i; state = x; body = braces [] }; follows = ap (tree_headed s i) q ∙ ap (λ (k : ℕ). tree_followed s (record { star = i; state = x; body = braces [] }) (after_tree s k)) (sym z); below = sym u; records = sym v; lines = sym w }
      go (head.Lines x f) q h = within (lines_at s f).ending refl h
        where
          within : (d : Ending) → (lines_at s f).ending ≡ d → Some (read_to (tree_count b m n) e) ≡ lines_counted x (lines_ended (lines_at s f).items d) → Counted i b m n e
          within (done_at k) r h =
              let u : b ≡ negative x = grind arith in
              let v : m ≡ records_of (lines_at s f).items = grind arith in
              let w : n ≡ length (lines_at s f).items = grind arith in
              let z : e ≡ k = grind arith in
              record { it = record { star = i; state = x; body = braces (lines_at s f).items }; follows = ap (tree_headed s i) q ∙ ap (tree_read s i x (lines_at s f).items) (r ∙ ap done_at (sym z)); below = sym u; records = sym v; lines = sym w }
          within (broken_at k) r h = let u : ◌≡◌ {A = ℕ} 0 1 = cc in absurd (omega arith)
      go head.NoTree q h = let u : ◌≡◌ {A = ℕ} 0 1 = cc in absurd (omega arith)

  not_counted : (i : ℕ) → None ≡ head_counted s (head_at s i) → tree_step_at s i ≡ broken i
  unfolding tree_step_at lines_surveyed
  not_counted i h = go (head_at s i) refl h
    where
      go : (t : TreeHead) → head_at s i ≡ t → None ≡ head_counted s t → tree_headed s i (head_at s i) ≡ broken i
      go (head.Lone x r f) q h = let u : ◌≡◌ {A = ℕ} 0 1 = cc in absurd (omega arith)
      go (head.Empty x f) q h = let u : ◌≡◌ {A = ℕ} 0 1 = cc in absurd (omega arith)
      go (head.Lines x f) q h = within (lines_at s f).ending refl h
        where
          within : (d : Ending) → (lines_at s f).ending ≡ d → None ≡ lines_counted x (lines_ended (lines_at s f).items d) → tree_headed s i (head_at s i) ≡ broken i
          within (done_at k) r h = let u : ◌≡◌ {A = ℕ} 0 1 = cc in absurd (omega arith)
          within (broken_at k) r h = ap (tree_headed s i) q ∙ ap (tree_read s i x (lines_at s f).items) r
      go head.NoTree q h = ap (tree_headed s i) q

  pub followed_next : (i : ℕ) {b : Bool} {m n e j : ℕ} → Some (read_to (tree_count b m n) e) ≡ head_counted s (head_at s i) → after.Next j ≡ after_tree s e → surveyed.Next b m n j ≡ tree_surveyed (tree_step_at s i)
  followed_next i {j = j} h a =
      let d = counted i h in
      sym (ap tree_surveyed (d.follows ∙ ap (tree_followed s d.it) (sym a)) ∙ λ t. surveyed.Next (d.below t) (d.records t) (d.lines t) j)

  pub followed_end : (i : ℕ) {b : Bool} {m n e : ℕ} → Some (read_to (tree_count b m n) e) ≡ head_counted s (head_at s i) → after.End ≡ after_tree s e → surveyed.Last b m n ≡ tree_surveyed (tree_step_at s i)
  followed_end i h a =
      let d = counted i h in
      sym (ap tree_surveyed (d.follows ∙ ap (tree_followed s d.it) (sym a)) ∙ λ t. surveyed.Last (d.below t) (d.records t) (d.lines t))

  pub followed_other : (i : ℕ) {b : Bool} {m n e j : ℕ} → Some (read_to (tree_count b m n) e) ≡ head_counted s (head_at s i) → after.Broken j ≡ after_tree s e → surveyed.Broken j ≡ tree_surveyed (tree_step_at s i)
  followed_other i h a = let d = counted i h in sym (ap tree_surveyed (d.follows ∙ ap (tree_followed s d.it) (sym a)))

  pub followed_none : (i : ℕ) → None ≡ head_counted s (head_at s i) → surveyed.Broken i ≡ tree_surveyed (tree_step_at s i)
  followed_none i h = sym (ap tree_surveyed (not_counted i h))

  -- ---- records are no more than bytes

  body_size : {i j : ℕ} {t : says.Body} {ws : List Span} → BodyAt s i j t ws → body_records (body_of t ws) + i ≤ j + 1
  unfolding records_of zip_with
  body_size (one r) = omega (arith, reference_le s r)
  body_size (none (byte o end) b (byte z end)) = omega (arith, run-le b)
  body_size {t = says.braces ls} {ws = ws} (lines {b = b} {j = j} (byte o end) r ps c z) =
      let d : Closed s _ j = record { brace = _; blanks = c; shut = z } in
      let e = lines_read s ps d in
      let k = lines_size s b j (ap (λ (m : Reading Line). m.ending) e) in
      let k' : length (zip_with line_of ls ws) + total line_pdfs (zip_with line_of ls ws) + b ≤ j = rw (ap (λ (m : Reading Line). m.items) e) at k in
      omega (arith, records_few (zip_with line_of ls ws), k', run-le r)

  tree_size : {i j : ℕ} {t : says.Tree} {u : says.TreePlace} → TreeAt s i j t u → tree_records (tree_of t u) + i ≤ j
  tree_size (tree (byte p (byte q (byte r end))) a (byte o end) n (byte c end) b g) = omega (arith, run-le a, number_le s n, run-le b, body_size g)

  pub step_next : (i j : ℕ) (t : Tree) → tree_step_at s i ≡ next t j → (i < j) × (j ≤ length s) × (tree_records t + i ≤ j)
  step_next i j t e =
      let r = (reads s).was_on i j t e in
      let u = (onward (reads s)).on i j t e in
      let p : tree_records t ≡ tree_records (tree_of r.said r.laid) = ap tree_records r.is in
      (u.0, u.1, omega (arith, tree_size r.item, parting_lt s r.rest))

  step_last : (i j : ℕ) (t : Tree) → tree_step_at s i ≡ last t j → tree_records t + i ≤ length s
  step_last i j t e =
      let r = (reads s).was_done i j t e in
      let d = r.rest in
      let p : tree_records t ≡ tree_records (tree_of r.said r.laid) = ap tree_records r.is in
      omega (arith, tree_size r.item, run-le d.blanks)

  -- ---- all trees

  -- the tree at i that was surveyed
  pub record Seen (i : ℕ) (b : Bool) (m n : ℕ) (Step-is : Tree → Type 0) : Type 0 where
    pub it : Tree
    pub steps : Step-is it
    pub below : tree_negative it ≡ b
    pub records : tree_records it ≡ m
    pub lines : tree_lines it ≡ n

  pub seen_next : (i : ℕ) (b : Bool) (m n j : ℕ) → surveyed.Next b m n j ≡ tree_surveyed (tree_step_at s i) → Seen i b m n (λ t. tree_step_at s i ≡ next t j)
  seen_next i b m n j h = go (tree_step_at s i) refl h
    where
      go : (t : Step Tree) → tree_step_at s i ≡ t → surveyed.Next b m n j ≡ tree_surveyed t → Seen i b m n (λ t. tree_step_at s i ≡ next t j)
      go (next t k) q h =
          let u : b ≡ tree_negative t = cc in
          let v : m ≡ tree_records t = cc in
          let w : n ≡ tree_lines t = cc in
          let z : j ≡ k = cc in
          record { it = t; steps = q ∙ ap (next t) (sym z); below = sym u; records = sym v; lines = sym w }
      go (last t k) q h = let u : ◌≡◌ {A = ℕ} 0 1 = cc in absurd (omega arith)
      go (broken k) q h = let u : ◌≡◌ {A = ℕ} 0 1 = cc in absurd (omega arith)

  pub seen_last : (i : ℕ) (b : Bool) (m n : ℕ) → surveyed.Last b m n ≡ tree_surveyed (tree_step_at s i) → Seen i b m n (λ t. (j : ℕ) × (tree_step_at s i ≡ last t j))
  seen_last i b m n h = go (tree_step_at s i) refl h
    where
      go : (t : Step Tree) → tree_step_at s i ≡ t → surveyed.Last b m n ≡ tree_surveyed t → Seen i b m n (λ t. (j : ℕ) × (tree_step_at s i ≡ last t j))
      go (last t k) q h =
          let u : b ≡ tree_negative t = cc in
          let v : m ≡ tree_records t = cc in
          let w : n ≡ tree_lines t = cc in
          record { it = t; steps = (k, q); below = sym u; records = sym v; lines = sym w }
      go (next t k) q h = let u : ◌≡◌ {A = ℕ} 0 1 = cc in absurd (omega arith)
      go (broken k) q h = let u : ◌≡◌ {A = ℕ} 0 1 = cc in absurd (omega arith)

  pub seen_broken : (i j : ℕ) → surveyed.Broken j ≡ tree_surveyed (tree_step_at s i) → tree_step_at s i ≡ broken j
  seen_broken i j h = go (tree_step_at s i) h
    where
      go : (t : Step Tree) → surveyed.Broken j ≡ tree_surveyed t → t ≡ broken j
      go (broken k) h = let z : j ≡ k = cc in ap broken (sym z)
      go (next t k) h = let u : ◌≡◌ {A = ℕ} 0 1 = cc in absurd (omega arith)
      go (last t k) h = let u : ◌≡◌ {A = ℕ} 0 1 = cc in absurd (omega arith)

  pub more_in : (i : ℕ) {b : Bool} {m n j : ℕ} → surveyed.Next b m n j ≡ tree_surveyed (tree_step_at s i) → (i < j) × (j ≤ length s) × (m + i ≤ j)
  more_in i {b} {m} {n} {j} h = let r = seen_next i b m n j h in let z = step_next i j r.it r.steps in (z.0, z.1, omega (arith, z.2, r.records))

  pub final_in : (i : ℕ) {b : Bool} {m n : ℕ} → surveyed.Last b m n ≡ tree_surveyed (tree_step_at s i) → m + i ≤ length s
  final_in i {b} {m} {n} h = let r = seen_last i b m n h in omega (arith, step_last i r.steps.0 r.it r.steps.1, r.records)

  pub record Surveying (at i : ℕ) (b : Bool) (n m k : ℕ) : Type 0 where
    pub same : trees_counted b n m k (trees_at s i) ≡ trees_counted false 0 0 0 (trees_at s at)
    pub few : n ≤ i
    pub few_records : m ≤ i

  pub surveyed_more : {at i : ℕ} {b : Bool} {n m k : ℕ} {c : Bool} {r l j : ℕ} {b' : Bool} {k' : ℕ} → Surveying at i b n m k → surveyed.Next c r l j ≡ tree_surveyed (tree_step_at s i)
      → b' ≡ b || c → k' ≡ larger k l → Surveying at j b' (n + 1) (m + r) k'
  unfolding trees_counted total largest any_of
  surveyed_more {i = i} {b = b} {n = n} {m = m} {k = k} {c = c} {r = r} {l = l} {j = j} {b' = b'} {k' = k'} d h p q =
      let t = seen_next i c r l j h in
      let u = more_in i h in
      let x : n + 1 + length (trees_at s j).items ≡ n + suc (length (trees_at s j).items) = omega arith in
      let y : m + r + total tree_records (trees_at s j).items ≡ m + (tree_records t.it + total tree_records (trees_at s j).items) = omega (arith, t.records) in
      let v : b' ≡ b || tree_negative t.it = p ∙ ap (b ||◌) (sym t.below) in
      let w : k' ≡ larger k (tree_lines t.it) = q ∙ ap (larger k) (sym t.lines) in
      record {
        same =
            (λ z. trees_ended (any_of tree_negative (v z) (trees_at s j).items) (x z) (y z) (largest tree_lines (w z) (trees_at s j).items) (trees_at s j).ending)
            ∙ sym (ap (trees_counted b n m k) (trees_are s i ∙ ap (read_of (trees_at s)) t.steps)) ∙ d.same;
        few = omega (arith, d.few, u.0);
        few_records = omega (arith, d.few_records, u.2);
      }

  pub surveyed_end : {at i : ℕ} {b : Bool} {n m k : ℕ} {c : Bool} {r l : ℕ} {b' : Bool} {k' : ℕ} → Surveying at i b n m k → surveyed.Last c r l ≡ tree_surveyed (tree_step_at s i)
      → b' ≡ b || c → k' ≡ larger k l → Ok (trees_of b' (n + 1) (m + r) k') ≡ trees_counted false 0 0 0 (trees_at s at)
  unfolding trees_counted total largest any_of
  surveyed_end {i = i} {b = b} {n = n} {m = m} {k = k} {c = c} {r = r} {l = l} {b' = b'} {k' = k'} d h p q =
      let t = seen_last i c r l h in
      let y : m + r ≡ m + (tree_records t.it + 0) = omega (arith, t.records) in
      let v : b' ≡ b || tree_negative t.it = p ∙ ap (b ||◌) (sym t.below) in
      let w : k' ≡ larger k (tree_lines t.it) = q ∙ ap (larger k) (sym t.lines) in
      (λ z. Ok (trees_of (v z) (n + 1) (y z) (w z))) ∙ sym (ap (trees_counted b n m k) (trees_are s i ∙ ap (read_of (trees_at s)) t.steps.1)) ∙ d.same

  pub surveyed_none : {at i : ℕ} {b : Bool} {n m k j : ℕ} → Surveying at i b n m k → surveyed.Broken j ≡ tree_surveyed (tree_step_at s i) → Err j ≡ trees_counted false 0 0 0 (trees_at s at)
  unfolding trees_counted
  surveyed_none {i = i} {b = b} {n = n} {m = m} {k = k} {j = j} d h = sym (ap (trees_counted b n m k) (trees_are s i ∙ ap (read_of (trees_at s)) (seen_broken i j h))) ∙ d.same
