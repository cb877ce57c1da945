-- One tree: a bare leaf, or its lines linked.
use Rattle.error.specs.declared.LineFault.{LineFault}
use Rattle.std.specs.declared.result.Result.{Result}
use Rattle.text_parts.specs.Parts.{read_to}
use Rattle.load_tree.proofs.Same.{same_filled}
use mathlib.Core.Path.{◌≡◌, refl, sym, ap, ap₂, ◌∙◌}
use mathlib.Core.Bool.{Bool, true, false, cond}
use mathlib.Core.List.{List, [], ◌∷◌}
use Prim.Native.Nat.{ℕ, ◌+◌, ◌-◌, ◌*◌, ◌≤◌, ◌<◌}
use native.Mathlib.Omega.{arith}
use borrow.Rule.Slice.PartMut.{put_mid}
use lib.IntN.{ℤ, pos}
use lib.ListN.{length, get_or, take, drop, length-drop}
use lib.Seq.{sets, length-sets, length-take-le}
use Rattle.error.specs.declared.LineFault.{LineFault}
use Rattle.std.specs.Prelude.{Some, None, Ok, Err, Option}
use Rattle.laws.specs.Totals.{total}
use Rattle.laws.proofs.Tables.{part_put, sets_at}
use Rattle.tree_reference.specs.References.{same_index}
use Rattle.tree_reference.specs.declared.TreeIndex.{TreeIndex}
use Rattle.tree_reference.specs.declared.TreeIndex.TheVariants.{Node, Pdf}
use Rattle.tree_line.specs.Lines.{line_step_at, lines_at}
use Rattle.tree_line.specs.declared.Line.{Line}
use Rattle.tree_line.specs.declared.LineStep.TheVariants as answer
use Rattle.laws.specs.Steps.{done_at, broken_at}
use Rattle.tree_survey_lines.specs.Counts.{line_pdfs, records_of, lines_counted, line_count}
use Rattle.tree_survey_lines.proofs.Counting.{items_next, items_last, items_broken, counted, not_counted, lines_some}
use Rattle.link_targets.specs.Lines.{lines_from, pdfs_of}
use Rattle.link_tree.specs.Linked.{link_outcome, linked_rows, rows_after, Linking}
use Rattle.link_tree.proofs.Whole.{length_linked}
use Rattle.link_tree.proofs.Local.{Agree, outcome_same, rows_same, pdfs_same}
use Rattle.load_lines.specs.Words.{asked_at, line_words}
use Rattle.load_lines.proofs.Decoded.{words_length, decode, pdfs-count}
use Rattle.tree_body.specs.Trees.{lone}
use Rattle.load_tree.specs.Bodies.{filled, leaf_result, link_ends, link_result, lines_result, body_result, place_of, lines_end, single_of}

-- ---- one line

pub one_same : (l : Line) {b : Bool} → b ≡ same_index l.no l.yes → b ≡ true → Some l.yes ≡ single_of (l ∷ [])
one_same l e q = sym (ap (λ (x : Bool). cond x (Some l.yes) None) (sym e ∙ q))

pub one_other : (l : Line) {b : Bool} → b ≡ same_index l.no l.yes → b ≡ false → None ≡ single_of (l ∷ [])
one_other l e q = sym (ap (λ (x : Bool). cond x (Some l.yes) None) (sym e ∙ q))

many : (ls : List Line) → (length ls ≡ 1 → ⊥) → None ≡ single_of ls
many [] h = refl
many (l ∷ []) h = absurd (h refl)
many (l ∷ (k ∷ ls)) h = refl

empty : (ls : List Line) → length ls ≡ 0 → ls ≡ []
empty [] h = refl
empty (l ∷ ls) h = absurd (omega arith)

module _ (s : List ℕ) (i n : ℕ) (e : n ≡ length (lines_at s i).items) where
  pub single_many : (n ≡ 1 → ⊥) → None ≡ single_of (lines_at s i).items
  single_many h = many (lines_at s i).items (λ q. h (e ∙ q))

  pub single_on : n ≡ 1 → {l : Line} {j : ℕ} → answer.Next l j ≡ line_step_at s i → {r : Option TreeIndex} → r ≡ single_of (l ∷ []) → r ≡ single_of (lines_at s i).items
  single_on h {l} {j} q p =
      let none : (lines_at s j).items ≡ [] = empty (lines_at s j).items (omega (arith, ap length (items_next s i q))) in
      p ∙ sym (ap single_of (items_next s i q ∙ ap (λ (ls : List Line). l ∷ ls) none))

  pub single_last : {l : Line} {j : ℕ} → answer.Last l j ≡ line_step_at s i → {r : Option TreeIndex} → r ≡ single_of (l ∷ []) → r ≡ single_of (lines_at s i).items
  single_last q p = p ∙ sym (ap single_of (items_last s i q))

  pub single_broken : answer.Broken ≡ line_step_at s i → None ≡ single_of (lines_at s i).items
  single_broken q = sym (ap single_of (items_broken s i q))

-- ---- lines linked in a part of the records

module _ (w : List ℤ) (n m : ℕ) (records : List ℕ) (first : ℕ) (room : first + 4 * m ≤ length records) where
  pub part_length : length (take (first + 4 * m - first) (drop first records)) ≡ first + 4 * m - first
  part_length = length-take-le (first + 4 * m - first) (drop first records) (omega (arith, length-drop first records))

  pub linked_part :
      (e : ℕ) → e ≡ first + 4 * m → {part after : List ℕ} {r : Result Unit LineFault} → length part ≡ e - first → length after ≡ length part → Linking w n part after r
      → (link_ends n m r ≡ (link_result w n m).ends) × (put_mid first (e - first) records after ≡ sets records first (link_result w n m).rows)
  unfolding link_result
  linked_part e q {part} {after} {r} long kept l =
      let z : e - first ≡ 4 * m = omega arith in
      let size : length part ≡ 4 * m = long ∙ z in (
        ap (link_ends n m) l.is,
        ap (λ (k : ℕ). put_mid first k records after) z ∙ part_put records first (4 * m) after (kept ∙ size) room
            ∙ ap (sets records first) (l.rows ∙ ap (rows_after (link_outcome w n) (linked_rows w n)) size),
      )

-- ---- a tree in braces

module _ (s questions : List ℕ) (nq : ℕ) (ls : List Line) where
  pub one_result : (x : TreeIndex) → single_of ls ≡ Some x → lines_result s questions nq ls ≡ leaf_result x
  one_result x e = go ls e
    where
      go : (ls : List Line) → single_of ls ≡ Some x → lines_result s questions nq ls ≡ leaf_result x
      go [] e = let u : ◌≡◌ {A = ℕ} 0 1 = cc in absurd (omega arith)
      go (l ∷ []) e = pick (same_index l.no l.yes) refl e
        where
          pick : (b : Bool) → same_index l.no l.yes ≡ b → cond b (Some l.yes) None ≡ Some x
              → cond b (leaf_result l.yes) (link_result (line_words s questions nq (l ∷ [])) 1 (records_of (l ∷ []))) ≡ leaf_result x
          pick true p q = let u : l.yes ≡ x = cc in ap leaf_result u
          pick false p q = let u : ◌≡◌ {A = ℕ} 0 1 = cc in absurd (omega arith)
      go (l ∷ (k ∷ ls)) e = let u : ◌≡◌ {A = ℕ} 0 1 = cc in absurd (omega arith)

  -- several lines, or one whose references differ
  pub several_result : 0 < length ls → single_of ls ≡ None
      → (lines_result s questions nq ls ≡ link_result (line_words s questions nq ls) (length ls) (records_of ls)) × (records_of ls ≡ length ls + total line_pdfs ls)
  unfolding records_of total
  several_result h e = go ls h e
    where
      go : (ls : List Line) → 0 < length ls → single_of ls ≡ None
          → (lines_result s questions nq ls ≡ link_result (line_words s questions nq ls) (length ls) (records_of ls)) × (records_of ls ≡ length ls + total line_pdfs ls)
      go [] h e = absurd (omega arith)
      go (l ∷ []) h e = pick (same_index l.no l.yes) refl e
        where
          pick : (b : Bool) → same_index l.no l.yes ≡ b → cond b (Some l.yes) None ≡ None
              → (cond b (leaf_result l.yes) (link_result (line_words s questions nq (l ∷ [])) 1 (records_of (l ∷ []))) ≡ link_result (line_words s questions nq (l ∷ [])) 1 (records_of (l ∷ [])))
              × (cond b 1 (1 + line_pdfs l) ≡ 1 + (line_pdfs l + 0))
          pick true p q = let u : ◌≡◌ {A = ℕ} 0 1 = cc in absurd (omega arith)
          pick false p q = (refl, omega arith)
      go (l ∷ (k ∷ ls)) h e = (refl, refl)

  -- the PDF references that stand in the words
  pub word_leaves : length (pdfs_of (lines_from (line_words s questions nq ls) 0 (length ls))) ≡ total line_pdfs ls
  word_leaves =
      ap (λ l. length (pdfs_of l)) (decode s questions nq (line_words s questions nq ls) 0 ls (λ i h. let z : 6 * 0 + i ≡ i = omega arith in ap (λ (j : ℕ). get_or (line_words s questions nq ls) j (pos 0)) z))
      ∙ pdfs-count (λ l. asked_at s questions nq l.start l.len) ls

  module _ (work : List ℤ) (room : 6 * length ls ≤ length work) where
    agree : Agree (length ls) (sets work 0 (line_words s questions nq ls)) (line_words s questions nq ls)
    agree =
        let W = line_words s questions nq ls in
        let l = words_length s questions nq ls in
        record {
          long = omega (arith, length-sets work 0 W);
          also = omega arith;
          same = λ i h.
              let z : 0 + i ≡ i = omega arith in
              ap (λ (j : ℕ). get_or (sets work 0 W) j (pos 0)) (sym z) ∙ sets_at W work 0 i (pos 0) (omega arith) (omega arith);
        }

    pub count_leaves : length (pdfs_of (lines_from (sets work 0 (line_words s questions nq ls)) 0 (length ls))) ≡ total line_pdfs ls
    count_leaves =
        ap length (pdfs_same (length ls) (sets work 0 (line_words s questions nq ls)) (line_words s questions nq ls) agree)
        ∙ word_leaves

    pub same_result : (m : ℕ) → link_result (sets work 0 (line_words s questions nq ls)) (length ls) m ≡ link_result (line_words s questions nq ls) (length ls) m
    unfolding link_result
    same_result m =
        ap₂ (λ o r. record { ends = link_ends (length ls) m o; rows = rows_after o r (4 * m) })
        (outcome_same (length ls) (sets work 0 (line_words s questions nq ls)) (line_words s questions nq ls) agree)
        (rows_same (length ls) (sets work 0 (line_words s questions nq ls)) (line_words s questions nq ls) agree)

-- ---- lines that were counted: n of them, with k PDF references, up to e

module _ (s : List ℕ) (at : ℕ) {n k e : ℕ} (h : Some (read_to (line_count n k) e) ≡ lines_counted 0 0 (lines_at s at)) where
  pub counted_lines : n ≡ length (lines_at s at).items
  counted_lines = sym (counted s at n k e h).lines

  pub counted_some : 0 < n
  counted_some = omega (arith, lines_some s at e (counted s at n k e h).done, counted_lines)

  pub counted_end : e ≡ lines_end s at
  counted_end = sym (ap place_of (counted s at n k e h).done)

  pub counted-needed : None ≡ single_of (lines_at s at).items → n + k ≡ records_of (lines_at s at).items
  counted-needed q =
      let d = counted s at n k e h in
      omega (arith, (several_result s [] 0 (lines_at s at).items (omega (arith, counted_some, counted_lines)) (sym q)).1, d.lines, d.pdfs)

-- lines that can be read are counted
pub counted_always : (s : List ℕ) (at : ℕ) {e : ℕ} → None ≡ lines_counted 0 0 (lines_at s at) → (lines_at s at).ending ≡ done_at e → {A : Type 0} → A
counted_always s at {e} h d =
    let x = not_counted s at h in
    let v : broken_at x.0 ≡ done_at e = sym x.1 ∙ d in
    let u : ◌≡◌ {A = ℕ} 0 1 = cc in absurd (omega arith)

-- ---- what `fill_braces` knows of a tree of n lines that needs m records

module _ (s questions : List ℕ) (nq : ℕ) (ls : List Line) (n m : ℕ) (e : n ≡ length ls) (some : 0 < n) (d : m ≡ records_of ls) where
  pub one_record : {x : TreeIndex} → Some x ≡ single_of ls → m ≡ 1
  unfolding records_of
  one_record {x} q = d ∙ go ls (sym q)
    where
      go : (ls : List Line) → single_of ls ≡ Some x → records_of ls ≡ 1
      go [] e = let u : ◌≡◌ {A = ℕ} 0 1 = cc in absurd (omega arith)
      go (l ∷ []) e = pick (same_index l.no l.yes) e
        where
          pick : (b : Bool) → cond b (Some l.yes) None ≡ Some x → cond b 1 (1 + line_pdfs l) ≡ 1
          pick true q = refl
          pick false q = let u : ◌≡◌ {A = ℕ} 0 1 = cc in absurd (omega arith)
      go (l ∷ (k ∷ ls)) e = let u : ◌≡◌ {A = ℕ} 0 1 = cc in absurd (omega arith)

  module _ (work : List ℤ) (room : 6 * n ≤ length work) (q : None ≡ single_of ls) {w : List ℤ} (f : w ≡ sets work 0 (line_words s questions nq ls)) where
    wide : 6 * length ls ≤ length work
    wide = omega arith

    pub linked_room : 6 * n ≤ length w
    linked_room = omega (arith, ap length f, length-sets work 0 (line_words s questions nq ls))

    pub linked_needed : m ≡ n + length (pdfs_of (lines_from w 0 n))
    linked_needed =
        d ∙ (several_result s questions nq ls (omega arith) (sym q)).1
        ∙ ap₂ (λ (a b : ℕ). a + b) (sym e)
        (sym (ap (λ (l : List ℤ). length (pdfs_of (lines_from l 0 n))) f ∙ ap (λ (k : ℕ). length (pdfs_of (lines_from (sets work 0 (line_words s questions nq ls)) 0 k))) e ∙ count_leaves s questions nq ls work wide))

    pub linked_is : link_result w n m ≡ lines_result s questions nq ls
    linked_is =
        ap (λ (l : List ℤ). link_result l n m) f ∙ ap₂ (λ (a b : ℕ). link_result (sets work 0 (line_words s questions nq ls)) a b) e d
        ∙ same_result s questions nq ls work wide (records_of ls)
        ∙ sym (several_result s questions nq ls (omega arith) (sym q)).0

-- ---- what a body's records come to, where it has them

module _ (s questions : List ℕ) (nq : ℕ) where
  linked_size : (w : List ℤ) (n m : ℕ) {a b : ℕ} → m ≡ n + length (pdfs_of (lines_from w 0 n)) → (link_result w n m).ends ≡ filled a b → (a ≡ m) × (length (link_result w n m).rows ≡ 4 * a)
  unfolding link_result
  linked_size w n m {a} {b} e h = go (link_outcome w n) refl h
    where
      go : (o : Result Unit LineFault) → link_outcome w n ≡ o → link_ends n m o ≡ filled a b → (a ≡ m) × (length (rows_after o (linked_rows w n) (4 * m)) ≡ 4 * a)
      go (Ok tt) q h = let u : m ≡ a = (same_filled h).0 in (sym u, omega (arith, length_linked w n q))
      go (Err r) q h = let u : ◌≡◌ {A = ℕ} 0 1 = cc in absurd (omega arith)

  leaf_size : (r : TreeIndex) {a b : ℕ} → (leaf_result r).ends ≡ filled a b → (a ≡ 1) × (length (leaf_result r).rows ≡ 4 * a)
  leaf_size (Pdf x) {a} h = let u : 1 ≡ a = (same_filled h).0 in (sym u, omega arith)
  leaf_size (Node x) h = let u : ◌≡◌ {A = ℕ} 0 1 = cc in absurd (omega arith)

  pub lines_size : (ls : List Line) {a b : ℕ} → (lines_result s questions nq ls).ends ≡ filled a b → (a ≡ records_of ls) × (length (lines_result s questions nq ls).rows ≡ 4 * a)
  unfolding records_of total
  lines_size [] {a} h = let u : 0 ≡ a = (same_filled h).0 in (sym u, omega arith)
  lines_size (l ∷ []) {a} {b} h = pick (same_index l.no l.yes) refl h
    where
      W : List ℤ
      W = line_words s questions nq (l ∷ [])

      pick : (x : Bool) → same_index l.no l.yes ≡ x → (cond x (leaf_result l.yes) (link_result W 1 (cond (same_index l.no l.yes) 1 (1 + line_pdfs l)))).ends ≡ filled a b
          → (a ≡ cond x 1 (1 + line_pdfs l)) × (length (cond x (leaf_result l.yes) (link_result W 1 (cond (same_index l.no l.yes) 1 (1 + line_pdfs l)))).rows ≡ 4 * a)
      pick true q h = leaf_size l.yes h
      pick false q h =
          let e : cond (same_index l.no l.yes) 1 (1 + line_pdfs l) ≡ 1 + line_pdfs l = ap (λ (x : Bool). cond x 1 (1 + line_pdfs l)) q in
          let r = linked_size W 1 (cond (same_index l.no l.yes) 1 (1 + line_pdfs l)) (omega (arith, word_leaves s questions nq (l ∷ []))) h in
          (r.0 ∙ e, r.1)
  lines_size (l ∷ (k ∷ ls)) h =
      linked_size (line_words s questions nq (l ∷ (k ∷ ls))) (length (l ∷ (k ∷ ls))) (length (l ∷ (k ∷ ls)) + total line_pdfs (l ∷ (k ∷ ls)))
      (ap (λ (j : ℕ). length (l ∷ (k ∷ ls)) + j) (sym (word_leaves s questions nq (l ∷ (k ∷ ls))))) h

  pub lone_size : (r : TreeIndex) {a b : ℕ} → (body_result s questions nq (lone r)).ends ≡ filled a b → (a ≡ 1) × (length (body_result s questions nq (lone r)).rows ≡ 4 * a)
  lone_size r h = leaf_size r h
