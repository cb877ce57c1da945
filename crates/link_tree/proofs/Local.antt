-- Linking a tree of n lines looks at the first 6n words of the work alone.
use mathlib.Core.Path.{◌≡◌, refl, ap, ap₂, ◌∙◌}
use mathlib.Core.List.{List, [], ◌∷◌, ◌++◌}
use Prim.Native.Nat.{ℕ, zero, suc, ◌+◌, ◌*◌, ◌/◌, ◌≤◌, ◌<◌}
use native.Mathlib.Omega.{arith}
use borrow.Author.Tests.{lt-ltb}
use lib.Dec.{eqb}
use lib.IntN.{ℤ, pos}
use lib.ListN.{length, get_or}
use Rattle.error.specs.declared.LinkFault.{LinkFault}
use Rattle.link_tree.specs.declared.Sides.{Sides}
use Rattle.std.specs.declared.result.Result.{Result}
use Rattle.written.specs.Said.{Ref, node, pdf}
use Rattle.link_order.specs.Keys.{key_of, id_key, id_at}
use Rattle.link_sort.specs.Sorted.{sorted}
use Rattle.link_search.proofs.Last.{last_ext_below}
use Rattle.link_targets.specs.Lines.{WorkLine, line_in, lines_from, pdfs_of}
use Rattle.link_targets.specs.Targets.{target_of}
use Rattle.link_rows.specs.Rows.{leaf_rows}
use Rattle.link_tree.specs.Steps.{step_yes, step_of, first, outcome, goals_of, goals}
use Rattle.link_tree.specs.Linked.{leaves_of, step_in, record_rows, link_outcome, linked_rows}

-- ---- what depends on a step depends on its values

outcome_ext : (S R : WorkLine → Result Sides LinkFault) → ((l : WorkLine) → S l ≡ R l) → (k : ℕ) (ls : List WorkLine) → outcome S k ls ≡ outcome R k ls
unfolding outcome
outcome_ext S R e k [] = refl
outcome_ext S R e k (l ∷ ls) = ap₂ (first k) (e l) (outcome_ext S R e (suc k) ls)

goals_ext : (S R : WorkLine → Result Sides LinkFault) → ((l : WorkLine) → S l ≡ R l) → (ls : List WorkLine) → goals S ls ≡ goals R ls
unfolding goals
goals_ext S R e [] = refl
goals_ext S R e (l ∷ ls) = ap₂ goals_of (e l) (goals_ext S R e ls)

-- two works that agree on the words of n lines
pub record Agree (n : ℕ) (w v : List ℤ) : Type 0 where
  pub long : 6 * n ≤ length w
  pub also : 6 * n ≤ length v
  pub same : (i : ℕ) → i < 6 * n → get_or w i (pos 0) ≡ get_or v i (pos 0)

module _ (n : ℕ) (w v : List ℤ) (g : Agree n w v) where
  line_same : (k : ℕ) → k < n → line_in w k ≡ line_in v k
  line_same k h =
      rw (g.same (6 * k) (omega arith), g.same (6 * k + 1) (omega arith), g.same (6 * k + 1 + 1) (omega arith), g.same (6 * k + 3) (omega arith), g.same (6 * k + 3 + 1) (omega arith), g.same (6 * k + 5) (omega arith))

  lines_same : (k m : ℕ) → k + m ≤ n → lines_from w k m ≡ lines_from v k m
  unfolding lines_from
  lines_same k zero h = refl
  lines_same k (suc m) h = ap₂ ◌∷◌ (line_same k (omega arith)) (lines_same (suc k) m (omega arith))

  id_same : (k : ℕ) → k < n → id_at w k ≡ id_at v k
  unfolding id_at
  id_same k h =
      let a : k < length w / 6 = omega (arith, g.long) in
      let b : k < length v / 6 = omega (arith, g.also) in
      rw (lt-ltb k (length w / 6) a, lt-ltb k (length v / 6) b) (g.same (6 * k) (omega arith))

  target_same : (leaves : List ℕ) (r : Ref) → target_of w n leaves r ≡ target_of v n leaves r
  unfolding target_of
  target_same leaves (node x) =
      last_ext_below (λ e. eqb (id_key (id_at w e)) (id_key x)) (λ e. eqb (id_key (id_at v e)) (id_key x)) n (λ m h. ap (λ (z : ℤ). eqb (id_key z) (id_key x)) (id_same m h))
  target_same leaves (pdf p) = refl

  leaves_same : leaves_of w n ≡ leaves_of v n
  unfolding leaves_of
  leaves_same = ap (λ (ls : List WorkLine). sorted (key_of (λ x. 0)) (pdfs_of ls)) (lines_same 0 n (omega arith))

  step_same : (l : WorkLine) → step_in w n l ≡ step_in v n l
  step_same l =
      ap₂ (step_yes l.question) (target_same (leaves_of w n) l.yes) (target_same (leaves_of w n) l.no)
      ∙ ap (λ (ps : List ℕ). step_of (target_of v n ps) l) leaves_same

  pub outcome_same : link_outcome w n ≡ link_outcome v n
  unfolding link_outcome
  outcome_same = outcome_ext (step_in w n) (step_in v n) step_same 0 (lines_from w 0 n) ∙ ap (outcome (step_in v n) 0) (lines_same 0 n (omega arith))

  pub rows_same : linked_rows w n ≡ linked_rows v n
  unfolding linked_rows
  rows_same =
      ap (λ (G : List ℕ). record_rows (lines_from w 0 n) G ++ leaf_rows (leaves_of w n)) (goals_ext (step_in w n) (step_in v n) step_same (lines_from w 0 n))
      ∙ ap₂ (λ ls ps. record_rows ls (goals (step_in v n) ls) ++ leaf_rows ps) (lines_same 0 n (omega arith)) leaves_same

  pub pdfs_same : pdfs_of (lines_from w 0 n) ≡ pdfs_of (lines_from v 0 n)
  pdfs_same = ap pdfs_of (lines_same 0 n (omega arith))
