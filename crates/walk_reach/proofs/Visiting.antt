-- Each way through `visit`: what is seen at the record, and what of it goes to the queue.
use mathlib.Core.Path.{◌≡◌, sym, ◌∙◌}
use mathlib.Core.List.{List}
use Prim.Native.Nat.{ℕ, ◌+◌, ◌*◌, ◌≤◌, ◌<◌}
use native.Mathlib.Omega.{arith}
use lib.IntN.{ℤ}
use lib.ListN.{length}
use Rattle.std.specs.Prelude.{Some, None}
use Rattle.written.specs.Linking.{Nth, branch}
use Rattle.written.specs.Depths.{by_yes, by_no, Met}
use Rattle.table_rows.specs.Rows.{records_in}
use Rattle.walk_reach.specs.Work.{slot_at, Pushed}
use Rattle.walk_reach.specs.Seeing.{tree_records_of, seen_at}
use Rattle.walk_reach.specs.Reaching.{Queue, Visits}
use Rattle.walk_reach.specs.declared.Seen.{Seen}
use Rattle.walk_reach.specs.declared.Seen.TheVariants.{Leaf, Line, Wrong}
use Rattle.walk_reach.proofs.Rows.{met_on, sees, line_there, leaf_there, wrong_there, not_good}
use Rattle.walk_reach.proofs.Queue.{More, pushed_more, push_room, push_inside, visit_leaf, visit_line}

module _ (R : List ℕ) (first count : ℕ) {k : ℕ} {s : Seen} (seen : s ≡ seen_at R first count k) where
  pub visited_leaf : {w : List ℤ} {tail : ℕ} → Queue (tree_records_of R first count) (records_in R first count) w tail → s ≡ Leaf → Visits (tree_records_of R first count) (records_in R first count) w tail k (Some tail) w
  visited_leaf q e = let h = leaf_there (sees R first count k) (sym seen ∙ e) in visit_leaf (tree_records_of R first count) (records_in R first count) q h.3

  pub visited_wrong : {w w' : List ℤ} {tail : ℕ} → Met (tree_records_of R first count) k → s ≡ Wrong → Visits (tree_records_of R first count) (records_in R first count) w tail k None w'
  visited_wrong m e = Visits.outside m (wrong_there (sees R first count k) (sym seen ∙ e))

  module _ {y n many : ℕ} (e : s ≡ Line y n) (m : Met (tree_records_of R first count) k) (all : many ≡ records_in R first count) where
    line : (q : ℕ) × Nth (tree_records_of R first count) k (branch q y n)
    line = line_there (sees R first count k) (sym seen ∙ e)

    yes_met : Met (tree_records_of R first count) y
    yes_met = met_on m (by_yes line.1)

    no_met : Met (tree_records_of R first count) n
    no_met = met_on m (by_no line.1)

    pub yes_outside : {w w' : List ℤ} {tail : ℕ} → many ≤ y → Visits (tree_records_of R first count) (records_in R first count) w tail k None w'
    yes_outside h = Visits.outside yes_met (not_good R first count all h)

    pub no_outside : {w w' : List ℤ} {tail : ℕ} → many ≤ n → Visits (tree_records_of R first count) (records_in R first count) w tail k None w'
    no_outside h = Visits.outside no_met (not_good R first count all h)

    module _ {w : List ℤ} {tail : ℕ} (q : Queue (tree_records_of R first count) (records_in R first count) w tail) (below : y < many) where
      pub yes_asks : (4 * y + 4 ≤ length w) × (slot_at 0 w y ≡ 0 → 4 * tail + 4 ≤ length w)
      yes_asks =
          let h : y < records_in R first count = omega arith in
          (push_inside (tree_records_of R first count) (records_in R first count) q h yes_met, push_room (tree_records_of R first count) (records_in R first count) q h yes_met)

      module _ {v : ℕ} {w₁ : List ℤ} (p : Pushed w tail y v w₁) (under : n < many) where
        yes_more : More (tree_records_of R first count) (records_in R first count) w tail w₁ v y
        yes_more = pushed_more (tree_records_of R first count) (records_in R first count) q (omega arith) yes_met p

        pub no_asks : (4 * n + 4 ≤ length w₁) × (slot_at 0 w₁ n ≡ 0 → 4 * v + 4 ≤ length w₁)
        no_asks =
            let h : n < records_in R first count = omega arith in
            (push_inside (tree_records_of R first count) (records_in R first count) yes_more.queue h no_met, push_room (tree_records_of R first count) (records_in R first count) yes_more.queue h no_met)

        pub visited_line : {next : ℕ} {w₂ : List ℤ} → Pushed w₁ v n next w₂ → Visits (tree_records_of R first count) (records_in R first count) w tail k (Some next) w₂
        visited_line p₂ =
            visit_line (tree_records_of R first count) (records_in R first count) q line.1 yes_more
            (pushed_more (tree_records_of R first count) (records_in R first count) yes_more.queue (omega arith) no_met p₂)
