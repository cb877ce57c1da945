-- The walk by computation: 01's tree of five records, a tree that goes round under the largest limit, what is refused; and demand 3 used on
-- 01's tree.
use mathlib.Core.Path.{◌≡◌, refl, sym, ap, ◌∙◌}
use mathlib.Core.Bool.{false}
use mathlib.Core.List.{List, [], ◌∷◌, ◌++◌, flatten}
use Prim.Native.Nat.{ℕ}
use Rattle.error.specs.declared.Refusal.{Refusal}
use Rattle.walk.specs.declared.Walked.{Walked}
use Rattle.std.specs.declared.result.Result.{Result}
use Rattle.std.specs.Prelude.{Ok, Err}
use Rattle.written.specs.Said.{Question}
use Rattle.written.specs.Linking.{here, there, Row}
use Rattle.written.specs.Walks.{Ending, Answers}
use Rattle.written.proofs.Walk.{no_row}
use Rattle.written.proofs.Link.{records_linked}
use Rattle.written_examples.proofs.Examples.{records₁, walk₁, walk₁_limit}
use Rattle.table_rows.specs.Rows.{HasTree}
use Rattle.table_rows.proofs.Stand.{flat-stands}
use Rattle.table_rows.proofs.Fours.{fours_records}
use Rattle.error.specs.declared.Refusal.TheVariants.{WalkTable, Steps}
use Rattle.walk.specs.Walking.{line_at, kind_at, meet_at, walk_from, walk_of, walked}
use Rattle.walk.specs.Answer.{answer_of, ending_answer}
use Rattle.walk.proofs.Bound.{walk_most}
use Rattle.walk.proofs.Demand.{walk_demand₃}

-- ---- the tree of 01's sums: A is question 0, B question 1

abbrev trees : List ℕ
trees = 2 ∷ 0 ∷ 5 ∷ 2 ∷ 0 ∷ 3 ∷ []

abbrev records : List ℕ
records = 0 ∷ 0 ∷ 3 ∷ 1 ∷ 0 ∷ 1 ∷ 3 ∷ 2 ∷ 1 ∷ 1 ∷ 0 ∷ 0 ∷ 1 ∷ 3 ∷ 0 ∷ 0 ∷ 1 ∷ 3 ∷ 0 ∷ 0 ∷ []

-- A yes; A no and B yes; A no and B no
yes_first : walk_of trees records 0 (1 ∷ 0 ∷ []) 9 ≡ Ok (walked 3 1)
unfolding walk_of walk_from meet_at kind_at line_at
yes_first = refl

no_then_yes : walk_of trees records 0 (0 ∷ 255 ∷ []) 9 ≡ Ok (walked 3 2)
unfolding walk_of walk_from meet_at kind_at line_at
no_then_yes = refl

no_then_no : walk_of trees records 0 (0 ∷ 0 ∷ []) 2 ≡ Ok (walked 1 2)
unfolding walk_of walk_from meet_at kind_at line_at
no_then_no = refl

-- the second question passes the limit; without its byte it is 24, limit or not
limit_met : walk_of trees records 0 (0 ∷ 0 ∷ []) 1 ≡ Err Steps
unfolding walk_of walk_from meet_at kind_at line_at
limit_met = refl

byte_first : walk_of trees records 0 (0 ∷ []) 1 ≡ Err WalkTable
unfolding walk_of walk_from meet_at kind_at line_at
byte_first = refl

no_such_tree : walk_of trees records 1 (0 ∷ 0 ∷ []) 9 ≡ Err WalkTable
unfolding walk_of walk_from meet_at kind_at line_at
no_such_tree = refl

-- one whole row, and another but for its last number
no_whole_row : walk_of (trees ++ (2 ∷ 0 ∷ 5 ∷ 2 ∷ 0 ∷ [])) records 1 (0 ∷ 0 ∷ []) 9 ≡ Err WalkTable
unfolding walk_of walk_from meet_at kind_at line_at
no_whole_row = refl

-- ---- a line that leads to itself, in a tree that claims 2^64 - 1 records: one question is enough to know

abbrev round_trees : List ℕ
round_trees = 2 ∷ 0 ∷ 18446744073709551615 ∷ 1 ∷ 0 ∷ 0 ∷ []

abbrev round_records : List ℕ
round_records = 0 ∷ 0 ∷ 0 ∷ 0 ∷ []

goes_round : walk_of round_trees round_records 0 (1 ∷ []) 18446744073709551615 ≡ Err Steps
unfolding walk_of walk_from meet_at kind_at line_at
goes_round = sym (walk_most round_trees round_records 0 (1 ∷ []) 18446744073709551615) ∙ refl

-- ---- demand 3 on 01's tree: its hypotheses hold of these tables, and the call ends as the written walk does

abbrev questions₁ : List Question
questions₁ = record { name = 65 ∷ []; patterns = (120 ∷ []) ∷ [] } ∷ record { name = 66 ∷ []; patterns = (121 ∷ []) ∷ [] } ∷ []

abbrev rows₁ : List Row
rows₁ = (0 ∷ 0 ∷ 3 ∷ 1 ∷ []) ∷ (0 ∷ 1 ∷ 3 ∷ 2 ∷ []) ∷ (1 ∷ 1 ∷ 0 ∷ 0 ∷ []) ∷ (1 ∷ 3 ∷ 0 ∷ 0 ∷ []) ∷ (1 ∷ 3 ∷ 0 ∷ 0 ∷ []) ∷ []

stands : HasTree trees records 0 rows₁
unfolding flatten
stands = record { there = refl; count = refl; stands = flat-stands records 0 rows₁ (fours_records records₁) refl }

given : Answers questions₁ (λ q. false) (0 ∷ 0 ∷ [])
given q x here = (0, here, refl)
given q x (there here) = (0, there here, refl)
given q x (there (there h)) = absurd (no_row h)

as_written : (r : Result Walked Refusal) → r ≡ walk_of trees records 0 (0 ∷ 0 ∷ []) 2 → answer_of r ≡ ending_answer (Ending.at 1 2)
as_written r q = let d = walk_demand₃ given stands (records_linked records₁) 2 q in d.2 ∙ ap ending_answer (sym (d.3 (Ending.at 1 2) walk₁))

limit_as_written : (r : Result Walked Refusal) → r ≡ walk_of trees records 0 (0 ∷ 0 ∷ []) 1 → answer_of r ≡ ending_answer Ending.limit
limit_as_written r q = let d = walk_demand₃ given stands (records_linked records₁) 1 q in d.2 ∙ ap ending_answer (sym (d.3 Ending.limit walk₁_limit))
