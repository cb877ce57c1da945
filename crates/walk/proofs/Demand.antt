-- Demand 3, second half, of the call: over tables in which linked rows stand, the walk ends as the written walk of the tree: the same PDF
-- and as many questions, or the limit met in both, or 24 for empty braces. And what the walk's contract fixes.
use mathlib.Core.Path.{◌≡◌, refl, sym, ap, ◌∙◌, subst}
use mathlib.Core.Bool.{Bool}
use mathlib.Core.List.{List, flatten}
use Prim.Native.Nat.{ℕ}
use lib.ListN.{length, take, drop}
use Rattle.error.specs.declared.Refusal.{Refusal}
use Rattle.walk.specs.declared.Walked.{Walked}
use Rattle.std.specs.declared.result.Result.{Result}
use Rattle.std.specs.Prelude.{Ok, Err}
use Rattle.written.specs.Said.{Body, Tree, Question}
use Rattle.written.specs.Linking.{Nth, Row, Linked}
use Rattle.written.specs.Blocks as block
use Rattle.written.specs.Tables.{TreeRows, folded}
use Rattle.written.specs.Walks.{Ending, limit, nothing, Written, Outcome, refused, Loaded, LoadedTree, as_loaded, Answers}
use Rattle.written.proofs.Walk.{demand₃, written_once}
use Rattle.written.proofs.Folded.{wide_text, wide_folded}
use Rattle.written.proofs.Model.{model_walks}
use Rattle.table_rows.specs.Rows.{tree_first, tree_records, tree_table, record_table, HasTree}
use Rattle.table_rows.proofs.Stand.{tree_there_lem, standing_cut}
use Rattle.table_rows.proofs.Fours.{fours_model, record_table_lem, tree_table_lem}
use Rattle.walk.specs.Walking.{walk_of}
use Rattle.walk.specs.Answer.{Answer, answer_of, ending_answer, outcome_of}
use Rattle.walk.proofs.Loaded.{loaded_walk}

-- ---- any two outcomes that the contract of `walk` allows are equal

pub walk_once : (T R : List ℕ) (t : ℕ) (bytes : List ℕ) (m : ℕ) {r s : Result Walked Refusal} → r ≡ walk_of T R t bytes m → s ≡ walk_of T R t bytes m → r ≡ s
walk_once T R t bytes m a b = a ∙ sym b

-- ---- answers and outcomes

-- number, PDF and questions of an outcome
answer_as : Outcome → Answer
answer_as (Outcome.at n a) = record { number = 0; pdf = n; asked = a }
answer_as (refused c) = record { number = c; pdf = 0; asked = 0 }

as_walked : (w : Result Walked Refusal) → answer_of w ≡ answer_as (outcome_of w)
unfolding answer_as
as_walked (Ok r) = refl
as_walked (Err r) = refl

as_ending : (e : Ending) → answer_as (as_loaded e) ≡ ending_answer e
unfolding answer_as
as_ending (Ending.at n a) = refl
as_ending limit = refl
as_ending nothing = refl

alike : (w : Result Walked Refusal) (e : Ending) → as_loaded e ≡ outcome_of w → answer_of w ≡ ending_answer e
alike w e h = as_walked w ∙ ap answer_as (sym h) ∙ as_ending e

-- ---- demand 3

module _ {qs : List Question} {answer : ℕ → Bool} {bytes : List ℕ} (given : Answers qs answer bytes) where
  -- how the written walk ends, so the call ends
  pub walk_demand₃ : {T R : List ℕ} {t : ℕ} {body : Body} {rows : List Row} → HasTree T R t rows → Linked qs body rows → (m : ℕ) {r : Result Walked Refusal} → r ≡ walk_of T R t bytes m
      → (e : Ending) × Written qs answer body m e × (answer_of r ≡ ending_answer e) × ((f : Ending) → Written qs answer body m f → f ≡ e)
  walk_demand₃ {T} {R} {t} {body} {rows} h l m {r} q =
      let d = demand₃ given l m in
      let e : rows ≡ take (tree_records T t) (drop (tree_first T t) (record_table R)) = sym (ap (λ (n : ℕ). take n (drop (tree_first T t) (record_table R))) h.count ∙ standing_cut R h.stands) in
      let w = LoadedTree.there (tree_there_lem T t h.there) (subst (λ (rs : List Row). Loaded bytes rs 0 m (as_loaded d.0)) e d.2) in
      (d.0, d.1, alike r d.0 (loaded_walk T R t bytes m w ∙ ap outcome_of (sym q)), λ f a. written_once given l a d.1)

  -- every tree of a model whose rows the tables are
  pub model_walk : (T R : List ℕ) {ts : List Tree} {trees records : List Row} {i : ℕ} {t : Tree} → TreeRows qs 0 ts trees records → (bs : List block.Row) → length bs ≡ length trees
      → tree_table T ≡ folded trees bs → record_table R ≡ records → Nth ts i t → (m : ℕ) {r : Result Walked Refusal} → r ≡ walk_of T R i bytes m
      → (e : Ending) × Written qs answer t.body m e × (answer_of r ≡ ending_answer e)
  model_walk T R {trees = trees} {i = i} rs bs many x y h m {r} q =
      let d = model_walks given rs bs many h m in
      let w = subst (λ (z : List Row). LoadedTree bytes z (record_table R) i m (as_loaded d.0)) (sym x) (subst (λ (z : List Row). LoadedTree bytes (folded trees bs) z i m (as_loaded d.0)) (sym y) d.2) in
      (d.0, d.1, alike r d.0 (loaded_walk T R i bytes m w ∙ ap outcome_of (sym q)))

  -- and of a model whose rows stand in the tables one behind the other
  pub flat_walk : {ts : List Tree} {trees records : List Row} {i : ℕ} {t : Tree} → TreeRows qs 0 ts trees records → (bs : List block.Row) → length bs ≡ length trees → Nth ts i t
      → (m : ℕ) {r : Result Walked Refusal} → r ≡ walk_of (flatten (folded trees bs)) (flatten records) i bytes m → (e : Ending) × Written qs answer t.body m e × (answer_of r ≡ ending_answer e)
  flat_walk {trees = trees} {records = records} rs bs many h m q =
      model_walk (flatten (folded trees bs)) (flatten records) rs bs many (tree_table_lem (folded trees bs) (wide_folded trees bs (wide_text rs))) (record_table_lem records (fours_model rs)) h m q
