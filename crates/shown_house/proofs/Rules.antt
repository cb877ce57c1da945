-- The first rule that a loaded model is judged to break is the first that it breaks as it is written, and it is judged to break none where it is a model by the house's rules.
use mathlib.Core.Path.{◌≡◌, refl, sym, ap, ◌∙◌, subst}
use mathlib.Core.Bool.{Bool, true, false, true≢false}
use mathlib.Core.List.{List, [], ◌∷◌, ◌++◌, zip_with, flatten}
use Prim.Native.Nat.{ℕ, zero, suc, ◌+◌, ◌*◌, ◌^◌, ◌<◌}
use native.Mathlib.Omega.{arith}
use lib.ListN.{length, get_or, take}
use lib.Seq.{take_all}
use Rattle.written.specs.Said as said
use Rattle.written.specs.Said.{Layout}
use Rattle.written.specs.TreeText.{Parted, Parting, TreeAt, trees, Says, without, with_questions}
use Rattle.written.specs.Blocks as block
use Rattle.written.specs.Linking.{Nth, here, there, Row}
use Rattle.written.specs.Tables.{TreeRows, none, more, question_rows, tree_row, folded}
use Rattle.written.specs.Loading.{ModelSaid}
use Rattle.written.specs.House.{IdsRun, Leaf, Ids, Names, Leaves, Means, Variances, HouseModel, ModelBreaks}
use Rattle.written.proofs.Walk.{no_row}
use Rattle.written.proofs.Folded.{wide_text, wide_folded}
use Rattle.written_house.proofs.Housed.{breaks_one, house_never}
use Rattle.laws.proofs.Nth.{nth_inside, nth_of}
use Rattle.table_rows.specs.Rows.{tree_entries}
use Rattle.table_rows.proofs.Stand.{length-flat, flat_in}
use Rattle.link_order.specs.Keys.{name_at}
use Rattle.tree_body.specs.Trees as code
use Rattle.tree_body.specs.Trees.{tree_of, trees_at}
use Rattle.load_questions.specs.Words.{question_words}
use Rattle.load_questions.proofs.Rows.{questions_joined}
use Rattle.load_plan.specs.Plans.{Sound}
use Rattle.load_plan.specs.declared.Plan.{Plan}
use Rattle.load_plan.proofs.Laws.{was}
use Rattle.house_values.specs.Values.{values_good}
use Rattle.house_names.specs.Names.{all_last}
use Rattle.house_text.specs.Text.{body_ids, trees_ids, body_fits, trees_fit}
use Rattle.house_model.specs.Model.{first_rule, rule_of}
use Rattle.shown_text.proofs.Words.{question_named}
use Rattle.shown_text.proofs.Text.{trees_are}
use Rattle.shown_house.proofs.Trees.{Within, hold_each, each_hold, ids_run, run_ids, leaves_fit, fit_leaves}
use Rattle.shown_house.proofs.Names.{last_once, once_last}
use Rattle.shown_house.proofs.Values.{good_each, each_good}

-- ---- five tests, and the first that fails

-- true exactly where P
abbrev Tests : Bool → Type 0 → Type 0
Tests b P = (b ≡ true → P) × (P → b ≡ true)

-- no rule, or the first that is broken
pub data Judged (y : ModelSaid) : ℕ → Type 0 where
  house : HouseModel y → Judged y 0
  breaks : {n : ℕ} → ModelBreaks y n → Judged y n

pub judged-zero : {y : ModelSaid} → Judged y 0 → HouseModel y
judged-zero {y} j = go j refl
  where
    some : {n : ℕ} → ModelBreaks y n → ¬ (n ≡ 0)
    some (ModelBreaks.ids a) e = omega arith
    some (ModelBreaks.names a b) e = omega arith
    some (ModelBreaks.leaves a b c) e = omega arith
    some (ModelBreaks.means a b c d) e = omega arith
    some (ModelBreaks.variances a b c d f) e = omega arith

    go : {n : ℕ} → Judged y n → n ≡ 0 → HouseModel y
    go (house h) e = h
    go (breaks b) e = absurd (some b e)

pub judged-house : {y : ModelSaid} {n : ℕ} → Judged y n → HouseModel y → n ≡ 0
judged-house (house h) k = refl
judged-house (breaks b) k = absurd (house_never k b)

pub judged_breaks : {y : ModelSaid} {n k : ℕ} → Judged y n → ModelBreaks y k → n ≡ k
judged_breaks (house h) b = absurd (house_never h b)
judged_breaks (breaks a) b = breaks_one a b

pub judged_broken : {y : ModelSaid} {n : ℕ} → Judged y n → ¬ (n ≡ 0) → ModelBreaks y n
judged_broken (house h) k = absurd (k refl)
judged_broken (breaks b) k = b

module _ (y : ModelSaid) where
  fails : {b : Bool} {P : Type 0} → Tests b P → b ≡ false → ¬ P
  fails t e p = true≢false (sym (t.1 p) ∙ e)

  first_broken : (i n l m v : Bool) → Tests i (Ids y) → Tests n (Names y) → Tests l (Leaves y) → Tests m (Means y) → Tests v (Variances y) → Judged y (first_rule i n l m v)
  first_broken false n l m v a b c d e = breaks (ModelBreaks.ids (fails a refl))
  first_broken true false l m v a b c d e = breaks (ModelBreaks.names (a.0 refl) (fails b refl))
  first_broken true true false m v a b c d e = breaks (ModelBreaks.leaves (a.0 refl) (b.0 refl) (fails c refl))
  first_broken true true true false v a b c d e = breaks (ModelBreaks.means (a.0 refl) (b.0 refl) (c.0 refl) (fails d refl))
  first_broken true true true true false a b c d e = breaks (ModelBreaks.variances (a.0 refl) (b.0 refl) (c.0 refl) (d.0 refl) (fails e refl))
  first_broken true true true true true a b c d e = house (record { ids = a.0 refl; names = b.0 refl; leaves = c.0 refl; means = d.0 refl; variances = e.0 refl })

-- ---- the text's trees and its questions' names

record Parts (s : List ℕ) (t : said.Text) (l : Layout) : Type 0 where
  named : (e : ℕ) (q : said.Question) → Nth t.questions e q → name_at s (question_words 0 l.questions) e ≡ q.name
  begin : ℕ
  end : ℕ
  stand : Parted (Parting s) (TreeAt s) begin end t.trees l.trees

parts : {s : List ℕ} {i : ℕ} {t : said.Text} {l : Layout} → Says s i t l → Parts s t l
parts (without (trees a p b)) = record { named = λ e q h. absurd (no_row h); begin = _; end = _; stand = p }
parts {s} (with_questions q (trees a p b)) = record { named = question_named s q; begin = _; end = _; stand = p }

-- ---- the entries in a tree's row

last_two : (r : Row) (a b : ℕ) → length r ≡ 4 → get_or (r ++ (a ∷ b ∷ [])) 5 0 ≡ b
last_two [] a b e = absurd (omega arith)
last_two (w ∷ []) a b e = absurd (omega arith)
last_two (w ∷ x ∷ []) a b e = absurd (omega arith)
last_two (w ∷ x ∷ u ∷ []) a b e = absurd (omega arith)
last_two (w ∷ x ∷ u ∷ v ∷ []) a b e = refl
last_two (w ∷ x ∷ u ∷ v ∷ z ∷ r) a b e = absurd (omega arith)

folded_row : (ts : List Row) (bs : List block.Row) → length ts ≡ length bs → (k : ℕ) (b : block.Row) → Nth bs k b → (r : Row) × Nth ts k r × Nth (folded ts bs) k (tree_row r b)
unfolding zip_with
folded_row [] (c ∷ bs) e k b h = absurd (omega arith)
folded_row ts [] e k b h = absurd (no_row h)
folded_row (r ∷ ts) (c ∷ bs) e zero b here = (r, here, here)
folded_row (r ∷ ts) (c ∷ bs) e (suc k) b (there h) = let f = folded_row ts bs (omega arith) k b h in (f.0, there f.1, there f.2)

text_rows : {qs : List said.Question} {f : ℕ} {ts : List said.Tree} {rows records : List Row} → TreeRows qs f ts rows records → length rows ≡ length ts
text_rows none = refl
text_rows (more s r l w) = ap suc (text_rows w)

module _ {qs : List said.Question} {zs : List said.Tree} {ts rs : List Row} (linked : TreeRows qs 0 zs ts rs) (bs : List block.Row) (many : length bs ≡ length zs) where
  entries_at : (k : ℕ) (b : block.Row) → Nth bs k b → tree_entries (flatten (folded ts bs)) k ≡ b.entries
  entries_at k b h =
      let f = folded_row ts bs (text_rows linked ∙ sym many) k b h in
      let F = folded ts bs in
      let w = wide_folded ts bs (wide_text linked) in
      let g = flat_in 6 (flatten F) 0 F (omega arith) w (take_all (6 * length F) (flatten F) (omega (arith, length-flat F w))) in
      let z : 6 * (0 + k) + 5 ≡ 6 * k + 5 = omega arith in
      ap (λ (n : ℕ). get_or (flatten F) n 0) (sym z) ∙ sym (g.at k (tree_row f.0 b) f.2 5 (omega arith)) ∙ last_two f.0 b.first b.entries (wide_text linked k f.0 f.1)

-- ---- a plan whose text says y's, with y's rows and values

module _ (d : List ℕ) (p : Plan) (y : ModelSaid) (l : Layout) (sound : Sound d p) (short : length (take p.text_end d) < 2 ^ 63) (says : Says (take p.text_end d) p.text y.text l)
    (asked : p.questions ≡ length y.text.questions) (wide : p.width ≡ y.width) {ts rs : List Row} (linked : TreeRows y.text.questions 0 y.text.trees ts rs)
    (many : length y.rows ≡ length y.text.trees) (n : ℕ) (whole : length y.values ≡ n * y.width) where
  abbrev S : List ℕ
  S = take p.text_end d

  abbrev Q : List ℕ
  Q = flatten (question_rows 0 l.questions)

  abbrev T : List ℕ
  T = flatten (folded ts y.rows)

  abbrev read : List code.Tree
  read = zip_with tree_of y.text.trees l.trees

  trees_read : (trees_at S p.first).items ≡ read
  trees_read = trees_are says (was S p.text sound.text).begins short

  ids : Tests (trees_ids read) (Ids y)
  ids =
      let a = parts says in
      let P : ℕ → said.Body → Type 0 = λ k b. IdsRun b in
      (hold_each (λ k b. body_ids b) P ids_run run_ids 0 a.stand, each_hold (λ k b. body_ids b) P ids_run run_ids 0 a.stand)

  named : (e : ℕ) (q : said.Question) → Nth y.text.questions e q → name_at S Q e ≡ q.name
  named e q h = ap (λ (w : List ℕ). name_at S w e) (sym (questions_joined 0 l.questions)) ∙ (parts says).named e q h

  names : Tests (all_last S Q (length y.text.questions)) (Names y)
  names = (last_once S Q y.text.questions named, once_last S Q y.text.questions named)

  leaves : Tests (trees_fit T read) (Leaves y)
  leaves = (there, back)
    where
      test : ℕ → code.Body → Bool
      test k b = body_fits (tree_entries T k) b

      P : ℕ → said.Body → Type 0
      P k b = (n : ℕ) → Leaf b n → Within (tree_entries T k) n

      place : (k : ℕ) → 0 + k ≡ k
      place k = omega arith

      entries : (k : ℕ) (r : block.Row) → Nth y.rows k r → tree_entries T (0 + k) ≡ r.entries
      entries k r h = ap (tree_entries T) (place k) ∙ entries_at linked y.rows many k r h

      there : trees_fit T read ≡ true → Leaves y
      there e k n t r h g f =
          subst (λ (m : ℕ). Within m n) (entries k r g) (hold_each test P (λ k. leaves_fit (tree_entries T k)) (λ k. fit_leaves (tree_entries T k)) 0 (parts says).stand e k t h n f)

      back : Leaves y → trees_fit T read ≡ true
      back f =
          each_hold test P (λ k. leaves_fit (tree_entries T k)) (λ k. fit_leaves (tree_entries T k)) 0 (parts says).stand
          (λ k t h n g. let r = nth_of y.rows k (omega (arith, nth_inside h, many)) in subst (λ (m : ℕ). Within m n) (sym (entries k r.0 r.1)) (f k n t r.0 h r.1 g))

  means : Tests (values_good false y.width y.values) (Means y)
  means = (
    λ e i k v l h. good_each false y.width n y.values whole e i k v l (subst (λ (j : ℕ). Nth y.values j v) (sym (place i k)) h),
    λ f. each_good false y.width n y.values whole (λ i k v l h. f i k v l (subst (λ (j : ℕ). Nth y.values j v) (place i k) h)),
  )
    where
      place : (i k : ℕ) → i * y.width + 0 + 2 * k ≡ i * y.width + 2 * k
      place i k = omega arith

  variances : Tests (values_good true y.width y.values) (Variances y)
  variances = (
    λ e i k v l h. good_each true y.width n y.values whole e i k v l (subst (λ (j : ℕ). Nth y.values j v) (sym (place i k)) h),
    λ f. each_good true y.width n y.values whole (λ i k v l h. f i k v l (subst (λ (j : ℕ). Nth y.values j v) (place i k) h)),
  )
    where
      place : (i k : ℕ) → i * y.width + 1 + 2 * k ≡ i * y.width + 2 * k + 1
      place i k = omega arith

  -- the rule that is judged is the one as written
  pub rule_judged : Judged y (rule_of d p Q T y.values)
  unfolding rule_of
  rule_judged =
      subst (Judged y)
      (sym (λ i. first_rule (trees_ids (trees_read i)) (all_last S Q (asked i)) (trees_fit T (trees_read i)) (values_good false (wide i) y.values) (values_good true (wide i) y.values)))
      (first_broken y (trees_ids read) (all_last S Q (length y.text.questions)) (trees_fit T read) (values_good false y.width y.values) (values_good true y.width y.values) ids names leaves means variances)
