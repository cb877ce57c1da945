-- The rows that the survey counts are those that `written` has a model's linking write.
use mathlib.Core.Path.{◌≡◌, refl, sym, ap, ap₂, ◌∙◌}
use mathlib.Core.Bool.{Bool, true, false, cond}
use mathlib.Core.List.{List, [], ◌∷◌, map, Forall₂}
use Prim.Native.Nat.{ℕ, suc, ◌+◌, ◌<◌}
use native.Mathlib.Omega.{arith}
use borrow.Author.Tests.{eq-eqb, eqb-true}
use lib.Dec.{eqb}
use lib.ListN.{length, length-append, length-map}
use Rattle.written.specs.Said as says
use Rattle.written.specs.Linking.{Row, leaf, times, pdfs, Records, single, lines}
use Rattle.written.specs.Tables as tables
use Rattle.laws.specs.Totals.{total}
use Rattle.tree_survey.specs.Said.{said_body_records, said_tree_records}
use Rattle.tree_survey.proofs.Said.{single_records, other_records}

-- ---- lists in which each number stands equally often are equally long

-- a number that stands in the list, taken out of it once
record Out (x : ℕ) (ys : List ℕ) : Type 0 where
  rest : List ℕ
  long : length ys ≡ suc (length rest)
  often : (n : ℕ) → times n ys ≡ cond (eqb x n) 1 0 + times n rest

take_out : (x : ℕ) (ys : List ℕ) → 0 < times x ys → Out x ys
unfolding times
take_out x [] h = absurd (omega arith)
take_out x (y ∷ ys) h = go (eqb y x) refl h (λ k. take_out x ys k)
  where
    go : (b : Bool) → eqb y x ≡ b → 0 < cond b 1 0 + times x ys → (0 < times x ys → Out x ys) → Out x (y ∷ ys)
    go true e h r = record { rest = ys; long = refl; often = λ n. ap (λ (z : ℕ). cond (eqb z n) 1 0 + times n ys) (eqb-true y x e) }
    go false e h r =
        let o = r (omega arith) in
        record { rest = y ∷ o.rest; long = ap suc o.long; often = λ n. let k = o.often n in omega arith }

times-length : (xs ys : List ℕ) → ((n : ℕ) → times n xs ≡ times n ys) → length xs ≡ length ys
unfolding times
times-length [] [] e = refl
times-length [] (y ∷ ys) e =
    let k : 0 ≡ cond (eqb y y) 1 0 + times y ys = e y in
    let u : ◌≡◌ {A = ℕ} (cond (eqb y y) 1 0) 1 = ap (λ b. cond b 1 0) (eq-eqb y y refl) in
    absurd (omega arith)
times-length (x ∷ xs) ys e =
    let k : cond (eqb x x) 1 0 + times x xs ≡ times x ys = e x in
    let u : ◌≡◌ {A = ℕ} (cond (eqb x x) 1 0) 1 = ap (λ b. cond b 1 0) (eq-eqb x x refl) in
    let o = take_out x ys (omega arith) in
    ap suc (times-length xs o.rest (λ n. let a = e n in let b = o.often n in omega arith)) ∙ sym o.long

-- ---- the records of a tree, and the rows of a model

rows_long : {A B : Type 0} {R : A → B → Type 0} {xs : List A} {ys : List B} → Forall₂ R xs ys → length ys ≡ length xs
rows_long Forall₂.nil = refl
rows_long (Forall₂.cons r rs) = ap suc (rows_long rs)

-- a tree that links has as many records as the survey counts
pub records_counted : {qs : List says.Question} {t : says.Body} {rows : List Row} → Records qs t rows → length rows ≡ said_body_records t
records_counted (single b) = sym (single_records b)
records_counted (lines {ls = ls} {front = front} leaves n a c f e) =
    ap length e ∙ length-append front (map leaf leaves) ∙ ap₂ ◌+◌ (rows_long f) (length-map leaves leaf ∙ times-length leaves (pdfs ls) c) ∙ sym (other_records ls n)

-- a model that links has as many tree rows and records as the survey counts
pub rows_counted : {qs : List says.Question} {f : ℕ} {ts : List says.Tree} {trees records : List Row} → tables.TreeRows qs f ts trees records → (length trees ≡ length ts) × (length records ≡ total said_tree_records ts)
unfolding total
rows_counted tables.none = (refl, refl)
rows_counted (tables.more {rows = rows} {records = records} s r l m) =
    let k = rows_counted m in
    (ap suc k.0, length-append rows records ∙ ap₂ ◌+◌ (records_counted r) k.1)
