-- Bounds as the code judges them, and a part that is cut out of a table and comes back as the task's rows put there, at any width.
use mathlib.Core.Path.{◌≡◌, refl, sym, ap, ◌∙◌, subst, fun_ext}
use mathlib.Core.Bool.{Bool, true, false, not}
use mathlib.Core.List.{List}
use Prim.Native.Nat.{ℕ, ◌+◌, ◌-◌, ◌*◌, ◌/◌, ◌≤◌, ◌<◌}
use native.Mathlib.Omega.{arith}
use lib.Dec.{leb}
use lib.ListN.{length, take, drop}
use lib.Seq.{sets}
use borrow.Author.Tests.{leb-true, leb-false, le-leb, lt-leb, not-true, not-false}
use borrow.Rule.Slice.PartMut.{put_mid}
use Rattle.laws.proofs.Tables.{part_put}
use Rattle.written.specs.Sharing.{Side, Table, questions, patterns, trees, records, values, width, Held, nothing, first_row, own, put_rows, Stand, stands}
use Rattle.load_plan.specs.declared.Plan.{Plan}
use Rattle.load_apart.proofs.Rows.{within, length_own}
use Rattle.load_apart.proofs.Tests.{stands_is}
use Rattle.load_bounds.specs.Bounds.{need_of, held_of, tables_of, stands_at, Cut, Roomy, Cuts}
use Rattle.load_bounds.specs.declared.Held.{Held as Bounds}
use Rattle.load_bounds.specs.declared.Parts.{Parts}

-- ---- tests

pub beside_is : (rows a b : ℕ) → b ≤ rows → leb a (rows - b) ≡ leb (a + b) rows
beside_is rows a b h = go (leb (a + b) rows) refl
  where
    go : (x : Bool) → leb (a + b) rows ≡ x → leb a (rows - b) ≡ leb (a + b) rows
    go true e = let f : a + b ≤ rows = leb-true _ _ e in le-leb a (rows - b) (omega arith) ∙ sym e
    go false e = let f : rows < a + b = leb-false _ _ e in lt-leb a (rows - b) (omega arith) ∙ sym e

pub nobody_is : held_of (record { questions = 0; patterns = 0; trees = 0; records = 0; values = 0 }) ≡ nothing
nobody_is = fun_ext at
  where
    at : (k : Table) → held_of (record { questions = 0; patterns = 0; trees = 0; records = 0; values = 0 }) k ≡ nothing k
    at questions = refl
    at patterns = refl
    at trees = refl
    at records = refl
    at values = refl

pub need_is : (p : Plan) → held_of (record { questions = p.questions; patterns = p.patterns; trees = p.trees; records = p.records; values = p.entries * p.width }) ≡ need_of p
need_is p = fun_ext at
  where
    at : (k : Table) → held_of (record { questions = p.questions; patterns = p.patterns; trees = p.trees; records = p.records; values = p.entries * p.width }) k ≡ need_of p k
    at questions = refl
    at patterns = refl
    at trees = refl
    at records = refl
    at values = refl

pub stands_at_lem : (x y : Held) (q a t c v : List ℕ) → stands_at x y (length q) (length a) (length t) (length c) (length v) ≡ stands (tables_of q a t c v) x y
unfolding stands_at stands
stands_at_lem x y q a t c v = refl

-- what the test in the code tells
pub stood : (x y : Held) (q a t c v : List ℕ) {b : Bool} → b ≡ stands_at x y (length q) (length a) (length t) (length c) (length v) → not b ≡ false → stands (tables_of q a t c v) x y ≡ true
stood x y q a t c v {b} e h = sym (stands_at_lem x y q a t c v) ∙ sym e ∙ not-false b h

pub not_stood : (x y : Held) (q a t c v : List ℕ) {b : Bool} → b ≡ stands_at x y (length q) (length a) (length t) (length c) (length v) → not b ≡ true → stands (tables_of q a t c v) x y ≡ false
not_stood x y q a t c v {b} e h = sym (stands_at_lem x y q a t c v) ∙ sym e ∙ not-true b h

pub stood_rows : (x y : Held) (q a t c v : List ℕ) {b : Bool} → b ≡ stands_at x y (length q) (length a) (length t) (length c) (length v) → not b ≡ false → Stand (tables_of q a t c v) x y
stood_rows x y q a t c v e h = stands_is (tables_of q a t c v) x y (stood x y q a t c v e h)

-- ---- a part that is cut out

-- the rows of a task from the first on, in numbers
pub own_within : (x : Side) (w l n : ℕ) {r : ℕ} → r ≡ first_row x (l / w) n → n ≤ l / w → w * r + w * n ≤ l
own_within x w l n e h = subst (λ (r : ℕ). w * r + w * n ≤ l) (sym e) (within x w l n h)

pub own_cut : (x : Side) (w l n : ℕ) {r : ℕ} → r ≡ first_row x (l / w) n → n ≤ l / w → Cut x w l n (w * r) (w * r + w * n)
own_cut x w l n e h = record { start = ap (λ (r : ℕ). w * r) e; end = refl; room = h; within = own_within x w l n e h }

module _ (x : Side) (w : ℕ) (t : List ℕ) (n a e : ℕ) (c : Cut x w (length t) n a e) where
  pub cut_long : e - a ≡ w * n
  cut_long = omega (arith, c.end)

  pub cut_within : a + w * n ≤ length t
  cut_within = subst (λ (b : ℕ). b ≤ length t) c.end c.within

  pub cut_own : take (e - a) (drop a t) ≡ own x w t n
  cut_own = ap (λ (m : ℕ). take m (drop a t)) cut_long ∙ ap (λ (b : ℕ). take (w * n) (drop b t)) c.start

  pub cut_length : length (take (e - a) (drop a t)) ≡ w * n
  cut_length = ap length cut_own ∙ length_own x w t n c.room

  pub cut_back : (ys : List ℕ) → length ys ≡ length (take (e - a) (drop a t)) → put_mid a (e - a) t ys ≡ put_rows x w t n ys
  cut_back ys l =
      ap (λ (m : ℕ). put_mid a m t ys) cut_long ∙ part_put t a (w * n) ys (l ∙ cut_length) cut_within
      ∙ ap (λ (b : ℕ). sets t b ys) c.start

-- ---- bounds that are a plan's need

module _ {h : Bounds} (p : Plan) (e : held_of h ≡ need_of p) where
  row_is : (k : Table) → held_of h k ≡ need_of p k
  row_is k = ap (λ (f : Held). f k) e

  pub needs_room : (q a t c v : ℕ) → p.questions ≤ q / 4 → p.patterns ≤ a / 2 → p.trees ≤ t / 6 → p.records ≤ c / 4 → p.entries * p.width ≤ v → Roomy h q a t c v
  needs_room q a t c v i j k l m =
      record {
        questions = subst (λ (n : ℕ). n ≤ q / 4) (sym (row_is questions)) i;
        patterns = subst (λ (n : ℕ). n ≤ a / 2) (sym (row_is patterns)) j;
        trees = subst (λ (n : ℕ). n ≤ t / 6) (sym (row_is trees)) k;
        records = subst (λ (n : ℕ). n ≤ c / 4) (sym (row_is records)) l;
        values = subst (λ (n : ℕ). n ≤ v) (sym (row_is values)) m;
      }

  pub need_cuts : {x : Side} {q a t c v : ℕ} {o : Parts} → Cuts x h q a t c v o
      → Cut x 4 q p.questions o.questions.from o.questions.to × Cut x 2 a p.patterns o.patterns.from o.patterns.to × Cut x 6 t p.trees o.trees.from o.trees.to
      × Cut x 4 c p.records o.records.from o.records.to × Cut x 1 v (p.entries * p.width) o.values.from o.values.to
  need_cuts {x} {q} {a} {t} {c} {v} {o} u = (
    subst (λ (n : ℕ). Cut x 4 q n o.questions.from o.questions.to) (row_is questions) u.questions,
    subst (λ (n : ℕ). Cut x 2 a n o.patterns.from o.patterns.to) (row_is patterns) u.patterns,
    subst (λ (n : ℕ). Cut x 6 t n o.trees.from o.trees.to) (row_is trees) u.trees,
    subst (λ (n : ℕ). Cut x 4 c n o.records.from o.records.to) (row_is records) u.records,
    subst (λ (n : ℕ). Cut x 1 v n o.values.from o.values.to) (row_is values) u.values,
  )
