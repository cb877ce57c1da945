-- Demand 3 over tables in whose front a model's rows stand, whatever blocks are folded into its tree rows: every tree's records are linked to what the text says of it, and the walk
-- ends as the written walk of it, for every assignment and limit. The tables may be longer than the rows, or exactly them.
use mathlib.Core.Path.{◌≡◌, refl, sym, ap, ◌∙◌, subst}
use mathlib.Core.Bool.{Bool}
use mathlib.Core.List.{List, [], ◌∷◌, ◌++◌, flatten}
use Prim.Native.Nat.{ℕ, suc, ◌+◌, ◌*◌, ◌≤◌}
use native.Mathlib.Omega.{arith}
use lib.Dec.{ltb}
use lib.ListN.{length, get_or, take}
use lib.Seq.{take_all, drop_at}
use Rattle.error.specs.declared.Refusal.{Refusal}
use Rattle.walk.specs.declared.Walked.{Walked}
use Rattle.std.specs.declared.result.Result.{Result}
use Rattle.written.specs.Said as said
use Rattle.written.specs.Blocks as block
use Rattle.written.specs.Linking.{Nth, here, there, Row, Records, Linked}
use Rattle.written.specs.Tables.{TreeRows, more, folded}
use Rattle.written.specs.Walks.{Ending, Written, is_yes, Answers}
use Rattle.written.proofs.Link.{records_linked}
use Rattle.written.proofs.Walk.{nth-append}
use Rattle.written.proofs.Folded.{Wide, wide_text, wide_folded, folded_there}
use Rattle.laws.proofs.Nth.{nth_inside}
use Rattle.table_rows.specs.Rows.{record_rows, record_row, tree_first, TreesStand, Standing, HasTree}
use Rattle.table_rows.proofs.Stand.{nth_at, cut_nth, length-flat, flat-stands, trees_stand}
use Rattle.table_rows.proofs.Fours.{fours_model}
use Rattle.walk.specs.Walking.{walk_of}
use Rattle.walk.specs.Answer.{answer_of, ending_answer}
use Rattle.walk.proofs.Demand.{walk_demand₃}
use Rattle.shown_text.proofs.Tables.{Front}

-- ---- rows in the front of a table

front_cut : {w : ℕ} (t : List ℕ) (rows : List Row) → Wide w rows → Front (flatten rows) t → take (w * length rows) t ≡ flatten rows
front_cut t rows f h = ap (λ (k : ℕ). take k t) (sym (length-flat rows f)) ∙ h

-- ---- tree a among a model's rows

behind : {A : Type 0} (xs ys : List A) {k : ℕ} {y : A} → Nth ys k y → Nth (xs ++ ys) (length xs + k) y
behind xs ys {k} {y} h =
    let all : length ys ≤ length ys = omega arith in
    (cut_nth (length xs) (length ys) k (xs ++ ys) (subst (λ l. Nth l k y) (sym (ap (take (length ys)) (drop_at xs ys (length xs) refl) ∙ take_all (length ys) ys all)) h)).1

-- its row, and its records j records behind the first of all
record Among (qs : List said.Question) (f : ℕ) (trees records : List Row) (a : ℕ) (x : said.Tree) : Type 0 where
  state : ℕ
  lines : ℕ
  rows : List Row
  j : ℕ
  row : Nth trees a (state ∷ (f + j) ∷ length rows ∷ lines ∷ [])
  linked : Records qs x.body rows
  stand : (k : ℕ) (r : Row) → Nth rows k r → Nth records (j + k) r

among : {qs : List said.Question} {f : ℕ} {ts : List said.Tree} {trees records : List Row} {a : ℕ} {x : said.Tree} → TreeRows qs f ts trees records → Nth ts a x → Among qs f trees records a x
among (more {f = f} {n = n} {m = m} {rows = rows} {trees = trees} {records = records} s r l w) here =
    let z : f ≡ f + 0 = omega arith in
    record {
      state = n;
      lines = m;
      rows = rows;
      j = 0;
      row = subst (λ (i : ℕ). Nth ((n ∷ f ∷ length rows ∷ m ∷ []) ∷ trees) 0 (n ∷ i ∷ length rows ∷ m ∷ [])) z here;
      linked = r;
      stand = λ k e h. let y : k ≡ 0 + k = omega arith in subst (λ (i : ℕ). Nth (rows ++ records) i e) y (nth-append records h);
    }
among {a = suc a} (more {f = f} {n = n} {m = m} {rows = rows} {trees = trees} {records = records} s r l w) (there h) =
    let g = among w h in
    let z : f + length rows + g.j ≡ f + (length rows + g.j) = omega arith in
    record {
      state = g.state;
      lines = g.lines;
      rows = g.rows;
      j = length rows + g.j;
      row = subst (λ (i : ℕ). Nth ((n ∷ f ∷ length rows ∷ m ∷ []) ∷ trees) (suc a) (g.state ∷ i ∷ length g.rows ∷ g.lines ∷ [])) z (there g.row);
      linked = g.linked;
      stand = λ k e h. let y : length rows + (g.j + k) ≡ length rows + g.j + k = omega arith in subst (λ (i : ℕ). Nth (rows ++ records) i e) y (behind rows records (g.stand k e h));
    }
among {qs = qs} {a = a} (Rattle.written.specs.Tables.none {f = f}) x12 = elim x12 [ ]

-- tables in which a model's rows stand have its trees
has_tree : {qs : List said.Question} {T R : List ℕ} {trees records : List Row} (bs : List block.Row) {a : ℕ} {x : said.Tree} → length bs ≡ length trees
    → TreesStand T (folded trees bs) → Standing R 0 records → (g : Among qs 0 trees records a x) → HasTree T R a g.rows
has_tree {T = T} {R = R} bs {a = a} many p q g =
    let n = folded_there bs many g.row in
    let e = p.each a _ n.1 in
    let first : tree_first T a ≡ 0 + g.j = sym (ap (λ (r : Row). get_or r 1 0) e.1) in
    record {
      there = e.0;
      count = sym (ap (λ (r : Row). get_or r 2 0) e.1);
      stands = record {
        each = λ k r h.
            let d = q.each (g.j + k) r (g.stand k r h) in
            let y : 0 + (g.j + k) ≡ tree_first T a + k = omega (arith, first) in
            (ap (λ (i : ℕ). ltb i (record_rows R)) (sym y) ∙ d.0, d.1 ∙ ap (record_row R) y);
      };
    }

-- ---- answer bytes

-- as many bytes as questions are an assignment
pub bytes_answer : (qs : List said.Question) (bytes : List ℕ) → length qs ≤ length bytes → Answers qs (λ q. is_yes (get_or bytes q 0)) bytes
bytes_answer qs bytes h q x n = (get_or bytes q 0, nth_at bytes q 0 (omega (arith, nth_inside n)), refl)

-- ---- demand 3

module _ {qs : List said.Question} {ts : List said.Tree} {trees records : List Row} (rows : TreeRows qs 0 ts trees records) (bs : List block.Row) (many : length bs ≡ length trees) (T R : List ℕ)
    (front : Front (flatten (folded trees bs)) T) (front-records : Front (flatten records) R) {a : ℕ} {x : said.Tree} (h : Nth ts a x) where
  -- (i) the records of a loaded tree are linked to what the text says
  pub loaded_linked : (rows : List Row) × HasTree T R a rows × Linked qs x.body rows
  loaded_linked =
      let wide = wide_folded trees bs (wide_text rows) in
      let fours = fours_model rows in
      let g = among rows h in
      (g.rows, has_tree bs many (trees_stand T (folded trees bs) wide (front_cut T (folded trees bs) wide front)) (flat-stands R 0 records fours (front_cut R records fours front-records)) g, records_linked g.linked)

  -- (i) and (ii) how the written walk ends, so the loaded one ends; and the written one ends in one way
  pub loaded_walks : {answer : ℕ → Bool} {bytes : List ℕ} → Answers qs answer bytes → (m : ℕ) {r : Result Walked Refusal} → r ≡ walk_of T R a bytes m
      → (e : Ending) × Written qs answer x.body m e × (answer_of r ≡ ending_answer e) × ((g : Ending) → Written qs answer x.body m g → g ≡ e)
  loaded_walks given m q = let k = loaded_linked in walk_demand₃ given k.1 k.2 m q

  -- the same of any bytes, as many as questions at least
  pub loaded_walks_bytes : (bytes : List ℕ) → length qs ≤ length bytes → (m : ℕ)
      → (e : Ending) × Written qs (λ q. is_yes (get_or bytes q 0)) x.body m e × (answer_of (walk_of T R a bytes m) ≡ ending_answer e)
      × ((g : Ending) → Written qs (λ q. is_yes (get_or bytes q 0)) x.body m g → g ≡ e)
  loaded_walks_bytes bytes n m = loaded_walks (bytes_answer qs bytes n) m refl
