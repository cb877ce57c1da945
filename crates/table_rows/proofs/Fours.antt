-- What the text says of a model's trees, and their records, are rows of four numbers, and tree rows with their blocks rows of six; so tables in which such rows stand one behind
-- the other are those rows.
use mathlib.Core.Path.{◌≡◌, refl, sym, ap, ◌∙◌, subst}
use mathlib.Core.List.{List, [], ◌∷◌, ◌++◌, map, Forall₂, flatten}
use Prim.Native.Nat.{ℕ, ◌+◌, ◌*◌}
use native.Mathlib.Omega.{arith}
use lib.ListN.{length}
use lib.Seq.{take_all}
use Rattle.written.specs.Said.{Ref, Line, Body, Tree, Question}
use Rattle.written.specs.Linking.{Nth, here, Row, leaf, LineRow, row, Records}
use Rattle.written.specs.Tables.{TreeRows, none, more}
use Rattle.written.proofs.Folded.{Wide, wide_rest, wide_none, wide_more}
use Rattle.table_rows.specs.Rows.{tree_rows, record_rows, tree_row, record_row, rows_from, tree_table, record_table, TreesStand, Standing}
use Rattle.table_rows.proofs.Stand.{Fours, nth_below, nth_same, length_from, all_there, length-flat, flat-stands, trees_stand}

-- ---- lists of such rows

fours_append : (xs : List Row) {ys : List Row} → Fours xs → Fours ys → Fours (xs ++ ys)
fours_append [] f g = g
fours_append (x ∷ xs) f g = wide_more (f 0 x here) (fours_append xs (wide_rest f) g)

fours_leaves : (ns : List ℕ) → Fours (map leaf ns)
fours_leaves [] = wide_none
fours_leaves (n ∷ ns) = wide_more refl (fours_leaves ns)

fours_lines : {qs : List Question} {Goes : Ref → ℕ → Type 0} {ls : List Line} {rows : List Row} → Forall₂ (LineRow qs Goes) ls rows → Fours rows
fours_lines Forall₂.nil = wide_none
fours_lines (Forall₂.cons h t) = wide_more (of_line h) (fours_lines t)
  where
    of_line : {qs : List Question} {Goes : Ref → ℕ → Type 0} {l : Line} {r : Row} → LineRow qs Goes l r → length r ≡ 4
    of_line (row a b c) = refl

pub fours_records : {qs : List Question} {t : Body} {rows : List Row} → Records qs t rows → Fours rows
fours_records (Records.single s) = wide_more refl wide_none
fours_records (Records.lines {front = front} leaves o a e f q) = subst Fours (sym q) (fours_append front (fours_lines f) (fours_leaves leaves))

-- the records of a model
pub fours_model : {qs : List Question} {f : ℕ} {ts : List Tree} {trees records : List Row} → TreeRows qs f ts trees records → Fours records
fours_model none = wide_none
fours_model (more {rows = rows} s r l w) = fours_append rows (fours_records r) (fours_model w)

-- ---- tables of rows one behind the other

-- a table of as many rows, each of which is the one that it should be
table_is : (at : ℕ → Row) (n : ℕ) (rows : List Row) → n ≡ length rows → ((k : ℕ) (r : Row) → Nth rows k r → r ≡ at k) → rows_from at 0 n ≡ rows
table_is at n rows e f =
    sym (nth_same rows (rows_from at 0 n) (sym (length_from at 0 n ∙ e)) (λ k r h. subst (Nth (rows_from at 0 n) k) (sym (f k r h)) (all_there at n k (omega (arith, nth_below h, e)))))

pub record_table_lem : (rows : List Row) → Fours rows → record_table (flatten rows) ≡ rows
unfolding record_table
record_table_lem rows f = table_is (record_row R) (record_rows R) rows (omega (arith, length-flat rows f)) (λ k r h. (stands.each k r h).1 ∙ ap (record_row R) (place k))
  where
    R : List ℕ
    R = flatten rows

    stands : Standing R 0 rows
    stands = flat-stands R 0 rows f (take_all (4 * length rows) R (omega (arith, length-flat rows f)))

    place : (k : ℕ) → 0 + k ≡ k
    place k = omega arith

pub tree_table_lem : (rows : List Row) → Wide 6 rows → tree_table (flatten rows) ≡ rows
unfolding tree_table
tree_table_lem rows f = table_is (tree_row T) (tree_rows T) rows (omega (arith, length-flat rows f)) (λ k r h. (stands.each k r h).1)
  where
    T : List ℕ
    T = flatten rows

    stands : TreesStand T rows
    stands = trees_stand T rows f (take_all (6 * length rows) T (omega (arith, length-flat rows f)))
