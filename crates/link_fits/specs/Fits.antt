-- What the functions of this crate answer, of the rows of a table.
use Rattle.std.specs.Prelude.{Bool, true, false, ◌&&◌, List, ℕ, ◌-◌, eqb, ltb}
use Rattle.laws.specs.Every.{all}
use Rattle.table_rows.specs.Rows.{record_rows, record_kind, record_question, record_pdf, record_yes, record_no}
use Rattle.link_fits.specs.declared.Target.{Target}
use Rattle.link_fits.specs.declared.Target.TheVariants.{Line, Leaf, Nowhere}

-- ---- where references lead

abbrev pub nowhere : Target → Bool
nowhere (Line k) = false
nowhere (Leaf n) = false
nowhere Nowhere = true

-- ---- rows

-- row i is there, and is (1, a number, 0, 0)
unfoldable pub is_leaf : List ℕ → ℕ → Bool
is_leaf R i = ltb i (record_rows R) && (eqb (record_kind R i) 1 && (eqb (record_yes R i) 0 && eqb (record_no R i) 0))

unfoldable pub leaf_of : List ℕ → ℕ → ℕ → Bool
leaf_of R n i = is_leaf R i && eqb (record_pdf R i) n

abbrev pub leads_to : List ℕ → Target → ℕ → Bool
leads_to R (Line k) i = eqb i k
leads_to R (Leaf n) i = leaf_of R n i
leads_to R Nowhere i = false

-- row k is there, and is (0, question, yes, no)
unfoldable pub row_fits : List ℕ → ℕ → ℕ → Target → Target → Bool
row_fits R k q y n = ltb k (record_rows R) && (eqb (record_kind R k) 0 && (eqb (record_question R k) q && (leads_to R y (record_yes R k) && leads_to R n (record_no R k))))

-- every row from n on is a leaf
unfoldable pub leaves_from : List ℕ → ℕ → Bool
leaves_from R n = all (is_leaf R) n (record_rows R - n)
