-- The rows of the trees that a text says are `written`'s `TrailerRows`: the lines of each are `LinesOf`.
use mathlib.Core.Path.{◌≡◌, refl, sym, ap, ◌∙◌, subst}
use mathlib.Core.Bool.{Bool, true, false, cond}
use mathlib.Core.List.{List, [], ◌∷◌, zip_with}
use Prim.Native.Nat.{ℕ, suc, ◌*◌}
use native.Mathlib.Omega.{arith}
use lib.ListN.{length}
use Rattle.written.specs.Bytes.{Span}
use Rattle.written.specs.Said as says
use Rattle.written.specs.Linking.{alone, alike, NotSingle}
use Rattle.written.specs.Tables.{LinesOf}
use Rattle.written.specs.TreeText.{Parted, last as only, next as then, Parting, LineParting, LineAt, BodyAt, one, none, lines, TreeAt, tree, TreesAt, trees, Says, without, with_questions}
use Rattle.written.specs.Trailer.{TrailerRows}
use Rattle.tree_reference.specs.References.{index_of, same_index}
use Rattle.tree_reference.proofs.Same.{same_index_lem, index_same}
use Rattle.tree_line.specs.Lines.{line_of}
use Rattle.tree_body.specs.Trees.{Tree, body_of, tree_of}
use Rattle.trail_rows.specs.Rows.{row_lines, body_row, tree_row, rows_of}

-- three numbers a row
pub rows_length : (m : ℕ) (ts : List Tree) → length (rows_of m ts) ≡ 3 * length ts
unfolding rows_of
rows_length m [] = refl
rows_length m (t ∷ ts) = omega (arith, rows_length m ts)

one_line : (l : says.Line) (w : Span) → LinesOf (says.braces (l ∷ [])) (row_lines (line_of l w ∷ []))
one_line l w = go (same_index (index_of l.no) (index_of l.yes)) refl
  where
    not_alike : same_index (index_of l.no) (index_of l.yes) ≡ false → NotSingle (l ∷ [])
    not_alike q r (alike a b) =
        let e : l.no ≡ l.yes = a ∙ sym b in
        let u : ◌≡◌ {A = Bool} true false = sym (same_index_lem l.no) ∙ ap (λ (x : says.Ref). same_index (index_of l.no) (index_of x)) e ∙ q in
        let z : ◌≡◌ {A = ℕ} 0 1 = cc in omega arith

    go : (b : Bool) → same_index (index_of l.no) (index_of l.yes) ≡ b → LinesOf (says.braces (l ∷ [])) (cond b 0 1)
    go true q = LinesOf.single (alike {r = l.yes} (index_same l.no l.yes q) refl)
    go false q = LinesOf.lines (not_alike q)

several : {l k : says.Line} {ls : List says.Line} → NotSingle (l ∷ (k ∷ ls))
several r h = elim h [ ]

no_lines : NotSingle []
no_lines r h = elim h [ ]

module _ {s : List ℕ} where
  zipped : {i j : ℕ} {ls : List says.Line} {ws : List Span} → Parted (LineParting s) (LineAt s) i j ls ws → length (zip_with line_of ls ws) ≡ length ls
  unfolding zip_with
  zipped (only t) = refl
  zipped (then t p r) = ap suc (zipped r)

  lines_of : {i j : ℕ} {ls : List says.Line} {ws : List Span} → Parted (LineParting s) (LineAt s) i j ls ws → LinesOf (says.braces ls) (row_lines (zip_with line_of ls ws))
  unfolding zip_with
  lines_of (only {x = l} {y = w} t) = one_line l w
  lines_of (then {x = l} t p (only {x = k} u)) = LinesOf.lines (several {l = l} {k = k})
  lines_of (then {x = l} t p (then {x = k} {xs = ls} u q r)) =
      subst (LinesOf (says.braces (l ∷ (k ∷ ls)))) (sym (ap (λ (n : ℕ). suc (suc n)) (zipped r))) (LinesOf.lines (several {l = l} {k = k}))

  -- the lines of a tree's row
  pub body_row_lem : {i j : ℕ} {t : says.Body} {ws : List Span} → BodyAt s i j t ws → LinesOf t (body_row (body_of t ws))
  unfolding zip_with
  body_row_lem (one r) = LinesOf.single alone
  body_row_lem (none o b z) = LinesOf.lines no_lines
  body_row_lem (lines o b ls c z) = lines_of ls

  tree_row_lem : {i j : ℕ} {t : says.Tree} {u : says.TreePlace} → TreeAt s i j t u → LinesOf t.body (tree_row (tree_of t u))
  tree_row_lem (tree w a o x c b t) = body_row_lem t

  parted_rows : (m : ℕ) {i j : ℕ} {ts : List says.Tree} {us : List says.TreePlace} → Parted (Parting s) (TreeAt s) i j ts us → TrailerRows m ts us (rows_of m (zip_with tree_of ts us))
  unfolding zip_with rows_of
  parted_rows m (only t) = TrailerRows.more (tree_row_lem t) TrailerRows.none
  parted_rows m (then t p r) = TrailerRows.more (tree_row_lem t) (parted_rows m r)

  trees_rows : (m : ℕ) {i : ℕ} {ts : List says.Tree} {us : List says.TreePlace} → TreesAt s i ts us → TrailerRows m ts us (rows_of m (zip_with tree_of ts us))
  trees_rows m (trees a p b) = parted_rows m p

  -- of a text
  pub text_rows_lem : (m : ℕ) {i : ℕ} {t : says.Text} {l : says.Layout} → Says s i t l → TrailerRows m t.trees l.trees (rows_of m (zip_with tree_of t.trees l.trees))
  text_rows_lem m (without t) = trees_rows m t
  text_rows_lem m (with_questions p t) = trees_rows m t
