-- What is done with one tree is what `written` says of it: with records exactly `Records`, in as many records and lines; refused exactly `Refused`, with that number and line.
-- Assumes that the question rows have the questions' names, and that the questions are fewer than 2^63: `Words` has both of a text.
use mathlib.Core.Path.{◌≡◌, refl, sym, ap, ◌∙◌, subst}
use mathlib.Core.Bool.{Bool, true, false, cond}
use mathlib.Core.List.Forall₂
use mathlib.Core.List.{List, [], ◌∷◌, zip_with, flatten}
use Prim.Native.Nat.{ℕ, ◌*◌, ◌^◌, ◌≤◌, ◌<◌}
use native.Mathlib.Omega.{arith}
use lib.IntN.{ℤ, pos}
use lib.Signed.{mag}
use lib.ListN.{length, get_or}
use Rattle.error.specs.declared.LineFault.{LineFault}
use Rattle.written.specs.Bytes.{Span}
use Rattle.written.specs.Said.{Ref, node, pdf, Line, Body, braces, Tree, TreePlace, Question}
use Rattle.written.specs.TreeText.{Parted, last, next, LineParting, LineAt, line, BodyAt, one, none, lines, TreeAt, tree}
use Rattle.written.specs.Linking as L
use Rattle.written.specs.Linking.{Nth, Single, alone, alike, NotSingle, Row, leaf, times, pdfs, Records, Refused}
use Rattle.written.specs.Tables as T
use Rattle.written.specs.Tables.{LinesOf}
use Rattle.written.proofs.Walk.{no_single}
use Rattle.link_order.specs.Keys.{name_at}
use Rattle.tree_reference.specs.References.{index_of, same_index}
use Rattle.tree_reference.proofs.Same.{same_index_lem, index_same}
use Rattle.tree_line.specs.Lines.{line_of}
use Rattle.tree_body.specs.Trees.{body_of, tree_of}
use Rattle.tree_survey_lines.specs.Counts.{records_of}
use Rattle.error.specs.Numbers.{fault_number}
use Rattle.link_tree.specs.Linked.{link_outcome, linked_rows, rows_after}
use Rattle.link_tree.proofs.Joined.{link_done, link_refused}
use Rattle.load_lines.specs.Words.{line_words}
use Rattle.load_lines.proofs.Decoded.{words_length}
use Rattle.load_tree.specs.Bodies.{filled, TreeResult, leaf_result, link_ends, link_result, lines_result, body_result}
use Rattle.load_tree.proofs.Laws.{lines_size}
use Rattle.load_tree.proofs.Joined as joined
use Rattle.load_tree.proofs.Joined.{Stand, work_says}
use Rattle.table_rows.proofs.Stand.{length-flat}
use Rattle.table_rows.proofs.Fours.{fours_records}
use Rattle.shown_text.proofs.Words.{zipped_length, name_stands, words_small}
use Rattle.load_tree.specs.declared.Filled.{Filled}
use Rattle.std.specs.Prelude.{Err, Ok, Result}

-- what `written` says of a tree that ends so, with these words
abbrev pub Verdict : List Question → Body → Result Filled LineFault → List ℕ → Type 0
Verdict qs t (Ok f) words = let record { records = m; lines = k } = f in (rows : List Row) × Records qs t rows × (flatten rows ≡ words) × (length rows ≡ m) × LinesOf t k
Verdict qs t (Err f) words = let record { fault = g; line = k } = f in Refused qs t (fault_number g) k

abbrev ResultVerdict : List Question → Body → TreeResult → Type 0
ResultVerdict qs t r = Verdict qs t r.ends r.rows

-- ---- a tree without lines to link

leaf_verdict : (qs : List Question) {t : Body} (r : Ref) → Single t r → ResultVerdict qs t (leaf_result (index_of r))
unfolding flatten
leaf_verdict qs (node x) s = L.Refused.single s
leaf_verdict qs (pdf n) s = (leaf n ∷ [], L.Records.single s, refl, refl, T.LinesOf.single s)

empty_verdict : (qs : List Question) → Verdict qs (braces []) (filled 0 0) []
unfolding flatten pdfs times
empty_verdict qs = ([], L.Records.lines [] (λ r h. no_single h) L.Ascending.none (λ n. refl) Forall₂.nil refl, refl, refl, T.LinesOf.lines (λ r h. no_single h))

-- ---- a tree whose lines are linked

not_alike : {l : Line} → same_index (index_of l.no) (index_of l.yes) ≡ false → NotSingle (l ∷ [])
not_alike {l} e r (alike a b) =
    let u : ◌≡◌ {A = Bool} true false = sym (same_index_lem l.yes) ∙ ap (λ (q : Ref). same_index (index_of q) (index_of l.yes)) (b ∙ sym a) ∙ e in
    let t : ◌≡◌ {A = ℕ} 0 1 = cc in omega arith

not_two : {l k : Line} {ls : List Line} → NotSingle (l ∷ k ∷ ls)
not_two r h = elim h [ ]

module _ (s words : List ℕ) (qs : List Question) (named : (e : ℕ) (q : Question) → Nth qs e q → name_at s words e ≡ q.name) (few : length qs < 2 ^ 63) where
  stand : {b c : ℕ} {ls : List Line} {ws : List Span} → Parted (LineParting s) (LineAt s) b c ls ws → Stand s words qs named ls ws
  stand (last (line x a n b l c r)) = joined.Stand.line (name_stands s n) joined.Stand.end
  stand (next (line x a n b l c r) p rest) = joined.Stand.line (name_stands s n) (stand rest)

  module _ {b c : ℕ} {ls : List Line} {ws : List Span} (p : Parted (LineParting s) (LineAt s) b c ls ws) (o : NotSingle ls) where
    link_verdict : lines_result s words (length qs) (zip_with line_of ls ws)
        ≡ link_result (line_words s words (length qs) (zip_with line_of ls ws)) (length (zip_with line_of ls ws)) (records_of (zip_with line_of ls ws))
        → ResultVerdict qs (braces ls) (lines_result s words (length qs) (zip_with line_of ls ws))
    unfolding link_result
    link_verdict same = subst (ResultVerdict qs (braces ls)) (sym same) (go (link_outcome W N) refl)
      where
        W : List ℤ
        W = line_words s words (length qs) (zip_with line_of ls ws)

        N : ℕ
        N = length (zip_with line_of ls ws)

        M : ℕ
        M = records_of (zip_with line_of ls ws)

        room : 6 * N ≤ length W
        room = omega (arith, words_length s words (length qs) (zip_with line_of ls ws))

        small : (i : ℕ) → mag (get_or W i (pos 0)) < 2 ^ 63
        small = words_small s words (length qs) few p

        go : (r : Result Unit LineFault) → link_outcome W N ≡ r → Verdict qs (braces ls) (link_ends N M r) (rows_after r (linked_rows W N) (4 * M))
        go (Ok tt) e =
            let d = link_done qs W N room small ls (work_says s words qs named ls ws (stand p)) e o in
            let z = lines_size s words (length qs) (zip_with line_of ls ws) {a = M} {b = N} (ap (λ (r : TreeResult). r.ends) same ∙ ap (link_ends N M) e) in
            let w : length (lines_result s words (length qs) (zip_with line_of ls ws)).rows ≡ length (linked_rows W N) = ap (λ (r : TreeResult). length r.rows) same ∙ ap (λ (r : Result Unit LineFault). length (rows_after r (linked_rows W N) (4 * M))) e in
            let many : length d.0 ≡ M = omega (arith, length-flat d.0 (fours_records d.1), ap length d.2, w, z.1) in
            (d.0, d.1, d.2, many, subst (LinesOf (braces ls)) (sym (zipped_length line_of p)) (T.LinesOf.lines o))
        go (Err r) e = link_refused qs W N room small ls (work_says s words qs named ls ws (stand p)) r.fault r.line e o

  lines_verdict : {b c : ℕ} {ls : List Line} {ws : List Span} → Parted (LineParting s) (LineAt s) b c ls ws → ResultVerdict qs (braces ls) (lines_result s words (length qs) (zip_with line_of ls ws))
  unfolding zip_with
  lines_verdict (last {x = l} {y = w} t) = go (same_index (index_of l.no) (index_of l.yes)) refl
    where
      W : List ℤ
      W = line_words s words (length qs) (line_of l w ∷ [])

      go : (b : Bool) → same_index (index_of l.no) (index_of l.yes) ≡ b
          → ResultVerdict qs (braces (l ∷ [])) (lines_result s words (length qs) (line_of l w ∷ []))
      go true e = subst (ResultVerdict qs (braces (l ∷ []))) (sym (ap (λ (b : Bool). cond b (leaf_result (index_of l.yes)) (link_result W 1 (records_of (line_of l w ∷ [])))) e))
          (leaf_verdict qs l.yes (alike (index_same l.no l.yes e) refl))
      go false e = link_verdict (last t) (not_alike e) (ap (λ (b : Bool). cond b (leaf_result (index_of l.yes)) (link_result W 1 (records_of (line_of l w ∷ [])))) e)
  lines_verdict (next t p (last u)) = link_verdict (next t p (last u)) not_two refl
  lines_verdict (next t p (next u q r)) = link_verdict (next t p (next u q r)) not_two refl

  body_verdict : {i j : ℕ} {t : Body} {ws : List Span} → BodyAt s i j t ws → ResultVerdict qs t (body_result s words (length qs) (body_of t ws))
  unfolding zip_with
  body_verdict (one {r = r} t) = leaf_verdict qs r alone
  body_verdict (none a b c) = empty_verdict qs
  body_verdict (lines a b p c d) = lines_verdict p

  pub tree_verdict : {i j : ℕ} {x : Tree} {y : TreePlace} → TreeAt s i j x y
      → Verdict qs x.body (body_result s words (length qs) (tree_of x y).body).ends (body_result s words (length qs) (tree_of x y).body).rows
  tree_verdict (tree a b c d e f t) = body_verdict t
