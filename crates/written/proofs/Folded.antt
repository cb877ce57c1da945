-- A model's tree rows, what the text says and what the block says folded into one row a tree: how many there are, how long each is, which stand where.
--     first-four       a tree row's first four numbers are what the text says of it: text that is written back fixes just these
--     folded-there     what the text says of a tree stands in that tree's row, with its block behind
use mathlib.Core.Path.{◌≡◌, refl, sym, ap, ◌∙◌, subst}
use mathlib.Core.List.{List, [], ◌∷◌, zip_with}
use Prim.Native.Nat.{ℕ, zero, suc}
use native.Mathlib.Omega.{arith}
use lib.ListN.{length, take, length-append}
use lib.Seq.{take_at}
use Rattle.written.specs.Said.{Tree, Question}
use Rattle.written.specs.Blocks as block
use Rattle.written.specs.Linking.{Nth, here, there, Row}
use Rattle.written.specs.Tables.{TreeRows, none, more, tree_row, folded}
use Rattle.written.proofs.Walk.{no_row}

-- ---- rows of one width

abbrev pub Wide : ℕ → List Row → Type 0
Wide w rows = (k : ℕ) (r : Row) → Nth rows k r → length r ≡ w

pub wide_rest : {w : ℕ} {r : Row} {rows : List Row} → Wide w (r ∷ rows) → Wide w rows
wide_rest f k x h = f (suc k) x (there h)

pub wide_none : {w : ℕ} → Wide w []
wide_none k r h = absurd (no_row h)

pub wide_more : {w : ℕ} {r : Row} {rows : List Row} → length r ≡ w → Wide w rows → Wide w (r ∷ rows)
wide_more e f k x here = e
wide_more e f k x (there {k = j} h) = f j x h

-- what the text says of a tree are four numbers
pub wide_text : {qs : List Question} {f : ℕ} {ts : List Tree} {trees records : List Row} → TreeRows qs f ts trees records → Wide 4 trees
wide_text none = wide_none
wide_text (more s r l w) = wide_more refl (wide_text w)

-- ---- folded rows

pub length-folded : (ts : List Row) (bs : List block.Row) → length ts ≡ length bs → length (folded ts bs) ≡ length ts
unfolding zip_with
length-folded [] [] e = refl
length-folded [] (b ∷ bs) e = absurd (omega arith)
length-folded (r ∷ ts) [] e = absurd (omega arith)
length-folded (r ∷ ts) (b ∷ bs) e = ap suc (length-folded ts bs (omega arith))

nth_cases : {x : Row} {rows : List Row} {i : ℕ} {r : Row} (P : ℕ → Row → Type 0) → P zero x → ((k : ℕ) (y : Row) → Nth rows k y → P (suc k) y) → Nth (x ∷ rows) i r → P i r
nth_cases P a b here = a
nth_cases P a b (there {x = y} {k = k} h) = b k y h

pub wide_folded : (ts : List Row) (bs : List block.Row) → Wide 4 ts → Wide 6 (folded ts bs)
unfolding zip_with
wide_folded [] bs f k r h = absurd (no_row h)
wide_folded (t ∷ ts) [] f k r h = absurd (no_row h)
wide_folded (t ∷ ts) (b ∷ bs) f k r h =
    let four : length t ≡ 4 = f 0 t here in
    nth_cases (λ (i : ℕ) (r : Row). length r ≡ 6) (length-append t (b.first ∷ b.entries ∷ []) ∙ omega arith) (λ k y g. wide_folded ts bs (wide_rest f) k y g) h

pub folded_there : {ts : List Row} (bs : List block.Row) {i : ℕ} {r : Row} → length bs ≡ length ts → Nth ts i r → (b : block.Row) × Nth (folded ts bs) i (tree_row r b)
unfolding zip_with
folded_there [] e here = absurd (omega arith)
folded_there (b ∷ bs) e here = (b, here)
folded_there [] e (there h) = absurd (omega arith)
folded_there (b ∷ bs) e (there h) = let f = folded_there bs (omega arith) h in (f.0, there f.1)

front_four : (ts : List Row) (bs : List block.Row) → Wide 4 ts → {i : ℕ} {r : Row} → Nth (folded ts bs) i r → Nth ts i (take 4 r)
unfolding zip_with
front_four [] bs f h = absurd (no_row h)
front_four (t ∷ ts) [] f h = absurd (no_row h)
front_four (t ∷ ts) (b ∷ bs) f h =
    nth_cases (λ (i : ℕ) (r : Row). Nth (t ∷ ts) i (take 4 r)) (subst (Nth (t ∷ ts) zero) (sym (take_at t (b.first ∷ b.entries ∷ []) 4 (f 0 t here))) here)
    (λ k y g. there (front_four ts bs (wide_rest f) g)) h

pub first_four : {qs : List Question} {f : ℕ} {ts : List Tree} {trees records : List Row} (bs : List block.Row) → TreeRows qs f ts trees records
    → {i : ℕ} {r : Row} → Nth (folded trees bs) i r → Nth trees i (take 4 r)
first_four {trees = trees} bs w h = front_four trees bs (wide_text w) h
