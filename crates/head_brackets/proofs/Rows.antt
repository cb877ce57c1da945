-- The laws of rows: where a group's name stands in a key, the rows while they are gone through, and the names that are known.
use mathlib.Core.Path.{◌≡◌, refl, sym, ap, ◌∙◌}
use mathlib.Core.Bool.{Bool, true, false, cond}
use mathlib.Core.List.{List, [], ◌∷◌}
use Prim.Native.Nat.{ℕ, zero, suc, ◌+◌, ◌-◌, ◌≤◌, ◌<◌}
use native.Mathlib.Omega.{arith}
use borrow.Author.Tests.{eqb-true, leb-false, le-leb, lt-leb}
use lib.Dec.{eqb, leb}
use lib.ListN.{length, get_or}
use Rattle.std.specs.Prelude.{Option, Some, None, Result, Ok, Err}
use Rattle.written.specs.Bytes.{newline, colon, bracket, unbracket, none_of, same, byte_at, part}
use Rattle.laws.specs.Runs.{stop}
use Rattle.laws.proofs.Runs.{stop_from, byte_in}
use Rattle.error.specs.declared.Refusal.{Refusal}
use Rattle.head_record.specs.Empty.{no_span}
use Rattle.text_parts.specs.declared.Span.{Span}
use Rattle.head_de.specs.declared.Cursor.{Cursor}
use Rattle.head_de.specs.declared.Read.{Read}
use Rattle.head_lines.specs.Lines.{key_at}
use Rattle.head_lines.proofs.Moves.{no, key_moves}
use Rattle.head_brackets.specs.Rows.{bracketed, split_at, split_of, split_row, key_row, row_of, row_at, onward_row, rows_from, rows_at, Going, on, stop_with, over_next, over, last_next, last_of, known_from}
use Rattle.text_parts.specs.Parts.{bytes_of}
use Rattle.head_brackets.specs.declared.Brackets.{Brackets}
use Rattle.head_brackets.specs.declared.Row.{Row}
use Rattle.head_brackets.specs.declared.RowAt.{RowAt}
use Rattle.head_brackets.specs.declared.RowAt.TheVariants as found

-- ---- a key

pub split_whole : (w : List ℕ) {k : Brackets} → split_of w ≡ Some k → k.field + k.name + 2 ≡ length w
unfolding split_of
split_whole w {k = x} e = go (eqb (byte_at w (length w - 1)) unbracket) (stop (none_of (bracket ∷ [])) w 0) e
  where
    at : (k : ℕ) (t : Bool) → leb (length w) (k + 1) ≡ t → cond t None (bracketed k (length w - k - 2)) ≡ Some x → x.field + x.name + 2 ≡ length w
    at k true f g = no cc
    at k false f g =
        let h : ◌≡◌ {A = Brackets} (record { field = k; name = length w - k - 2 }) x = cc in
        omega (arith, leb-false (length w) (k + 1) f, ap (λ (z : Brackets). z.field) h, ap (λ (z : Brackets). z.name) h)

    go : (t : Bool) (k : ℕ) → cond t (split_at (length w) k) None ≡ Some x → x.field + x.name + 2 ≡ length w
    go true k g = at k (leb (length w) (k + 1)) refl g
    go false k g = no cc

-- ---- rows

abbrev row_end : ℕ → RowAt → ℕ
row_end i (found.Found r) = r.end
row_end i (found.Other c) = c.at
row_end i found.End = i

-- behind a row or another line: inside, and further on
pub record Onward (s : List ℕ) (i j : ℕ) : Type 0 where
  pub inside : i < length s
  pub on : i < j

split_end : (a v e : ℕ) (x : Option Brackets) (i : ℕ) → row_end i (split_row a v e x) ≡ e
split_end a v e (Some k) i = refl
split_end a v e None i = refl

-- what is not the end ends where the value does
row_on : (s : List ℕ) (i : ℕ) (x : RowAt) → row_at s i ≡ x → (x ≡ found.End → ⊥) → Onward s i (row_end i x)
unfolding row_at key_row
row_on s i x e f = go (key_at s i) refl e
  where
    at : (a n k : ℕ) → i ≤ k → (t : Bool) → eqb (byte_at s k) colon ≡ t
        → cond t (split_row a (k + 1) (stop (none_of (newline ∷ [])) s (k + 1)) (split_of (part s a n))) found.End ≡ x → Onward s i (row_end i x)
    at a n k h true g q =
        let o = byte_in s k (eqb-true _ _ g) (omega arith) in
        let d : row_end i x ≡ stop (none_of (newline ∷ [])) s (k + 1) = ap (row_end i) (sym q) ∙ split_end a (k + 1) (stop (none_of (newline ∷ [])) s (k + 1)) (split_of (part s a n)) i in
        record { inside = omega arith; on = omega (arith, d, stop_from (none_of (newline ∷ [])) s (k + 1)) }
    at a n k h false g q = absurd (f (sym q))

    go : (d : Result (Option (Read Span)) Refusal) → key_at s i ≡ d → row_of s d ≡ x → Onward s i (row_end i x)
    go (Ok (Some y)) g q = at y.value.start y.value.len y.next.at (key_moves s i g) (eqb (byte_at s y.next.at) colon) refl q
    go (Ok None) g q = absurd (f (sym q))
    go (Err r) g q = absurd (f (sym q))

-- what is left of the rows
pub record Left (s : List ℕ) (at : ℕ) (rows : List Row) : Type 0 where
  pub fuel : ℕ
  pub enough : length s - at ≤ fuel
  pub same_rows : rows ≡ rows_from (suc fuel) s at

pub left_all : (s : List ℕ) (i : ℕ) → Left s i (rows_at s i)
unfolding rows_at
left_all s i = record { fuel = length s; enough = omega arith; same_rows = refl }

module _ (s : List ℕ) {at : ℕ} {rows : List Row} (g : Left s at rows) where
  turn : (x : RowAt) → row_at s at ≡ x → rows ≡ onward_row (rows_from g.fuel s) x
  unfolding rows_from
  turn x e = g.same_rows ∙ ap (onward_row (rows_from g.fuel s)) e

  pub left_none : row_at s at ≡ found.End → rows ≡ []
  left_none e = turn found.End e

  -- a row, and what is left behind it
  pub record Next (r : Row) : Type 0 where
    pub rest : List Row
    pub split_off : rows ≡ r ∷ rest
    pub left : Left s r.end rest
    pub less : length s - r.end < length s - at

  pub left_row : {r : Row} → row_at s at ≡ found.Found r → Next r
  left_row {r} e =
      let o = row_on s at (found.Found r) e (λ q. no cc) in
      let k : suc (g.fuel - 1) ≡ g.fuel = omega (arith, g.enough, o.inside) in
      record {
        rest = rows_from g.fuel s r.end;
        split_off = turn (found.Found r) e;
        left = record { fuel = g.fuel - 1; enough = omega (arith, g.enough, o.on); same_rows = rw k };
        less = omega (arith, o.inside, o.on);
      }

  pub left_other : {c : Cursor} → row_at s at ≡ found.Other c → (Left s c.at rows) × (length s - c.at < length s - at)
  left_other {c} e =
      let o = row_on s at (found.Other c) e (λ q. no cc) in
      let k : suc (g.fuel - 1) ≡ g.fuel = omega (arith, g.enough, o.inside) in
      (record { fuel = g.fuel - 1; enough = omega (arith, g.enough, o.on); same_rows = rw k (turn (found.Other c) e) }, omega (arith, o.inside, o.on))

-- ---- going through rows

module _ {A : Type 0} (f : A → Row → Going A) where
  pub over_on : (a : A) {b : A} (r : Row) (rs : List Row) → f a r ≡ on b → over f a (r ∷ rs) ≡ over f b rs
  unfolding over
  over_on a r rs e = rw e

  pub over_stop : (a : A) {q : Refusal} (r : Row) (rs : List Row) → f a r ≡ stop_with q → over f a (r ∷ rs) ≡ stop_with q
  unfolding over
  over_stop a r rs e = rw e

  pub over_none : (a : A) → over f a [] ≡ on a
  unfolding over
  over_none a = refl

  -- and what was made of them
  pub last_on : (a : A) {b : A} (r : Row) (rs : List Row) → f a r ≡ on b → last_of f a (r ∷ rs) ≡ last_of f b rs
  unfolding last_of
  last_on a r rs e = rw e

  pub last_stop : (a : A) {q : Refusal} (r : Row) (rs : List Row) → f a r ≡ stop_with q → last_of f a (r ∷ rs) ≡ a
  unfolding last_of
  last_stop a r rs e = rw e

  pub last_none : (a : A) → last_of f a [] ≡ a
  unfolding last_of
  last_none a = refl

  -- where none is refused, the two are one
  pub over_last : (a : A) (rs : List Row) {b : A} → over f a rs ≡ on b → last_of f a rs ≡ b
  unfolding over last_of
  over_last a [] {b} e = let q : a ≡ b = cc in q
  over_last a (r ∷ rs) {b} e = go (λ c q. over_last c rs q) (f a r) e
    where
      go : ((c : A) → over f c rs ≡ on b → last_of f c rs ≡ b) → (x : Going A) → over_next (λ c. over f c rs) x ≡ on b → last_next (λ c. last_of f c rs) a x ≡ b
      go h (on c) q = h c q
      go h (stop_with q) k = no cc

-- ---- names

module _ (s : List ℕ) (t : List Span) (n k : ℕ) (w : List ℕ) where
  pub known_on : k < n → k < 8 → same (bytes_of s (get_or t k no_span)) w ≡ false → known_from (n - k) s t k w ≡ known_from (n - (k + 1)) s t (k + 1) w
  unfolding known_from
  known_on h l e = let f : n - k ≡ suc (n - (k + 1)) = omega arith in rw (f, lt-leb 8 k l, e)

  pub known_here : k < n → k < 8 → same (bytes_of s (get_or t k no_span)) w ≡ true → known_from (n - k) s t k w ≡ true
  unfolding known_from
  known_here h l e = let f : n - k ≡ suc (n - (k + 1)) = omega arith in rw (f, lt-leb 8 k l, e)

  -- none past the first 8
  pub known_past : 8 ≤ k → known_from (n - k) s t k w ≡ known_from (n - (k + 1)) s t (k + 1) w
  unfolding known_from
  known_past l = none (n - k) k l ∙ sym (none (n - (k + 1)) (k + 1) (omega arith))
    where
      none : (m i : ℕ) → 8 ≤ i → known_from m s t i w ≡ false
      none zero i h = refl
      none (suc m) i h = rw (le-leb 8 i h)

  pub known_end : n ≤ k → known_from (n - k) s t k w ≡ false
  unfolding known_from
  known_end h = let f : n - k ≡ 0 = omega arith in rw f
