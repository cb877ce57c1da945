-- The lines of a section while they are read: what is left answers as the whole does. One law for each way out of a turn; and what a `Line` says of the
-- line that it stands for.
use mathlib.Core.Path.{◌≡◌, refl, sym, ap, ◌∙◌, subst}
use mathlib.Core.Bool.{Bool}
use mathlib.Core.List.{List, [], ◌∷◌, ◌++◌}
use Prim.Native.Nat.{ℕ, zero, suc, ◌-◌, ◌≤◌, ◌<◌}
use native.Mathlib.Omega.{arith}
use lib.ListN.{length}
use Rattle.std.specs.Prelude.{Option, Some, None, Result, Ok, Err}
use Rattle.written.specs.HeaderText.{Field, Entry}
use Rattle.error.specs.declared.Refusal.{Refusal}
use Rattle.head_de.specs.Values.{cursor}
use Rattle.head_fields.specs.Fields.{field_index}
use Rattle.head_lines.specs.Lines.{Next, entry, end, wrong, line_at, line_in, marked, whole, faulty, onward, lines_from, unseen, lines_at, onward_read, read_from, lines_read, kept}
use Rattle.head_de_values.specs.Values.{value_of}
use Rattle.head_lines.specs.declared.Line.{Line}
use Rattle.head_lines.proofs.Moves.{no, line_moves}

-- ---- what a `Line` says

pub record IsEntry (T : List Field) (n : Next) (l : Line) : Type 0 where
  pub line : Entry
  pub same : n ≡ entry line l.next.at
  pub field : l.field ≡ field_index T line.name
  pub value : l.value ≡ value_of line.value

pub entry_of : (T : List Field) (n : Next) {l : Line} → line_in T n ≡ Ok (Some l) → IsEntry T n l
entry_of T (entry x j) {l} e =
    let f : ◌≡◌ {A = Line} (record { field = field_index T x.name; value = value_of x.value; next = cursor j }) l = cc in
    record { line = x; same = ap (λ (k : Line). entry x k.next.at) f; field = sym (ap (λ (k : Line). k.field) f); value = sym (ap (λ (k : Line). k.value) f) }
entry_of T end e = no cc
entry_of T (wrong r) e = no cc

pub end_of : (T : List Field) (n : Next) → line_in T n ≡ Ok None → n ≡ end
end_of T (entry x j) e = no cc
end_of T end e = refl
end_of T (wrong r) e = no cc

pub wrong_of : (T : List Field) (n : Next) {q : Refusal} → line_in T n ≡ Err q → n ≡ wrong q
wrong_of T (entry x j) e = no cc
wrong_of T end e = no cc
wrong_of T (wrong r) {q} e = let f : r ≡ q = cc in ap wrong f

-- ---- the lines

module _ (T : List Field) (s : List ℕ) (i₀ : ℕ) where
  -- xs stand before `at`, whose fields m has, and what is left gives the answer
  pub record Going (at : ℕ) (m : List Bool) (xs : List Entry) : Type 0 where
    pub fuel : ℕ
    pub enough : length s - at ≤ fuel
    pub same : lines_at T s i₀ ≡ lines_from (suc fuel) T s m xs at
    pub same_read : lines_read T s i₀ ≡ read_from (suc fuel) T s m xs at

  pub going_first : Going i₀ unseen []
  unfolding lines_at lines_read
  going_first = record { fuel = length s; enough = omega arith; same = refl; same_read = refl }

  module _ {at : ℕ} {m : List Bool} {xs : List Entry} (g : Going at m xs) where
    turn : (n : Next) → line_at T m s at ≡ n → lines_at T s i₀ ≡ onward (lines_from g.fuel T s) T m xs n
    unfolding lines_from
    turn n e = g.same ∙ ap (onward (lines_from g.fuel T s) T m xs) e

    turn_read : (n : Next) → line_at T m s at ≡ n → lines_read T s i₀ ≡ onward_read (read_from g.fuel T s) T m xs n
    unfolding read_from
    turn_read n e = g.same_read ∙ ap (onward_read (read_from g.fuel T s) T m xs) e

    pub lines_end : line_at T m s at ≡ end → lines_at T s i₀ ≡ whole m xs
    lines_end e = turn end e

    pub lines_wrong : {r : Refusal} → line_at T m s at ≡ wrong r → lines_at T s i₀ ≡ faulty r
    lines_wrong {r} e = turn (wrong r) e

    -- and what was read by then
    pub read_end : line_at T m s at ≡ end → lines_read T s i₀ ≡ xs
    read_end e = turn_read end e

    pub read_wrong : {r : Refusal} → line_at T m s at ≡ wrong r → lines_read T s i₀ ≡ xs
    read_wrong {r} e = turn_read (wrong r) e

    pub lines_on : {x : Entry} {j : ℕ} → line_at T m s at ≡ entry x j → (Going j (marked (length T) m (field_index T x.name)) (xs ++ (x ∷ []))) × (length s - j < length s - at)
    lines_on {x} {j} e =
        let h = line_moves T m s at e in
        let k : suc (g.fuel - 1) ≡ g.fuel = omega (arith, g.enough, h.0) in
        (record { fuel = g.fuel - 1; enough = omega (arith, g.enough, h.1); same = rw k (turn (entry x j) e); same_read = rw k (turn_read (entry x j) e) }, omega (arith, h.0, h.1))

-- a turn that reads a line
pub record Turned (T : List Field) (s : List ℕ) (i₀ : ℕ) (at : ℕ) (m : List Bool) (xs : List Entry) (l : Line) : Type 0 where
  pub line : Entry
  pub field : l.field ≡ field_index T line.name
  pub value : l.value ≡ value_of line.value
  pub going : Going T s i₀ l.next.at (marked (length T) m l.field) (xs ++ (line ∷ []))
  pub less : length s - l.next.at < length s - at

pub turned : (T : List Field) (s : List ℕ) (i₀ : ℕ) {at : ℕ} {m : List Bool} {xs : List Entry} {r : Result (Option Line) Refusal} {l : Line} → Going T s i₀ at m xs → r ≡ line_in T (line_at T m s at)
    → r ≡ Ok (Some l) → Turned T s i₀ at m xs l
turned T s i₀ {at} {m} {xs} {r} {l} g e f =
    let i = entry_of T (line_at T m s at) (sym e ∙ f) in
    let o = lines_on T s i₀ g i.same in
    record { line = i.line; field = i.field; value = i.value; going = subst (λ (n : ℕ). Going T s i₀ l.next.at (marked (length T) m n) (xs ++ (i.line ∷ []))) (sym i.field) o.0; less = o.1 }

-- where none is refused, they are the lines
module _ (T : List Field) (s : List ℕ) {n : List Bool} {ys : List Entry} where
  whole_next : (m : List Bool) (xs : List Entry) (f : ℕ) → ((m : List Bool) (xs : List Entry) (k : ℕ) → lines_from f T s m xs k ≡ whole n ys → read_from f T s m xs k ≡ ys)
      → (l : Next) → onward (lines_from f T s) T m xs l ≡ whole n ys → onward_read (read_from f T s) T m xs l ≡ ys
  whole_next m xs f h (entry x j) q = h _ _ j q
  whole_next m xs f h end q = let o : xs ≡ ys = cc in o
  whole_next m xs f h (wrong r) q = no cc

  whole_from : (f : ℕ) (m : List Bool) (xs : List Entry) (k : ℕ) → lines_from f T s m xs k ≡ whole n ys → read_from f T s m xs k ≡ ys
  unfolding lines_from read_from
  whole_from zero m xs k q = let o : xs ≡ ys = cc in o
  whole_from (suc f) m xs k q = whole_next m xs f (whole_from f) (line_at T m s k) q

  pub whole_read : (i : ℕ) → lines_at T s i ≡ whole n ys → lines_read T s i ≡ ys
  unfolding lines_at lines_read
  whole_read i e = whole_from (suc (length s)) unseen [] i e

-- ---- what is kept of them

pub kept_more : {A : Type 0} (f : A → Entry → A) (a : A) (xs : List Entry) (x : Entry) → kept f a (xs ++ (x ∷ [])) ≡ f (kept f a xs) x
unfolding kept
kept_more f a [] x = refl
kept_more f a (y ∷ xs) x = kept_more f (f a y) xs x
