-- The laws of the search for "\n[", and where a heading ends.
use mathlib.Core.Path.{◌≡◌, refl, sym, ap, ◌∙◌}
use mathlib.Core.Bool.{Bool, true, false, cond, ◌&&◌}
use mathlib.Core.List.{List}
use Prim.Native.Nat.{ℕ, suc, ◌+◌, ◌≤◌, ◌<◌}
use native.Mathlib.Numerals.{add-one}
use native.Mathlib.Omega.{arith}
use native.Mathlib.Decide.{dec_lt}
use borrow.Author.Tests.{ltb-true}
use lib.Dec.{eqb, ltb}
use lib.ListN.{length, get_or, drop, length-drop, drop_of_length-le}
use lib.Seq.{drop-cons, get_or-drop}
use Rattle.std.specs.Prelude.{None}
use Rattle.written.specs.Bytes.{newline, bracket, byte_at, part}
use Rattle.laws.proofs.Runs.{byte_is, byte_out}
use Rattle.text_parts.proofs.Parts.{part_in}
use Rattle.written_total.proofs.Total.{same_true}
use Rattle.head_lines.proofs.Moves.{no as never}
use Rattle.head_sections.specs.Split.{starts_at, break_in, break_here, break_at, text, text_to, section_at}
use Rattle.head_sections.specs.declared.Section.{Section}

-- the byte at a place, seen from a place before it
pub byte_from : (s : List ℕ) (i k : ℕ) → byte_at (drop i s) k ≡ byte_at s (i + k)
byte_from s i k = go (dec_lt (i + k) (length s))
  where
    go : Dec (i + k < length s) → byte_at (drop i s) k ≡ byte_at s (i + k)
    go (yes h) = byte_is (drop i s) k (omega (arith, length-drop i s)) ∙ get_or-drop i s k 0 ∙ sym (byte_is s (i + k) h)
    go (no h) = byte_out (drop i s) k (omega (arith, length-drop i s)) ∙ sym (byte_out s (i + k) (omega arith))

module _ (s : List ℕ) (i : ℕ) where
  here_in : i < length s → (eqb (get_or s i 0) newline && eqb (byte_at (drop (suc i) s) 0) bracket) ≡ break_here s i
  unfolding break_here
  here_in h = let e : suc i + 0 ≡ i + 1 = omega arith in rw (byte_from s (suc i) 0, e, byte_is s i h)

  pub break_here_lem : i < length s → break_here s i ≡ true → break_at s i ≡ i
  unfolding break_at break_in
  break_here_lem h e = rw (drop-cons s i 0 h, here_in h ∙ e) (omega arith)

  pub break_on : i < length s → break_here s i ≡ false → break_at s i ≡ break_at s (i + 1)
  unfolding break_at break_in
  break_on h e = rw (drop-cons s i 0 h, here_in h ∙ e, add-one) (omega arith)

  pub break_end : length s ≤ i → break_at s i ≡ i
  unfolding break_at break_in
  break_end h = rw (drop_of_length-le s h) (omega arith)

  pub break_from : i ≤ break_at s i
  unfolding break_at
  break_from = omega arith

-- a heading that stands at i ends inside
pub starts_in : (s : List ℕ) (i : ℕ) (w : List ℕ) → 0 < length w → starts_at s i w ≡ true → i + length w ≤ length s
unfolding starts_at
starts_in s i w h e =
    let p : length (part s i (length w)) ≡ length w = ap length (same_true (part s i (length w)) w e) in
    omega (arith, part_in s i (length w) (omega arith))

-- a section's text stands inside, before the "\n[" that ends it
pub section_in : (s : List ℕ) (i : ℕ) (w : List ℕ) {a e : ℕ} → section_at s i w ≡ text a e → (a ≤ e) × (e < length s)
unfolding section_at
section_in s i w {a} {e} f = go (starts_at s i w) f
  where
    to : (k b : ℕ) → k ≤ b → (t : Bool) → ltb b (length s) ≡ t → cond t (text k b) None ≡ text a e → (a ≤ e) × (e < length s)
    to k b h true g q = let z : ◌≡◌ {A = Section} (record { start = k; end = b }) (record { start = a; end = e }) = cc in let x : k ≡ a = ap (λ (v : Section). v.start) z in let y : b ≡ e = ap (λ (v : Section). v.end) z in (omega arith, omega (arith, ltb-true b (length s) g))
    to k b h false g q = never cc

    go : (t : Bool) → cond t (text_to s (i + length w) (break_at s (i + length w))) None ≡ text a e → (a ≤ e) × (e < length s)
    go true q = to (i + length w) (break_at s (i + length w)) (break_from s (i + length w)) (ltb (break_at s (i + length w)) (length s)) refl q
    go false q = never cc
