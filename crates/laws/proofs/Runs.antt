-- The laws of runs, over any test p: at a place the run goes on, or it stops there. Each loop that scans has `stop p s i ≡ stop p s at`
-- as its invariant, and cites `stop_on` for a turn and `stop_here` or `stop_past` for its exit.
--
use Prim.Native.Nat.{ℕ, ◌+◌, ◌≤◌, ◌<◌, max}
use mathlib.Core.Path.{◌≡◌, sym, ap, ◌∙◌}
use mathlib.Core.Bool.{Bool, true, false}
use mathlib.Core.List.{List, [], ◌∷◌}
use native.Mathlib.Numerals.{add-one}
use native.Mathlib.Omega.{arith}
use native.Mathlib.Decide.{dec_lt, dec_le}
use borrow.Author.Tests.{lt-ltb, le-ltb, eq-eqb, ne_eqb}
use lib.ListN.{length, get_or, drop, drop_of_length-le}
use lib.Seq.{drop-cons}
use Rattle.written.specs.Bytes.{byte_at}
use Rattle.laws.specs.Runs.{run, stop}

module _ (p : ℕ → Bool) (s : List ℕ) (i : ℕ) where
  pub run_on : i < length s → p (get_or s i 0) ≡ true → run p (drop i s) ≡ get_or s i 0 ∷ run p (drop (i + 1) s)
  unfolding run
  run_on h e = rw (drop-cons s i 0, e, add-one)

  pub run_here : i < length s → p (get_or s i 0) ≡ false → run p (drop i s) ≡ []
  unfolding run
  run_here h e = rw (drop-cons s i 0, e)

  pub run_end : length s ≤ i → run p (drop i s) ≡ []
  unfolding run
  run_end h = rw (drop_of_length-le s h)

  pub stop_on : i < length s → p (get_or s i 0) ≡ true → stop p s i ≡ stop p s (i + 1)
  unfolding stop
  stop_on h e = omega (arith, ap length (run_on h e))

  pub stop_here : i < length s → p (get_or s i 0) ≡ false → stop p s i ≡ i
  unfolding stop
  stop_here h e = omega (arith, ap length (run_here h e))

  pub stop_end : length s ≤ i → stop p s i ≡ i
  unfolding stop
  stop_end h = omega (arith, ap length (run_end h))

  pub stop_from : i ≤ stop p s i
  unfolding stop
  stop_from = omega arith

-- where a loop from `at` on has passed the end
pub stop_past : (p : ℕ → Bool) (s : List ℕ) (at i : ℕ) → stop p s i ≡ stop p s at → length s ≤ i → (at ≤ length s → i ≤ length s) → max at (length s) ≡ stop p s at
stop_past p s at i e h l =
    elim (dec_le at (length s)) [ yes u ↦ omega (arith, e, stop_end p s i h, l u) | no n ↦ omega (arith, stop_end p s at (omega arith)) ]

-- for the functions with such a loop
pub ruleset scanning = (stop_on, stop_here, stop_past, eq-eqb, ne_eqb)

-- past the end there is no byte, so a byte that is read stands inside
pub byte_out : (s : List ℕ) (i : ℕ) → length s ≤ i → byte_at s i ≡ 256
unfolding byte_at
byte_out s i h = rw (le-ltb i (length s) h)

pub byte_is : (s : List ℕ) (i : ℕ) → i < length s → byte_at s i ≡ get_or s i 0
unfolding byte_at
byte_is s i h = rw (lt-ltb i (length s) h)

pub byte_in : (s : List ℕ) (i : ℕ) {b : ℕ} → byte_at s i ≡ b → b < 256 → i < length s
byte_in s i e h = elim (dec_lt i (length s)) [ yes l ↦ l | no n ↦ absurd (omega (arith, byte_out s i (omega arith))) ]

-- the same of a byte that a function read
pub read_in : (s : List ℕ) (i : ℕ) {r b : ℕ} → r ≡ byte_at s i → r ≡ b → b < 256 → i < length s
read_in s i e q h = byte_in s i (sym e ∙ q) h
