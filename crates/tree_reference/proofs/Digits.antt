-- The laws of `digitsFrom`: a digit more, and where the digits begin.
use mathlib.Core.Path.{◌≡◌, refl, sym, ap, ◌∙◌}
use mathlib.Core.Bool.{Bool, true, false, ◌||◌}
use mathlib.Core.List.{List}
use Prim.Native.Nat.{ℕ, zero, suc, ◌+◌, ◌≤◌, ◌<◌}
use native.Mathlib.Omega.{arith}
use borrow.Author.Tests.{le-leb, lt-leb}
use lib.Dec.{eqb}
use lib.ListN.{length, get_or}
use Rattle.written.specs.Bytes.{letter, digit, in_word, byte_at}
use Rattle.laws.proofs.Runs.{byte_is}
use Rattle.tree_reference.specs.References.{digits_from}

-- a step down, over the byte before e
pub from_digit : (s : List ℕ) (i e : ℕ) → i ≤ e → digit (byte_at s e) ≡ true → digits_from s i (suc e) ≡ digits_from s i e
unfolding digits_from
from_digit s i e l y = rw (le-leb i e l, y)

pub from_other : (s : List ℕ) (i e : ℕ) → i ≤ e → digit (byte_at s e) ≡ false → digits_from s i (suc e) ≡ suc e
unfolding digits_from
from_other s i e l n = rw (le-leb i e l, n)

-- the same as the loop has it
module _ (s : List ℕ) (i e : ℕ) (l : i ≤ e) (h : e < length s) where
  pub past_digit : digit (get_or s e 0) ≡ true → digits_from s i e ≡ digits_from s i (e + 1)
  past_digit y = let p : e + 1 ≡ suc e = omega arith in sym (ap (digits_from s i) p ∙ from_digit s i e l (ap digit (byte_is s e h) ∙ y))

  pub past_other : digit (get_or s e 0) ≡ false → e + 1 ≡ digits_from s i (e + 1)
  past_other n = let p : e + 1 ≡ suc e = omega arith in p ∙ sym (ap (digits_from s i) p ∙ from_other s i e l (ap digit (byte_is s e h) ∙ n))

pub from_end : (s : List ℕ) (i e : ℕ) → e ≤ i → digits_from s i e ≡ e
unfolding digits_from
from_end s i zero l = refl
from_end s i (suc e) l = rw (lt-leb i e (omega arith))

-- a digit is in a word
pub in_word_lem : (b : ℕ) → digit b ≡ true → in_word b ≡ true
unfolding in_word
in_word_lem b e = rw e (go (letter b))
  where
    go : (x : Bool) → ((x || true) || eqb b 95) ≡ true
    go true = refl
    go false = refl
