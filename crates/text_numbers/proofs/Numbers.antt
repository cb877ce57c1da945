-- The laws of `unsignedFrom`: a digit more, the end of the digits, and a number that is too large already.
use Prim.Native.Nat.{ℕ, zero, suc, ◌+◌, ◌*◌, ◌-◌, ◌^◌, ◌≤◌, ◌<◌}
use mathlib.Core.Path.{◌≡◌, refl, ap}
use mathlib.Core.Bool.{Bool, true, false, ◌&&◌}
use mathlib.Core.List.{List, [], ◌∷◌}
use native.Mathlib.Omega.{arith}
use borrow.Author.Tests.{lt-ltb, le-ltb, leb-true}
use lib.Dec.{leb}
use lib.ListN.{length, get_or, drop}
use Rattle.text_numbers.specs.declared.NumberError.TheVariants as fault
use Rattle.text_parts.specs.Parts.{read_to}
use Rattle.std.specs.Prelude.{Ok, Err}
use Rattle.written.specs.Bytes.{digit, decimal}
use Rattle.laws.specs.Runs.{run}
use Rattle.laws.proofs.Ranges.{at}
use Rattle.laws.proofs.Runs.{run_on, run_here, run_end, stop_on, stop_here, stop_end, byte_is, byte_out}
use Rattle.text_numbers.specs.Answers.{unsigned_of, unsigned_from, unsigned_at}

both : (a b : Bool) → a && b ≡ true → (a ≡ true) × (b ≡ true)
both true b e = (refl, e)
both false b e = (e, cc)

-- a digit's byte is 48 to 57
pub digit-range : (x : ℕ) → digit x ≡ true → (48 ≤ x) × (x ≤ 57)
unfolding digit
digit-range x e = let b = both (leb 48 x) (leb x 57) e in (leb-true 48 x b.0, leb-true x 57 b.1)

-- more digits say no smaller number
decimal_grows : (n : ℕ) (xs : List ℕ) → n ≤ decimal n xs
unfolding decimal
decimal_grows n [] = omega arith
decimal_grows n (x ∷ xs) = omega (arith, decimal_grows (n * 10 + (x - 48)) xs)

module _ (n : ℕ) (s : List ℕ) (i : ℕ) where
  pub from_on : i < length s → digit (get_or s i 0) ≡ true → unsigned_from n s i ≡ unsigned_from (n * 10 + (get_or s i 0 - 48)) s (i + 1)
  unfolding unsigned_from decimal
  from_on h e = rw (run_on digit s i h e, stop_on digit s i h e)

  pub from_here : i < length s → digit (get_or s i 0) ≡ false → n < 2 ^ 64 → unsigned_from n s i ≡ Ok (read_to n i)
  unfolding unsigned_from decimal unsigned_of
  from_here h e b = rw (run_here digit s i h e, stop_here digit s i h e, lt-ltb n (2 ^ 64) b)

  pub from_end : length s ≤ i → n < 2 ^ 64 → unsigned_from n s i ≡ Ok (read_to n i)
  unfolding unsigned_from decimal unsigned_of
  from_end h b = rw (run_end digit s i h, stop_end digit s i h, lt-ltb n (2 ^ 64) b)

  pub from_big : 2 ^ 64 ≤ n → unsigned_from n s i ≡ (Err fault.TooLarge)
  unfolding unsigned_from unsigned_of
  from_big b = rw (le-ltb (decimal n (run digit (drop i s))) (2 ^ 64) (omega (arith, decimal_grows n (run digit (drop i s)))))

module _ (s : List ℕ) (i : ℕ) where
  pub at_end : length s ≤ i → unsigned_at s i ≡ (Err fault.NoDigit)
  unfolding unsigned_at digit
  at_end h = rw (byte_out s i h)

  pub at_other : i < length s → digit (get_or s i 0) ≡ false → unsigned_at s i ≡ (Err fault.NoDigit)
  unfolding unsigned_at
  at_other h e = rw (byte_is s i h, e)

  pub at_digit : i < length s → digit (get_or s i 0) ≡ true → unsigned_at s i ≡ unsigned_from 0 s i
  unfolding unsigned_at
  at_digit h e = rw (byte_is s i h, e)

-- ---- numbers of few digits

-- one more than the largest number of k digits
unfoldable pub tens : ℕ → ℕ
tens zero = 1
tens (suc k) = 10 * tens k

-- nineteen digits fit 64 bits
pub tens_fit : (k : ℕ) → k ≤ 18 → tens k ≤ 1000000000000000000
unfolding tens
tens_fit k h = leb-true (tens k) 1000000000000000000 (at (λ n. leb (tens n) 1000000000000000000) 19 0 refl k (omega arith) (omega arith))

pub tens_start : (i : ℕ) → 0 < tens (i - i)
unfolding tens
tens_start i = let e : i - i ≡ 0 = omega arith in rw e (omega arith)

pub tens_on : (i j n x : ℕ) → i ≤ j → n < tens (j - i) → x ≤ 9 → n * 10 + x < tens (j + 1 - i)
unfolding tens
tens_on i j n x h l m = let e : j + 1 - i ≡ suc (j - i) = omega arith in omega (arith, ap tens e)
