-- The readers of single values answer as `written` says: what is read is what the text says, and each refusal has the number and the place of what is wrong.
-- (That `written` allows no other answer is proved there.)
use mathlib.Core.Path.{◌≡◌, refl, sym, ap, ◌∙◌}
use mathlib.Core.Bool.{Bool, true, false, cond}
use mathlib.Core.List.{List, [], ◌∷◌}
use Prim.Native.Nat.{ℕ, ◌+◌, ◌-◌, ◌^◌, ◌≤◌, ◌<◌}
use native.Mathlib.Omega.{arith}
use native.Mathlib.Decide.{dec_lt}
use borrow.Author.Tests.{eqb-true, eqb-false, ltb-true, ltb-false}
use lib.Dec.{eqb, ltb}
use lib.ListN.{length, get_or, drop}
use Rattle.text_numbers.specs.declared.NumberError.TheVariants as fault
use Rattle.text_parts.specs.Parts.{read_to}
use Rattle.std.specs.Prelude.{Result, Ok, Err}
use Rattle.written.specs.Bytes.{quote, dash, digit, one_of, none_of, byte_at, At, Ends, over, met, part, between, decimal}
use Rattle.written.specs.HeaderText.{Text, Number, Flag, Led, swallowed, plain, Pair}
use Rattle.written.specs.HeaderText as says
use Rattle.written.specs.Faults.{NoText, NoNumber, no_digit, too_large, NoFlag, NoSecond, single, second, NoPair}
use Rattle.written.proofs.Tests.{differ}
use Rattle.laws.specs.Runs.{run, stop}
use Rattle.laws.proofs.Runs.{byte_is, byte_in, byte_out}
use Rattle.laws.proofs.Stops.{run_is, run-between}
use Rattle.laws.proofs.Cursor.{stop_each, bare_string, close, quoted_string, open_string, digit-run}
use Rattle.error.specs.Numbers as error
use Rattle.error.specs.declared.Refusal.{Refusal}
use Rattle.error.specs.declared.Refusal.TheVariants as refusal
use Rattle.head_record.specs.Empty.{span}
use Rattle.text_numbers.specs.Answers.{unsigned_of, unsigned_from, unsigned_at}
use Rattle.head_de.specs.Values.{cursor, got, ends_at, text_at, number_of, number_at, flag_at, delimiter_at, element_of, element_at, second_of, first_of, pair_at}
use Rattle.head_de.specs.Readings.{Reading, read, refused, of_text, of_plain, of_pair}
use Rattle.head_de.specs.declared.Read.{Read}
use Rattle.head_de.specs.declared.Delimiter.{Delimiter}
use Rattle.head_de.specs.declared.Delimiter.TheVariants as delimiter
use Rattle.head_de.proofs.Moves.{inside}

-- what is read from i on is what R says, or the refusal is one that N has, with its number and place
pub data Answers {A : Type 0} (s : List ℕ) (i : ℕ) (R : A → ℕ → Type 0) (N : ℕ → ℕ → Type 0) : Reading A → Type 0 where
  right : {a : A} {j : ℕ} → i ≤ j → j ≤ length s → R a j → Answers s i R N (read a j)
  wrong : {r : Refusal} → N (error.number_of r) (error.place_of r) → Answers s i R N (refused r)

-- ---- what stands at a place

pub at_byte : (s : List ℕ) (i b : ℕ) → b < 256 → eqb (byte_at s i) b ≡ true → At s i b
at_byte s i b h e = let k = byte_in s i (eqb-true _ _ e) h in record { inside = k; byte = sym (byte_is s i k) ∙ eqb-true _ _ e }

pub not_at : (s : List ℕ) (i b : ℕ) → eqb (byte_at s i) b ≡ false → ¬ At s i b
not_at s i b e a = eqb-false _ _ e (byte_is s i a.inside ∙ a.byte)

-- a text of bytes, as a slice is
pub record Bytes (s : List ℕ) : Type 0 where
  pub below : (k : ℕ) → get_or s k 0 < 256

pub at_end : {s : List ℕ} → Bytes s → (i : ℕ) → i ≤ length s → eqb (byte_at s i) 256 ≡ true → i ≡ length s
at_end {s} b i h e = go (dec_lt i (length s))
  where
    go : Dec (i < length s) → i ≡ length s
    go (yes l) = let f : get_or s i 0 ≡ 256 = sym (byte_is s i l) ∙ eqb-true _ _ e in absurd (omega (arith, b.below i))
    go (no n) = omega arith

pub before_end : (s : List ℕ) (i : ℕ) → eqb (byte_at s i) 256 ≡ false → i < length s
before_end s i e = inside s i (eqb-false _ _ e)

pub goes_on : (D s : List ℕ) (i : ℕ) → i < length s → one_of D (byte_at s i) ≡ false → ¬ Ends (one_of D) s i
goes_on D s i l e (over f) = omega arith
goes_on D s i l e (met k f) = differ {A = ⊥} (ap (one_of D) (byte_is s i k) ∙ f) e

pub ends_so : {s : List ℕ} → Bytes s → (D : List ℕ) (i : ℕ) → i ≤ length s → ends_at D s i ≡ true → Ends (one_of D) s i
unfolding ends_at
ends_so {s} b D i h e = go (eqb (byte_at s i) 256) refl e
  where
    go : (t : Bool) → eqb (byte_at s i) 256 ≡ t → cond t true (one_of D (byte_at s i)) ≡ true → Ends (one_of D) s i
    go true f g = over (at_end b i h f)
    go false f g = let l = before_end s i f in met l (ap (one_of D) (sym (byte_is s i l)) ∙ g)

pub ends_not : (D s : List ℕ) (i : ℕ) → ends_at D s i ≡ false → ¬ Ends (one_of D) s i
unfolding ends_at
ends_not D s i e = go (eqb (byte_at s i) 256) refl e
  where
    go : (t : Bool) → eqb (byte_at s i) 256 ≡ t → cond t true (one_of D (byte_at s i)) ≡ false → ¬ Ends (one_of D) s i
    go true f g = differ refl g
    go false f g = goes_on D s i (before_end s i f) g

-- what stands where a sequence with the delimiter a may go on
pub data Stands (a : ℕ) (D s : List ℕ) (i : ℕ) : Delimiter → Type 0 where
  passed : At s i a → Stands a D s i (delimiter.Passed (cursor (i + 1)))
  closed : Ends (one_of D) s i → Stands a D s i delimiter.Closed
  missing : ¬ At s i a → ¬ Ends (one_of D) s i → Stands a D s i delimiter.Missing

pub stands : {s : List ℕ} → Bytes s → (a : ℕ) (D : List ℕ) (i : ℕ) → a < 256 → i ≤ length s → Stands a D s i (delimiter_at a D s i)
unfolding delimiter_at
stands {s} b a D i h l = go (eqb (byte_at s i) 256) refl (eqb (byte_at s i) a) refl (one_of D (byte_at s i)) refl
  where
    go : (t : Bool) → eqb (byte_at s i) 256 ≡ t → (u : Bool) → eqb (byte_at s i) a ≡ u → (v : Bool) → one_of D (byte_at s i) ≡ v
        → Stands a D s i (cond t delimiter.Closed (cond u (delimiter.Passed (cursor (i + 1))) (cond v delimiter.Closed delimiter.Missing)))
    go true e u f v g = closed (over (at_end b i l e))
    go false e true f v g = passed (at_byte s i a h f)
    go false e false f true g = let k = before_end s i e in closed (met k (ap (one_of D) (sym (byte_is s i k)) ∙ g))
    go false e false f false g = missing (not_at s i a f) (goes_on D s i (before_end s i e) g)

-- a delimiter that is not open does not end what is open
pub not_ends : (D s : List ℕ) (i a : ℕ) → one_of D a ≡ false → At s i a → ¬ Ends (one_of D) s i
not_ends D s i a e h (over f) = omega (arith, h.inside)
not_ends D s i a e h (met k f) = differ {A = ⊥} (ap (one_of D) (sym h.byte) ∙ f) e

-- ---- strings

pub text_sound : (D s : List ℕ) (i : ℕ) → i ≤ length s → Answers s i (Text D s i) (NoText s i) (of_text (text_at D s i))
unfolding text_at
text_sound D s i h = go (eqb (byte_at s i) quote) refl
  where
    shut : At s i quote → (t : Bool) → ltb (close s i) (length s) ≡ t
        → Answers s i (Text D s i) (NoText s i) (of_text (cond t (got (span (i + 1) (close s i - (i + 1))) (close s i + 1)) (Err (refusal.Eof (length s)))))
    shut a true e =
        let l = ltb-true (close s i) (length s) e in
        let k : i + 1 ≤ length s = omega (arith, a.inside) in
        let o = stop_each (none_of (quote ∷ [])) s (i + 1) k in
        right {j = close s i + 1} (omega (arith, o.order)) (omega arith) (quoted_string D s i a l)
    shut a false e = wrong (open_string s i a (ltb-false (close s i) (length s) e))

    go : (t : Bool) → eqb (byte_at s i) quote ≡ t
        → Answers s i (Text D s i) (NoText s i)
        (of_text (cond t (cond (ltb (close s i) (length s)) (got (span (i + 1) (close s i - (i + 1))) (close s i + 1)) (Err (refusal.Eof (length s)))) (got (span i (stop (none_of D) s i - i)) (stop (none_of D) s i))))
    go true e = shut (at_byte s i quote (omega arith) e) (ltb (close s i) (length s)) refl
    go false e = let o = stop_each (none_of D) s i h in right o.order o.inside (bare_string D s i h (not_at s i quote e))

-- ---- numbers and bools

digit_past : digit 256 ≡ false
unfolding digit
digit_past = refl

digits_part : (s : List ℕ) (i : ℕ) → part s i (stop digit s i - i) ≡ run digit (drop i s)
unfolding between digit
digits_part s i = run-between digit refl s (run_is digit refl s i)

pub number_sound : {s : List ℕ} → Bytes s → (i : ℕ) → i ≤ length s → Answers s i (Number s i) (NoNumber s i) (of_plain (number_at s i))
unfolding number_at unsigned_at unsigned_from unsigned_of
number_sound {s} b i h = go (digit (byte_at s i)) refl
  where
    n : ℕ
    n = decimal 0 (run digit (drop i s))

    same : decimal 0 (part s i (stop digit s i - i)) ≡ n
    same = ap (decimal 0) (digits_part s i)

    size : i < length s → digit (get_or s i 0) ≡ true → (t : Bool) → ltb n (2 ^ 64) ≡ t
        → Answers s i (Number s i) (NoNumber s i) (of_plain (number_of s i (cond t (Ok (read_to n (stop digit s i))) (Err fault.TooLarge))))
    size l d true e =
        let k = digit-run s i l d in
        right k.digits.order k.digits.inside (record { digits = k; says = same; fits = ltb-true n (2 ^ 64) e })
    size l d false e = wrong (too_large (digit-run s i l d) (omega (arith, same, ltb-false n (2 ^ 64) e)))

    none : digit (byte_at s i) ≡ false → (t : Bool) → eqb (byte_at s i) 256 ≡ t
        → Answers s i (Number s i) (NoNumber s i) (of_plain {A = ℕ} (cond t (Err (refusal.Eof (length s))) (Err (refusal.ExpectedInteger i))))
    none d true e = wrong (NoNumber.over (at_end b i h e))
    none d false e = let l = before_end s i e in wrong (no_digit l (ap digit (sym (byte_is s i l)) ∙ d))

    go : (t : Bool) → digit (byte_at s i) ≡ t
        → Answers s i (Number s i) (NoNumber s i) (of_plain (number_of s i (cond t (cond (ltb n (2 ^ 64)) (Ok (read_to n (stop digit s i))) (Err fault.TooLarge)) (Err fault.NoDigit))))
    go true e = there (dec_lt i (length s))
      where
        there : Dec (i < length s) → Answers s i (Number s i) (NoNumber s i) (of_plain (number_of s i (cond (ltb n (2 ^ 64)) (Ok (read_to n (stop digit s i))) (Err fault.TooLarge))))
        there (yes l) = size l (ap digit (sym (byte_is s i l)) ∙ e) (ltb n (2 ^ 64)) refl
        there (no l) = differ e (ap digit (byte_out s i (omega arith)) ∙ digit_past)
    go false e = none e (eqb (byte_at s i) 256) refl

pub flag_sound : {s : List ℕ} → Bytes s → (i : ℕ) → i ≤ length s → Answers s i (Flag s i) (NoFlag s i) (of_plain (flag_at s i))
unfolding flag_at one_of
flag_sound {s} b i h = go (eqb (byte_at s i) 256) refl (eqb (byte_at s i) 48) refl (eqb (byte_at s i) 49) refl
  where
    go : (t : Bool) → eqb (byte_at s i) 256 ≡ t → (u : Bool) → eqb (byte_at s i) 48 ≡ u → (v : Bool) → eqb (byte_at s i) 49 ≡ v
        → Answers s i (Flag s i) (NoFlag s i) (of_plain (cond t (Err (refusal.Eof (length s))) (cond u (got false (i + 1)) (cond v (got true (i + 1)) (Err (refusal.ExpectedBool i))))))
    go true e u f v g = wrong (NoFlag.over (at_end b i h e))
    go false e true f v g = let l = before_end s i e in right {j = i + 1} (omega arith) (omega arith) (Flag.zero (at_byte s i 48 (omega arith) f) refl refl)
    go false e false f true g = let l = before_end s i e in right {j = i + 1} (omega arith) (omega arith) (Flag.one (at_byte s i 49 (omega arith) g) refl refl)
    go false e false f false g =
        let l = before_end s i e in
        wrong (NoFlag.other l (rw (sym (byte_is s i l), f, g)))

-- ---- pairs

module _ {s : List ℕ} (b : Bytes s) (D : List ℕ) (open-dash : one_of D dash ≡ false) where
  -- behind the first number
  second_sound : (i k a m : ℕ) → i ≤ k → k ≤ m → m ≤ length s → Led dash s i k → Number s k a m
      → Answers s i (Pair s i) (NoPair D s i) (of_pair (second_of a (element_at D false s m)))
  unfolding element_at
  second_sound i k a m x y z led f = go (delimiter_at dash D s m) (stands b dash D m (omega arith) z)
    where
      last : At s m dash → (x : Result (Read ℕ) Refusal) → Answers s (m + 1) (Number s (m + 1)) (NoNumber s (m + 1)) (of_plain x) → Answers s i (Pair s i) (NoPair D s i) (of_pair (second_of a x))
      last d (Ok y) (right p q g) = right {j = y.next.at} (omega arith) q (record { k = k; m = m; led = led; first = f; split = d; second = g })
      last d (Err r) (wrong g) = wrong (NoPair.behind led f (second d g))

      go : (d : Delimiter) → Stands dash D s m d → Answers s i (Pair s i) (NoPair D s i) (of_pair (second_of a (element_of false s m d)))
      go (delimiter.Passed c) (passed d) = last d (number_at s (m + 1)) (number_sound b (m + 1) (omega (arith, d.inside)))
      go delimiter.Closed (closed e) = wrong (NoPair.behind led f (single e))
      go delimiter.Missing (missing n e) = wrong (NoPair.behind led f (NoSecond.unsplit n e))

  pub pair_sound : (i : ℕ) → i ≤ length s → Answers s i (Pair s i) (NoPair D s i) (of_pair (pair_at D s i))
  unfolding pair_at element_at
  pair_sound i h = go (delimiter_at dash D s i) (stands b dash D i (omega arith) h)
    where
      first : (k : ℕ) → i ≤ k → Led dash s i k → ¬ Ends (one_of D) s i → (x : Result (Read ℕ) Refusal) → Answers s k (Number s k) (NoNumber s k) (of_plain x) → Answers s i (Pair s i) (NoPair D s i) (of_pair (first_of D s x))
      first k l led e (Ok y) (right p q g) = second_sound i k y.value y.next.at l p q led g
      first k l led e (Err r) (wrong g) = wrong (NoPair.first e led g)

      go : (d : Delimiter) → Stands dash D s i d → Answers s i (Pair s i) (NoPair D s i) (of_pair (first_of D s (element_of true s i d)))
      go (delimiter.Passed c) (passed d) = first (i + 1) (omega arith) (swallowed d refl) (not_ends D s i dash open-dash d) (number_at s (i + 1)) (number_sound b (i + 1) (omega (arith, d.inside)))
      go delimiter.Closed (closed e) = wrong (NoPair.empty e)
      go delimiter.Missing (missing n e) = first i (omega arith) (plain n refl) e (number_at s i) (number_sound b i h)
