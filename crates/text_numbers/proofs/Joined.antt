-- The answers of this crate and `written`'s grammar of tree text are the same: what stands there is answered, what is answered stands there,
-- and where nothing is answered nothing stands.
use mathlib.Core.Path.{◌≡◌, refl, sym, ap, ◌∙◌, subst}
use mathlib.Core.Bool.{Bool, true, false, cond}
use mathlib.Core.List.{List, [], ◌∷◌}
use Prim.Native.Nat.{ℕ, suc, ◌+◌, ◌-◌, ◌^◌, ◌<◌}
use native.Mathlib.Numerals.{add-one}
use native.Mathlib.Omega.{arith}
use borrow.Author.Tests.{lt-ltb, le-leb, leb-true, ltb-true, eqb-true, eq-eqb, ne_eqb}
use lib.Dec.{leb, ltb, eqb}
use lib.ListN.{drop}
use lib.IntN.{ℤ, pos, neg_ℤ}
use Rattle.text_numbers.specs.declared.NumberError.TheVariants as fault
use Rattle.text_numbers.specs.declared.NumberError.{NumberError}
use Rattle.text_parts.specs.declared.Read.{Read}
use Rattle.std.specs.declared.result.Result.{Result}
use Rattle.text_parts.specs.Parts.{read_to, cut}
use Rattle.std.specs.Prelude.{Some, None, Ok, Err}
use Rattle.written.specs.Bytes.{digit, in_pattern, byte_at, between, decimal, dash, quote, Span, spanning}
use Rattle.written.specs.TreeText.{Word, end, byte, Run, stop as stops, more, Run₁, some, Digits, digits, Number, plus, minus, PatternAt, bare, quoted}
use Rattle.written.proofs.Once.{run₁-lt}
use Rattle.laws.specs.Runs.{run, stop}
use Rattle.laws.proofs.Stops.{run-stop, run-between, run_is}
use Rattle.text_numbers.specs.Answers.{unsigned_of, unsigned_from, unsigned_at, signed_of, signed_at, pattern_of, pattern_at}

differ : {A : Type 0} {b : Bool} → b ≡ true → b ≡ false → A
differ p q = let u : ◌≡◌ {A = ℕ} 0 1 = cc in absurd (omega arith)

none_digit : digit 256 ≡ false
unfolding digit
none_digit = refl

-- ---- digits

value : List ℕ → ℕ → ℕ
value s i = decimal 0 (run digit (drop i s))

record IsDigits (s : List ℕ) (i j n : ℕ) : Type 0 where
  starts : digit (byte_at s i) ≡ true
  ends : stop digit s i ≡ j
  says : value s i ≡ n

digits_are : {s : List ℕ} {i j n : ℕ} → Digits s i j n → IsDigits s i j n
unfolding value
digits_are {s} (digits (some y r)) =
    record { starts = y; ends = run-stop digit none_digit s (more y r); says = ap (decimal 0) (sym (run-between digit none_digit s (more y r))) }

are_digits : (s : List ℕ) (i : ℕ) → digit (byte_at s i) ≡ true → Digits s i (stop digit s i) (value s i)
unfolding value
are_digits s i y = go (run_is digit none_digit s i) (run-between digit none_digit s (run_is digit none_digit s i))
  where
    go : Run s digit i (stop digit s i) → between s i (stop digit s i) ≡ run digit (drop i s) → Digits s i (stop digit s i) (decimal 0 (run digit (drop i s)))
    go r e = subst (λ l. Digits s i (stop digit s i) (decimal 0 l)) e (digits (first_of r))
      where
        first_of : {j : ℕ} → Run s digit i j → Run₁ s digit i j
        first_of (stops n) = differ y n
        first_of (more h r) = some h r

-- digits that say a number below 2^64 are answered so
pub digits_unsigned : {s : List ℕ} {i j n : ℕ} → Digits s i j n → n < 2 ^ 64 → unsigned_at s i ≡ Ok (read_to n j)
unfolding unsigned_at unsigned_from unsigned_of value
digits_unsigned {s} {i} {j} {n} d f = let h = digits_are d in rw (h.starts, h.says, lt-ltb n (2 ^ 64) f, h.ends)

-- what is answered stands there, and is below 2^64
pub unsigned_digits : (s : List ℕ) (i j n : ℕ) → unsigned_at s i ≡ Ok (read_to n j) → Digits s i j n × (n < 2 ^ 64)
unfolding unsigned_at unsigned_from unsigned_of value
unsigned_digits s i j n e = go (digit (byte_at s i)) refl (ltb (value s i) (2 ^ 64)) refl e
  where
    go : (a : Bool) → digit (byte_at s i) ≡ a → (b : Bool) → ltb (value s i) (2 ^ 64) ≡ b
        → cond a (cond b (Ok (read_to (value s i) (stop digit s i))) (Err fault.TooLarge)) (Err fault.NoDigit) ≡ Ok (read_to n j) → Digits s i j n × (n < 2 ^ 64)
    go true y true f h =
        let p : stop digit s i ≡ j = grind arith in
        let q : value s i ≡ n = grind arith in
        (subst (λ k. Digits s i k n) p (subst (Digits s i (stop digit s i)) q (are_digits s i y)), subst (λ (m : ℕ). m < 2 ^ 64) q (ltb-true (value s i) (2 ^ 64) f))
    go true y false f h = let u : ◌≡◌ {A = ℕ} 0 1 = cc in absurd (omega arith)
    go false y b f h = let u : ◌≡◌ {A = ℕ} 0 1 = cc in absurd (omega arith)

-- ---- signed numbers

not_dash : {s : List ℕ} {i j n : ℕ} → Digits s i j n → eqb (byte_at s i) dash ≡ false
unfolding digit
not_dash {s} {i} d = ne_eqb (byte_at s i) dash (λ q. differ (digits_are d).starts (ap digit q))

pub number_signed : {s : List ℕ} {i j : ℕ} {x : ℤ} → Number s i j x → signed_at s i ≡ Some (read_to x j)
unfolding signed_at
number_signed {s} {i} (plus {n = n} d f) = rw (not_dash d, digits_unsigned d (omega arith), lt-ltb n (2 ^ 63) f)
number_signed {s} {i} (minus {n = n} (byte w end) d f) = rw (eq-eqb (byte_at s i) dash w, add-one i, digits_unsigned d (omega arith), le-leb n (2 ^ 63) f)

fitted : (fits : ℕ → Bool) (z : ℕ → ℤ) (s : List ℕ) (i j : ℕ) (x : ℤ) → signed_of fits z (unsigned_at s i) ≡ Some (read_to x j) → (n : ℕ) × Digits s i j n × (fits n ≡ true) × (z n ≡ x)
fitted fits z s i j x e = go (unsigned_at s i) refl e
  where
    go : (u : Result (Read ℕ) NumberError) → unsigned_at s i ≡ u → signed_of fits z u ≡ Some (read_to x j) → (n : ℕ) × Digits s i j n × (fits n ≡ true) × (z n ≡ x)
    go (Err fault.TooLarge) p h = let u : ◌≡◌ {A = ℕ} 0 1 = cc in absurd (omega arith)
    go (Err fault.NoDigit) p h = let u : ◌≡◌ {A = ℕ} 0 1 = cc in absurd (omega arith)
    go (Ok y) p h = pick (fits y.value) refl h
      where
        pick : (b : Bool) → fits y.value ≡ b → cond b (Some (read_to (z y.value) y.next)) None ≡ Some (read_to x j) → (n : ℕ) × Digits s i j n × (fits n ≡ true) × (z n ≡ x)
        pick true f h = let q : y.next ≡ j = grind arith in let r : z y.value ≡ x = grind arith in (y.value, subst (λ k. Digits s i k y.value) q (unsigned_digits s i y.next y.value p).0, f, r)
        pick false f h = let u : ◌≡◌ {A = ℕ} 0 1 = cc in absurd (omega arith)

pub signed_number : (s : List ℕ) (i j : ℕ) (x : ℤ) → signed_at s i ≡ Some (read_to x j) → Number s i j x
unfolding signed_at
signed_number s i j x e = go (eqb (byte_at s i) dash) refl e
  where
    go : (b : Bool) → eqb (byte_at s i) dash ≡ b
        → cond b (signed_of (λ n. leb n (2 ^ 63)) (λ n. neg_ℤ (pos n)) (unsigned_at s (i + 1))) (signed_of (λ n. ltb n (2 ^ 63)) pos (unsigned_at s i)) ≡ Some (read_to x j) → Number s i j x
    go true w h =
        let r = fitted (λ n. leb n (2 ^ 63)) (λ n. neg_ℤ (pos n)) s (i + 1) j x h in
        subst (Number s i j) r.3 (minus (byte (eqb-true (byte_at s i) dash w) end) (subst (λ k. Digits s k j r.0) (add-one i) r.1) (leb-true r.0 (2 ^ 63) r.2))
    go false w h =
        let r = fitted (λ n. ltb n (2 ^ 63)) pos s i j x h in
        subst (Number s i j) r.3 (plus r.1 (ltb-true r.0 (2 ^ 63) r.2))

pub no_number : (s : List ℕ) (i : ℕ) → signed_at s i ≡ None → (j : ℕ) (x : ℤ) → ¬ Number s i j x
no_number s i e j x n = let h = number_signed n in let u : ◌≡◌ {A = ℕ} 0 1 = cc in omega arith

-- ---- patterns

none_pattern : in_pattern 256 ≡ false
unfolding in_pattern
none_pattern = refl

pub found_pattern : {s : List ℕ} {i j : ℕ} {b : List ℕ} {w : Span} → PatternAt s i j b w → pattern_at s i ≡ Some (read_to (cut w.start w.len) j)
unfolding pattern_at pattern_of in_pattern
found_pattern {s} {i} (bare {j = j} (some y r)) =
    let n : eqb (byte_at s i) quote ≡ false = ne_eqb (byte_at s i) quote (λ q. differ y (ap in_pattern q)) in
    let e : stop in_pattern s i ≡ j = run-stop in_pattern none_pattern s (more y r) in
    rw (n, e, lt-ltb i j (run₁-lt (some y r)))
found_pattern {s} {i} (quoted {b = b} (byte w end) (some y r) (byte v end)) =
    let e : stop in_pattern s (suc i) ≡ b = run-stop in_pattern none_pattern s (more y r) in
    rw (eq-eqb (byte_at s i) quote w, add-one i, e, eq-eqb (byte_at s b) quote v, add-one b, lt-ltb (suc i) b (run₁-lt (some y r)))

-- bytes of a pattern from i up to where they stop, at least one
some_run : (s : List ℕ) (i : ℕ) → i < stop in_pattern s i → Run₁ s in_pattern i (stop in_pattern s i)
some_run s i h = go (run_is in_pattern none_pattern s i) h
  where
    go : {j : ℕ} → Run s in_pattern i j → i < j → Run₁ s in_pattern i j
    go (stops n) l = absurd (omega arith)
    go (more y r) l = some y r

pub pattern_found_lem : (s : List ℕ) (i a n j : ℕ) → pattern_at s i ≡ Some (read_to (cut a n) j) → PatternAt s i j (between s a (a + n)) (record { start = a; len = n })
unfolding pattern_at pattern_of
pattern_found_lem s i a n j e = go (eqb (byte_at s i) quote) refl (eqb (byte_at s (stop in_pattern s (i + 1))) quote) refl (ltb (i + 1) (stop in_pattern s (i + 1))) refl (ltb i (stop in_pattern s i)) refl e
  where
    at_span : (x y : ℕ) → x < y → x ≡ a → y - x ≡ n → {k l : ℕ} → k ≡ l → PatternAt s i k (between s x y) (spanning x y) → PatternAt s i l (between s a (a + n)) (record { start = a; len = n })
    at_span x y l p q {k} r h =
        let t : y ≡ a + n = omega arith in
        subst (λ (m : ℕ). PatternAt s i m (between s a (a + n)) (record { start = a; len = n })) r
        (subst (λ (m : ℕ). PatternAt s i k (between s a (a + n)) (record { start = a; len = m })) q
        (subst (λ (m : ℕ). PatternAt s i k (between s a m) (record { start = a; len = y - x })) t
        (subst (λ (m : ℕ). PatternAt s i k (between s m y) (record { start = m; len = y - x })) p h)))

    go : (b : Bool) → eqb (byte_at s i) quote ≡ b → (d : Bool) → eqb (byte_at s (stop in_pattern s (i + 1))) quote ≡ d
        → (f : Bool) → ltb (i + 1) (stop in_pattern s (i + 1)) ≡ f → (g : Bool) → ltb i (stop in_pattern s i) ≡ g
        → cond b (cond d (cond f (Some (read_to (cut (i + 1) (stop in_pattern s (i + 1) - (i + 1))) (stop in_pattern s (i + 1) + 1))) None) None)
        (cond g (Some (read_to (cut i (stop in_pattern s i - i)) (stop in_pattern s i))) None) ≡ Some (read_to (cut a n) j)
        → PatternAt s i j (between s a (a + n)) (record { start = a; len = n })
    go true p true q true r g t h =
        let l : i + 1 < stop in_pattern s (i + 1) = ltb-true _ _ r in
        let x : i + 1 ≡ a = grind arith in
        let y : stop in_pattern s (i + 1) - (i + 1) ≡ n = grind arith in
        let z : stop in_pattern s (i + 1) + 1 ≡ j = grind arith in
        at_span (i + 1) (stop in_pattern s (i + 1)) l x y (sym (add-one _) ∙ z)
        (quoted (subst (λ (m : ℕ). Word s (quote ∷ []) i m) (sym (add-one i)) (byte (eqb-true (byte_at s i) quote p) end)) (some_run s (i + 1) l) (byte (eqb-true _ quote q) end))
    go true p true q false r g t h = let u : ◌≡◌ {A = ℕ} 0 1 = cc in absurd (omega arith)
    go true p false q f r g t h = let u : ◌≡◌ {A = ℕ} 0 1 = cc in absurd (omega arith)
    go false p d q f r true t h =
        let l : i < stop in_pattern s i = ltb-true _ _ t in
        let x : i ≡ a = grind arith in
        let y : stop in_pattern s i - i ≡ n = grind arith in
        let z : stop in_pattern s i ≡ j = grind arith in
        at_span i (stop in_pattern s i) l x y z (bare (some_run s i l))
    go false p d q f r false t h = let u : ◌≡◌ {A = ℕ} 0 1 = cc in absurd (omega arith)

pub no_pattern : (s : List ℕ) (i : ℕ) → pattern_at s i ≡ None → (j : ℕ) (b : List ℕ) (w : Span) → ¬ PatternAt s i j b w
no_pattern s i e j b w n = let h = found_pattern n in let u : ◌≡◌ {A = ℕ} 0 1 = cc in omega arith
