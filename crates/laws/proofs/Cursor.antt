-- From runs that compute, as a cursor's answers have them, to the definitions: strings, digits and unknown values.
use mathlib.Core.Path.{◌≡◌, refl, sym, ap, ◌∙◌, subst}
use mathlib.Core.Bool.{Bool, true, false, not, cond, ◌||◌}
use lib.Dec.{eqb}
use mathlib.Core.List.{List, [], ◌∷◌}
use Prim.Native.Nat.{ℕ, zero, suc, ◌+◌, ◌-◌, ◌≤◌, ◌<◌}
use native.Mathlib.Omega.{arith}
use native.Mathlib.Decide.{dec_lt}
use lib.ListN.{length, get_or, drop, length-drop}
use lib.Seq.{get_or-drop}
use borrow.Author.Tests.{not-true, not-false, eqb-true}
use Rattle.written.specs.Bytes.{quote, digit, one_of, none_of, At, Each, Ends, over, met}
use Rattle.written.specs.HeaderText.{Text, quoted, bare, Digits, Unknown}
use Rattle.written.specs.Faults.{NoText, unclosed}
use Rattle.written.proofs.Tests.{differ, span}
use Rattle.laws.specs.Runs.{run, stop}

run_in : (p : ℕ → Bool) (l : List ℕ) → length (run p l) ≤ length l
unfolding run
run_in p [] = omega arith
run_in p (b ∷ l) = go (p b) (run_in p l)
  where
    go : (t : Bool) → length (run p l) ≤ length l → length (cond t (b ∷ run p l) []) ≤ suc (length l)
    go true h = omega arith
    go false h = omega arith

run-passes : (p : ℕ → Bool) (l : List ℕ) (k : ℕ) → k < length (run p l) → p (get_or l k 0) ≡ true
unfolding run
run-passes p [] k h = absurd (omega arith)
run-passes p (b ∷ l) k h = go (p b) refl k h (λ k h. run-passes p l k h)
  where
    go : (t : Bool) → p b ≡ t → (k : ℕ) → k < length (cond t (b ∷ run p l) []) → ((k : ℕ) → k < length (run p l) → p (get_or l k 0) ≡ true) → p (get_or (b ∷ l) k 0) ≡ true
    go true e zero h r = e
    go true e (suc k) h r = r k (omega arith)
    go false e k h r = absurd (omega arith)

run_stops : (p : ℕ → Bool) (l : List ℕ) → length (run p l) < length l → p (get_or l (length (run p l)) 0) ≡ false
unfolding run
run_stops p [] h = absurd (omega arith)
run_stops p (b ∷ l) h = go (p b) refl h (λ h. run_stops p l h)
  where
    go : (t : Bool) → p b ≡ t → length (cond t (b ∷ run p l) []) < suc (length l) → (length (run p l) < length l → p (get_or l (length (run p l)) 0) ≡ false) → p (get_or (b ∷ l) (length (cond t (b ∷ run p l) [])) 0) ≡ false
    go true e h r = r (omega arith)
    go false e h r = e

module _ (p : ℕ → Bool) (s : List ℕ) (i : ℕ) (h : i ≤ length s) where
  pub stop_each : Each p s i (stop p s i)
  unfolding stop
  stop_each =
      record {
        order = omega arith;
        inside = omega (arith, run_in p (drop i s), length-drop i s);
        passes = λ k l u. let e : i + (k - i) ≡ k = omega arith in ap (λ (n : ℕ). p (get_or s n 0)) (sym e) ∙ ap p (sym (get_or-drop i s (k - i) 0)) ∙ run-passes p (drop i s) (k - i) (omega arith);
      }

  pub stop_ends : (q : ℕ → Bool) → ((b : ℕ) → p b ≡ false → q b ≡ true) → Ends q s (stop p s i)
  unfolding stop
  stop_ends q f = go (dec_lt (i + length (run p (drop i s))) (length s))
    where
      go : Dec (i + length (run p (drop i s)) < length s) → Ends q s (i + length (run p (drop i s)))
      go (yes l) = met l (f (get_or s (i + length (run p (drop i s))) 0) (ap p (sym (get_or-drop i s (length (run p (drop i s))) 0)) ∙ run_stops p (drop i s) (omega (arith, length-drop i s))))
      go (no l) = over (omega (arith, run_in p (drop i s), length-drop i s))

-- a string without quotes
pub bare_string : (D s : List ℕ) (i : ℕ) → i ≤ length s → ¬ At s i quote → Text D s i (span i (stop (none_of D) s i - i)) (stop (none_of D) s i)
bare_string D s i h n =
    bare n refl (stop_each (none_of D) s i h) (stop_ends (none_of D) s i h (one_of D) (λ b e. not-false (one_of D b) e))
    (let o = stop_each (none_of D) s i h in omega (arith, o.order))

pub unknown_value : (D s : List ℕ) (i : ℕ) → i ≤ length s → Unknown D s i (span i (stop (none_of D) s i - i)) (stop (none_of D) s i)
unknown_value D s i h =
    let o = stop_each (none_of D) s i h in
    record { start = refl; len = omega (arith, o.order); run = o; ends = stop_ends (none_of D) s i h (one_of D) (λ b e. not-false (one_of D b) e) }

-- a string in quotes, closed or not
abbrev pub close : List ℕ → ℕ → ℕ
close s i = stop (none_of (quote ∷ [])) s (i + 1)

pub quoted_string : (D s : List ℕ) (i : ℕ) → At s i quote → close s i < length s → Text D s i (span (i + 1) (close s i - (i + 1))) (close s i + 1)
unfolding one_of
quoted_string D s i a l =
    let h : i + 1 ≤ length s = omega (arith, a.inside) in
    let o = stop_each (none_of (quote ∷ [])) s (i + 1) h in
    let e : i + 1 + (close s i - (i + 1)) ≡ close s i = omega (arith, o.order) in
    quoted a refl (subst (λ (n : ℕ). Each (none_of (quote ∷ [])) s (i + 1) n) (sym e) o)
    (subst (λ (n : ℕ). At s n quote) (sym e) (shut (stop_ends (none_of (quote ∷ [])) s (i + 1) h (one_of (quote ∷ [])) (λ b f. not-false (one_of (quote ∷ []) b) f))))
    (omega arith)
  where
    shut : Ends (one_of (quote ∷ [])) s (close s i) → At s (close s i) quote
    shut (over e) = absurd (omega arith)
    shut (met k e) = record { inside = k; byte = is (get_or s (close s i) 0) e }
      where
        is : (b : ℕ) → one_of (quote ∷ []) b ≡ true → b ≡ quote
        is b f = go (eqb b quote) refl f
          where
            go : (t : Bool) → eqb b quote ≡ t → (t || false) ≡ true → b ≡ quote
            go true g k = eqb-true b quote g
            go false g k = differ k refl

pub open_string : (s : List ℕ) (i : ℕ) → At s i quote → length s ≤ close s i → NoText s i 3 (length s)
open_string s i a l =
    let h : i + 1 ≤ length s = omega (arith, a.inside) in
    let o = stop_each (none_of (quote ∷ [])) s (i + 1) h in
    let e : close s i ≡ length s = omega (arith, o.inside) in
    unclosed a (subst (λ (n : ℕ). Each (none_of (quote ∷ [])) s (i + 1) n) e o)

-- digits, as far as they go
pub digit-run : (s : List ℕ) (i : ℕ) → i < length s → digit (get_or s i 0) ≡ true → Digits s i (stop digit s i)
digit-run s i l d =
    let h : i ≤ length s = omega arith in
    record { some_digit = far (dec_lt i (stop digit s i)); digits = stop_each digit s i h; far = stop_ends digit s i h (λ b. not (digit b)) (λ b e. ap not e) }
  where
    far : Dec (i < stop digit s i) → i < stop digit s i
    far (yes f) = f
    far (no f) =
        let h : i ≤ length s = omega arith in
        let o = stop_each digit s i h in
        let e : stop digit s i ≡ i = omega (arith, o.order) in
        at (subst (λ (n : ℕ). Ends (λ b. not (digit b)) s n) e (stop_ends digit s i h (λ b. not (digit b)) (λ b e. ap not e)))
      where
        at : Ends (λ b. not (digit b)) s i → i < stop digit s i
        at (over e) = absurd (omega arith)
        at (met k e) = differ d (not-true (digit (get_or s i 0)) e)
