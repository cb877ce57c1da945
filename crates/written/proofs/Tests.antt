-- The definitions' parts from tests that compute, for texts that are written out.
use mathlib.Core.Path.{◌≡◌, refl, sym, ap, ◌∙◌, subst}
use mathlib.Core.Bool.{Bool, true, false, not, ◌&&◌, ◌||◌}
use mathlib.Core.List.Memᴰ
use mathlib.Core.List.{List, [], ◌∷◌, ◌++◌, Memᴰ}
use mathlib.Core.Logic.{⊎_elim}
use Prim.Native.Nat.{ℕ, zero, suc, ◌+◌, ◌-◌, ◌^◌, ◌≤◌, ◌<◌}
use native.Mathlib.Nat.{eq-or-lt_of_le}
use native.Mathlib.Omega.{arith}
use lib.Dec.{leb, ltb, eqb}
use lib.ListN.{length, get_or}
use lib.Seq.{get_or-append_seam, get_or-append-add}
use native.Mathlib.Decide.{dec_lt}
use borrow.Author.Tests.{eqb-true, eqb-false, leb-true, ltb-true, not-true}
use Rattle.written.specs.Bytes.{newline, quote, bracket, unbracket, digit, one_of, none_of, At, Each, Ends, over, met, part, Span, decimal}
use Rattle.written.specs.Rfc3629.{table, none, one, row, Octets, more}
use Rattle.written.specs.Sections.{UpToNext}
use Rattle.written.specs.Groups.{Bracketed}
use Rattle.written.specs.HeaderText.{Text, quoted, bare, Digits, Number, Unknown, Field, Entry, values_of, Distinct}

-- false is not true
pub differ : {A : Type 0} {b : Bool} → b ≡ true → b ≡ false → A
differ {A} {b} p q = let z : ◌≡◌ {A = ℕ} 0 1 = cc in let none : ⊥ = omega arith in absurd none

pub both : (a b : Bool) → (a && b) ≡ true → (a ≡ true) × (b ≡ true)
both true b e = (refl, e)
both false b e = differ e refl

-- p at lo and the n - 1 numbers after it
abbrev pub all : (ℕ → Bool) → ℕ → ℕ → Bool
all p zero lo = true
all p (suc n) lo = elim (p lo) [ true ↦ all p n (suc lo) | false ↦ false ]

pub all_at : (p : ℕ → Bool) (n lo : ℕ) → all p n lo ≡ true → (b : ℕ) → lo ≤ b → b < lo + n → p b ≡ true
all_at p zero lo h b l u = absurd (omega arith)
all_at p (suc n) lo h b l u = go (p lo) refl h (λ k m. all_at p n (suc lo) k b m (omega arith))
  where
    go : (q : Bool) → p lo ≡ q → elim q as (λ _. Bool) [ true ↦ all p n (suc lo) | false ↦ false ] ≡ true
        → (all p n (suc lo) ≡ true → suc lo ≤ b → p b ≡ true) → p b ≡ true
    go true e k r = ⊎_elim (λ same. ap p (sym same) ∙ e) (λ m. r k m) (eq-or-lt_of_le l)
    go false e k r = differ k refl

-- ---- bytes

abbrev pub here? : List ℕ → ℕ → ℕ → Bool
here? s i b = ltb i (length s) && eqb (get_or s i 0) b

pub here : (s : List ℕ) (i b : ℕ) → here? s i b ≡ true → At s i b
here s i b e = let p = both (ltb i (length s)) (eqb (get_or s i 0) b) e in record { inside = ltb-true i (length s) p.0; byte = eqb-true (get_or s i 0) b p.1 }

pub absent : (s : List ℕ) (i b : ℕ) → eqb (get_or s i 0) b ≡ false → ¬ At s i b
absent s i b e h = eqb-false (get_or s i 0) b e h.byte

abbrev pub each? : (ℕ → Bool) → List ℕ → ℕ → ℕ → Bool
each? p s i n = leb (i + n) (length s) && all (λ k. p (get_or s k 0)) n i

pub each : (p : ℕ → Bool) (s : List ℕ) (i n : ℕ) → each? p s i n ≡ true → Each p s i (i + n)
each p s i n e =
    let q = both (leb (i + n) (length s)) (all (λ k. p (get_or s k 0)) n i) e in
    record { order = omega arith; inside = leb-true (i + n) (length s) q.0; passes = λ k l u. all_at (λ k. p (get_or s k 0)) n i q.1 k l u }

abbrev pub ends? : (ℕ → Bool) → List ℕ → ℕ → Bool
ends? p s i = eqb i (length s) || (ltb i (length s) && p (get_or s i 0))

pub ends : (p : ℕ → Bool) (s : List ℕ) (i : ℕ) → ends? p s i ≡ true → Ends p s i
ends p s i e = go (eqb i (length s)) refl e
  where
    go : (b : Bool) → eqb i (length s) ≡ b → (b || (ltb i (length s) && p (get_or s i 0))) ≡ true → Ends p s i
    go true q f = over (eqb-true i (length s) q)
    go false q f = let r = both (ltb i (length s)) (p (get_or s i 0)) f in met (ltb-true i (length s) r.0) r.1

pub goes_on : (p : ℕ → Bool) (s : List ℕ) (i : ℕ) → ltb i (length s) ≡ true → p (get_or s i 0) ≡ false → ¬ Ends p s i
goes_on p s i l e (over q) = let h : i < length s = ltb-true i (length s) l in omega arith
goes_on p s i l e (met h q) = differ q e

-- ---- strings and numbers

abbrev pub span : ℕ → ℕ → Span
span i n = record { start = i; len = n }

abbrev pub bare? : List ℕ → List ℕ → ℕ → ℕ → Bool
bare? D s i n = not (eqb (get_or s i 0) quote) && (each? (none_of D) s i n && ends? (one_of D) s (i + n))

pub bare_text : (D s : List ℕ) (i n : ℕ) → bare? D s i n ≡ true → Text D s i (span i n) (i + n)
bare_text D s i n e =
    let p = both (not (eqb (get_or s i 0) quote)) (each? (none_of D) s i n && ends? (one_of D) s (i + n)) e in
    let q = both (each? (none_of D) s i n) (ends? (one_of D) s (i + n)) p.1 in
    bare (absent s i quote (not-true (eqb (get_or s i 0) quote) p.0)) refl (each (none_of D) s i n q.0) (ends (one_of D) s (i + n) q.1) refl

abbrev pub quoted? : List ℕ → ℕ → ℕ → Bool
quoted? s i n = here? s i quote && (each? (none_of (quote ∷ [])) s (i + 1) n && here? s (i + 1 + n) quote)

pub quoted_text : (D s : List ℕ) (i n : ℕ) → quoted? s i n ≡ true → Text D s i (span (i + 1) n) (i + 1 + n + 1)
quoted_text D s i n e =
    let p = both (here? s i quote) (each? (none_of (quote ∷ [])) s (i + 1) n && here? s (i + 1 + n) quote) e in
    let q = both (each? (none_of (quote ∷ [])) s (i + 1) n) (here? s (i + 1 + n) quote) p.1 in
    quoted (here s i quote p.0) refl (each (none_of (quote ∷ [])) s (i + 1) n q.0) (here s (i + 1 + n) quote q.1) refl

pub unknown : (D s : List ℕ) (i n : ℕ) → (each? (none_of D) s i n && ends? (one_of D) s (i + n)) ≡ true → Unknown D s i (span i n) (i + n)
unknown D s i n e =
    let q = both (each? (none_of D) s i n) (ends? (one_of D) s (i + n)) e in
    record { start = refl; len = refl; run = each (none_of D) s i n q.0; ends = ends (one_of D) s (i + n) q.1 }

abbrev pub digits? : List ℕ → ℕ → ℕ → Bool
digits? s i n = ltb 0 n && (each? digit s i n && ends? (λ b. not (digit b)) s (i + n))

pub digits : (s : List ℕ) (i n : ℕ) → digits? s i n ≡ true → Digits s i (i + n)
digits s i n e =
    let p = both (ltb 0 n) (each? digit s i n && ends? (λ b. not (digit b)) s (i + n)) e in
    let q = both (each? digit s i n) (ends? (λ b. not (digit b)) s (i + n)) p.1 in
    let h : 0 < n = ltb-true 0 n p.0 in
    record { some_digit = omega arith; digits = each digit s i n q.0; far = ends (λ b. not (digit b)) s (i + n) q.1 }

-- n digits that say v
abbrev pub number? : List ℕ → ℕ → ℕ → ℕ → Bool
number? s i n v = digits? s i n && (eqb (decimal 0 (part s i (i + n - i))) v && ltb v (2 ^ 64))

pub number_at : (s : List ℕ) (i n v : ℕ) → number? s i n v ≡ true → Number s i v (i + n)
number_at s i n v e =
    let p = both (digits? s i n) (eqb (decimal 0 (part s i (i + n - i))) v && ltb v (2 ^ 64)) e in
    let q = both (eqb (decimal 0 (part s i (i + n - i))) v) (ltb v (2 ^ 64)) p.1 in
    record { digits = digits s i n p.0; says = eqb-true (decimal 0 (part s i (i + n - i))) v q.0; fits = ltb-true v (2 ^ 64) q.1 }

-- ---- keys without a bracket, ASCII text, the next "\n["

one_of_append : (a b : List ℕ) (x : ℕ) → one_of (a ++ b) x ≡ (one_of a x || one_of b x)
unfolding one_of
one_of_append [] b x = refl
one_of_append (y ∷ a) b x = go (eqb x y) (one_of_append a b x)
  where
    go : (t : Bool) → one_of (a ++ b) x ≡ (one_of a x || one_of b x) → (t || one_of (a ++ b) x) ≡ ((t || one_of a x) || one_of b x)
    go true e = refl
    go false e = e

or_right : (a b : Bool) → b ≡ true → (a || b) ≡ true
or_right true b e = refl
or_right false b e = e

-- a key without "]" is not bracketed
pub unbracketed : (key : List ℕ) → one_of key unbracket ≡ false → (field name : List ℕ) → ¬ Bracketed key field name
unfolding one_of
unbracketed key e field name b =
    differ
    (ap (λ (l : List ℕ). one_of l unbracket) b.whole ∙ one_of_append field (bracket ∷ (name ++ (unbracket ∷ []))) unbracket
    ∙ or_right (one_of field unbracket) (one_of (bracket ∷ (name ++ (unbracket ∷ []))) unbracket)
    (one_of_append name (unbracket ∷ []) unbracket ∙ or_right (one_of name unbracket) (one_of (unbracket ∷ []) unbracket) refl))
    e

abbrev pub ascii? : List ℕ → Bool
ascii? [] = true
ascii? (b ∷ s) = leb b 127 && ascii? s

pub ascii : (s : List ℕ) → ascii? s ≡ true → Octets s
unfolding table
ascii [] e = Octets.end
ascii (b ∷ s) e =
    let p = both (leb b 127) (ascii? s) e in
    let low : 0 ≤ b = omega arith in
    more {c = b ∷ []} (row (Memᴰ.head refl) (one low (leb-true b 127 p.0) none)) (ascii s p.1)

-- no "\n[" stands before the n-th place of s
abbrev pub closed? : List ℕ → ℕ → Bool
closed? s n = all (λ k. not (eqb (get_or s k 0) newline && eqb (get_or s (k + 1) 0) bracket)) n 0

pub up_to_lem : (text rest : List ℕ) → closed? (text ++ (newline ∷ bracket ∷ rest)) (length text) ≡ true → UpToNext text (newline ∷ bracket ∷ rest)
up_to_lem text rest e = record { rest = rest; here = refl; first = λ a b q. go a b q (dec_lt (length a) (length text)) }
  where
    go : (a b : List ℕ) → text ++ (newline ∷ bracket ∷ rest) ≡ a ++ (newline ∷ bracket ∷ b) → Dec (length a < length text) → length text ≤ length a
    go a b q (no h) = omega arith
    go a b q (yes h) =
        let low : 0 ≤ length a = omega arith in
        let high : length a < 0 + length text = omega arith in
        let f = all_at (λ k. not (eqb (get_or (text ++ (newline ∷ bracket ∷ rest)) k 0) newline && eqb (get_or (text ++ (newline ∷ bracket ∷ rest)) (k + 1) 0) bracket)) (length text) 0 e (length a) low high in
        let x : get_or (text ++ (newline ∷ bracket ∷ rest)) (length a) 0 ≡ newline = ap (λ (l : List ℕ). get_or l (length a) 0) q ∙ get_or-append_seam a newline (bracket ∷ b) 0 in
        let y : get_or (text ++ (newline ∷ bracket ∷ rest)) (length a + 1) 0 ≡ bracket = ap (λ (l : List ℕ). get_or l (length a + 1) 0) q ∙ get_or-append-add a (newline ∷ bracket ∷ b) 1 0 in
        differ f (rw (x, y))

-- ---- no field twice

abbrev pub distinct? : List Field → List Entry → Bool
distinct? [] xs = true
distinct? (f ∷ T) xs = leb (length (values_of f.name xs)) 1 && distinct? T xs

pub distinct : (T : List Field) (xs : List Entry) → distinct? T xs ≡ true → Distinct T xs
distinct T xs e = record { once = λ f m. go T e f m }
  where
    go : (T : List Field) → distinct? T xs ≡ true → (f : Field) → Memᴰ f T → length (values_of f.name xs) ≤ 1
    go [] e f m = elim m [ ]
    go (g ∷ T) e f m =
        let p = both (leb (length (values_of g.name xs)) 1) (distinct? T xs) e in
        ⊎_elim (λ q. subst (λ (h : Field). length (values_of h.name xs) ≤ 1) (sym q) (leb-true (length (values_of g.name xs)) 1 p.0)) (λ m. go T p.1 f m)
        (Memᴰ.cases_cons m)
