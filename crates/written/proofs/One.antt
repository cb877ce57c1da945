-- A text says at most one thing: what is read at a place, and where reading ends, is determined.
use mathlib.Core.Path.{◌≡◌, refl, sym, ap, ap₂, ◌∙◌, subst}
use mathlib.Core.Bool.{Bool, true, false, not}
use mathlib.Core.Option.{some}
use mathlib.Core.List.{List, [], ◌∷◌, ◌++◌}
use Prim.Native.Nat.{ℕ, zero, ◌+◌, ◌-◌, ◌≤◌, ◌<◌}
use native.Mathlib.Omega.{arith}
use native.Mathlib.Decide.{dec_lt}
use lib.ListN.{length, get_or}
use borrow.Author.Tests.{not-true, eqb-true}
use Rattle.written.specs.Bytes.{newline, quote, comma, colon, digit, is_newline, one_of, none_of, At, Each, Ends, over, met, part, Span, decimal}
use Rattle.written.specs.HeaderText.{Text, quoted, bare, Digits, Number, Flag, Unknown, Led, swallowed, plain, Range, Pair, Many, none, more, Passed, Listed, empty, full, Value, text, number, flag, texts, range, ranges, perhaps, unread, Kind, Reads, is_string, is_number, is_bool, are_strings, is_pair, are_pairs, is_absent, is_present, is_unknown, Field, kind_of, Entry, Line, NextLine, Section}
use Rattle.written.proofs.Tests.{differ}

-- a thing and the place behind it
abbrev Same : {A : Type 0} → A → A → ℕ → ℕ → Type 0
Same a b j k = (a ≡ b) × (j ≡ k)

-- at most one thing stands at a place
abbrev pub One : {A : Type 0} → (ℕ → A → ℕ → Type 0) → Type 0
One {A} R = (i : ℕ) (a b : A) (j k : ℕ) → R i a j → R i b k → Same a b j k

-- ---- runs

-- a run that passes p does not go past a place where it ends
not_past : {p q : ℕ → Bool} {s : List ℕ} {i j k : ℕ} → ((b : ℕ) → p b ≡ true → q b ≡ true → ⊥) → i ≤ j → Ends q s j → Each p s i k → k ≤ j
not_past {p} {q} {s} {i} {j} {k} apart o (over e) h = omega (arith, h.inside)
not_past {p} {q} {s} {i} {j} {k} apart o (met l e) h = go (dec_lt j k)
  where
    go : Dec (j < k) → k ≤ j
    go (no f) = omega arith
    go (yes f) = absurd (apart (get_or s j 0) (h.passes j o f) e)

run_one : {p q : ℕ → Bool} {s : List ℕ} {i j k : ℕ} → ((b : ℕ) → p b ≡ true → q b ≡ true → ⊥) → Each p s i j → Ends q s j → Each p s i k → Ends q s k → j ≡ k
run_one apart a e b f = let x = not_past apart b.order f a in let y = not_past apart a.order e b in omega arith

apart_of : (D : List ℕ) (b : ℕ) → none_of D b ≡ true → one_of D b ≡ true → ⊥
apart_of D b n o = differ o (not-true (one_of D b) n)

apart_digit : (b : ℕ) → digit b ≡ true → not (digit b) ≡ true → ⊥
apart_digit b d n = differ d (not-true (digit b) n)

-- ---- strings, numbers, bools

span_path : {x y : Span} → x.start ≡ y.start → x.len ≡ y.len → x ≡ y
span_path p q = λ i. record { start = p i; len = q i }

-- the first quote at or behind i
first_quote : {s : List ℕ} {i j k : ℕ} → Each (none_of (quote ∷ [])) s i j → At s j quote → Each (none_of (quote ∷ [])) s i k → At s k quote → j ≡ k
unfolding one_of
first_quote {s} {i} {j} {k} a p b q = run_one (apart_of (quote ∷ [])) a (ends p) b (ends q)
  where
    ends : {n : ℕ} → At s n quote → Ends (one_of (quote ∷ [])) s n
    ends {n} h = met h.inside (ap (one_of (quote ∷ [])) h.byte)

pub text_one : (D s : List ℕ) → One (Text D s)
text_one D s i x y j k (quoted a p b c e) (quoted a' p' b' c' e') =
    let st : x.start ≡ y.start = omega arith in
    let q : x.start + x.len ≡ y.start + y.len = first_quote b c (subst (λ (n : ℕ). Each (none_of (quote ∷ [])) s n (y.start + y.len)) (sym st) b') c' in
    let ln : x.len ≡ y.len = omega arith in
    (span_path st ln, omega arith)
text_one D s i x y j k (quoted a p b c e) (bare n p' b' c' e') = absurd (n a)
text_one D s i x y j k (bare n p b c e) (quoted a p' b' c' e') = absurd (n a)
text_one D s i x y j k (bare n p b c e) (bare n' p' b' c' e') =
    let q : j ≡ k = run_one (apart_of D) b c b' c' in
    let st : x.start ≡ y.start = omega arith in
    let ln : x.len ≡ y.len = omega arith in
    (span_path st ln, q)

pub digits_one : {s : List ℕ} {i j k : ℕ} → Digits s i j → Digits s i k → j ≡ k
digits_one a b = run_one apart_digit a.digits a.far b.digits b.far

pub number_one : (s : List ℕ) → One (Number s)
number_one s i m n j k a b =
    let q : j ≡ k = digits_one a.digits b.digits in (sym a.says ∙ ap (λ (e : ℕ). decimal 0 (part s i (e - i))) q ∙ b.says, q)

pub flag_one : (s : List ℕ) → One (Flag s)
flag_one s i x y j k (Flag.zero a v e) (Flag.zero a' v' e') = (v ∙ sym v', e ∙ sym e')
flag_one s i x y j k (Flag.zero a v e) (Flag.one a' v' e') = absurd (omega (arith, a.byte, a'.byte))
flag_one s i x y j k (Flag.one a v e) (Flag.zero a' v' e') = absurd (omega (arith, a.byte, a'.byte))
flag_one s i x y j k (Flag.one a v e) (Flag.one a' v' e') = (v ∙ sym v', e ∙ sym e')

pub unknown_one : (D s : List ℕ) → One (Unknown D s)
unknown_one D s i x y j k a b =
    let q : j ≡ k = run_one (apart_of D) a.run a.ends b.run b.ends in
    let st : x.start ≡ y.start = a.start ∙ sym b.start in
    let ln : x.len ≡ y.len = omega (arith, a.len, b.len) in
    (span_path st ln, q)

-- ---- pairs and lists

pub led_one : {d : ℕ} {s : List ℕ} {i j k : ℕ} → Led d s i j → Led d s i k → j ≡ k
led_one (swallowed a e) (swallowed b f) = e ∙ sym f
led_one (swallowed a e) (plain b f) = absurd (b a)
led_one (plain a e) (swallowed b f) = absurd (a b)
led_one (plain a e) (plain b f) = e ∙ sym f

pub pair_one : (s : List ℕ) → One (Pair s)
pair_one s i a b j k x y =
    let p : x.k ≡ y.k = led_one x.led y.led in
    let f = number_one s _ _ _ _ _ (subst (λ (n : ℕ). Number s n a.from x.m) p x.first) y.first in
    let g = number_one s _ _ _ _ _ (subst (λ (n : ℕ). Number s (n + 1) a.to j) f.1 x.second) y.second in
    ((λ i. record { from = f.0 i; to = g.0 i }), g.1)

-- steps that are determined, as far as they go
pub many_one :
    {A : Type 0} {R : ℕ → A → ℕ → Type 0} → One R → {i n j k : ℕ} {l m : List A} → i ≡ n → Many R i l j → ((a : A) (n : ℕ) → R j a n → ⊥) → Many R n m k
    → ((a : A) (n : ℕ) → R k a n → ⊥) → Same l m j k
many_one one w none e none f = (refl, w)
many_one {R = R} one w none e (more {j = j} {a = a} r q) f = absurd (e a j (subst (λ (z : ℕ). R z a j) (sym w) r))
many_one {R = R} one w (more {j = j} {a = a} r q) e none f = absurd (f a j (subst (λ (z : ℕ). R z a j) w r))
many_one {R = R} one w (more {j = j} {a = a} r q) e (more t u) f =
    let h = one _ _ _ _ _ (subst (λ (z : ℕ). R z a j) w r) t in
    let g = many_one one h.1 q e u f in
    (ap₂ ◌∷◌ h.0 g.0, g.1)

pub passed_one : {A : Type 0} {Item : ℕ → A → ℕ → Type 0} (s : List ℕ) → One Item → One (Passed Item s)
passed_one s one i a b j k x y = let h = one _ _ _ _ _ x.item y.item in (h.0, omega (arith, h.1, x.next, y.next))

-- an open delimiter or the end is no comma
pub no_comma : (D : List ℕ) {s : List ℕ} {j : ℕ} → one_of D comma ≡ false → Ends (one_of D) s j → ¬ At s j comma
no_comma D c (over e) h = omega (arith, h.inside)
no_comma D c (met l e) h = differ {A = ⊥} e (ap (one_of D) h.byte ∙ c)

-- behind the last item no item with a comma stands
pub last_item : {A : Type 0} {Item : ℕ → A → ℕ → Type 0} (D : List ℕ) {s : List ℕ} {m j : ℕ} {a : A} → One Item → one_of D comma ≡ false → Item m a j → Ends (one_of D) s j → (b : A) (n : ℕ) → Passed Item s m b n → ⊥
last_item D {s = s} one c x e b n y = let h = one _ _ _ _ _ y.item x in no_comma D c e (subst (λ (k : ℕ). At s k comma) h.1 y.behind)

pub listed_one : {A : Type 0} (Item : ℕ → A → ℕ → Type 0) (D s : List ℕ) → One Item → one_of D comma ≡ false → One (Listed Item D s)
listed_one Item D s one c i x y j k (empty e) (empty f) = (refl, refl)
listed_one Item D s one c i x y j k (empty e) (full n l p a f) = absurd (n e)
listed_one Item D s one c i x y j k (full n l p a f) (empty e) = absurd (n e)
listed_one Item D s one c i x y j k (full {a = u} n l p a e) (full n' l' p' a' e') =
    let q = led_one l l' in
    let h = many_one (passed_one s one) q p (last_item D one c a e) p' (last_item D one c a' e') in
    let g = one _ _ _ _ _ (subst (λ (z : ℕ). Item z u j) h.1 a) a' in
    (ap₂ (λ x y. x ++ (y ∷ [])) h.0 g.0, g.1)

-- ---- values

pub reads_one : (D s : List ℕ) → one_of D comma ≡ false → {i j k : ℕ} {t : Kind} {v w : Value} → Reads D s i t v j → Reads D s i t w k → Same v w j k
reads_one D s c (is_string a) (is_string b) = let h = text_one D s _ _ _ _ _ a b in (ap text h.0, h.1)
reads_one D s c (is_number a) (is_number b) = let h = number_one s _ _ _ _ _ a b in (ap number h.0, h.1)
reads_one D s c (is_bool a) (is_bool b) = let h = flag_one s _ _ _ _ _ a b in (ap flag h.0, h.1)
reads_one D s c (are_strings a) (are_strings b) = let h = listed_one (Text (comma ∷ D) s) D s (text_one (comma ∷ D) s) c _ _ _ _ _ a b in (ap texts h.0, h.1)
reads_one D s c (is_pair a) (is_pair b) = let h = pair_one s _ _ _ _ _ a b in (ap range h.0, h.1)
reads_one D s c (are_pairs a) (are_pairs b) = let h = listed_one (Pair s) D s (pair_one s) c _ _ _ _ _ a b in (ap ranges h.0, h.1)
reads_one D s c (is_absent a) (is_absent b) = (refl, refl)
reads_one D s c (is_absent a) (is_present n b) = absurd (n a)
reads_one D s c (is_present n b) (is_absent a) = absurd (n a)
reads_one D s c (is_present n a) (is_present m b) = let h = pair_one s _ _ _ _ _ a b in (ap (λ (r : Range). perhaps (some r)) h.0, h.1)
reads_one D s c (is_unknown a) (is_unknown b) = let h = unknown_one D s _ _ _ _ _ a b in (ap unread h.0, h.1)

-- ---- lines

entry_path : {x y : Entry} → x.at ≡ y.at → x.name ≡ y.name → x.value ≡ y.value → x ≡ y
entry_path p q r = λ i. record { at = p i; name = q i; value = r i }

pub line_one : (T : List Field) (s : List ℕ) → One (Line T s)
unfolding one_of
line_one T s i x y j k a b =
    let h = text_one (newline ∷ colon ∷ []) s _ _ _ _ _ a.key.string b.key.string in
    let at : x.at ≡ y.at = ap (λ (z : Span). z.start) h.0 in
    let ln : a.key.len ≡ b.key.len = ap (λ (z : Span). z.len) h.0 in
    let name : x.name ≡ y.name = a.key.bytes_of ∙ ap₂ (λ u w. part s u w) at ln ∙ sym b.key.bytes_of in
    let v = subst (λ (z : ℕ). Reads (newline ∷ []) s (z + 1) (kind_of T x.name) x.value j) h.1 a.value in
    let g = reads_one (newline ∷ []) s refl (subst (λ (z : List ℕ). Reads (newline ∷ []) s (b.k + 1) (kind_of T z) x.value j) name v) b.value in
    (entry_path at name g.0, g.1)

-- a line does not start at a newline or the end
pub line_starts : {T : List Field} {s : List ℕ} {i j : ℕ} {x : Entry} → Line T s i x j → ¬ Ends is_newline s i
unfolding one_of
line_starts {T} {s} {i} {j} {x} l e = go l.key.string e
  where
    go : Text (newline ∷ colon ∷ []) s i (record { start = x.at; len = l.key.len }) l.k → Ends is_newline s i → ⊥
    go (quoted a p b c f) (over g) = omega (arith, a.inside)
    go (quoted a p b c f) (met m g) = let z : get_or s i 0 ≡ newline = eqb-true (get_or s i 0) newline g in omega (arith, a.byte)
    go (bare n p b c f) (over g) = omega (arith, b.order, l.split.inside)
    go (bare n p b c f) (met m g) = at_newline (dec_lt i l.k)
      where
        z : get_or s i 0 ≡ newline
        z = eqb-true (get_or s i 0) newline g

        at_newline : Dec (i < l.k) → ⊥
        at_newline (yes h) = let low : i ≤ i = omega arith in differ {A = ⊥} (b.passes i low h) (ap (none_of (newline ∷ colon ∷ [])) z)
        at_newline (no h) = let same : l.k ≡ i = omega (arith, b.order) in omega (arith, z, sym (ap (λ (w : ℕ). get_or s w 0) same) ∙ l.split.byte)

-- blank lines up to the first line
pub blank_one : {s : List ℕ} {i j k : ℕ} → Each is_newline s i j → ¬ Ends is_newline s j → Each is_newline s i k → ¬ Ends is_newline s k → j ≡ k
blank_one {s} {i} {j} {k} a n b m = let x = up a b n in let y = up b a m in omega arith
  where
    up : {j k : ℕ} → Each is_newline s i j → Each is_newline s i k → ¬ Ends is_newline s j → k ≤ j
    up {j} {k} a b n = go (dec_lt j k)
      where
        go : Dec (j < k) → k ≤ j
        go (no f) = omega arith
        go (yes f) = absurd (n (met (omega (arith, b.inside)) (b.passes j a.order f)))

pub next_one : (T : List Field) (s : List ℕ) → One (NextLine T s)
next_one T s i x y j k a b =
    let q : a.k ≡ b.k = blank_one a.blank (line_starts a.line) b.blank (line_starts b.line) in
    line_one T s _ _ _ _ _ (subst (λ (z : ℕ). Line T s z x j) q a.line) b.line

-- behind the last line no line stands
pub last_line : {T : List Field} {s : List ℕ} {k : ℕ} → Each is_newline s k (length s) → (x : Entry) (n : ℕ) → NextLine T s k x n → ⊥
last_line {T} {s} {k} b x n a = go (dec_lt a.k (length s))
  where
    go : Dec (a.k < length s) → ⊥
    go (yes h) = line_starts a.line (met h (b.passes a.k a.blank.order h))
    go (no h) = line_starts a.line (over (omega (arith, a.blank.inside)))

-- a section's text says at most one list of entries
pub section_one : {T : List Field} {s : List ℕ} {i : ℕ} {xs ys : List Entry} → Section T s i xs → Section T s i ys → xs ≡ ys
section_one {T} {s} a b = let h = many_one (next_one T s) refl a.lines (last_line a.blank) b.lines (last_line b.blank) in h.0
