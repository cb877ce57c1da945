-- What is read is not refused, and a refusal is determined, number and place: values and lines.
use mathlib.Core.Path.{◌≡◌, refl, sym, ap, ◌∙◌, subst}
use mathlib.Core.Bool.{Bool, true, false, ◌||◌}
use mathlib.Core.List.{List, [], ◌∷◌}
use Prim.Native.Nat.{ℕ, ◌+◌, ◌-◌, ◌≤◌, ◌<◌}
use native.Mathlib.Omega.{arith}
use lib.Dec.{eqb}
use lib.ListN.{length, get_or}
use borrow.Author.Tests.{eqb-true}
use Rattle.written.specs.Bytes.{newline, quote, comma, dash, colon, digit, is_newline, one_of, none_of, At, Ends, over, met, part, Span, decimal}
use Rattle.written.specs.HeaderText.{Text, quoted, bare, Digits, Number, Flag, Led, swallowed, plain, Pair, Passed, Listed, empty, full, Kind, Value, Reads, is_string, is_number, is_bool, are_strings, is_pair, are_pairs, is_absent, is_present, Field, kind_of, Entry, Key, Line}
use Rattle.written.specs.Faults.{NoText, unclosed, NoNumber, no_digit, too_large, NoFlag, NoSecond, single, second, NoPair, NoList, item, Unreadable, no_string, no_number, no_bool, no_strings, no_pair, no_pairs, no_present, Repeats, NoValue, NoLine}
use Rattle.written.proofs.Tests.{differ}
use Rattle.written.proofs.One.{One, text_one, digits_one, number_one, led_one, pair_one, many_one, passed_one, last_item, reads_one}

-- nothing is both read and refused at a place
abbrev pub Never : {A : Type 0} → (ℕ → A → ℕ → Type 0) → (ℕ → ℕ → ℕ → Type 0) → Type 0
Never {A} R N = (i : ℕ) (a : A) (j n p : ℕ) → R i a j → N i n p → ⊥

abbrev Same : (n m p q : ℕ) → Type 0
Same n m p q = (n ≡ m) × (p ≡ q)

-- at most one refusal at a place
abbrev pub OneFault : (ℕ → ℕ → ℕ → Type 0) → Type 0
OneFault N = (i n m p q : ℕ) → N i n p → N i m q → Same n m p q

-- ---- strings, numbers, bools

pub text_never : (D s : List ℕ) → Never (Text D s) (NoText s)
unfolding one_of
text_never D s i x j n p (quoted a st b c e) (unclosed h f) =
    let low : i + 1 ≤ x.start + x.len = omega arith in
    differ {A = ⊥} (f.passes (x.start + x.len) low c.inside) (ap (none_of (quote ∷ [])) c.byte)
text_never D s i x j n p (bare a st b c e) (unclosed h f) = a h

pub no_text_one : (s : List ℕ) → OneFault (NoText s)
no_text_one s i n m p q (unclosed a b) (unclosed c d) = (refl, refl)

first_digit : {s : List ℕ} {i j : ℕ} → Digits s i j → digit (get_or s i 0) ≡ true
first_digit {s} {i} {j} d = let low : i ≤ i = omega arith in d.digits.passes i low d.some_digit

pub number_never : (s : List ℕ) → Never (Number s) (NoNumber s)
number_never s i v j n p a (NoNumber.over e) = omega (arith, a.digits.some_digit, a.digits.digits.inside)
number_never s i v j n p a (no_digit l e) = differ {A = ⊥} (first_digit a.digits) e
number_never s i v j n p a (too_large d h) =
    let q : decimal 0 (part s i (_ - i)) ≡ v = ap (λ (e : ℕ). decimal 0 (part s i (e - i))) (digits_one d a.digits) ∙ a.says in
    omega (arith, h, q, a.fits)

pub no_number_one : (s : List ℕ) → OneFault (NoNumber s)
no_number_one s i n m p q (NoNumber.over e) (NoNumber.over f) = (refl, refl)
no_number_one s i n m p q (NoNumber.over e) (no_digit l f) = absurd (omega arith)
no_number_one s i n m p q (NoNumber.over e) (too_large d h) = absurd (omega (arith, d.some_digit, d.digits.inside))
no_number_one s i n m p q (no_digit l f) (NoNumber.over e) = absurd (omega arith)
no_number_one s i n m p q (no_digit l f) (no_digit k e) = (refl, refl)
no_number_one s i n m p q (no_digit l f) (too_large d h) = differ (first_digit d) f
no_number_one s i n m p q (too_large d h) (NoNumber.over e) = absurd (omega (arith, d.some_digit, d.digits.inside))
no_number_one s i n m p q (too_large d h) (no_digit l f) = differ (first_digit d) f
no_number_one s i n m p q (too_large d h) (too_large c g) = (refl, refl)

pub flag_never : (s : List ℕ) → Never (Flag s) (NoFlag s)
unfolding one_of
flag_never s i v j n p (Flag.zero a e f) (NoFlag.over g) = omega (arith, a.inside)
flag_never s i v j n p (Flag.zero a e f) (NoFlag.other l g) = differ {A = ⊥} (ap (one_of (48 ∷ 49 ∷ [])) a.byte) g
flag_never s i v j n p (Flag.one a e f) (NoFlag.over g) = omega (arith, a.inside)
flag_never s i v j n p (Flag.one a e f) (NoFlag.other l g) = differ {A = ⊥} (ap (one_of (48 ∷ 49 ∷ [])) a.byte) g

pub no_flag_one : (s : List ℕ) → OneFault (NoFlag s)
no_flag_one s i n m p q (NoFlag.over e) (NoFlag.over f) = (refl, refl)
no_flag_one s i n m p q (NoFlag.over e) (NoFlag.other l f) = absurd (omega arith)
no_flag_one s i n m p q (NoFlag.other l f) (NoFlag.over e) = absurd (omega arith)
no_flag_one s i n m p q (NoFlag.other l f) (NoFlag.other k e) = (refl, refl)

-- ---- pairs: the open delimiters are neither "-" nor digits

pub record Proper (D : List ℕ) : Type 0 where
  pub no_dash : one_of D dash ≡ false
  pub no_figure : (b : ℕ) → digit b ≡ true → one_of D b ≡ false

-- where a byte stands that is no open delimiter, reading goes on
goes : (D : List ℕ) {s : List ℕ} {i : ℕ} → i < length s → one_of D (get_or s i 0) ≡ false → ¬ Ends (one_of D) s i
goes D l e (over f) = omega arith
goes D l e (met k f) = differ {A = ⊥} f e

at_dash : {D s : List ℕ} {i : ℕ} → Proper D → At s i dash → ¬ Ends (one_of D) s i
at_dash {D} c a = goes D a.inside (ap (one_of D) a.byte ∙ c.no_dash)

pair_starts : {D s : List ℕ} {i k a m : ℕ} → Proper D → Led dash s i k → Number s k a m → ¬ Ends (one_of D) s i
pair_starts c (swallowed h e) f = at_dash c h
pair_starts {D} {s} {i} {k} {a} {m} c (plain h e) f =
    goes D (omega (arith, f.digits.some_digit, f.digits.digits.inside)) (c.no_figure (get_or s i 0) (ap (λ (z : ℕ). digit (get_or s z 0)) (sym e) ∙ first_digit f.digits))

firsts : {s : List ℕ} {i k a m l b n : ℕ} → Led dash s i k → Number s k a m → Led dash s i l → Number s l b n → m ≡ n
firsts {s} {a = a} {m = m} x f y g = let h = number_one s _ _ _ _ _ (subst (λ (z : ℕ). Number s z a m) (led_one x y) f) g in h.1

second_never : {D s : List ℕ} {i j b n p : ℕ} → Proper D → At s i dash → Number s (i + 1) b j → NoSecond D s i n p → ⊥
second_never c a f (single e) = at_dash c a e
second_never c a f (NoSecond.unsplit e g) = e a
second_never {s = s} c a f (second e g) = number_never s _ _ _ _ _ f g

pub pair_never : (D s : List ℕ) → Proper D → Never (Pair s) (NoPair D s)
pair_never D s c i r j n p a (NoPair.empty e) = pair_starts c a.led a.first e
pair_never D s c i r j n p a (NoPair.first e l f) = number_never s _ _ _ _ _ (subst (λ (z : ℕ). Number s z r.from a.m) (led_one a.led l) a.first) f
pair_never D s c i r j n p a (NoPair.behind l f h) = second_never c a.split a.second (subst (λ (z : ℕ). NoSecond D s z n p) (firsts l f a.led a.first) h)

no_second_one : (D s : List ℕ) → Proper D → OneFault (NoSecond D s)
no_second_one D s c i n m p q (single e) (single f) = (refl, refl)
no_second_one D s c i n m p q (single e) (NoSecond.unsplit f g) = absurd (g e)
no_second_one D s c i n m p q (single e) (second f g) = absurd (at_dash c f e)
no_second_one D s c i n m p q (NoSecond.unsplit f g) (single e) = absurd (g e)
no_second_one D s c i n m p q (NoSecond.unsplit f g) (NoSecond.unsplit h k) = (refl, refl)
no_second_one D s c i n m p q (NoSecond.unsplit f g) (second h k) = absurd (f h)
no_second_one D s c i n m p q (second f g) (single e) = absurd (at_dash c f e)
no_second_one D s c i n m p q (second f g) (NoSecond.unsplit h k) = absurd (h f)
no_second_one D s c i n m p q (second f g) (second h k) = no_number_one s _ _ _ _ _ g k

pub no_pair_one : (D s : List ℕ) → Proper D → OneFault (NoPair D s)
no_pair_one D s c i n m p q (NoPair.empty e) (NoPair.empty f) = (refl, refl)
no_pair_one D s c i n m p q (NoPair.empty e) (NoPair.first f l g) = absurd (f e)
no_pair_one D s c i n m p q (NoPair.empty e) (NoPair.behind l f g) = absurd (pair_starts c l f e)
no_pair_one D s c i n m p q (NoPair.first f l g) (NoPair.empty e) = absurd (f e)
no_pair_one D s c i n m p q (NoPair.first e l f) (NoPair.first g k h) = no_number_one s _ _ _ _ _ (subst (λ (z : ℕ). NoNumber s z n p) (led_one l k) f) h
no_pair_one D s c i n m p q (NoPair.first e l f) (NoPair.behind k g h) = absurd (number_never s _ _ _ _ _ g (subst (λ (z : ℕ). NoNumber s z n p) (led_one l k) f))
no_pair_one D s c i n m p q (NoPair.behind l f g) (NoPair.empty e) = absurd (pair_starts c l f e)
no_pair_one D s c i n m p q (NoPair.behind k g h) (NoPair.first e l f) = absurd (number_never s _ _ _ _ _ g (subst (λ (z : ℕ). NoNumber s z m q) (led_one l k) f))
no_pair_one D s c i n m p q (NoPair.behind l f g) (NoPair.behind k e h) = no_second_one D s c _ _ _ _ _ (subst (λ (z : ℕ). NoSecond D s z n p) (firsts l f k e) g) h

-- ---- lists

module _ {A : Type 0} (Item : ℕ → A → ℕ → Type 0) (NoItem : ℕ → ℕ → ℕ → Type 0) (D s : List ℕ) (one : One Item) (never : Never Item NoItem) (fault : OneFault NoItem) (c : one_of D comma ≡ false) where
  no_item : {m n p : ℕ} → NoItem m n p → (a : A) (j : ℕ) → Passed Item s m a j → ⊥
  no_item x a j y = never _ _ _ _ _ y.item x

  no_behind : {m j : ℕ} {b : A} → Item m b j → ¬ At s j comma → (a : A) (k : ℕ) → Passed Item s m a k → ⊥
  no_behind x n a k y = let h = one _ _ _ _ _ y.item x in n (subst (λ (z : ℕ). At s z comma) h.1 y.behind)

  pub list_never : Never (Listed Item D s) (NoList Item NoItem D s)
  list_never i l j n p (empty e) (item f x y z) = f e
  list_never i l j n p (empty e) (NoList.unsplit f x y z u v) = f e
  list_never i l j n p (full e x y z u) (item f x' y' z') =
      let h = many_one (passed_one s one) (led_one x' x) y' (no_item z') y (last_item D one c z u) in
      never _ _ _ _ _ z (subst (λ (k : ℕ). NoItem k n p) h.1 z')
  list_never i l j n p (full e x y z u) (NoList.unsplit {j = k} {a = a} f x' y' z' u' v') =
      let h = many_one (passed_one s one) (led_one x' x) y' (no_behind z' u') y (last_item D one c z u) in
      let g = one _ _ _ _ _ (subst (λ (b : ℕ). Item b a k) h.1 z') z in
      v' (subst (λ (b : ℕ). Ends (one_of D) s b) (sym g.1) u)

  pub no_list_one : OneFault (NoList Item NoItem D s)
  no_list_one i n m p q (item f x y z) (item f' x' y' z') =
      let h = many_one (passed_one s one) (led_one x x') y (no_item z) y' (no_item z') in fault _ _ _ _ _ (subst (λ (k : ℕ). NoItem k n p) h.1 z) z'
  no_list_one i n m p q (item f x y z) (NoList.unsplit f' x' y' z' u' v') =
      let h = many_one (passed_one s one) (led_one x x') y (no_item z) y' (no_behind z' u') in absurd (never _ _ _ _ _ z' (subst (λ (k : ℕ). NoItem k n p) h.1 z))
  no_list_one i n m p q (NoList.unsplit f' x' y' z' u' v') (item f x y z) =
      let h = many_one (passed_one s one) (led_one x x') y (no_item z) y' (no_behind z' u') in absurd (never _ _ _ _ _ z' (subst (λ (k : ℕ). NoItem k m q) h.1 z))
  no_list_one i n m p q (NoList.unsplit {j = k} {a = a} f x y z u v) (NoList.unsplit f' x' y' z' u' v') =
      let h = many_one (passed_one s one) (led_one x x') y (no_behind z u) y' (no_behind z' u') in
      let g = one _ _ _ _ _ (subst (λ (b : ℕ). Item b a k) h.1 z) z' in
      (refl, g.1)

-- ---- values

proper_comma : {D : List ℕ} → Proper D → Proper (comma ∷ D)
unfolding one_of digit
proper_comma {D} c = record { no_dash = c.no_dash; no_figure = λ b h. go b h (eqb b comma) refl }
  where
    go : (b : ℕ) → digit b ≡ true → (t : Bool) → eqb b comma ≡ t → (t || one_of D b) ≡ false
    go b h true e = differ (sym (ap digit (eqb-true b comma e)) ∙ h) refl
    go b h false e = c.no_figure b h

-- the delimiters that are open around a value
pub record Around (D : List ℕ) : Type 0 where
  pub proper : Proper D
  pub commaless : one_of D comma ≡ false

module _ (D s : List ℕ) (c : Around D) where
  pub reads_never : {i j n p : ℕ} {t : Kind} {v : Value} → Reads D s i t v j → Unreadable D s i t n p → ⊥
  reads_never (is_string a) (no_string b) = text_never D s _ _ _ _ _ a b
  reads_never (is_number a) (no_number b) = number_never s _ _ _ _ _ a b
  reads_never (is_bool a) (no_bool b) = flag_never s _ _ _ _ _ a b
  reads_never (are_strings a) (no_strings b) =
      list_never (Text (comma ∷ D) s) (NoText s) D s (text_one (comma ∷ D) s) (text_never (comma ∷ D) s) (no_text_one s) c.commaless _ _ _ _ _ a b
  reads_never (is_pair a) (no_pair b) = pair_never D s c.proper _ _ _ _ _ a b
  reads_never (are_pairs a) (no_pairs b) =
      list_never (Pair s) (NoPair (comma ∷ D) s) D s (pair_one s) (pair_never (comma ∷ D) s (proper_comma c.proper)) (no_pair_one (comma ∷ D) s (proper_comma c.proper))
      c.commaless _ _ _ _ _ a b
  reads_never (is_absent a) (no_present f b) = f a
  reads_never (is_present e a) (no_present f b) = pair_never D s c.proper _ _ _ _ _ a b
  reads_never {i = i} {j = j} {n = n} {p = p} (Rattle.written.specs.HeaderText.is_unknown _) x11 = elim x11 [ ]

  pub unreadable_one : {i n m p q : ℕ} {t : Kind} → Unreadable D s i t n p → Unreadable D s i t m q → Same n m p q
  unreadable_one (no_string a) (no_string b) = no_text_one s _ _ _ _ _ a b
  unreadable_one (no_number a) (no_number b) = no_number_one s _ _ _ _ _ a b
  unreadable_one (no_bool a) (no_bool b) = no_flag_one s _ _ _ _ _ a b
  unreadable_one (no_strings a) (no_strings b) =
      no_list_one (Text (comma ∷ D) s) (NoText s) D s (text_one (comma ∷ D) s) (text_never (comma ∷ D) s) (no_text_one s) c.commaless _ _ _ _ _ a b
  unreadable_one (no_pair a) (no_pair b) = no_pair_one D s c.proper _ _ _ _ _ a b
  unreadable_one (no_pairs a) (no_pairs b) =
      no_list_one (Pair s) (NoPair (comma ∷ D) s) D s (pair_one s) (pair_never (comma ∷ D) s (proper_comma c.proper)) (no_pair_one (comma ∷ D) s (proper_comma c.proper))
      c.commaless _ _ _ _ _ a b
  unreadable_one (no_present e a) (no_present f b) = no_pair_one D s c.proper _ _ _ _ _ a b

pub around_nothing : Around []
unfolding one_of
around_nothing = record { proper = record { no_dash = refl; no_figure = λ b h. refl }; commaless = refl }

pub around_newline : Around (newline ∷ [])
unfolding one_of digit
around_newline = record { proper = record { no_dash = refl; no_figure = λ b h. go b h (eqb b newline) refl }; commaless = refl }
  where
    go : (b : ℕ) → digit b ≡ true → (t : Bool) → eqb b newline ≡ t → (t || false) ≡ false
    go b h true e = differ (sym (ap digit (eqb-true b newline e)) ∙ h) refl
    go b h false e = refl

-- ---- lines

key_one : {s : List ℕ} {i a b j k : ℕ} {w v : List ℕ} → Key s i a w j → Key s i b v k → (w ≡ v) × (j ≡ k)
key_one {s} x y =
    let h = text_one (newline ∷ colon ∷ []) s _ _ _ _ _ x.string y.string in
    (x.bytes_of ∙ ap (λ (z : Span). part s z.start z.len) h.0 ∙ sym y.bytes_of, h.1)

key_never : {s : List ℕ} {i a j n p : ℕ} {w : List ℕ} → Key s i a w j → NoText s i n p → ⊥
key_never {s} x y = text_never (newline ∷ colon ∷ []) s _ _ _ _ _ x.string y

no_value_one : (T : List Field) (s w : List ℕ) → OneFault (NoValue T s w)
no_value_one T s w i n m p q (NoValue.over e) (NoValue.over f) = (refl, refl)
no_value_one T s w i n m p q (NoValue.over e) (NoValue.unsplit l f) = absurd (omega arith)
no_value_one T s w i n m p q (NoValue.over e) (NoValue.value a f) = absurd (omega (arith, a.inside))
no_value_one T s w i n m p q (NoValue.over e) (NoValue.unended a f g) = absurd (omega (arith, a.inside))
no_value_one T s w i n m p q (NoValue.unsplit l f) (NoValue.over e) = absurd (omega arith)
no_value_one T s w i n m p q (NoValue.unsplit l f) (NoValue.unsplit k g) = (refl, refl)
no_value_one T s w i n m p q (NoValue.unsplit l f) (NoValue.value a g) = absurd (f a)
no_value_one T s w i n m p q (NoValue.unsplit l f) (NoValue.unended a g h) = absurd (f a)
no_value_one T s w i n m p q (NoValue.value a f) (NoValue.over e) = absurd (omega (arith, a.inside))
no_value_one T s w i n m p q (NoValue.value a g) (NoValue.unsplit l f) = absurd (f a)
no_value_one T s w i n m p q (NoValue.value a g) (NoValue.value b f) = unreadable_one (newline ∷ []) s around_newline g f
no_value_one T s w i n m p q (NoValue.value a g) (NoValue.unended b f h) = absurd (reads_never (newline ∷ []) s around_newline f g)
no_value_one T s w i n m p q (NoValue.unended a f g) (NoValue.over e) = absurd (omega (arith, a.inside))
no_value_one T s w i n m p q (NoValue.unended a g h) (NoValue.unsplit l f) = absurd (f a)
no_value_one T s w i n m p q (NoValue.unended b f h) (NoValue.value a g) = absurd (reads_never (newline ∷ []) s around_newline f g)
no_value_one T s w i n m p q (NoValue.unended a f g) (NoValue.unended b h k) = let r = reads_one (newline ∷ []) s around_newline.commaless f h in (refl, r.1)

-- a value that a line has
value_never : {T : List Field} {s w : List ℕ} {k j n p : ℕ} {v : Value} → At s k colon → Reads (newline ∷ []) s (k + 1) (kind_of T w) v j → Ends is_newline s j → NoValue T s w k n p → ⊥
value_never a r e (NoValue.over f) = omega (arith, a.inside)
value_never a r e (NoValue.unsplit l f) = f a
value_never {s = s} a r e (NoValue.value b f) = reads_never (newline ∷ []) s around_newline r f
value_never {s = s} a r e (NoValue.unended b f g) =
    let h = reads_one (newline ∷ []) s around_newline.commaless r f in g (subst (λ (z : ℕ). Ends is_newline s z) h.1 e)

pub no_line_one : (T : List Field) (xs : List Entry) (s : List ℕ) → OneFault (NoLine T xs s)
no_line_one T xs s i n m p q (NoLine.key a) (NoLine.key b) = no_text_one s _ _ _ _ _ a b
no_line_one T xs s i n m p q (NoLine.key a) (NoLine.repeated k r) = absurd (key_never k a)
no_line_one T xs s i n m p q (NoLine.key a) (NoLine.behind k r v) = absurd (key_never k a)
no_line_one T xs s i n m p q (NoLine.repeated k r) (NoLine.key a) = absurd (key_never k a)
no_line_one T xs s i n m p q (NoLine.repeated k r) (NoLine.repeated l t) = (refl, refl)
no_line_one T xs s i n m p q (NoLine.repeated k r) (NoLine.behind l t v) = absurd (t (subst (λ (w : List ℕ). Repeats T xs w) (key_one k l).0 r))
no_line_one T xs s i n m p q (NoLine.behind k r v) (NoLine.key a) = absurd (key_never k a)
no_line_one T xs s i n m p q (NoLine.behind l t v) (NoLine.repeated k r) = absurd (t (subst (λ (w : List ℕ). Repeats T xs w) (key_one k l).0 r))
no_line_one T xs s i n m p q (NoLine.behind {w = w} a r v) (NoLine.behind {k = l} b t u) =
    let h = key_one a b in
    no_value_one T s _ _ _ _ _ _ (subst (λ (z : List ℕ). NoValue T s z l n p) h.0 (subst (λ (z : ℕ). NoValue T s w z n p) h.1 v)) u

-- a line whose key does not repeat a field
pub line_never :
    (T : List Field) (xs : List Entry) (s : List ℕ) {i j n p : ℕ} {x : Entry} → Line T s i x j → Ends is_newline s j → ¬ Repeats T xs x.name → NoLine T xs s i n p → ⊥
line_never T xs s l e f (NoLine.key a) = key_never l.key a
line_never T xs s l e f (NoLine.repeated k r) = f (subst (λ (w : List ℕ). Repeats T xs w) (key_one k l.key).0 r)
line_never T xs s {n = n} {p = p} l e f (NoLine.behind {k = k} {w = w} a r v) =
    let h = key_one a l.key in
    value_never {T = T} l.split l.value e (subst (λ (z : List ℕ). NoValue T s z l.k n p) h.0 (subst (λ (z : ℕ). NoValue T s w z n p) h.1 v))
