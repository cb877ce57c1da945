-- Every value, and every section's text, is read or refused: the definitions leave nothing out.
use mathlib.Core.Path.{◌≡◌, refl, sym, ap, ap₂, ◌∙◌, subst}
use mathlib.Core.Bool.{Bool, true, false, not, cond}
use mathlib.Core.Option.{some, none as nothing}
use mathlib.Core.List.Memᴰ
use mathlib.Core.List.{List, [], ◌∷◌, ◌++◌, Memᴰ}
use mathlib.Core.Logic.{⊎_elim}
use Prim.Native.Nat.{ℕ, zero, suc, ◌+◌, ◌-◌, ◌^◌, ◌≤◌, ◌<◌}
use native.Mathlib.Omega.{arith}
use native.Mathlib.Decide.{dec_lt}
use lib.Dec.{eqb}
use lib.ListN.{length, get_or}
use borrow.Author.Tests.{eqb-true, eqb-false, not-true}
use Rattle.written.specs.Bytes.{newline, quote, comma, dash, colon, digit, is_newline, one_of, none_of, same, At, Each, Ends, over, met, part, decimal}
use Rattle.written.specs.HeaderText.{Text, Digits, Number, Flag, Led, swallowed, plain, Pair, Many, none, more, Passed, Listed, empty, full, Kind, a_string, a_number, a_bool, strings, a_pair, pairs, perhaps_a_pair, anything, Value, text, number, flag, texts, range, ranges, perhaps, unread, Reads, is_string, is_number, is_bool, are_strings, is_pair, are_pairs, is_absent, is_present, is_unknown, Field, kind_of, Entry, values_of, Distinct, Key, Line, NextLine, Section}
use Rattle.written.specs.Faults.{NoText, NoNumber, no_digit, too_large, NoFlag, NoSecond, single, second, NoPair, NoList, item, Unreadable, no_string, no_number, no_bool, no_strings, no_pair, no_pairs, no_present, Repeats, NoValue, NoLine, NoSection}
use Rattle.written.proofs.Tests.{differ, both, span}
use Rattle.laws.specs.Runs.{stop}
use Rattle.laws.proofs.Cursor.{stop_each, stop_ends, bare_string, unknown_value, close, quoted_string, open_string, digit-run}
use Rattle.written_apart.proofs.ApartFile.{values_append, same_same}

-- from i on: something is read up to j, or refused
pub data Outcome {A : Type 0} (s : List ℕ) (i : ℕ) (R : A → ℕ → Type 0) (N : ℕ → ℕ → Type 0) : Type 0 where
  good : (a : A) (j : ℕ) → i ≤ j → j ≤ length s → R a j → Outcome s i R N
  bad : (n p : ℕ) → N n p → Outcome s i R N

-- ---- what stands at a place

unfoldable pub at_dec : (s : List ℕ) (i b : ℕ) → Dec (At s i b)
at_dec s i b = go (dec_lt i (length s)) (eqb (get_or s i 0) b) refl
  where
    go : Dec (i < length s) → (t : Bool) → eqb (get_or s i 0) b ≡ t → Dec (At s i b)
    go (no l) t e = no (λ h. l h.inside)
    go (yes l) true e = yes (record { inside = l; byte = eqb-true (get_or s i 0) b e })
    go (yes l) false e = no (λ h. eqb-false (get_or s i 0) b e h.byte)

unfoldable pub ends_dec : (p : ℕ → Bool) (s : List ℕ) (i : ℕ) → i ≤ length s → Dec (Ends p s i)
ends_dec p s i h = go (dec_lt i (length s)) (p (get_or s i 0)) refl
  where
    goes : i < length s → p (get_or s i 0) ≡ false → ¬ Ends p s i
    goes l e (over f) = omega arith
    goes l e (met k f) = differ {A = ⊥} f e

    go : Dec (i < length s) → (t : Bool) → p (get_or s i 0) ≡ t → Dec (Ends p s i)
    go (no l) t e = yes (over (omega arith))
    go (yes l) true e = yes (met l e)
    go (yes l) false e = no (goes l e)

-- ---- strings, numbers, bools

unfoldable pub text_total : (D s : List ℕ) (i : ℕ) → i ≤ length s → Outcome s i (Text D s i) (NoText s i)
text_total D s i h = go (at_dec s i quote)
  where
    shut : At s i quote → Dec (close s i < length s) → Outcome s i (Text D s i) (NoText s i)
    shut a (yes l) =
        let k : i + 1 ≤ length s = omega (arith, a.inside) in
        let o = stop_each (none_of (quote ∷ [])) s (i + 1) k in
        good (span (i + 1) (close s i - (i + 1))) (close s i + 1) (omega (arith, o.order)) (omega arith) (quoted_string D s i a l)
    shut a (no l) = bad 3 (length s) (open_string s i a (omega arith))

    go : Dec (At s i quote) → Outcome s i (Text D s i) (NoText s i)
    go (yes a) = shut a (dec_lt (close s i) (length s))
    go (no a) = let o = stop_each (none_of D) s i h in good (span i (stop (none_of D) s i - i)) (stop (none_of D) s i) o.order o.inside (bare_string D s i h a)

unfoldable pub number_total : (s : List ℕ) (i : ℕ) → i ≤ length s → Outcome s i (Number s i) (NoNumber s i)
number_total s i h = go (dec_lt i (length s)) (digit (get_or s i 0)) refl
  where
    size : (d : Digits s i (stop digit s i)) → Dec (decimal 0 (part s i (stop digit s i - i)) < 2 ^ 64) → Outcome s i (Number s i) (NoNumber s i)
    size d (yes f) = good (decimal 0 (part s i (stop digit s i - i))) (stop digit s i) d.digits.order d.digits.inside (record { digits = d; says = refl; fits = f })
    size d (no f) = bad 10 i (too_large d (omega arith))

    go : Dec (i < length s) → (t : Bool) → digit (get_or s i 0) ≡ t → Outcome s i (Number s i) (NoNumber s i)
    go (no l) t e = bad 3 (length s) (NoNumber.over (omega arith))
    go (yes l) true e = size (digit-run s i l e) (dec_lt (decimal 0 (part s i (stop digit s i - i))) (2 ^ 64))
    go (yes l) false e = bad 5 i (no_digit l e)

unfoldable pub flag_total : (s : List ℕ) (i : ℕ) → i ≤ length s → Outcome s i (Flag s i) (NoFlag s i)
unfolding one_of
flag_total s i h = go (dec_lt i (length s)) (eqb (get_or s i 0) 48) refl (eqb (get_or s i 0) 49) refl
  where
    go : Dec (i < length s) → (t : Bool) → eqb (get_or s i 0) 48 ≡ t → (u : Bool) → eqb (get_or s i 0) 49 ≡ u → Outcome s i (Flag s i) (NoFlag s i)
    go (no l) t e u f = bad 3 (length s) (NoFlag.over (omega arith))
    go (yes l) true e u f = good false (i + 1) (omega arith) (omega arith) (Flag.zero (record { inside = l; byte = eqb-true (get_or s i 0) 48 e }) refl refl)
    go (yes l) false e true f = good true (i + 1) (omega arith) (omega arith) (Flag.one (record { inside = l; byte = eqb-true (get_or s i 0) 49 f }) refl refl)
    go (yes l) false e false f = bad 4 i (NoFlag.other l (rw (e, f)))

unfoldable pub unknown_total : (D s : List ℕ) (i : ℕ) → i ≤ length s → Outcome s i (λ v j. Reads D s i anything v j) (Unreadable D s i anything)
unknown_total D s i h = let o = stop_each (none_of D) s i h in good (unread (span i (stop (none_of D) s i - i))) (stop (none_of D) s i) o.order o.inside (is_unknown (unknown_value D s i h))

-- ---- pairs and lists

pub record Behind (d : ℕ) (s : List ℕ) (i : ℕ) : Type 0 where
  pub k : ℕ
  pub from : i ≤ k
  pub inside : k ≤ length s
  pub led : Led d s i k

unfoldable pub led_total : (d : ℕ) (s : List ℕ) (i : ℕ) → i ≤ length s → Behind d s i
led_total d s i h = go (at_dec s i d)
  where
    go : Dec (At s i d) → Behind d s i
    go (yes a) = record { k = i + 1; from = omega arith; inside = omega (arith, a.inside); led = swallowed a refl }
    go (no a) = record { k = i; from = omega arith; inside = h; led = plain a refl }

unfoldable pub pair_total : (D s : List ℕ) (i : ℕ) → i ≤ length s → Outcome s i (Pair s i) (NoPair D s i)
pair_total D s i h = start (ends_dec (one_of D) s i h)
  where
    l : Behind dash s i
    l = led_total dash s i h

    last : (a m : ℕ) → l.k ≤ m → m ≤ length s → Number s l.k a m → (sp : At s m dash) → Outcome s (m + 1) (Number s (m + 1)) (NoNumber s (m + 1)) → Outcome s i (Pair s i) (NoPair D s i)
    last a m x y f sp (bad n p g) = bad n p (NoPair.behind l.led f (second sp g))
    last a m x y f sp (good b j u v g) =
        good (record { from = a; to = b }) j (omega (arith, l.from)) v (record { k = l.k; m = m; led = l.led; first = f; split = sp; second = g })

    closed : (a m : ℕ) → Number s l.k a m → ¬ At s m dash → Dec (Ends (one_of D) s m) → Outcome s i (Pair s i) (NoPair D s i)
    closed a m f ns (yes e) = bad 9 0 (NoPair.behind l.led f (single e))
    closed a m f ns (no e) = bad 6 m (NoPair.behind l.led f (NoSecond.unsplit ns e))

    middle : (a m : ℕ) → l.k ≤ m → m ≤ length s → Number s l.k a m → Dec (At s m dash) → Outcome s i (Pair s i) (NoPair D s i)
    middle a m x y f (yes sp) = last a m x y f sp (number_total s (m + 1) (omega (arith, sp.inside)))
    middle a m x y f (no ns) = closed a m f ns (ends_dec (one_of D) s m y)

    first : ¬ Ends (one_of D) s i → Outcome s l.k (Number s l.k) (NoNumber s l.k) → Outcome s i (Pair s i) (NoPair D s i)
    first ne (bad n p f) = bad n p (NoPair.first ne l.led f)
    first ne (good a m x y f) = middle a m x y f (at_dec s m dash)

    start : Dec (Ends (one_of D) s i) → Outcome s i (Pair s i) (NoPair D s i)
    start (yes e) = bad 9 0 (NoPair.empty e)
    start (no e) = first e (number_total s l.k l.inside)

module _ {A : Type 0} (Item : ℕ → A → ℕ → Type 0) (NoItem : ℕ → ℕ → ℕ → Type 0) (D s : List ℕ) (total : (i : ℕ) → i ≤ length s → Outcome s i (Item i) (NoItem i)) where
  -- the items from k on
  pub data Items (k : ℕ) : Type 0 where
    done : (l : List A) (a : A) (m j : ℕ) → k ≤ j → j ≤ length s → Many (Passed Item s) k l m → Item m a j → Ends (one_of D) s j → Items k
    faulty : (l : List A) (m n p : ℕ) → Many (Passed Item s) k l m → NoItem m n p → Items k
    unsplit : (l : List A) (a : A) (m j : ℕ) → Many (Passed Item s) k l m → Item m a j → ¬ At s j comma → ¬ Ends (one_of D) s j → Items k

  unfoldable pub onward : {k j : ℕ} {a : A} → k ≤ j → Item k a j → At s j comma → Items (j + 1) → Items k
  onward {k} {j} {a} w x c (done l b m e u v r y f) = done (a ∷ l) b m e (omega arith) v (more (record { k = j; item = x; behind = c; next = refl }) r) y f
  onward {k} {j} {a} w x c (faulty l m n p r y) = faulty (a ∷ l) m n p (more (record { k = j; item = x; behind = c; next = refl }) r) y
  onward {k} {j} {a} w x c (unsplit l b m e r y f g) = unsplit (a ∷ l) b m e (more (record { k = j; item = x; behind = c; next = refl }) r) y f g

  unfoldable pub stopped : {k j : ℕ} {a : A} → k ≤ j → j ≤ length s → Item k a j → ¬ At s j comma → Dec (Ends (one_of D) s j) → Items k
  stopped {k} {j} {a} u v x c (yes e) = done [] a k j u v none x e
  stopped {k} {j} {a} u v x c (no e) = unsplit [] a k j none x c e

  unfoldable pub items_total : (f k : ℕ) → k ≤ length s → length s ≤ k + f → Items k
  items_total zero k h w = go (total k h)
    where
      dec : {j : ℕ} {a : A} → k ≤ j → j ≤ length s → Item k a j → Dec (At s j comma) → Items k
      dec u v x (yes c) = absurd (omega (arith, c.inside))
      dec {j} u v x (no c) = stopped u v x c (ends_dec (one_of D) s j v)

      go : Outcome s k (Item k) (NoItem k) → Items k
      go (bad n p x) = faulty [] k n p none x
      go (good a j u v x) = dec u v x (at_dec s j comma)
  items_total (suc f) k h w = go (λ j u v. items_total f j u v) (total k h)
    where
      dec : ((j : ℕ) → j ≤ length s → length s ≤ j + f → Items j) → {j : ℕ} {a : A} → k ≤ j → j ≤ length s → Item k a j → Dec (At s j comma) → Items k
      dec r {j} u v x (yes c) = onward u x c (r (j + 1) (omega (arith, c.inside)) (omega arith))
      dec r {j} u v x (no c) = stopped u v x c (ends_dec (one_of D) s j v)

      go : ((j : ℕ) → j ≤ length s → length s ≤ j + f → Items j) → Outcome s k (Item k) (NoItem k) → Items k
      go r (bad n p x) = faulty [] k n p none x
      go r (good a j u v x) = dec r u v x (at_dec s j comma)

  unfoldable pub list_total : (i : ℕ) → i ≤ length s → Outcome s i (Listed Item D s i) (NoList Item NoItem D s i)
  list_total i h = start (ends_dec (one_of D) s i h)
    where
      b : Behind comma s i
      b = led_total comma s i h

      go : ¬ Ends (one_of D) s i → Items b.k → Outcome s i (Listed Item D s i) (NoList Item NoItem D s i)
      go e (done l a m j u v r x f) = good (l ++ (a ∷ [])) j (omega (arith, b.from)) v (full e b.led r x f)
      go e (faulty l m n p r x) = bad n p (item e b.led r x)
      go e (unsplit l a m j r x c f) = bad 6 j (NoList.unsplit e b.led r x c f)

      start : Dec (Ends (one_of D) s i) → Outcome s i (Listed Item D s i) (NoList Item NoItem D s i)
      start (yes e) = good [] i (omega arith) h (empty e)
      start (no e) = go e (items_total (length s) b.k b.inside (omega arith))

-- ---- values

unfoldable pub mapped : {A B : Type 0} {s : List ℕ} {i : ℕ} {R : A → ℕ → Type 0} {Q : B → ℕ → Type 0} {N M : ℕ → ℕ → Type 0} (f : A → B) → ((a : A) (j : ℕ) → R a j → Q (f a) j) → ((n p : ℕ) → N n p → M n p)
    → Outcome s i R N → Outcome s i Q M
mapped f g h (good a j u v r) = good (f a) j u v (g a j r)
mapped f g h (bad n p r) = bad n p (h n p r)

unfoldable pub reads_total : (D s : List ℕ) (i : ℕ) (t : Kind) → i ≤ length s → Outcome s i (Reads D s i t) (Unreadable D s i t)
reads_total D s i a_string h = mapped text (λ a j r. is_string r) (λ n p r. no_string r) (text_total D s i h)
reads_total D s i a_number h = mapped number (λ a j r. is_number r) (λ n p r. no_number r) (number_total s i h)
reads_total D s i a_bool h = mapped flag (λ a j r. is_bool r) (λ n p r. no_bool r) (flag_total s i h)
reads_total D s i strings h = mapped texts (λ a j r. are_strings r) (λ n p r. no_strings r) (list_total (Text (comma ∷ D) s) (NoText s) D s (text_total (comma ∷ D) s) i h)
reads_total D s i a_pair h = mapped range (λ a j r. is_pair r) (λ n p r. no_pair r) (pair_total D s i h)
reads_total D s i pairs h = mapped ranges (λ a j r. are_pairs r) (λ n p r. no_pairs r) (list_total (Pair s) (NoPair (comma ∷ D) s) D s (pair_total (comma ∷ D) s) i h)
reads_total D s i perhaps_a_pair h = go (ends_dec is_newline s i h)
  where
    go : Dec (Ends is_newline s i) → Outcome s i (Reads D s i perhaps_a_pair) (Unreadable D s i perhaps_a_pair)
    go (yes e) = good (perhaps nothing) i (omega arith) h (is_absent e)
    go (no e) = mapped (λ r. perhaps (some r)) (λ a j r. is_present e r) (λ n p r. no_present e r) (pair_total D s i h)
reads_total D s i anything h = unknown_total D s i h

-- ---- lines

pub same_true : (a b : List ℕ) → same a b ≡ true → a ≡ b
unfolding same
same_true [] [] e = refl
same_true [] (c ∷ b) e = differ e refl
same_true (x ∷ a) [] e = differ e refl
same_true (x ∷ a) (c ∷ b) e = let h = both (eqb x c) (same a b) e in ap₂ ◌∷◌ (eqb-true x c h.0) (same_true a b h.1)

-- whether w is a field's name
pub record Named (T : List Field) (w : List ℕ) : Type 0 where
  pub field : Field
  pub of_table : Memᴰ field T
  pub same_name : field.name ≡ w

unfoldable pub named_dec : (T : List Field) (w : List ℕ) → Dec (Named T w)
named_dec [] w = no (λ h. elim h.of_table [ ])
named_dec (f ∷ T) w = go (same f.name w) refl (named_dec T w)
  where
    else : same f.name w ≡ false → ¬ Named T w → ¬ Named (f ∷ T) w
    else e n h =
        ⊎_elim
        (λ q. differ {A = ⊥} (ap (λ (v : List ℕ). same v w) (ap (λ (g : Field). g.name) (sym q) ∙ h.same_name) ∙ same_same w) e)
        (λ m. n (record { field = h.field; of_table = m; same_name = h.same_name })) (Memᴰ.cases_cons h.of_table)

    go : (t : Bool) → same f.name w ≡ t → Dec (Named T w) → Dec (Named (f ∷ T) w)
    go true e d = yes (record { field = f; of_table = Memᴰ.head refl; same_name = same_true f.name w e })
    go false e (yes h) = yes (record { field = h.field; of_table = Memᴰ.tail h.of_table; same_name = h.same_name })
    go false e (no h) = no (else e h)

unfoldable pub repeats_dec : (T : List Field) (xs : List Entry) (w : List ℕ) → Dec (Repeats T xs w)
repeats_dec T xs w = go (named_dec T w) (dec_lt 0 (length (values_of w xs)))
  where
    go : Dec (Named T w) → Dec (0 < length (values_of w xs)) → Dec (Repeats T xs w)
    go (no h) d = no (λ r. h (record { field = r.field; of_table = r.of_table; same_name = r.same_name }))
    go (yes h) (yes l) = yes (record { field = h.field; of_table = h.of_table; same_name = h.same_name; before = l })
    go (yes h) (no l) = no (λ r. l r.before)

-- the line at m, after the lines xs
pub data LineAt (T : List Field) (xs : List Entry) (s : List ℕ) (m : ℕ) : Type 0 where
  line : (x : Entry) (j : ℕ) → m < j → j ≤ length s → Line T s m x j → Ends is_newline s j → ¬ Repeats T xs x.name → LineAt T xs s m
  wrong : (n p : ℕ) → NoLine T xs s m n p → LineAt T xs s m

unfoldable pub line_total : (T : List Field) (xs : List Entry) (s : List ℕ) (m : ℕ) → m ≤ length s → LineAt T xs s m
line_total T xs s m h = start (text_total (newline ∷ colon ∷ []) s m h)
  where
    ended : (w : List ℕ) (a k : ℕ) (v : Value) (j : ℕ) → m ≤ k → k + 1 ≤ j → j ≤ length s → Key s m a w k → ¬ Repeats T xs w → At s k colon → Reads (newline ∷ []) s (k + 1) (kind_of T w) v j → Dec (Ends is_newline s j) → LineAt T xs s m
    ended w a k v j x y z q r c g (yes e) = line (record { at = a; name = w; value = v }) j (omega arith) z (record { k = k; key = q; split = c; value = g }) e r
    ended w a k v j x y z q r c g (no e) = wrong 8 j (NoLine.behind q r (NoValue.unended c g e))

    value : (w : List ℕ) (a k : ℕ) → m ≤ k → Key s m a w k → ¬ Repeats T xs w → At s k colon → Outcome s (k + 1) (Reads (newline ∷ []) s (k + 1) (kind_of T w)) (Unreadable (newline ∷ []) s (k + 1) (kind_of T w)) → LineAt T xs s m
    value w a k x q r c (bad n p g) = wrong n p (NoLine.behind q r (NoValue.value c g))
    value w a k x q r c (good v j y z g) = ended w a k v j x y z q r c g (ends_dec is_newline s j z)

    split : (w : List ℕ) (a k : ℕ) → m ≤ k → k ≤ length s → Key s m a w k → ¬ Repeats T xs w → Dec (At s k colon) → Dec (k < length s) → LineAt T xs s m
    split w a k x y q r (yes c) d = value w a k x q r c (reads_total (newline ∷ []) s (k + 1) (kind_of T w) (omega (arith, c.inside)))
    split w a k x y q r (no c) (yes l) = wrong 7 k (NoLine.behind q r (NoValue.unsplit l c))
    split w a k x y q r (no c) (no l) = wrong 3 (length s) (NoLine.behind q r (NoValue.over (omega arith)))

    key : (w : List ℕ) (a k : ℕ) → m ≤ k → k ≤ length s → Key s m a w k → Dec (Repeats T xs w) → LineAt T xs s m
    key w a k x y q (yes r) = wrong 9 0 (NoLine.repeated q r)
    key w a k x y q (no r) = split w a k x y q r (at_dec s k colon) (dec_lt k (length s))

    start : Outcome s m (Text (newline ∷ colon ∷ []) s m) (NoText s m) → LineAt T xs s m
    start (bad n p f) = wrong n p (NoLine.key f)
    start (good z k x y f) =
        let w : List ℕ = part s z.start z.len in
        key w z.start k x y (record { len = z.len; string = f; bytes_of = refl }) (repeats_dec T xs w)

-- ---- sections

pub snoc : {A : Type 0} {R : ℕ → A → ℕ → Type 0} {i j k : ℕ} {l : List A} {a : A} → Many R i l j → R j a k → Many R i (l ++ (a ∷ [])) k
snoc none r = more r none
snoc (more q m) r = more q (snoc m r)

pub distinct_more : {T : List Field} {xs : List Entry} (x : Entry) → Distinct T xs → ¬ Repeats T xs x.name → Distinct T (xs ++ (x ∷ []))
unfolding values_of
distinct_more {T} {xs} x d r = record { once = λ f m. go f m (same f.name x.name) refl (dec_lt 0 (length (values_of f.name xs))) }
  where
    go : (f : Field) → Memᴰ f T → (t : Bool) → same f.name x.name ≡ t → Dec (0 < length (values_of f.name xs)) → length (values_of f.name (xs ++ (x ∷ []))) ≤ 1
    go f m true e (no l) =
        let q : length (values_of f.name (x ∷ [])) ≡ 1 = ap (λ (t : Bool). length (cond t (x.value ∷ []) [])) e in
        omega (arith, values_append f.name xs (x ∷ []))
    go f m true e (yes l) =
        let q : f.name ≡ x.name = same_true f.name x.name e in
        absurd (r (record { field = f; of_table = m; same_name = q; before = subst (λ (w : List ℕ). 0 < length (values_of w xs)) q l }))
    go f m false e l =
        let q : length (values_of f.name (x ∷ [])) ≡ 0 = ap (λ (t : Bool). length (cond t (x.value ∷ []) [])) e in
        omega (arith, values_append f.name xs (x ∷ []), d.once f m)

pub data SectionAt (T : List Field) (s : List ℕ) (i : ℕ) : Type 0 where
  section : (xs : List Entry) → Section T s i xs → SectionAt T s i
  refused : (n p : ℕ) → NoSection T s i n p → SectionAt T s i

unfoldable pub lines_total : (T : List Field) (s : List ℕ) (i f : ℕ) (xs : List Entry) (k : ℕ) → k ≤ length s → length s < k + f → Many (NextLine T s) i xs k → Distinct T xs → SectionAt T s i
lines_total T s i zero xs k h w m d = absurd (omega arith)
lines_total T s i (suc f) xs k h w m d = start (λ ys n a b c e. lines_total T s i f ys n a b c e) (ends_dec is_newline s (stop is_newline s k) (stop_each is_newline s k h).inside)
  where
    blank : Each is_newline s k (stop is_newline s k)
    blank = stop_each is_newline s k h

    over_all : Ends is_newline s (stop is_newline s k) → Ends (λ b. not (is_newline b)) s (stop is_newline s k) → Each is_newline s k (length s)
    over_all (over e) z = subst (λ (n : ℕ). Each is_newline s k n) e blank
    over_all (met l e) (over g) = absurd (omega arith)
    over_all (met l e) (met u g) = differ e (not-true (is_newline (get_or s (stop is_newline s k) 0)) g)

    here : ((ys : List Entry) (n : ℕ) → n ≤ length s → length s < n + f → Many (NextLine T s) i ys n → Distinct T ys → SectionAt T s i) → ¬ Ends is_newline s (stop is_newline s k) → LineAt T xs s (stop is_newline s k) → SectionAt T s i
    here rec e (wrong n p g) = refused n p (record { k = k; m = stop is_newline s k; xs = xs; lines = m; distinct = d; blank = blank; here = e; wrong = g })
    here rec e (line x j u v g z r) =
        rec (xs ++ (x ∷ [])) j v (omega (arith, blank.order)) (snoc m (record { k = stop is_newline s k; blank = blank; line = g; ends = z })) (distinct_more x d r)

    start : ((ys : List Entry) (n : ℕ) → n ≤ length s → length s < n + f → Many (NextLine T s) i ys n → Distinct T ys → SectionAt T s i) → Dec (Ends is_newline s (stop is_newline s k)) → SectionAt T s i
    start rec (yes e) = section xs (record { k = k; lines = m; blank = over_all e (stop_ends is_newline s k h (λ b. not (is_newline b)) (λ b e. ap not e)); distinct = d })
    start rec (no e) = here rec e (line_total T xs s (stop is_newline s k) blank.inside)

-- every text from i on is a section, or is refused
unfoldable pub section_total : (T : List Field) (s : List ℕ) (i : ℕ) → i ≤ length s → SectionAt T s i
unfolding values_of
section_total T s i h = lines_total T s i (suc (length s)) [] i h (omega arith) none (record { once = λ f m. omega arith })
