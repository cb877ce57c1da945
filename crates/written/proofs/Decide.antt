-- Whether a text says something is decided, rule by rule: a reader that stands at a place finds the one thing that stands there, or that nothing does.
use mathlib.Core.Path.{◌≡◌, refl, sym, ap, ◌∙◌, subst}
use mathlib.Core.Bool.{Bool, true, false}
use mathlib.Core.List.{List, [], ◌∷◌}
use Prim.Native.Nat.{ℕ, zero, suc, ◌+◌, ◌^◌, ◌≤◌, ◌<◌}
use native.Mathlib.Decide.{dec_lt, dec_le, ℕ_discrete}
use native.Mathlib.Omega.{arith}
use lib.ListN.{length}
use lib.IntN.{ℤ}
use borrow.Author.Tests.{le-ltb}
use lib.Dec.{lit<}
use mathlib.Core.Option.{Option, none as nothing, some as just}
use mathlib.Core.Logic.{◌⊎◌, inl, inr}
use Rattle.written.specs.Bytes.{digit, in_pattern, in_word, blank, space_or_tab, in_name, Span, byte_at, between, decimal, brace, bracket, unbracket, quote, comma, dash, newline}
use Rattle.written.specs.Said.{Ref, Line, Body, Tree, Question, Text, QuestionPlace, TreePlace, Layout}
use Rattle.written.specs.TreeText.{Parted, last, next, Word, Byte, end, byte, Run, stop, more, Run₁, some, Parting, LineParting, Comma, parting, Digits, digits, Number, plus, minus, Bare, number, word, Reference, bare, quoted, PatternAt, QuestionAt, question, LineAt, line, BodyAt, one, none, lines, TreeAt, tree, TreesAt, trees, Says, without, with_questions, QS, star}
use Rattle.written.proofs.Once.{run_once, run₁_once, word_once, digits_once, number_once, bare_once, reference_once, parting_once, tree_once, says_once, parted_once, Fixed, head, Before, before, patterns_fixed, lines_fixed, trees_fixed, questions_fixed, at_end, tree_first, question_first, trees_before, run-le, run₁-lt, digits_lt, word_first, first}

-- ---- one after the other

map_dec : {A B : Type 0} → (A → B) → (B → A) → Dec A → Dec B
map_dec f g (yes a) = yes (f a)
map_dec f g (no n) = no (λ b. n (g b))

-- a between that ends at one place, and then the rest from there
seq? : {P Q : ℕ → Type 0} → Dec ((a : ℕ) × P a) → ((a b : ℕ) → P a → P b → a ≡ b) → ((a : ℕ) → P a → Dec (Q a)) → Dec ((a : ℕ) × P a × Q a)
seq? (no n) u f = no (λ r. n (r.0, r.1))
seq? {P} {Q} (yes p) u f = go (f p.0 p.1)
  where
    go : Dec (Q p.0) → Dec ((a : ℕ) × P a × Q a)
    go (yes q) = yes (p.0, p.1, q)
    go (no n) = no (λ r. n (subst Q (u r.0 p.0 r.1 p.1) r.2))

both? : {A B : Type 0} → Dec A → Dec B → Dec (A × B)
both? (yes a) (yes b) = yes (a, b)
both? (yes a) (no n) = no (λ r. n r.1)
both? (no n) d = no (λ r. n r.0)

either? : {A B C : Type 0} → (A → C) → (B → C) → (C → (¬ A) → B) → Dec A → Dec B → Dec C
either? f g h (yes a) d = yes (f a)
either? f g h (no n) (yes b) = yes (g b)
either? f g h (no n) (no m) = no (λ c. m (h c n))

pub past_end : (s : List ℕ) (i : ℕ) → length s ≤ i → byte_at s i ≡ 256
unfolding byte_at
past_end s i h = rw (le-ltb i (length s) h)

-- a place below a bound
below? : {P : ℕ → Type 0} → ((k : ℕ) → Dec (P k)) → (m : ℕ) → Dec ((k : ℕ) × (k < m) × P k)
below? d zero = no (λ r. let h = r.1 in omega arith)
below? {P} d (suc m) = go (d m) (below? d m)
  where
    go : Dec (P m) → Dec ((k : ℕ) × (k < m) × P k) → Dec ((k : ℕ) × (k < suc m) × P k)
    go (yes p) r = yes (m, omega arith, p)
    go (no n) (yes r) = yes (r.0, omega (arith, r.1), r.2)
    go (no n) (no q) = no (λ r. pick r (dec_lt r.0 m))
      where
        pick : (r : (k : ℕ) × (k < suc m) × P k) → Dec (r.0 < m) → ⊥
        pick r (yes h) = q (r.0, h, r.2)
        pick r (no h) = let u = r.1 in let e : r.0 ≡ m = omega arith in n (subst P e r.2)

module _ (s : List ℕ) where
  -- ---- words and runs

  byte? : (i b : ℕ) → Dec (byte_at s i ≡ b)
  byte? i b = ℕ_discrete (byte_at s i) b

  pub un_byte : {b i j : ℕ} {w : List ℕ} → Word s (b ∷ w) i j → (byte_at s i ≡ b) × Word s w (suc i) j
  un_byte (byte h t) = (h, t)

  pub word? : (w : List ℕ) (i : ℕ) → Dec ((j : ℕ) × Word s w i j)
  word? [] i = yes (i, end)
  word? (b ∷ w) i = map_dec (λ r. (r.1.0, byte r.0 r.1.1)) (λ r. let u = un_byte r.1 in (u.0, (r.0, u.1))) (both? (byte? i b) (word? w (suc i)))

  bool? : (b : Bool) → Dec (b ≡ true)
  bool? true = yes refl
  bool? false = no (λ e. let z : ◌≡◌ {A = ℕ} 0 1 = cc in omega arith)

  run! : (p : ℕ → Bool) → p 256 ≡ false → (n i : ℕ) → length s ≤ i + n → (j : ℕ) × Run s p i j
  run! p e zero i h = (i, stop (ap p (past_end s i (omega arith)) ∙ e))
  run! p e (suc n) i h = go (p (byte_at s i)) refl (run! p e n (suc i) (omega arith))
    where
      go : (b : Bool) → p (byte_at s i) ≡ b → (j : ℕ) × Run s p (suc i) j → (j : ℕ) × Run s p i j
      go true y r = (r.0, more y r.1)
      go false y r = (i, stop y)

  pub run : (p : ℕ → Bool) → p 256 ≡ false → (i : ℕ) → (j : ℕ) × Run s p i j
  run p e i = run! p e (length s) i (omega arith)

  un_some : {p : ℕ → Bool} {i j : ℕ} → Run₁ s p i j → (p (byte_at s i) ≡ true) × Run s p (suc i) j
  un_some (some y r) = (y, r)

  run₁? : (p : ℕ → Bool) → p 256 ≡ false → (i : ℕ) → Dec ((j : ℕ) × Run₁ s p i j)
  run₁? p e i = let r = run p e (suc i) in map_dec (λ y. (r.0, some y r.1)) (λ q. first q.1) (bool? (p (byte_at s i)))

  -- ---- numbers and references

  pub un_digits : {i j n : ℕ} → Digits s i j n → Run₁ s digit i j
  un_digits (digits r) = r

  digits? : (i : ℕ) → Dec ((j : ℕ) × ((n : ℕ) × Digits s i j n))
  unfolding digit
  digits? i = map_dec (λ r. (r.0, (_, digits r.1))) (λ r. (r.0, un_digits r.1.1)) (run₁? digit refl i)

  -- digits whose number passes a test
  fits? : {F : ℕ → Type 0} → ((n : ℕ) → Dec (F n)) → (i : ℕ) → Dec ((j : ℕ) × (n : ℕ) × Digits s i j n × F n)
  fits? {F} f i = go (digits? i)
    where
      go : Dec ((j : ℕ) × ((n : ℕ) × Digits s i j n)) → Dec ((j : ℕ) × (n : ℕ) × Digits s i j n × F n)
      go (no m) = no (λ r. m (r.0, (r.1, r.2)))
      go (yes d) = map_dec (λ h. (d.0, d.1.0, d.1.1, h)) (λ r. subst F (digits_once r.2 d.1.1 refl).1 r.3) (f d.1.0)

  pub Minus : ℕ → Type 0
  Minus i = (a : ℕ) × Byte s dash i a × ((j : ℕ) × (n : ℕ) × Digits s a j n × (n ≤ 2 ^ 63))

  minus? : (i : ℕ) → Dec (Minus i)
  unfolding Minus
  minus? i = seq? (word? (dash ∷ []) i) (λ a b p q. word_once p q refl) (λ a p. fits? (λ n. dec_le n (2 ^ 63)) a)

  pub un_number : {i j : ℕ} {x : ℤ} → Number s i j x → (¬ ((j : ℕ) × (n : ℕ) × Digits s i j n × (n < 2 ^ 63))) → Minus i
  unfolding Minus
  un_number (plus d f) m = absurd (m (_, _, d, f))
  un_number (minus w d f) m = (_, w, (_, _, d, f))

  pub number? : (i : ℕ) → Dec ((j : ℕ) × ((x : ℤ) × Number s i j x))
  unfolding Minus
  number? i =
      either? (λ r. (r.0, (_, plus r.2 r.3))) (λ r. (r.2.0, (_, minus r.1 r.2.2 r.2.3))) (λ r m. un_number r.1.1 m)
      (fits? (λ n. dec_lt n (2 ^ 63)) i) (minus? i)

  -- a place k after which the digits go up to j
  pub Cut : ℕ → ℕ → ℕ → Type 0
  Cut i j k = (i ≤ k) × (digit (byte_at s k) ≡ false) × ((n : ℕ) × Digits s (suc k) j n × (n < 2 ^ 63))

  false? : (b : Bool) → Dec (b ≡ false)
  false? false = yes refl
  false? true = no (λ e. let z : ◌≡◌ {A = ℕ} 0 1 = cc in omega arith)

  upto? : (i j : ℕ) → Dec ((n : ℕ) × Digits s i j n × (n < 2 ^ 63))
  upto? i j = go (fits? (λ n. dec_lt n (2 ^ 63)) i)
    where
      go : Dec ((j : ℕ) × (n : ℕ) × Digits s i j n × (n < 2 ^ 63)) → Dec ((n : ℕ) × Digits s i j n × (n < 2 ^ 63))
      go (no m) = no (λ r. m (j, r.0, r.1, r.2))
      go (yes r) = map_dec (λ e. subst (λ k. (n : ℕ) × Digits s i k n × (n < 2 ^ 63)) e (r.1, r.2, r.3)) (λ q. (digits_once r.2 q.1 refl).0) (ℕ_discrete r.0 j)

  cut? : (i j k : ℕ) → Dec (Cut i j k)
  unfolding Cut
  cut? i j k = map_dec (λ r. (r.0, r.1.0, r.1.1)) (λ r. (r.0, (r.1, r.2))) (both? (dec_le i k) (both? (false? (digit (byte_at s k))) (upto? (suc k) j)))

  pub Pdf : ℕ → Type 0
  Pdf i = (j : ℕ) × Run₁ s in_word i j × ((k : ℕ) × (k < j) × Cut i j k)

  pdf? : (i : ℕ) → Dec (Pdf i)
  unfolding Pdf in_word
  pdf? i = seq? (run₁? in_word refl i) (λ a b p q. run₁_once p q refl) (λ j p. below? (cut? i j) j)

  pub un_bare : {i j : ℕ} {r : Ref} → Bare s i j r → (¬ ((j : ℕ) × ((x : ℤ) × Number s i j x))) → Pdf i
  unfolding Pdf Cut
  un_bare (number n) m = absurd (m (_, (_, n)))
  un_bare (word {k = k} t r l a d f) m = (_, r, (k, omega (arith, digits_lt d), (l, a, (_, d, f))))

  pub bare? : (i : ℕ) → Dec ((j : ℕ) × ((r : Ref) × Bare s i j r))
  unfolding Pdf Cut
  bare? i = go (number? i) (pdf? i)
    where
      go : Dec ((j : ℕ) × ((x : ℤ) × Number s i j x)) → Dec (Pdf i) → Dec ((j : ℕ) × ((r : Ref) × Bare s i j r))
      go (yes r) d = yes (r.0, (_, number r.1.1))
      go (no m) (yes r) =
          let c = r.2.2 in
          yes (r.0, (_, word {k = r.2.0} (λ e x n. m (e, (x, n))) r.1 c.0 c.1 c.2.1 c.2.2))
      go (no m) (no q) = no (λ r. q (un_bare r.1.1 m))

  pub Quoted : ℕ → Type 0
  Quoted i = (a : ℕ) × Byte s quote i a × ((b : ℕ) × ((r : Ref) × Bare s a b r) × ((j : ℕ) × Byte s quote b j))

  quoted? : (i : ℕ) → Dec (Quoted i)
  unfolding Quoted
  quoted? i = seq? (word? (quote ∷ []) i) (λ a b p q. word_once p q refl) (λ a p. seq? (bare? a) (λ b c p q. (bare_once p.1 q.1 refl).0) (λ b q. word? (quote ∷ []) b))

  pub un_reference : {i j : ℕ} {r : Ref} → Reference s i j r → (¬ ((j : ℕ) × ((r : Ref) × Bare s i j r))) → Quoted i
  unfolding Quoted
  un_reference (bare b) m = absurd (m (_, (_, b)))
  un_reference (quoted w b v) m = (_, w, (_, (_, b), (_, v)))

  pub reference? : (i : ℕ) → Dec ((j : ℕ) × ((r : Ref) × Reference s i j r))
  unfolding Quoted
  reference? i =
      either? (λ r. (r.0, (_, bare r.1.1))) (λ r. (r.2.2.0, (_, quoted r.1 r.2.1.1 r.2.2.1))) (λ r m. un_reference r.1.1 m)
      (bare? i) (quoted? i)

  -- ---- what parts two items

  inside : (i : ℕ) → ¬ (byte_at s i ≡ 256) → i < length s
  inside i f = go (dec_lt i (length s))
    where
      go : Dec (i < length s) → i < length s
      go (yes h) = h
      go (no h) = absurd (f (past_end s i (omega arith)))

  run_inside : (p : ℕ → Bool) {i : ℕ} → p 256 ≡ false → p (byte_at s i) ≡ true → i < length s
  run_inside p {i} n y = inside i (λ e. let z : ◌≡◌ {A = Bool} true false = sym y ∙ ap p e ∙ n in let u : ◌≡◌ {A = ℕ} 0 1 = cc in omega arith)

  pub byte_inside : {b i : ℕ} → byte_at s i ≡ b → b < 256 → i < length s
  byte_inside {b} {i} h l = inside i (λ e. let z : b ≡ 256 = sym h ∙ e in omega arith)

  comma? : (i : ℕ) → Dec ((j : ℕ) × Comma s i j)
  unfolding blank
  comma? i = map_dec (λ r. (r.2.0, parting r.1 r.2.1)) (λ r. un r.1) (seq? (word? (comma ∷ []) i) (λ a b p q. word_once p q refl) (λ a p. yes (run blank refl a)))
    where
      un : {i j : ℕ} → Comma s i j → (a : ℕ) × Byte s comma i a × ((j : ℕ) × Run s blank a j)
      un (parting w b) = (_, w, (_, b))

  pub parting? : (i : ℕ) → Dec ((j : ℕ) × Parting s i j)
  unfolding blank space_or_tab
  parting? i =
      map_dec (λ r. (r.2.2.0, parting r.1 r.2.1 r.2.2.1)) (λ r. un r.1)
      (seq? (yes (run space_or_tab refl i)) (λ a b p q. run_once p q refl) (λ a p. seq? (word? (newline ∷ []) a) (λ a b p q. word_once p q refl) (λ b p. yes (run blank refl b))))
    where
      un : {i j : ℕ} → Parting s i j → (a : ℕ) × Run s space_or_tab i a × ((b : ℕ) × Byte s newline a b × ((j : ℕ) × Run s blank b j))
      un (parting t w b) = (_, t, (_, w, (_, b)))

  line_parting? : (i : ℕ) → Dec ((j : ℕ) × LineParting s i j)
  unfolding blank space_or_tab
  line_parting? i =
      map_dec (λ r. let q = run blank refl r.2.2.0 in (q.0, parting r.1 r.2.1 r.2.2.1 q.1)) (λ r. un r.1)
      (seq? (yes (run space_or_tab refl i)) (λ a b p q. run_once p q refl) (λ a p. seq? (word? (newline ∷ []) a) (λ a b p q. word_once p q refl) (λ b p. yes (run space_or_tab refl b))))
    where
      un : {i j : ℕ} → LineParting s i j → (a : ℕ) × Run s space_or_tab i a × ((b : ℕ) × Byte s newline a b × ((j : ℕ) × Run s space_or_tab b j))
      un (parting t w u b) = (_, t, (_, w, (_, u)))

  word_le : {w : List ℕ} {i j : ℕ} → Word s w i j → i ≤ j
  word_le end = omega arith
  word_le (byte h t) = omega (arith, word_le t)

  word_lt : {b : ℕ} {w : List ℕ} {i j : ℕ} → Word s (b ∷ w) i j → i < j
  word_lt (byte h t) = word_le t

  pub comma-lt : {i j : ℕ} → Comma s i j → i < j
  comma-lt (parting w b) = omega (arith, word_lt w, run-le b)

  pub parting_lt : {i j : ℕ} → Parting s i j → i < j
  parting_lt (parting t w b) = omega (arith, run-le t, word_lt w, run-le b)

  pub line_parting_lt : {i j : ℕ} → LineParting s i j → i < j
  line_parting_lt (parting t w u b) = omega (arith, run-le t, word_lt w, run-le u, run-le b)

-- ---- items that are parted

pub record Reader {A B : Type 0} (Ends : ℕ → Type 0) (Part : ℕ → ℕ → Type 0) (Item : ℕ → ℕ → A → B → Type 0) (size : ℕ) : Type 0 where
  pub fixed : Fixed Ends Part Item
  pub item? : (i : ℕ) → Dec ((j : ℕ) × ((x : A) × (y : B) × Item i j x y))
  pub part? : (i : ℕ) → Dec ((j : ℕ) × Part i j)
  pub ends? : (i : ℕ) → Dec (Ends i)
  pub starts : {i j : ℕ} {x : A} {y : B} → Item i j x y → i < size
  pub moves : {i a b : ℕ} {x : A} {y : B} → Item i a x y → Part a b → i < b

module _ {A B : Type 0} {Ends : ℕ → Type 0} {Part : ℕ → ℕ → Type 0} {Item : ℕ → ℕ → A → B → Type 0} {size : ℕ} (R : Reader Ends Part Item size) where
  pub refute : {i j a : ℕ} {x : A} {y : B} {xs : List A} {ys : List B} → Parted Part Item i j xs ys → Ends j → Item i a x y → ¬ Ends a
      → ((b j : ℕ) (xs : List A) (ys : List B) → Part a b → Parted Part Item b j xs ys → Ends j → ⊥) → ⊥
  refute (last u) e t m k = m (subst Ends (R.fixed.item u t refl).0 e)
  refute (next {b = b} {j = j} {xs = xs} {ys = ys} u p r) e t m k = k b j xs ys (subst (λ z. Part z b) (R.fixed.item u t refl).0 p) r e

  parted? : (n i : ℕ) → size ≤ i + n → Dec ((j : ℕ) × ((xs : List A) × (ys : List B) × Parted Part Item i j xs ys) × Ends j)
  parted? zero i h = no (λ r. omega (arith, R.starts (head r.1.2).3))
  parted? (suc n) i h = go (R.item? i) (λ b l. parted? n b (omega arith))
    where
      Goal : ℕ → Type 0
      Goal i = (j : ℕ) × ((xs : List A) × (ys : List B) × Parted Part Item i j xs ys) × Ends j

      rest : (b : ℕ) {a : ℕ} {x : A} {y : B} → Item i a x y → ¬ Ends a → Part a b → Dec (Goal b) → Dec (Goal i)
      rest b t m p (yes r) = yes (r.0, (_, _, next t p r.1.2), r.2)
      rest b t m p (no q) = no (λ r. refute r.1.2 r.2 t m (λ c j xs ys p' d e. q (j, (xs, ys, subst (λ z. Parted Part Item z j xs ys) (R.fixed.between p' p refl) d), e)))

      parts : {a : ℕ} {x : A} {y : B} → Item i a x y → ¬ Ends a → Dec ((b : ℕ) × Part a b) → ((b : ℕ) → i < b → Dec (Goal b)) → Dec (Goal i)
      parts t m (yes p) f = rest p.0 t m p.1 (f p.0 (R.moves t p.1))
      parts t m (no q) f = no (λ r. refute r.1.2 r.2 t m (λ b j xs ys p d e. q (b, p)))

      ended : {a : ℕ} {x : A} {y : B} → Item i a x y → Dec (Ends a) → ((b : ℕ) → i < b → Dec (Goal b)) → Dec (Goal i)
      ended {a} t (yes e) f = yes (a, (_, _, last t), e)
      ended {a} t (no m) f = parts t m (R.part? a) f

      go : Dec ((j : ℕ) × ((x : A) × (y : B) × Item i j x y)) → ((b : ℕ) → i < b → Dec (Goal b)) → Dec (Goal i)
      go (no m) f = no (λ r. let u = head r.1.2 in m (u.0, (u.1, u.2, u.3)))
      go (yes r) f = ended r.1.2 (R.ends? r.0) f

-- ---- the rules

module _ (s : List ℕ) where
  pub number_le : {i j : ℕ} {x : ℤ} → Number s i j x → i ≤ j
  number_le (plus d f) = omega (arith, digits_lt d)
  number_le (minus w d f) = omega (arith, word_le s w, digits_lt d)

  bare_le : {i j : ℕ} {r : Ref} → Bare s i j r → i ≤ j
  bare_le (number n) = number_le n
  bare_le (word m r l a d f) = omega (arith, run₁-lt r)

  pub reference_le : {i j : ℕ} {r : Ref} → Reference s i j r → i ≤ j
  reference_le (bare b) = bare_le b
  reference_le (quoted w b v) = omega (arith, word_le s w, bare_le b, word_le s v)

  number_inside : {i j : ℕ} {x : ℤ} → Number s i j x → i < length s
  unfolding digit
  number_inside (plus d f) = run_inside s digit refl (first (un_digits s d))
  number_inside (minus w d f) = byte_inside s (word_first w) (lit< tt)

  before? : (b i : ℕ) → Dec (Before s b i)
  unfolding blank
  before? b i = let r = run s blank refl i in map_dec (λ h. before r.1 h) (λ q. un r.1 q) (byte? s r.0 b)
    where
      un : {j : ℕ} → Run s blank i j → Before s b i → byte_at s j ≡ b
      un r (before q h) = ap (byte_at s) (run_once r q refl) ∙ h

  -- ---- questions

  pub QuotedPattern : ℕ → Type 0
  QuotedPattern i = (a : ℕ) × Byte s quote i a × ((b : ℕ) × Run₁ s in_pattern a b × ((j : ℕ) × Byte s quote b j))

  pub un_pattern : {i j : ℕ} {x : List ℕ} {y : Span} → PatternAt s i j x y → (¬ ((j : ℕ) × Run₁ s in_pattern i j)) → QuotedPattern i
  unfolding QuotedPattern
  un_pattern (bare r) m = absurd (m (_, r))
  un_pattern (quoted w r v) m = (_, w, (_, r, (_, v)))

  pattern? : (i : ℕ) → Dec ((j : ℕ) × ((x : List ℕ) × (y : Span) × PatternAt s i j x y))
  unfolding QuotedPattern in_pattern
  pattern? i =
      either? (λ r. (r.0, (_, _, bare r.1))) (λ r. (r.2.2.0, (_, _, quoted r.1 r.2.1 r.2.2.1))) (λ r m. un_pattern r.1.2 m)
      (run₁? s in_pattern refl i)
      (seq? (word? s (quote ∷ []) i) (λ a b p q. word_once p q refl) (λ a p. seq? (run₁? s in_pattern refl a) (λ a b p q. run₁_once p q refl) (λ b p. word? s (quote ∷ []) b)))

  pub pattern_le : {i j : ℕ} {x : List ℕ} {y : Span} → PatternAt s i j x y → i ≤ j
  pattern_le (bare r) = omega (arith, run₁-lt r)
  pattern_le (quoted w r v) = omega (arith, word_le s w, run₁-lt r, word_le s v)

  pub pattern_inside : {i j : ℕ} {x : List ℕ} {y : Span} → PatternAt s i j x y → i < length s
  unfolding in_pattern
  pattern_inside (bare r) = run_inside s in_pattern refl (first r)
  pattern_inside (quoted w r v) = byte_inside s (word_first w) (lit< tt)

  patterns : Reader (Before s 125) (Comma s) (PatternAt s) (length s)
  patterns =
      record {
        fixed = patterns_fixed;
        item? = pattern?;
        part? = comma? s;
        ends? = before? 125;
        starts = pattern_inside;
        moves = λ t p. omega (arith, pattern_le t, comma-lt s p);
      }

  pub Patterns : ℕ → Type 0
  Patterns i = (j : ℕ) × ((xs : List (List ℕ)) × (ys : List Span) × Parted (Comma s) (PatternAt s) i j xs ys) × Before s 125 j

  pub Opened : ℕ → Type 0
  Opened d = (e : ℕ) × Byte s brace d e × ((f : ℕ) × Run s blank e f × Patterns f)

  pub QuestionParts : ℕ → Type 0
  QuestionParts i = (a : ℕ) × Word s QS i a × ((b : ℕ) × Run₁ s blank a b × ((c : ℕ) × Run₁ s in_name b c × ((d : ℕ) × Run₁ s blank c d × Opened d)))

  pub question_of : {i : ℕ} → QuestionParts i → (j : ℕ) × ((x : Question) × (y : QuestionPlace) × QuestionAt s i j x y)
  unfolding QuestionParts Opened Patterns
  question_of {i} (a, q, (b, r, (c, n, (d, t, (e, o, (f, u, (g, (xs, ys, ps), z))))))) = close z
    where
      close : Before s 125 g → (j : ℕ) × ((x : Question) × (y : QuestionPlace) × QuestionAt s i j x y)
      close (before v h) = (_, (_, _, question q r n t o u ps v (byte h end)))

  pub un_question : {i j : ℕ} {x : Question} {y : QuestionPlace} → QuestionAt s i j x y → QuestionParts i
  unfolding QuestionParts Opened Patterns
  un_question (question q r n t o u ps v z) = (_, q, (_, r, (_, n, (_, t, (_, o, (_, u, (_, (_, _, ps), before v (word_first z))))))))

  pub question? : (i : ℕ) → Dec ((j : ℕ) × ((x : Question) × (y : QuestionPlace) × QuestionAt s i j x y))
  unfolding QuestionParts Opened Patterns blank in_name
  question? i =
      map_dec question_of (λ r. un_question r.1.2)
      (seq? (word? s QS i) (λ a b p q. word_once p q refl) (λ a p.
      seq? (run₁? s blank refl a) (λ a b p q. run₁_once p q refl) (λ b p.
      seq? (run₁? s in_name refl b) (λ a b p q. run₁_once p q refl) (λ c p.
      seq? (run₁? s blank refl c) (λ a b p q. run₁_once p q refl) (λ d p.
      seq? (word? s (brace ∷ []) d) (λ a b p q. word_once p q refl) (λ e p.
      seq? (yes (run s blank refl e)) (λ a b p q. run_once p q refl) (λ f p.
      parted? patterns (length s) f (omega arith))))))))

  parted_le : {A B : Type 0} {Part : ℕ → ℕ → Type 0} {Item : ℕ → ℕ → A → B → Type 0}
      → ((i j : ℕ) (x : A) (y : B) → Item i j x y → i ≤ j) → ((i j : ℕ) → Part i j → i < j)
      → {i j : ℕ} {xs : List A} {ys : List B} → Parted Part Item i j xs ys → i ≤ j
  parted_le f g (last t) = f _ _ _ _ t
  parted_le f g (next t p r) = omega (arith, f _ _ _ _ t, g _ _ p, parted_le f g r)

  pub question_le : {i j : ℕ} {x : Question} {y : QuestionPlace} → QuestionAt s i j x y → i ≤ j
  question_le (question q r n t o u ps v z) =
      omega (arith, word_le s q, run₁-lt r, run₁-lt n, run₁-lt t, word_le s o, run-le u, parted_le (λ i j x y h. pattern_le h) (λ i j h. comma-lt s h) ps, run-le v, word_le s z)

  questions : Reader (Before s 123) (Parting s) (QuestionAt s) (length s)
  questions =
      record {
        fixed = questions_fixed;
        item? = question?;
        part? = parting? s;
        ends? = before? 123;
        starts = λ t. byte_inside s (question_first t) (lit< tt);
        moves = λ t p. omega (arith, question_le t, parting_lt s p);
      }

  -- ---- lines and trees

  pub RefFrom : ℕ → Type 0
  RefFrom i = (j : ℕ) × ((r : Ref) × Reference s i j r)

  pub LineParts : ℕ → Type 0
  LineParts i =
      (a : ℕ) × ((x : ℤ) × Number s i a x) × ((b : ℕ) × Run₁ s blank a b × ((c : ℕ) × Run₁ s in_name b c × ((d : ℕ) × Run₁ s blank c d
      × ((e : ℕ) × ((r : Ref) × Reference s d e r) × ((f : ℕ) × Run₁ s blank e f × RefFrom f)))))

  line? : (i : ℕ) → Dec ((j : ℕ) × ((x : Line) × (y : Span) × LineAt s i j x y))
  unfolding LineParts RefFrom blank in_name
  line? i =
      map_dec (λ r. to r) (λ r. un r.1.2)
      (seq? (number? s i) (λ a b p q. (number_once p.1 q.1 refl).0) (λ a p.
      seq? (run₁? s blank refl a) (λ a b p q. run₁_once p q refl) (λ b p.
      seq? (run₁? s in_name refl b) (λ a b p q. run₁_once p q refl) (λ c p.
      seq? (run₁? s blank refl c) (λ a b p q. run₁_once p q refl) (λ d p.
      seq? (reference? s d) (λ a b p q. (reference_once p.1 q.1 refl).0) (λ e p.
      seq? (run₁? s blank refl e) (λ a b p q. run₁_once p q refl) (λ f p.
      reference? s f)))))))
    where
      to : LineParts i → (j : ℕ) × ((x : Line) × (y : Span) × LineAt s i j x y)
      to (a, (x, n), (b, r, (c, m, (d, t, (e, (u, v), (f, w, (j, (z, g)))))))) = (j, (_, _, line n r m t v w g))

      un : {i j : ℕ} {x : Line} {y : Span} → LineAt s i j x y → LineParts i
      un (line n r m t v w g) = (_, (_, n), (_, r, (_, m, (_, t, (_, (_, v), (_, w, (_, (_, g))))))))

  pub line_le : {i j : ℕ} {x : Line} {y : Span} → LineAt s i j x y → i ≤ j
  line_le (line n r m t v w g) = omega (arith, number_le n, run₁-lt r, run₁-lt m, run₁-lt t, reference_le v, run₁-lt w, reference_le g)

  pub line_inside : {i j : ℕ} {x : Line} {y : Span} → LineAt s i j x y → i < length s
  line_inside (line n r m t v w g) = number_inside n

  line_reader : Reader (Before s 125) (LineParting s) (LineAt s) (length s)
  line_reader =
      record {
        fixed = lines_fixed;
        item? = line?;
        part? = line_parting? s;
        ends? = before? 125;
        starts = line_inside;
        moves = λ t p. omega (arith, line_le t, line_parting_lt s p);
      }

  pub Braced : ℕ → Type 0
  Braced b = (c : ℕ) × ((xs : List Line) × (ys : List Span) × Parted (LineParting s) (LineAt s) b c xs ys) × Before s 125 c

  pub Inner : ℕ → Type 0
  Inner i = (a : ℕ) × Byte s brace i a × ((b : ℕ) × Run s blank a b × ((byte_at s b ≡ 125) ⊎ Braced b))

  sum? : {A B : Type 0} → Dec A → Dec B → Dec (A ⊎ B)
  sum? (yes a) d = yes (inl a)
  sum? (no m) (yes b) = yes (inr b)
  sum? {A} {B} (no m) (no q) = no (λ r. pick r)
    where
      pick : A ⊎ B → ⊥
      pick (inl a) = m a
      pick (inr b) = q b

  body? : (i : ℕ) → Dec ((j : ℕ) × ((x : Body) × (y : List Span) × BodyAt s i j x y))
  unfolding Inner Braced blank
  body? i =
      either? (λ r. (r.0, (_, _, one r.1.1))) to (λ r m. un r.1.2 m) (reference? s i)
      (seq? (word? s (brace ∷ []) i) (λ a b p q. word_once p q refl) (λ a p.
      seq? (yes (run s blank refl a)) (λ a b p q. run_once p q refl) (λ b p.
      sum? (byte? s b 125) (parted? line_reader (length s) b (omega arith)))))
    where
      braced : {a b : ℕ} → Byte s brace i a → Run s blank a b → Braced b → (j : ℕ) × ((x : Body) × (y : List Span) × BodyAt s i j x y)
      braced w r (c, (xs, ys, ls), z) = close z
        where
          close : Before s 125 c → (j : ℕ) × ((x : Body) × (y : List Span) × BodyAt s i j x y)
          close (before v h) = (_, (_, _, lines w r ls v (byte h end)))

      pick : {a b : ℕ} → Byte s brace i a → Run s blank a b → (byte_at s b ≡ 125) ⊎ Braced b → (j : ℕ) × ((x : Body) × (y : List Span) × BodyAt s i j x y)
      pick w r (inl h) = (_, (_, _, none w r (byte h end)))
      pick w r (inr b) = braced w r b

      to : Inner i → (j : ℕ) × ((x : Body) × (y : List Span) × BodyAt s i j x y)
      to (a, w, (b, r, c)) = pick w r c

      un : {j : ℕ} {x : Body} {y : List Span} → BodyAt s i j x y → (¬ ((j : ℕ) × ((r : Ref) × Reference s i j r))) → Inner i
      un (one r) m = absurd (m (_, (_, r)))
      un (none w r z) m = (_, w, (_, r, inl (word_first z)))
      un (lines w r ls v z) m = (_, w, (_, r, inr (_, (_, _, ls), before v (word_first z))))

  pub TreeParts : ℕ → Type 0
  TreeParts i =
      (a : ℕ) × Word s star i a × ((b : ℕ) × Run s blank a b × ((c : ℕ) × Byte s bracket b c × ((d : ℕ) × ((x : ℤ) × Number s c d x)
      × ((e : ℕ) × Byte s unbracket d e × ((f : ℕ) × Run s blank e f × ((j : ℕ) × ((x : Body) × (y : List Span) × BodyAt s f j x y)))))))

  pub tree? : (i : ℕ) → Dec ((j : ℕ) × ((x : Tree) × (y : TreePlace) × TreeAt s i j x y))
  unfolding TreeParts blank
  tree? i =
      map_dec (λ r. to r) (λ r. un r.1.2)
      (seq? (word? s star i) (λ a b p q. word_once p q refl) (λ a p.
      seq? (yes (run s blank refl a)) (λ a b p q. run_once p q refl) (λ b p.
      seq? (word? s (bracket ∷ []) b) (λ a b p q. word_once p q refl) (λ c p.
      seq? (number? s c) (λ a b p q. (number_once p.1 q.1 refl).0) (λ d p.
      seq? (word? s (unbracket ∷ []) d) (λ a b p q. word_once p q refl) (λ e p.
      seq? (yes (run s blank refl e)) (λ a b p q. run_once p q refl) (λ f p.
      body? f)))))))
    where
      to : TreeParts i → (j : ℕ) × ((x : Tree) × (y : TreePlace) × TreeAt s i j x y)
      to (a, w, (b, r, (c, o, (d, (x, n), (e, u, (f, t, (j, (z, ys, g)))))))) = (j, (_, _, tree w r o n u t g))

      un : {i j : ℕ} {x : Tree} {y : TreePlace} → TreeAt s i j x y → TreeParts i
      un (tree w r o n u t g) = (_, w, (_, r, (_, o, (_, (_, n), (_, u, (_, t, (_, (_, _, g))))))))

  body_le : {i j : ℕ} {x : Body} {y : List Span} → BodyAt s i j x y → i ≤ j
  body_le (one r) = reference_le r
  body_le (none w r z) = omega (arith, word_le s w, run-le r, word_le s z)
  body_le (lines w r ls v z) = omega (arith, word_le s w, run-le r, parted_le (λ i j x y h. line_le h) (λ i j h. line_parting_lt s h) ls, run-le v, word_le s z)

  pub tree_le : {i j : ℕ} {x : Tree} {y : TreePlace} → TreeAt s i j x y → i ≤ j
  tree_le (tree w r o n u t g) = omega (arith, word_le s w, run-le r, word_le s o, number_le n, word_le s u, run-le t, body_le g)

  -- ---- a text

  pub end? : (i : ℕ) → Dec (Run s blank i (length s))
  unfolding blank
  end? i = let r = run s blank refl i in map_dec (λ e. subst (Run s blank i) e r.1) (λ q. run_once r.1 q refl) (ℕ_discrete r.0 (length s))

  tree_reader : Reader (λ j. Run s blank j (length s)) (Parting s) (TreeAt s) (length s)
  tree_reader =
      record {
        fixed = record { item = tree_once; between = parting_once; no_more = λ e p t. trees_fixed.no_more (before e (at_end s)) p t };
        item? = tree?;
        part? = parting? s;
        ends? = end?;
        starts = λ t. byte_inside s (tree_first t) (lit< tt);
        moves = λ t p. omega (arith, tree_le t, parting_lt s p);
      }

  pub TreesParts : ℕ → Type 0
  TreesParts i = (a : ℕ) × Run s blank i a × ((j : ℕ) × ((xs : List Tree) × (ys : List TreePlace) × Parted (Parting s) (TreeAt s) a j xs ys) × Run s blank j (length s))

  trees? : (i : ℕ) → Dec ((xs : List Tree) × (ys : List TreePlace) × TreesAt s i xs ys)
  unfolding TreesParts blank
  trees? i =
      map_dec (λ r. to r) (λ r. un r.2)
      (seq? (yes (run s blank refl i)) (λ a b p q. run_once p q refl) (λ a p. parted? tree_reader (length s) a (omega arith)))
    where
      to : TreesParts i → (xs : List Tree) × (ys : List TreePlace) × TreesAt s i xs ys
      to (a, r, (j, (xs, ys, p), e)) = (xs, ys, trees r p e)

      un : {i : ℕ} {xs : List Tree} {ys : List TreePlace} → TreesAt s i xs ys → TreesParts i
      un (trees r p e) = (_, r, (_, (_, _, p), e))

  pub Asks : ℕ → Type 0
  Asks i = (j : ℕ) × ((xs : List Question) × (ys : List QuestionPlace) × Parted (Parting s) (QuestionAt s) i j xs ys × Before s 123 j) × ((xs : List Tree) × (ys : List TreePlace) × TreesAt s j xs ys)

  asks? : (i : ℕ) → Dec (Asks i)
  unfolding Asks
  asks? i =
      seq? (map_dec (λ r. (r.0, (r.1.0, r.1.1, r.1.2, r.2))) (λ r. (r.0, (r.1.0, r.1.1, r.1.2), r.1.3)) (parted? questions (length s) i (omega arith)))
      (λ a b p q. (parted_once questions_fixed p.2 q.2 p.3 q.3 refl).0)
      (λ a p. trees? a)

  -- whether s from i on says something
  pub says? : (i : ℕ) → Dec ((t : Text) × (l : Layout) × Says s i t l)
  unfolding Asks
  says? i =
      either? (λ r. (_, _, without r.2)) (λ r. (_, _, with_questions r.1.2 r.2.2)) (λ r m. un r.2 m) (trees? i) (asks? i)
    where
      un : {t : Text} {l : Layout} → Says s i t l → (¬ ((xs : List Tree) × (ys : List TreePlace) × TreesAt s i xs ys)) → Asks i
      un (without ts) m = absurd (m (_, _, ts))
      un (with_questions qs ts) m = (_, (_, _, qs, trees_before ts), (_, _, ts))

-- ---- the same as a test that computes

-- s says nothing
unfoldable pub silent : List ℕ → Bool
unfolding says? asks? trees? tree_reader end? tree? body? sum? line_reader line? questions question? patterns pattern? before? parted? reference? quoted? bare? pdf? cut? upto? false? number? minus? fits? digits? run₁? run run! bool? word? byte? both? either? seq? map_dec below? comma? parting? line_parting? byte_at between decimal digit in_pattern in_word blank space_or_tab in_name ℕ_discrete dec_lt dec_le
silent s = elim (says? s 0) [ yes r ↦ false | no n ↦ true ]

-- what s says
unfoldable pub said : List ℕ → Option Text
unfolding says? asks? trees? tree_reader end? tree? body? sum? line_reader line? questions question? patterns pattern? before? parted? reference? quoted? bare? pdf? cut? upto? false? number? minus? fits? digits? run₁? run run! bool? word? byte? both? either? seq? map_dec below? comma? parting? line_parting? byte_at between decimal digit in_pattern in_word blank space_or_tab in_name ℕ_discrete dec_lt dec_le question_of
said s = elim (says? s 0) [ yes r ↦ just r.0 | no n ↦ nothing ]

pub silent_none : (s : List ℕ) → silent s ≡ true → (t : Text) (l : Layout) → ¬ Says s 0 t l
unfolding silent
silent_none s e t l h = go (says? s 0) e
  where
    go : (d : Dec ((t : Text) × (l : Layout) × Says s 0 t l)) → elim d as (λ _. Bool) [ yes r ↦ false | no n ↦ true ] ≡ true → ⊥
    go (yes r) e = let z : ◌≡◌ {A = ℕ} 0 1 = cc in omega arith
    go (no n) e = n (t, l, h)

-- the test says what the relation says
pub said_says : (s : List ℕ) (t : Text) → said s ≡ just t → (l : Layout) × Says s 0 t l
unfolding said
said_says s t e = go (says? s 0) e
  where
    go : (d : Dec ((t : Text) × (l : Layout) × Says s 0 t l)) → elim d as (λ _. Option Text) [ yes r ↦ just r.0 | no n ↦ nothing ] ≡ just t → (l : Layout) × Says s 0 t l
    go (yes r) e = let q : r.0 ≡ t = cc in (r.1, subst (λ u. Says s 0 u r.1) q r.2)
    go (no n) e = let z : ◌≡◌ {A = ℕ} 0 1 = cc in absurd (omega arith)

pub says_said : (s : List ℕ) (t : Text) (l : Layout) → Says s 0 t l → said s ≡ just t
unfolding said
says_said s t l h = go (says? s 0)
  where
    go : (d : Dec ((t : Text) × (l : Layout) × Says s 0 t l)) → elim d as (λ _. Option Text) [ yes r ↦ just r.0 | no n ↦ nothing ] ≡ just t
    go (yes r) = ap just (says_once r.2 h).0
    go (no n) = absurd (n (t, l, h))
