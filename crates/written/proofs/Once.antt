-- A text says at most one thing: a rule, from equal starts, ends at one place and says one thing.
use mathlib.Core.Path.{◌≡◌, refl, sym, ap, ap₂, ◌∙◌, subst}
use mathlib.Core.Bool.{Bool, true, false}
use mathlib.Core.List.{List, [], ◌∷◌}
use Prim.Native.Nat.{ℕ, suc, ◌≤◌, ◌<◌}
use native.Mathlib.Decide.{dec_lt}
use native.Mathlib.Omega.{arith}
use borrow.Author.Tests.{le-ltb}
use lib.ListN.{length}
use lib.IntN.{ℤ, pos, neg_ℤ}
use Rattle.written.specs.Bytes.{digit, in_pattern, in_word, blank, space_or_tab, one_of, Span, spanning, byte_at, between, decimal, newline}
use Rattle.written.specs.Said.{Ref, node, pdf, Line, Body, lone, braces, Tree, Question, Text, QuestionPlace, TreePlace, Layout}
use Rattle.written.specs.TreeText.{Parted, last, next, Word, Byte, end, byte, Run, stop, more, Run₁, some, Parting, LineParting, Comma, parting, Digits, digits, Number, plus, minus, Bare, number, word, Reference, bare, quoted, PatternAt, QuestionAt, question, LineAt, line, BodyAt, one, none, lines, TreeAt, tree, TreesAt, trees, Says, without, with_questions}

-- ---- two things that can't stand at one place

true-false : {b : Bool} → b ≡ true → b ≡ false → ⊥
true-false y n = let u : ◌≡◌ {A = ℕ} 0 1 = cc in omega arith

clash : (p : ℕ → Bool) (s : List ℕ) {i j : ℕ} → i ≡ j → p (byte_at s i) ≡ true → p (byte_at s j) ≡ false → ⊥
clash p s e y n = true-false (ap (λ (k : ℕ). p (byte_at s k)) (sym e) ∙ y) n

-- a byte of a class, and one that isn't
unlike : (p : ℕ → Bool) (s : List ℕ) (b : ℕ) {i j : ℕ} → i ≡ j → p b ≡ false → p (byte_at s i) ≡ true → byte_at s j ≡ b → ⊥
unlike p s b e n y h = clash p s e y (ap p h ∙ n)

module _ {s : List ℕ} where
  -- ---- runs

  pub run_once : {p : ℕ → Bool} {i j i' j' : ℕ} → Run s p i j → Run s p i' j' → i ≡ i' → j ≡ j'
  run_once (stop n) (stop n') e = e
  run_once {p} (stop n) (more y r) e = absurd (clash p s (sym e) y n)
  run_once {p} (more y r) (stop n) e = absurd (clash p s e y n)
  run_once (more y r) (more y' r') e = run_once r r' (ap suc e)

  pub run₁_once : {p : ℕ → Bool} {i j i' j' : ℕ} → Run₁ s p i j → Run₁ s p i' j' → i ≡ i' → j ≡ j'
  run₁_once (some y r) (some y' r') e = run_once r r' (ap suc e)

  pub word_once : {w : List ℕ} {i j i' j' : ℕ} → Word s w i j → Word s w i' j' → i ≡ i' → j ≡ j'
  word_once end end e = e
  word_once (byte h t) (byte h' t') e = word_once t t' (ap suc e)

  -- the first byte of a word
  pub word_first : {b i j : ℕ} {w : List ℕ} → Word s (b ∷ w) i j → byte_at s i ≡ b
  word_first (byte h t) = h

  pub run-le : {p : ℕ → Bool} {i j : ℕ} → Run s p i j → i ≤ j
  run-le (stop n) = omega arith
  run-le (more y r) = omega (arith, run-le r)

  -- every byte of a run is of its class
  pub run_at : {p : ℕ → Bool} {i j : ℕ} → Run s p i j → (k : ℕ) → i ≤ k → k < j → p (byte_at s k) ≡ true
  run_at (stop n) k l u = absurd (omega arith)
  run_at {p} (more {i = i} y r) k l u = go (dec_lt i k) (λ h. run_at r k h u)
    where
      go : Dec (i < k) → (i < k → p (byte_at s k) ≡ true) → p (byte_at s k) ≡ true
      go (yes h) f = f h
      go (no h) f = let e : i ≡ k = omega arith in ap (λ (m : ℕ). p (byte_at s m)) (sym e) ∙ y

  -- the first byte of a run of at least one
  pub first : {p : ℕ → Bool} {i j : ℕ} → Run₁ s p i j → p (byte_at s i) ≡ true
  first (some y r) = y

  pub run₁-lt : {p : ℕ → Bool} {i j : ℕ} → Run₁ s p i j → i < j
  run₁-lt (some y r) = run-le r

  pub run₁_at : {p : ℕ → Bool} {i j : ℕ} → Run₁ s p i j → (k : ℕ) → i ≤ k → k < j → p (byte_at s k) ≡ true
  run₁_at (some y r) k l u = run_at (more y r) k l u

  -- ---- numbers and references

  pub digits_once : {i j n i' j' n' : ℕ} → Digits s i j n → Digits s i' j' n' → i ≡ i' → (j ≡ j') × (n ≡ n')
  digits_once (digits r) (digits r') e = let h = run₁_once r r' e in (h, ap₂ (λ a b. decimal 0 (between s a b)) e h)

  digits_first : {i j n : ℕ} → Digits s i j n → digit (byte_at s i) ≡ true
  digits_first (digits r) = first r

  pub number_once : {i j i' j' : ℕ} {x x' : ℤ} → Number s i j x → Number s i' j' x' → i ≡ i' → (j ≡ j') × (x ≡ x')
  unfolding digit
  number_once (plus d f) (plus d' f') e = let h = digits_once d d' e in (h.0, ap pos h.1)
  number_once (plus d f) (minus w d' f') e = absurd (unlike digit s 45 e refl (digits_first d) (word_first w))
  number_once (minus w d f) (plus d' f') e = absurd (unlike digit s 45 (sym e) refl (digits_first d') (word_first w))
  number_once (minus w d f) (minus w' d' f') e = let h = digits_once d d' (word_once w w' e) in (h.0, ap (λ n. neg_ℤ (pos n)) h.1)

  -- no number starts with a byte that is neither a digit nor -
  pub number_not : (q : ℕ) → digit q ≡ false → (45 ≡ q → ⊥) → {i j : ℕ} {x : ℤ} → Number s i j x → {k : ℕ} → i ≡ k → byte_at s k ≡ q → ⊥
  number_not q a b (plus d f) e h = unlike digit s q e a (digits_first d) h
  number_not q a b (minus w d f) e h = b (sym (word_first w) ∙ ap (byte_at s) e ∙ h)

  pub digits_lt : {i j n : ℕ} → Digits s i j n → i < j
  digits_lt (digits r) = run₁-lt r

  pub digits_at : {i j n : ℕ} → Digits s i j n → (k : ℕ) → i ≤ k → k < j → digit (byte_at s k) ≡ true
  digits_at (digits r) = run₁_at r

  -- the last byte that is no digit is one byte
  pub split_once : {k j n k' j' n' : ℕ} → digit (byte_at s k) ≡ false → Digits s (suc k) j n → digit (byte_at s k') ≡ false → Digits s (suc k') j' n' → j ≡ j' → k ≡ k'
  split_once {k} {j} {n} {k'} {j'} {n'} a d a' d' e = go (dec_lt k k') (dec_lt k' k)
    where
      go : Dec (k < k') → Dec (k' < k) → k ≡ k'
      go (yes h) t = absurd (true-false (digits_at d k' h (omega (arith, digits_lt d'))) a')
      go (no h) (yes t) = absurd (true-false (digits_at d' k t (omega (arith, digits_lt d))) a)
      go (no h) (no t) = omega arith

  pub bare_once : {i j i' j' : ℕ} {r r' : Ref} → Bare s i j r → Bare s i' j' r' → i ≡ i' → (j ≡ j') × (r ≡ r')
  bare_once (number n) (number n') e = let h = number_once n n' e in (h.0, ap node h.1)
  bare_once (number {j = j} {x = x} n) (word not r l a d f) e = absurd (not j x (subst (λ k. Number s k j x) e n))
  bare_once (word not r l a d f) (number {j = j} {x = x} n) e = absurd (not j x (subst (λ k. Number s k j x) (sym e) n))
  bare_once (word not r l a d f) (word not' r' l' a' d' f') e =
      let h = run₁_once r r' e in
      let k = digits_once d d' (ap suc (split_once a d a' d' h)) in
      (h, ap pdf k.1)

  bare_not : (q : ℕ) → digit q ≡ false → in_word q ≡ false → (45 ≡ q → ⊥) → {i j : ℕ} {r : Ref} → Bare s i j r → {k : ℕ} → i ≡ k → byte_at s k ≡ q → ⊥
  bare_not q a w b (number n) e h = number_not q a b n e h
  bare_not q a w b (word not r l z d f) e h = unlike in_word s q e w (first r) h

  pub reference_once : {i j i' j' : ℕ} {r r' : Ref} → Reference s i j r → Reference s i' j' r' → i ≡ i' → (j ≡ j') × (r ≡ r')
  unfolding digit in_word
  reference_once (bare b) (bare b') e = bare_once b b' e
  reference_once (bare b) (quoted w b' v) e = absurd (bare_not 34 refl refl (λ h. omega arith) b e (word_first w))
  reference_once (quoted w b v) (bare b') e = absurd (bare_not 34 refl refl (λ h. omega arith) b' (sym e) (word_first w))
  reference_once (quoted w b v) (quoted w' b' v') e =
      let h = bare_once b b' (word_once w w' e) in
      (word_once v v' h.0, h.1)

  pub reference_not : {i j : ℕ} {r : Ref} → Reference s i j r → {k : ℕ} → i ≡ k → byte_at s k ≡ 123 → ⊥
  unfolding digit in_word
  reference_not (bare b) e h = bare_not 123 refl refl (λ z. omega arith) b e h
  reference_not (quoted w b v) e h = let z : ◌≡◌ {A = ℕ} 34 123 = sym (word_first w) ∙ ap (byte_at s) e ∙ h in omega arith

  -- ---- what parts two items

  pub parting_once : {i j i' j' : ℕ} → Parting s i j → Parting s i' j' → i ≡ i' → j ≡ j'
  parting_once (parting r w b) (parting r' w' b') e = run_once b b' (word_once w w' (run_once r r' e))

  pub line_parting_once : {i j i' j' : ℕ} → LineParting s i j → LineParting s i' j' → i ≡ i' → j ≡ j'
  line_parting_once (parting r w t b) (parting r' w' t' b') e = run_once b b' (run_once t t' (word_once w w' (run_once r r' e)))

  pub comma_once : {i j i' j' : ℕ} → Comma s i j → Comma s i' j' → i ≡ i' → j ≡ j'
  comma_once (parting w b) (parting w' b') e = run_once b b' (word_once w w' e)

  -- blanks that stop at neither a space nor a tab go past spaces and tabs, and past a newline
  past : {a b m : ℕ} → Run s space_or_tab a m → Run s blank a b → space_or_tab (byte_at s b) ≡ false → Run s blank m b
  past (stop n) r h = r
  past (more y t) (stop n) h = absurd (true-false y h)
  past (more y t) (more z r) h = past t r h

  past_newline : {a b c : ℕ} → Byte s newline a c → Run s blank a b → Run s blank c b
  unfolding blank
  past_newline (byte h end) (stop n) = absurd (true-false (ap blank h) n)
  past_newline (byte h end) (more z r) = r

  -- so they stop where a parting ends
  pub parting_end : {a b c : ℕ} → Parting s a c → Run s blank a b → space_or_tab (byte_at s b) ≡ false → c ≡ b
  parting_end (parting t w r) b h = run_once r (past_newline w (past t b h)) refl

  line_parting_end : {a b c : ℕ} → LineParting s a c → Run s blank a b → space_or_tab (byte_at s b) ≡ false → c ≡ b
  line_parting_end (parting t w u r) b h = run_once r (past u (past_newline w (past t b h)) h) refl

-- ---- items that are parted, where what ends them can't be taken for a parting and an item

-- an item and a parting are fixed by where they start, and no parting and item stand where the items end
pub record Fixed {A B : Type 0} (Ends : ℕ → Type 0) (Part : ℕ → ℕ → Type 0) (Item : ℕ → ℕ → A → B → Type 0) : Type 0 where
  pub item : {i j i' j' : ℕ} {x x' : A} {y y' : B} → Item i j x y → Item i' j' x' y' → i ≡ i' → (j ≡ j') × (x ≡ x') × (y ≡ y')
  pub between : {i j i' j' : ℕ} → Part i j → Part i' j' → i ≡ i' → j ≡ j'
  pub no_more : {j a b : ℕ} {x : A} {y : B} → Ends j → Part j a → Item a b x y → ⊥

module _ {A B : Type 0} {Part : ℕ → ℕ → Type 0} {Item : ℕ → ℕ → A → B → Type 0} where
  pub head : {i j : ℕ} {xs : List A} {ys : List B} → Parted Part Item i j xs ys → (b : ℕ) × (x : A) × (y : B) × Item i b x y
  head (last {j = j} {x = x} {y = y} t) = (j, x, y, t)
  head (next {a = a} {x = x} {y = y} t p r) = (a, x, y, t)

  pub parted_once : {Ends : ℕ → Type 0} → Fixed Ends Part Item → {i j i' j' : ℕ} {xs xs' : List A} {ys ys' : List B} → Parted Part Item i j xs ys → Parted Part Item i' j' xs' ys'
      → Ends j → Ends j' → i ≡ i' → (j ≡ j') × (xs ≡ xs') × (ys ≡ ys')
  parted_once F (last t) (last t') n n' e = let h = F.item t t' e in (h.0, ap (◌∷ []) h.1, ap (◌∷ []) h.2)
  parted_once {Ends} F (last t) (next t' p r) n n' e =
      let h = F.item t t' e in
      absurd (F.no_more (subst Ends h.0 n) p (head r).3)
  parted_once {Ends} F (next t p r) (last t') n n' e =
      let h = F.item t t' e in
      absurd (F.no_more (subst Ends (sym h.0) n') p (head r).3)
  parted_once F (next t p r) (next t' p' r') n n' e =
      let h = F.item t t' e in
      let k = parted_once F r r' n n' (F.between p p' h.0) in
      (k.0, ap₂ ◌∷◌ h.1 k.1, ap₂ ◌∷◌ h.2 k.2)

-- ---- questions

-- blanks, then b
pub data Before (s : List ℕ) (b : ℕ) : ℕ → Type 0 where
  before : {i j : ℕ} → Run s blank i j → byte_at s j ≡ b → Before s b i

pub at_end : (s : List ℕ) → byte_at s (length s) ≡ 256
unfolding byte_at
at_end s = rw (le-ltb (length s) (length s) (omega arith))

module _ {s : List ℕ} where
  pub pattern_once : {i j i' j' : ℕ} {x x' : List ℕ} {y y' : Span} → PatternAt s i j x y → PatternAt s i' j' x' y' → i ≡ i' → (j ≡ j') × (x ≡ x') × (y ≡ y')
  unfolding in_pattern one_of
  pattern_once (bare r) (bare r') e = let h = run₁_once r r' e in (h, ap₂ (between s) e h, ap₂ spanning e h)
  pattern_once (bare r) (quoted w r' v) e = absurd (unlike in_pattern s 34 e refl (first r) (word_first w))
  pattern_once (quoted w r v) (bare r') e = absurd (unlike in_pattern s 34 (sym e) refl (first r') (word_first w))
  pattern_once (quoted w r v) (quoted w' r' v') e =
      let g = word_once w w' e in
      let h = run₁_once r r' g in
      (word_once v v' h, ap₂ (between s) g h, ap₂ spanning g h)

  pub patterns_fixed : Fixed (Before s 125) (Comma s) (PatternAt s)
  unfolding blank
  patterns_fixed = record { item = pattern_once; between = comma_once; no_more = go }
    where
      go : {j a b : ℕ} {x : List ℕ} {y : Span} → Before s 125 j → Comma s j a → PatternAt s a b x y → ⊥
      go (before (stop n) h) (parting w c) t = let z : ◌≡◌ {A = ℕ} 125 44 = sym h ∙ word_first w in omega arith
      go (before (more y r) h) (parting w c) t = unlike blank s 44 refl refl y (word_first w)

  pub question_once : {i j i' j' : ℕ} {x x' : Question} {y y' : QuestionPlace} → QuestionAt s i j x y → QuestionAt s i' j' x' y' → i ≡ i' → (j ≡ j') × (x ≡ x') × (y ≡ y')
  question_once (question q a n b o c ps d z) (question q' a' n' b' o' c' ps' d' z') e =
      let f = run₁_once a a' (word_once q q' e) in
      let g = run₁_once n n' f in
      let h = run_once c c' (word_once o o' (run₁_once b b' g)) in
      let k = parted_once patterns_fixed ps ps' (before d (word_first z)) (before d' (word_first z')) h in (
        word_once z z' (run_once d d' k.0),
        λ t. record { name = between s (f t) (g t); patterns = k.1 t },
        λ t. record { name = spanning (f t) (g t); patterns = k.2 t },
      )

  -- ---- lines and trees

  pub line_once : {i j i' j' : ℕ} {x x' : Line} {y y' : Span} → LineAt s i j x y → LineAt s i' j' x' y' → i ≡ i' → (j ≡ j') × (x ≡ x') × (y ≡ y')
  line_once (line x a n b r c t) (line x' a' n' b' r' c' t') e =
      let d = number_once x x' e in
      let f = run₁_once a a' d.0 in
      let g = run₁_once n n' f in
      let h = reference_once r r' (run₁_once b b' g) in
      let k = reference_once t t' (run₁_once c c' h.0) in
      (k.0, λ i. record { id = d.1 i; question = between s (f i) (g i); no = h.1 i; yes = k.1 i }, ap₂ spanning f g)

  pub line_not : {i j : ℕ} {x : Line} {y : Span} → LineAt s i j x y → {k : ℕ} → i ≡ k → byte_at s k ≡ 125 → ⊥
  unfolding digit
  line_not (line x a n b r c t) e h = number_not 125 refl (λ z. omega arith) x e h

  pub lines_fixed : Fixed (Before s 125) (LineParting s) (LineAt s)
  unfolding space_or_tab
  lines_fixed = record { item = line_once; between = line_parting_once; no_more = go }
    where
      go : {j a b : ℕ} {x : Line} {y : Span} → Before s 125 j → LineParting s j a → LineAt s a b x y → ⊥
      go (before r h) p t = line_not t (line_parting_end p r (ap space_or_tab h)) h

  pub body_once : {i j i' j' : ℕ} {x x' : Body} {y y' : List Span} → BodyAt s i j x y → BodyAt s i' j' x' y' → i ≡ i' → (j ≡ j') × (x ≡ x') × (y ≡ y')
  body_once (one r) (one r') e = let h = reference_once r r' e in (h.0, ap lone h.1, refl)
  body_once (one r) (none o b z) e = absurd (reference_not r e (word_first o))
  body_once (one r) (lines o b ls c z) e = absurd (reference_not r e (word_first o))
  body_once (none o b z) (one r) e = absurd (reference_not r (sym e) (word_first o))
  body_once (none o b z) (none o' b' z') e = (word_once z z' (run_once b b' (word_once o o' e)), refl, refl)
  body_once (none o b z) (lines o' b' ls c z') e = absurd (line_not (head ls).3 (sym (run_once b b' (word_once o o' e))) (word_first z))
  body_once (lines o b ls c z) (one r) e = absurd (reference_not r (sym e) (word_first o))
  body_once (lines o b ls c z) (none o' b' z') e = absurd (line_not (head ls).3 (run_once b b' (word_once o o' e)) (word_first z'))
  body_once (lines o b ls c z) (lines o' b' ls' c' z') e =
      let k = parted_once lines_fixed ls ls' (before c (word_first z)) (before c' (word_first z')) (run_once b b' (word_once o o' e)) in
      (word_once z z' (run_once c c' k.0), ap braces k.1, k.2)

  pub tree_once : {i j i' j' : ℕ} {x x' : Tree} {y y' : TreePlace} → TreeAt s i j x y → TreeAt s i' j' x' y' → i ≡ i' → (j ≡ j') × (x ≡ x') × (y ≡ y')
  tree_once (tree w a o x c b t) (tree w' a' o' x' c' b' t') e =
      let d = number_once x x' (word_once o o' (run_once a a' (word_once w w' e))) in
      let k = body_once t t' (run_once b b' (word_once c c' d.0)) in
      (k.0, λ i. record { state = d.1 i; body = k.1 i }, λ i. record { star = e i; names = k.2 i })

  -- ---- texts

  pub tree_first : {i j : ℕ} {x : Tree} {y : TreePlace} → TreeAt s i j x y → byte_at s i ≡ 123
  tree_first (tree w a o x c b t) = word_first w

  pub question_first : {i j : ℕ} {x : Question} {y : QuestionPlace} → QuestionAt s i j x y → byte_at s i ≡ 81
  question_first (question q a n b o c ps d z) = word_first q

  pub trees_fixed : Fixed (Before s 256) (Parting s) (TreeAt s)
  unfolding space_or_tab
  trees_fixed = record { item = tree_once; between = parting_once; no_more = go }
    where
      go : {j a b : ℕ} {x : Tree} {y : TreePlace} → Before s 256 j → Parting s j a → TreeAt s a b x y → ⊥
      go (before r h) p t = let z : ◌≡◌ {A = ℕ} 123 256 = sym (tree_first t) ∙ ap (byte_at s) (parting_end p r (ap space_or_tab h)) ∙ h in omega arith

  pub questions_fixed : Fixed (Before s 123) (Parting s) (QuestionAt s)
  unfolding space_or_tab
  questions_fixed = record { item = question_once; between = parting_once; no_more = go }
    where
      go : {j a b : ℕ} {x : Question} {y : QuestionPlace} → Before s 123 j → Parting s j a → QuestionAt s a b x y → ⊥
      go (before r h) p t = let z : ◌≡◌ {A = ℕ} 81 123 = sym (question_first t) ∙ ap (byte_at s) (parting_end p r (ap space_or_tab h)) ∙ h in omega arith

  pub trees_once : {i i' : ℕ} {x x' : List Tree} {y y' : List TreePlace} → TreesAt s i x y → TreesAt s i' x' y' → i ≡ i' → (x ≡ x') × (y ≡ y')
  trees_once (trees a ts b) (trees a' ts' b') e =
      let k = parted_once trees_fixed ts ts' (before b (at_end s)) (before b' (at_end s)) (run_once a a' e) in
      (k.1, k.2)

  pub trees_before : {i : ℕ} {x : List Tree} {y : List TreePlace} → TreesAt s i x y → Before s 123 i
  trees_before (trees a ts b) = before a (tree_first (head ts).3)

  no_question : {i j : ℕ} {q : Question} {y : QuestionPlace} → Before s 123 i → QuestionAt s i j q y → ⊥
  unfolding blank
  no_question (before (stop n) h) q = let z : ◌≡◌ {A = ℕ} 123 81 = sym h ∙ question_first q in omega arith
  no_question (before (more y r) h) q = unlike blank s 81 refl refl y (question_first q)

  -- a text says at most one thing, in one layout
  pub says_once : {i : ℕ} {t t' : Text} {l l' : Layout} → Says s i t l → Says s i t' l' → (t ≡ t') × (l ≡ l')
  says_once (without ts) (without ts') =
      let k = trees_once ts ts' refl in
      (λ i. record { questions = []; trees = k.0 i }, λ i. record { questions = []; trees = k.1 i })
  says_once (without ts) (with_questions qs ts') = absurd (no_question (trees_before ts) (head qs).3)
  says_once (with_questions qs ts) (without ts') = absurd (no_question (trees_before ts') (head qs).3)
  says_once (with_questions qs ts) (with_questions qs' ts') =
      let h = parted_once questions_fixed qs qs' (trees_before ts) (trees_before ts') refl in
      let k = trees_once ts ts' h.0 in
      (λ i. record { questions = h.1 i; trees = k.0 i }, λ i. record { questions = h.2 i; trees = k.1 i })
