-- A text that stands inside another says by itself what it says there: only the places move.
use mathlib.Core.Path.{◌≡◌, refl, sym, ap, ◌∙◌, subst}
use mathlib.Core.Bool.{Bool, cond}
use mathlib.Core.List.{List, [], ◌∷◌}
use Prim.Native.Nat.{ℕ, suc, ◌+◌, ◌-◌, ◌≤◌, ◌<◌}
use native.Mathlib.Decide.{dec_lt}
use native.Mathlib.Omega.{arith}
use borrow.Author.Tests.{lt-ltb, le-ltb}
use lib.Dec.{ltb}
use lib.IntN.{ℤ}
use lib.ListN.{length, get_or, take, drop, length-drop}
use lib.Seq.{get_or-drop, drop-drop}
use Rattle.written.specs.Bytes.{digit, in_word, blank, byte_at, between, decimal, Span, spanning}
use Rattle.written.specs.Said.{Ref, Line, Body, Tree, Question, Text, QuestionPlace, TreePlace, Layout}
use Rattle.written.specs.TreeText.{Parted, last, next, Word, end, byte, Run, stop, more, Run₁, some, Parting, LineParting, Comma, Digits, digits, Number, plus, minus, Bare, number, word, Reference, PatternAt, QuestionAt, question, LineAt, line, BodyAt, one, none, lines, TreeAt, tree, TreesAt, trees, Says, without, with_questions}

module _ (n : ℕ) (s : List ℕ) (inside : n ≤ length s) where
  abbrev t : List ℕ
  t = drop n s

  byte_at_lem : (a : ℕ) → byte_at (drop n s) a ≡ byte_at s (n + a)
  unfolding byte_at
  byte_at_lem a = go (dec_lt (n + a) (length s))
    where
      go : Dec (n + a < length s) → cond (ltb a (length (drop n s))) (get_or (drop n s) a 0) 256 ≡ cond (ltb (n + a) (length s)) (get_or s (n + a) 0) 256
      go (yes h) =
          ap (λ (b : Bool). cond b (get_or (drop n s) a 0) 256) (lt-ltb a (length (drop n s)) (omega (arith, length-drop n s, h))) ∙ get_or-drop n s a 0
          ∙ sym (ap (λ (b : Bool). cond b (get_or s (n + a) 0) 256) (lt-ltb (n + a) (length s) h))
      go (no h) =
          ap (λ (b : Bool). cond b (get_or (drop n s) a 0) 256) (le-ltb a (length (drop n s)) (omega (arith, length-drop n s, inside)))
          ∙ sym (ap (λ (b : Bool). cond b (get_or s (n + a) 0) 256) (le-ltb (n + a) (length s) (omega arith)))

  at : (i a : ℕ) → i ≡ n + a → byte_at (drop n s) a ≡ byte_at s i
  at i a e = byte_at_lem a ∙ sym (ap (byte_at s) e)

  cut : (i j a b : ℕ) → i ≡ n + a → j ≡ n + b → between (drop n s) a b ≡ between s i j
  unfolding between
  cut i j a b e f =
      let z : b - a ≡ j - i = omega arith in
      ap (take (b - a)) (drop-drop a n s ∙ ap (λ (k : ℕ). drop k s) (sym e)) ∙ ap (λ (k : ℕ). take k (drop i s)) z

  -- what ended at j ends at a place n before it
  record To (X : ℕ → Type 0) (j : ℕ) : Type 0 where
    b : ℕ
    is : j ≡ n + b
    it : X b

  up : (i a : ℕ) → i ≡ n + a → suc i ≡ n + suc a
  up i a e = omega arith

  word_to : {w : List ℕ} {i j : ℕ} → Word s w i j → (a : ℕ) → i ≡ n + a → To (Word t w a) j
  word_to end a e = record { b = a; is = e; it = end }
  word_to (byte {i = i} h r) a e = let k = word_to r (suc a) (up i a e) in record { b = k.b; is = k.is; it = byte (at i a e ∙ h) k.it }

  module _ {p : ℕ → Bool} where
    run_to : {i j : ℕ} → Run s p i j → (a : ℕ) → i ≡ n + a → To (Run t p a) j
    run_to (stop {i = i} h) a e = record { b = a; is = e; it = stop (ap p (at i a e) ∙ h) }
    run_to (more {i = i} h r) a e = let k = run_to r (suc a) (up i a e) in record { b = k.b; is = k.is; it = more (ap p (at i a e) ∙ h) k.it }

    run₁_to : {i j : ℕ} → Run₁ s p i j → (a : ℕ) → i ≡ n + a → To (Run₁ t p a) j
    run₁_to (some {i = i} h r) a e = let k = run_to r (suc a) (up i a e) in record { b = k.b; is = k.is; it = some (ap p (at i a e) ∙ h) k.it }

    -- and back
    run_of : {a b : ℕ} → Run t p a b → (i : ℕ) → i ≡ n + a → Run s p i (n + b)
    run_of (stop {i = a} h) i e = subst (Run s p i) e (stop (sym (ap p (at i a e)) ∙ h))
    run_of (more {i = a} h r) i e = more (sym (ap p (at i a e)) ∙ h) (run_of r (suc i) (up i a e))

    run₁_of : {a b : ℕ} → Run₁ t p a b → (i : ℕ) → i ≡ n + a → Run₁ s p i (n + b)
    run₁_of (some {i = a} h r) i e = some (sym (ap p (at i a e)) ∙ h) (run_of r (suc i) (up i a e))

  digits_to : {i j k : ℕ} → Digits s i j k → (a : ℕ) → i ≡ n + a → To (λ b. Digits t a b k) j
  digits_to (digits {i = i} {j = j} r) a e =
      let k = run₁_to r a e in
      record { b = k.b; is = k.is; it = subst (Digits t a k.b) (ap (decimal 0) (cut i j a k.b e k.is)) (digits k.it) }

  digits_of : {a b k : ℕ} → Digits t a b k → (i : ℕ) → i ≡ n + a → Digits s i (n + b) k
  digits_of (digits {i = a} {j = b} r) i e = subst (Digits s i (n + b)) (sym (ap (decimal 0) (cut i (n + b) a b e refl))) (digits (run₁_of r i e))

  word_of : {c a b : ℕ} → Word t (c ∷ []) a b → (i : ℕ) → i ≡ n + a → (j : ℕ) × (j ≡ n + b) × Word s (c ∷ []) i j
  word_of (byte {i = a} h end) i e = (suc i, up i a e, byte (sym (at i a e) ∙ h) end)

  number_to : {i j : ℕ} {x : ℤ} → Number s i j x → (a : ℕ) → i ≡ n + a → To (λ b. Number t a b x) j
  number_to (plus d h) a e = let k = digits_to d a e in record { b = k.b; is = k.is; it = plus k.it h }
  number_to (minus w d h) a e = let v = word_to w a e in let k = digits_to d v.b v.is in record { b = k.b; is = k.is; it = minus v.it k.it h }

  number_of : {a b : ℕ} {x : ℤ} → Number t a b x → (i : ℕ) → i ≡ n + a → Number s i (n + b) x
  number_of (plus d h) i e = plus (digits_of d i e) h
  number_of (minus w d h) i e = let v = word_of w i e in minus v.2 (digits_of d v.0 v.1) h

  bare_to : {i j : ℕ} {r : Ref} → Bare s i j r → (a : ℕ) → i ≡ n + a → To (λ b. Bare t a b r) j
  bare_to (number x) a e = let k = number_to x a e in record { b = k.b; is = k.is; it = number k.it }
  bare_to (word {i = i} {k = c} {j = j} f r l d g h) a e =
      let z : c ≡ n + (c - n) = omega arith in
      let k = digits_to g (suc (c - n)) (up c (c - n) z) in
      let v = run₁_to r a e in
      let q : v.b ≡ k.b = omega (arith, v.is, k.is) in
      record {
        b = k.b;
        is = k.is;
        it = word {k = c - n} (λ u x o. f (n + u) x (number_of o i e)) (subst (Run₁ t in_word a) q v.it) (omega arith) (ap digit (at c (c - n) z) ∙ d) k.it h;
      }

  reference_to : {i j : ℕ} {r : Ref} → Reference s i j r → (a : ℕ) → i ≡ n + a → To (λ b. Reference t a b r) j
  reference_to (Reference.bare x) a e = let k = bare_to x a e in record { b = k.b; is = k.is; it = Reference.bare k.it }
  reference_to (Reference.quoted p x q) a e =
      let u = word_to p a e in
      let v = bare_to x u.b u.is in
      let w = word_to q v.b v.is in record { b = w.b; is = w.is; it = Reference.quoted u.it v.it w.it }

  -- what parts two items
  parting_to : {i j : ℕ} → Parting s i j → (a : ℕ) → i ≡ n + a → To (Parting t a) j
  parting_to (Parting.parting x y z) a e =
      let u = run_to x a e in
      let v = word_to y u.b u.is in
      let w = run_to z v.b v.is in record { b = w.b; is = w.is; it = Parting.parting u.it v.it w.it }

  line_parting_to : {i j : ℕ} → LineParting s i j → (a : ℕ) → i ≡ n + a → To (LineParting t a) j
  line_parting_to (LineParting.parting x y z o) a e =
      let u = run_to x a e in
      let v = word_to y u.b u.is in
      let w = run_to z v.b v.is in
      let k = run_to o w.b w.is in record { b = k.b; is = k.is; it = LineParting.parting u.it v.it w.it k.it }

  comma_to : {i j : ℕ} → Comma s i j → (a : ℕ) → i ≡ n + a → To (Comma t a) j
  comma_to (Comma.parting x y) a e =
      let u = word_to x a e in
      let v = run_to y u.b u.is in record { b = v.b; is = v.is; it = Comma.parting u.it v.it }

  -- items, whose places move
  record ItemTo {B : Type 0} (X : ℕ → B → Type 0) (j : ℕ) : Type 0 where
    b : ℕ
    is : j ≡ n + b
    y : B
    it : X b y

  parted_to : {A B : Type 0} {P P' : ℕ → ℕ → Type 0} {I I' : ℕ → ℕ → A → B → Type 0} → ((i j : ℕ) → P i j → (a : ℕ) → i ≡ n + a → To (P' a) j)
      → ((i j : ℕ) (x : A) (y : B) → I i j x y → (a : ℕ) → i ≡ n + a → ItemTo (λ b z. I' a b x z) j)
      → {i j : ℕ} {xs : List A} {ys : List B} → Parted P I i j xs ys → (a : ℕ) → i ≡ n + a → ItemTo (λ b zs. Parted P' I' a b xs zs) j
  parted_to p f (last x) a e = let u = f _ _ _ _ x a e in record { b = u.b; is = u.is; y = u.y ∷ []; it = last u.it }
  parted_to p f (next x q r) a e =
      let u = f _ _ _ _ x a e in
      let v = p _ _ q u.b u.is in
      let w = parted_to p f r v.b v.is in record { b = w.b; is = w.is; y = u.y ∷ w.y; it = next u.it v.it w.it }

  pattern_to : {i j : ℕ} {x : List ℕ} {y : Span} → PatternAt s i j x y → (a : ℕ) → i ≡ n + a → ItemTo (λ b z. PatternAt t a b x z) j
  pattern_to (PatternAt.bare {i = i} {j = j} r) a e =
      let k = run₁_to r a e in
      record { b = k.b; is = k.is; y = spanning a k.b; it = subst (λ (x : List ℕ). PatternAt t a k.b x (spanning a k.b)) (cut i j a k.b e k.is) (PatternAt.bare k.it) }
  pattern_to (PatternAt.quoted {a = c} {b = d} p r q) a e =
      let u = word_to p a e in
      let k = run₁_to r u.b u.is in
      let w = word_to q k.b k.is in
      record {
        b = w.b;
        is = w.is;
        y = spanning u.b k.b;
        it = subst (λ (x : List ℕ). PatternAt t a w.b x (spanning u.b k.b)) (cut c d u.b k.b u.is k.is) (PatternAt.quoted u.it k.it w.it);
      }

  question_to : {i j : ℕ} {x : Question} {y : QuestionPlace} → QuestionAt s i j x y → (a : ℕ) → i ≡ n + a → ItemTo (λ b z. QuestionAt t a b x z) j
  question_to (question {b = b} {c = c} {ps = ps} q r m o p v ws w x) a e =
      let q' = word_to q a e in
      let r' = run₁_to r q'.b q'.is in
      let m' = run₁_to m r'.b r'.is in
      let o' = run₁_to o m'.b m'.is in
      let p' = word_to p o'.b o'.is in
      let v' = run_to v p'.b p'.is in
      let ws' = parted_to (λ i j q. comma_to q) (λ i j x y q. pattern_to q) ws v'.b v'.is in
      let w' = run_to w ws'.b ws'.is in
      let x' = word_to x w'.b w'.is in
      record {
        b = x'.b;
        is = x'.is;
        y = record { name = spanning r'.b m'.b; patterns = ws'.y };
        it = subst (λ (z : List ℕ). QuestionAt t a x'.b (record { name = z; patterns = ps }) (record { name = spanning r'.b m'.b; patterns = ws'.y })) (cut b c r'.b m'.b r'.is m'.is)
            (question q'.it r'.it m'.it o'.it p'.it v'.it ws'.it w'.it x'.it);
      }

  line_to : {i j : ℕ} {x : Line} {y : Span} → LineAt s i j x y → (a : ℕ) → i ≡ n + a → ItemTo (λ b z. LineAt t a b x z) j
  line_to (line {b = b} {c = c} {x = x} {n = m} {y = y} q r o p v w g) a e =
      let q' = number_to q a e in
      let r' = run₁_to r q'.b q'.is in
      let o' = run₁_to o r'.b r'.is in
      let p' = run₁_to p o'.b o'.is in
      let v' = reference_to v p'.b p'.is in
      let w' = run₁_to w v'.b v'.is in
      let g' = reference_to g w'.b w'.is in
      record {
        b = g'.b;
        is = g'.is;
        y = spanning r'.b o'.b;
        it = subst (λ (z : List ℕ). LineAt t a g'.b (record { id = x; question = z; no = m; yes = y }) (spanning r'.b o'.b)) (cut b c r'.b o'.b r'.is o'.is)
            (line q'.it r'.it o'.it p'.it v'.it w'.it g'.it);
      }

  body_to : {i j : ℕ} {x : Body} {y : List Span} → BodyAt s i j x y → (a : ℕ) → i ≡ n + a → ItemTo (λ b z. BodyAt t a b x z) j
  body_to (one r) a e = let k = reference_to r a e in record { b = k.b; is = k.is; y = []; it = one k.it }
  body_to (none p q r) a e =
      let u = word_to p a e in
      let v = run_to q u.b u.is in
      let w = word_to r v.b v.is in record { b = w.b; is = w.is; y = []; it = none u.it v.it w.it }
  body_to (lines p q ls c r) a e =
      let u = word_to p a e in
      let v = run_to q u.b u.is in
      let k = parted_to (λ i j q. line_parting_to q) (λ i j x y q. line_to q) ls v.b v.is in
      let x = run_to c k.b k.is in
      let w = word_to r x.b x.is in record { b = w.b; is = w.is; y = k.y; it = lines u.it v.it k.it x.it w.it }

  tree_to : {i j : ℕ} {x : Tree} {y : TreePlace} → TreeAt s i j x y → (a : ℕ) → i ≡ n + a → ItemTo (λ b z. TreeAt t a b x z) j
  tree_to (tree w q r m o p g) a e =
      let w' = word_to w a e in
      let q' = run_to q w'.b w'.is in
      let r' = word_to r q'.b q'.is in
      let m' = number_to m r'.b r'.is in
      let o' = word_to o m'.b m'.is in
      let p' = run_to p o'.b o'.is in
      let g' = body_to g p'.b p'.is in
      record { b = g'.b; is = g'.is; y = record { star = a; names = g'.y }; it = tree w'.it q'.it r'.it m'.it o'.it p'.it g'.it }

  trees_to : {i : ℕ} {ts : List Tree} {us : List TreePlace} → TreesAt s i ts us → (a : ℕ) → i ≡ n + a → (vs : List TreePlace) × TreesAt t a ts vs
  trees_to (trees p q r) a e =
      let u = run_to p a e in
      let v = parted_to (λ i j q. parting_to q) (λ i j x y q. tree_to q) q u.b u.is in
      let w = run_to r v.b v.is in
      let z : w.b ≡ length (drop n s) = omega (arith, w.is, length-drop n s) in
      (v.y, trees u.it v.it (subst (Run t blank v.b) z w.it))

  -- s from n on, by itself
  pub says_alone : {i : ℕ} {x : Text} {l : Layout} → Says s i x l → i ≡ n → (k : Layout) × Says (drop n s) 0 x k
  says_alone (without q) e = let z : n ≡ n + 0 = omega arith in let r = trees_to q 0 (e ∙ z) in (record { questions = []; trees = r.0 }, without r.1)
  says_alone (with_questions p q) e =
      let z : n ≡ n + 0 = omega arith in
      let u = parted_to (λ i j q. parting_to q) (λ i j x y q. question_to q) p 0 (e ∙ z) in
      let r = trees_to q u.b u.is in (record { questions = u.y; trees = r.0 }, with_questions u.it r.1)
