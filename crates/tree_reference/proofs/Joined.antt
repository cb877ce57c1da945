-- The references that this crate answers and those of `written`'s grammar are the same: what stands there is answered, what is answered stands there,
-- and where nothing is answered nothing stands.
use mathlib.Core.Path.{◌≡◌, refl, sym, ap, ◌∙◌, subst}
use mathlib.Core.Bool.{Bool, true, false, cond, ◌||◌}
use mathlib.Core.List.{List}
use mathlib.Core.Logic.{◌⊎◌, inl, inr}
use Prim.Native.Nat.{ℕ, zero, suc, ◌≤◌, ◌<◌}
use native.Mathlib.Decide.{dec_lt, ℕ_discrete}
use native.Mathlib.Omega.{arith}
use borrow.Author.Tests.{lt-ltb, ltb-true}
use lib.Dec.{ltb}
use lib.IntN.{ℤ, pos}
use Rattle.text_parts.specs.Parts.{read_to}
use Rattle.text_parts.specs.declared.Read.{Read}
use Rattle.std.specs.declared.option.Option.{Option}
use Rattle.std.specs.Prelude.{Some, None}
use Rattle.written.specs.Bytes.{quote, digit, letter, in_word, byte_at}
use Rattle.written.specs.Said.{Ref, node, pdf}
use Rattle.written.specs.TreeText.{Byte, Run, stop as stops, more, Run₁, some, Digits, digits, Number, plus, minus, Bare, number, word, Reference, bare, quoted}
use Rattle.written.proofs.Once.{digits_lt, digits_at, word_first, number_not, first}
use Rattle.laws.specs.Runs.{stop}
use Rattle.laws.proofs.Runs.{stop_from}
use Rattle.laws.proofs.Stops.{run_is, run₁-stop, run₁_is}
use Rattle.text_spaces.specs.Spaces.{past_byte}
use Rattle.text_spaces.proofs.Joined.{byte_past, past_byte_lem, clash}
use Rattle.text_numbers.specs.Answers.{signed_at}
use Rattle.text_numbers.proofs.Joined.{number_signed, signed_number, no_number}
use Rattle.tree_reference.specs.References.{index_of, digits_from, pdf_read, pdf_of, pdf_at, bare_read, bare_at, closed, quoted_read, quoted_at, opened, reference_at}
use Rattle.tree_reference.specs.declared.TreeIndex.{TreeIndex}
use Rattle.tree_reference.specs.declared.TreeIndex.TheVariants.{Node, Pdf}
use Rattle.tree_reference.proofs.Digits.{from_digit, from_other, from_end}

true-false : {A : Type 0} {b : Bool} → b ≡ true → b ≡ false → A
true-false y n = let u : ◌≡◌ {A = ℕ} 0 1 = cc in absurd (omega arith)

no_word : in_word 256 ≡ false
unfolding in_word
no_word = refl

-- a digit is a byte of a word
digit_word : (b : ℕ) → digit b ≡ true → in_word b ≡ true
unfolding in_word
digit_word b y = go (letter b) (digit b) y
  where
    go : (a d : Bool) → d ≡ true → (a || d || lib.Dec.eqb b 95) ≡ true
    go true d e = refl
    go false true e = refl
    go false false e = true-false e refl

run_ends : {p : ℕ → Bool} {s : List ℕ} {i j : ℕ} → Run s p i j → p (byte_at s j) ≡ false
run_ends (stops n) = n
run_ends (more y r) = run_ends r

digits_end : {s : List ℕ} {i j n : ℕ} → Digits s i j n → digit (byte_at s j) ≡ false
digits_end (digits (some y r)) = run_ends r

dash_no : (s : List ℕ) (i : ℕ) → byte_at s i ≡ 45 → digit (byte_at s i) ≡ false
unfolding digit
dash_no s i e = ap digit e

-- ---- the digits at the end of a word

-- after k, which is no digit, only digits
from_is : (s : List ℕ) (i k j : ℕ) → i ≤ k → k < j → digit (byte_at s k) ≡ false → ((m : ℕ) → k < m → m < j → digit (byte_at s m) ≡ true) → digits_from s i j ≡ suc k
from_is s i k zero l h n y = absurd (omega arith)
from_is s i k (suc j) l h n y = go (ℕ_discrete k j) (λ g. from_is s i k j l g n (λ m a b. y m a (omega arith)))
  where
    go : Dec (k ≡ j) → (k < j → digits_from s i j ≡ suc k) → digits_from s i (suc j) ≡ suc k
    go (yes e) r = from_other s i j (omega arith) (ap (λ (m : ℕ). digit (byte_at s m)) (sym e) ∙ n) ∙ ap suc (sym e)
    go (no e) r =
        let g : k < j = elim (dec_lt k j) [ yes p ↦ p | no q ↦ absurd (e (omega arith)) ] in
        from_digit s i j (omega arith) (y j g (omega arith)) ∙ r g

-- where the digits begin: at i, or after a byte that is no digit; and all from there on are digits
record Tail (s : List ℕ) (i e d : ℕ) : Type 0 where
  above : i ≤ d
  below : d ≤ e
  all_digits : (m : ℕ) → d ≤ m → m < e → digit (byte_at s m) ≡ true
  begins : (d ≡ i) ⊎ ((k : ℕ) × (d ≡ suc k) × (digit (byte_at s k) ≡ false))

tail_is : (s : List ℕ) (i e : ℕ) → i ≤ e → Tail s i e (digits_from s i e)
tail_is s i zero l = subst (Tail s i zero) (sym (from_end s i zero (omega arith))) (record { above = l; below = omega arith; all_digits = λ m a b. absurd (omega arith); begins = inl (omega arith) })
tail_is s i (suc e) l = go (dec_lt e i) (digit (byte_at s e)) refl (λ h. tail_is s i e h)
  where
    at_start : e < i → Tail s i (suc e) (suc e)
    at_start h = record { above = l; below = omega arith; all_digits = λ m a b. absurd (omega arith); begins = inl (omega arith) }

    go : Dec (e < i) → (b : Bool) → digit (byte_at s e) ≡ b → (i ≤ e → Tail s i e (digits_from s i e)) → Tail s i (suc e) (digits_from s i (suc e))
    go (yes h) b y r = subst (Tail s i (suc e)) (sym (from_end s i (suc e) (omega arith))) (at_start h)
    go (no h) true y r =
        let g : i ≤ e = omega arith in
        let t = r g in
        subst (Tail s i (suc e)) (sym (from_digit s i e g y))
        record { above = t.above; below = omega (arith, t.below); all_digits = λ m a b. pick m (dec_lt m e) a b t.all_digits; begins = t.begins }
      where
        pick : (m : ℕ) → Dec (m < e) → digits_from s i e ≤ m → m < suc e → ((m : ℕ) → digits_from s i e ≤ m → m < e → digit (byte_at s m) ≡ true) → digit (byte_at s m) ≡ true
        pick m (yes k) a b f = f m a k
        pick m (no k) a b f = let q : m ≡ e = omega arith in ap (λ (z : ℕ). digit (byte_at s z)) q ∙ y
    go (no h) false y r =
        subst (Tail s i (suc e)) (sym (from_other s i e (omega arith) y))
        record { above = l; below = omega arith; all_digits = λ m a b. absurd (omega arith); begins = inr (e, refl, y) }

-- ---- without quotes

pub bare_found : {s : List ℕ} {i j : ℕ} {r : Ref} → Bare s i j r → bare_at s i ≡ Some (read_to (index_of r) j)
unfolding bare_at pdf_at pdf_of
bare_found {s} {i} (number n) = ap (bare_read (pdf_at s i)) (number_signed n)
bare_found {s} {i} (word {k = k} {j = j} {n = n} not r l a d f) =
    ap (bare_read (pdf_at s i)) (none (signed_at s i) refl)
    ∙ ap (λ (e : ℕ). pdf_of s e (digits_from s i e)) (run₁-stop in_word no_word s r).0
    ∙ ap (pdf_of s j) (from_is s i k j l (omega (arith, digits_lt d)) a (λ m u v. digits_at d m u v))
    ∙ rw (lt-ltb (suc k) j (digits_lt d)) (ap pdf_read (number_signed (plus d f)))
  where
    none : (t : Option (Read ℤ)) → signed_at s i ≡ t → signed_at s i ≡ None
    none (Some r) q = absurd (not r.next r.value (signed_number s i r.next r.value q))
    none None q = q

-- what a reference in code stands for in the text
pub record Stands (Says : Ref → Type 0) (x : TreeIndex) : Type 0 where
  pub ref : Ref
  pub says : Says ref
  pub is : x ≡ index_of ref

found_pdf : (s : List ℕ) (i j : ℕ) (x : TreeIndex) → signed_at s i ≡ None → pdf_at s i ≡ Some (read_to x j) → Stands (Bare s i j) x
unfolding pdf_at pdf_of
found_pdf s i j x none e = go (stop in_word s i) refl (digits_from s i (stop in_word s i)) refl e
  where
    go : (w : ℕ) → stop in_word s i ≡ w → (d : ℕ) → digits_from s i (stop in_word s i) ≡ d → pdf_of s w d ≡ Some (read_to x j) → Stands (Bare s i j) x
    go w p d q h = pick (ltb d w) refl (signed_at s d) refl h
      where
        tail : Tail s i w d
        tail = subst (Tail s i w) (ap (digits_from s i) (sym p) ∙ q) (tail_is s i w (omega (arith, p, stop_from in_word s i)))

        run : d < w → Run₁ s in_word i w
        run l = let t = tail in subst (Run₁ s in_word i) p (run₁_is in_word no_word s i (omega (arith, p, t.above)))

        -- the digits stop where the word does
        at_end : {a n : ℕ} → Digits s d a n → d < w → a ≡ w
        at_end {a} g l = far (dec_lt a w) (dec_lt w a)
          where
            past : Run s in_word i w
            past = subst (Run s in_word i) p (run_is in_word no_word s i)

            far : Dec (a < w) → Dec (w < a) → a ≡ w
            far (yes u) v = true-false (let t = tail in t.all_digits a (omega (arith, digits_lt g)) u) (digits_end g)
            far (no u) (yes v) = true-false (digit_word (byte_at s w) (digits_at g w (omega arith) v)) (run_ends past)
            far (no u) (no v) = omega arith

        after : (k : ℕ) → d ≡ suc k → digit (byte_at s k) ≡ false → d < w → (z : ℤ) (a : ℕ) → Number s d a z → Pdf z ≡ x → a ≡ j → Stands (Bare s i j) x
        after k u v l z a (plus {n = n} g f) y t =
            let b = at_end g l in
            let b' : w ≡ j = sym b ∙ t in
            let c = tail in
            record {
              ref = pdf n;
              says = subst (λ (m : ℕ). Bare s i m (pdf n)) b' (word {k = k} (no_number s i none) (run l) (omega (arith, c.above, pos_of k u v)) v (subst (λ (m : ℕ). Digits s m w n) u (subst (λ (m : ℕ). Digits s d m n) b g)) f);
              is = sym y;
            }
          where
            -- i isn't past k: else the digits begin at i, where no number stands
            pos_of : (k : ℕ) → d ≡ suc k → digit (byte_at s k) ≡ false → i ≤ k
            pos_of k u v = elim (dec_lt k i) [ yes h ↦ absurd (same (omega (arith, c'.above))) | no h ↦ omega arith ]
              where
                c' : Tail s i w d
                c' = tail

                same : d ≡ i → ⊥
                same e = no_number s i none a (pos n) (subst (λ (m : ℕ). Number s m a (pos n)) e (plus g f))
        after k u v l z a (minus b g f) y t = true-false (let c = tail in c.all_digits d (omega arith) l) (dash_no s d (word_first b))

        pick : (t : Bool) → ltb d w ≡ t → (r : Option (Read ℤ)) → signed_at s d ≡ r → cond t (pdf_read r) None ≡ Some (read_to x j) → Stands (Bare s i j) x
        pick true l (Some q) r h =
            let y : Pdf q.value ≡ x = grind arith in
            let u : q.next ≡ j = grind arith in
            let m = signed_number s d q.next q.value r in
            let c = tail in
            from c.begins (ltb-true d w l) q.value q.next m y u
          where
            from : (d ≡ i) ⊎ ((k : ℕ) × (d ≡ suc k) × (digit (byte_at s k) ≡ false)) → d < w → (z : ℤ) (a : ℕ) → Number s d a z → Pdf z ≡ x → a ≡ j → Stands (Bare s i j) x
            from (inl e) l z a m y u = absurd (no_number s i none a z (subst (λ (b : ℕ). Number s b a z) e m))
            from (inr (k, e, v)) l z a m y u = after k e v l z a m y u
        pick true l None r h = clash (cc)
        pick false l r q h = clash (cc)

pub found_bare : (s : List ℕ) (i j : ℕ) (x : TreeIndex) → bare_at s i ≡ Some (read_to x j) → Stands (Bare s i j) x
unfolding bare_at
found_bare s i j x e = go (signed_at s i) refl e
  where
    go : (t : Option (Read ℤ)) → signed_at s i ≡ t → bare_read (pdf_at s i) t ≡ Some (read_to x j) → Stands (Bare s i j) x
    go (Some r) q h =
        let y : Node r.value ≡ x = grind arith in
        let u : r.next ≡ j = grind arith in
        record { ref = node r.value; says = number (subst (λ (m : ℕ). Number s i m r.value) u (signed_number s i r.next r.value q)); is = sym y }
    go None q h = found_pdf s i j x q h

-- ---- bare or in "

bare_not : {s : List ℕ} {i j : ℕ} {r : Ref} → Bare s i j r → byte_at s i ≡ quote → ⊥
unfolding digit in_word
bare_not (number n) h = number_not 34 refl (λ z. omega arith) n refl h
bare_not (word not r l a d f) h = true-false (first r) (ap in_word h)

not_quote : {s : List ℕ} {i j : ℕ} {r : Ref} → Bare s i j r → past_byte quote s i ≡ None
not_quote {s} {i} b = go (past_byte quote s i) refl
  where
    go : (p : Option ℕ) → past_byte quote s i ≡ p → past_byte quote s i ≡ None
    go (Some k) e = absurd (bare_not b (word_first (past_byte_lem quote i k s e)))
    go None e = e

pub reference_found : {s : List ℕ} {i j : ℕ} {r : Ref} → Reference s i j r → reference_at s i ≡ Some (read_to (index_of r) j)
unfolding reference_at quoted_at
reference_found {s} {i} (bare b) = ap (opened s i) (not_quote b) ∙ bare_found b
reference_found {s} {i} (quoted {r = r} w b v) = ap (opened s i) (byte_past w) ∙ ap (quoted_read s) (bare_found b) ∙ ap (closed (index_of r)) (byte_past v)

pub found_reference : (s : List ℕ) (i j : ℕ) (x : TreeIndex) → reference_at s i ≡ Some (read_to x j) → Stands (Reference s i j) x
unfolding reference_at quoted_at
found_reference s i j x e = go (past_byte quote s i) refl e
  where
    go : (p : Option ℕ) → past_byte quote s i ≡ p → opened s i p ≡ Some (read_to x j) → Stands (Reference s i j) x
    go (Some a) q h = inner (bare_at s a) refl h
      where
        inner : (t : Option (Read TreeIndex)) → bare_at s a ≡ t → quoted_read s t ≡ Some (read_to x j) → Stands (Reference s i j) x
        inner (Some z) r h = shut (past_byte quote s z.next) refl h
          where
            shut : (p : Option ℕ) → past_byte quote s z.next ≡ p → closed z.value p ≡ Some (read_to x j) → Stands (Reference s i j) x
            shut (Some c) t h =
                let u : z.value ≡ x = grind arith in
                let v : c ≡ j = grind arith in
                let k = found_bare s a z.next z.value r in
                record { ref = k.ref; says = quoted (past_byte_lem quote i a s q) k.says (subst (λ (m : ℕ). Byte s quote z.next m) v (past_byte_lem quote z.next c s t)); is = sym u ∙ k.is }
            shut None t h = clash (cc)
        inner None r h = clash (cc)
    go None q h = let k = found_bare s i j x h in record { ref = k.ref; says = bare k.says; is = k.is }

pub no_reference : (s : List ℕ) (i : ℕ) → reference_at s i ≡ None → (j : ℕ) (r : Ref) → ¬ Reference s i j r
no_reference s i e j r h = let k = reference_found h in let u : ◌≡◌ {A = ℕ} 0 1 = cc in omega arith
