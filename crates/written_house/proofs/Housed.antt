-- House voices: a rule that is broken is one; a model keeps all rules or breaks a first one; means and variances as comparisons of whole numbers.
use mathlib.Core.Path.{◌≡◌, refl, sym, ap, ap₂, ◌∙◌, subst}
use mathlib.Core.Bool.{Bool, true, false, cond}
use mathlib.Core.List.{List, ◌∷◌}
use Prim.Native.Nat.{ℕ, zero, suc, ◌+◌, ◌*◌, ◌/◌, ◌%◌, ◌^◌, ◌≤◌, ◌<◌}
use native.Mathlib.Omega.{arith}
use native.Mathlib.Decide.{dec_lt, dec_le}
use lib.Dec.{eqb}
use lib.Pow.{mod-pow-add}
use borrow.Author.Tests.{eqb-true, eqb-false, eq-eqb, ne_eqb}
use Rattle.written.specs.Interchange.{finite, infinite, nan, bias, sign_of, exponent_of, fraction_of, decode_fields, decode}
use Rattle.written.specs.Groups.{Pointwise}
use Rattle.written.specs.Record.{Header, All}
use Rattle.written.specs.Models.{Model}
use Rattle.written.specs.Loading.{ModelSaid}
use Rattle.written.specs.House.{Finite, AboveZero, HouseModel, ModelBreaks, FirstBreaks, HouseVoice, VoiceBreaks, FirstRefused, Judges}

-- ---- finite, and above zero

-- 2^11 - 1 times 2^52
abbrev pub infinity : ℕ
infinity = 0x7FF0_0000_0000_0000

-- the two lower fields of a pattern, together
lower : (b : ℕ) → b % 2 ^ 63 ≡ exponent_of 11 52 b * 2 ^ 52 + fraction_of 11 52 b
lower b = mod-pow-add b 11 52

fields_low : (s x t : ℕ) {r m p q : ℕ} → decode_fields 11 52 s x t ≡ finite r m p q → ¬ (x ≡ 2047)
unfolding decode_fields
fields_low s x t {r} {m} {p} {q} e h = go (eqb t 0) (sym (ap (λ (c : Bool). cond c (cond (eqb t 0) (infinite s) (nan s t)) (cond (eqb x 0) (finite s t 1 (bias 11 + 52)) (finite s (2 ^ 52 + t) x (bias 11 + 52)))) (eq-eqb x 2047 h)) ∙ e)
  where
    go : (c : Bool) → cond c (infinite s) (nan s t) ≡ finite r m p q → ⊥
    go true f = let z : ◌≡◌ {A = ℕ} 0 1 = cc in omega arith
    go false f = let z : ◌≡◌ {A = ℕ} 0 1 = cc in omega arith

-- what is decoded where the exponent is not all ones
fields_finite : (s x t : ℕ) → ¬ (x ≡ 2047) → decode_fields 11 52 s x t ≡ cond (eqb x 0) (finite s t 1 (bias 11 + 52)) (finite s (2 ^ 52 + t) x (bias 11 + 52))
unfolding decode_fields
fields_finite s x t n = ap (λ (c : Bool). cond c (cond (eqb t 0) (infinite s) (nan s t)) (cond (eqb x 0) (finite s t 1 (bias 11 + 52)) (finite s (2 ^ 52 + t) x (bias 11 + 52)))) (ne_eqb x 2047 n)

-- the exponent is all ones or below
below_ones : (x : ℕ) → ¬ (x ≡ 2047) → x < 2048 → x ≤ 2046
below_ones x n l = pick (dec_le x 2046)
  where
    pick : Dec (x ≤ 2046) → x ≤ 2046
    pick (yes y) = y
    pick (no m) = let same : x ≡ 2047 = omega arith in absurd (n same)

-- finite just where the lower 63 bits are below infinity's
pub finite_below : (b : ℕ) → Finite b → b % 2 ^ 63 < infinity
unfolding decode
finite_below b (Finite.is e) = go (exponent_of 11 52 b) (fraction_of 11 52 b) (fields_low (sign_of 11 52 b) (exponent_of 11 52 b) (fraction_of 11 52 b) e) (omega arith) (omega arith) (lower b)
  where
    go : (x t : ℕ) → ¬ (x ≡ 2047) → x < 2048 → t < 2 ^ 52 → b % 2 ^ 63 ≡ x * 2 ^ 52 + t → b % 2 ^ 63 < infinity
    go x t n l u e = let k : x ≤ 2046 = below_ones x n l in omega arith

-- the other way: the exponent is below all ones
low_exponent : (b : ℕ) → b % 2 ^ 63 < infinity → ¬ (exponent_of 11 52 b ≡ 2047)
low_exponent b h = go (exponent_of 11 52 b) (fraction_of 11 52 b) (lower b)
  where
    go : (x t : ℕ) → b % 2 ^ 63 ≡ x * 2 ^ 52 + t → ¬ (x ≡ 2047)
    go x t e n = omega arith

pub below_finite : (b : ℕ) → b % 2 ^ 63 < infinity → Finite b
unfolding decode
below_finite b h =
    let s : ℕ = sign_of 11 52 b in
    let x : ℕ = exponent_of 11 52 b in
    let t : ℕ = fraction_of 11 52 b in
    go s x t (eqb x 0) (fields_finite s x t (low_exponent b h))
  where
    go : (s x t : ℕ) (c : Bool) → decode 11 52 b ≡ cond c (finite s t 1 (bias 11 + 52)) (finite s (2 ^ 52 + t) x (bias 11 + 52)) → Finite b
    go s x t true e = Finite.is e
    go s x t false e = Finite.is e

-- finite and above zero just where the pattern, as a number, lies between 0 and infinity's
pub above_zero_below : (b : ℕ) → AboveZero b → (0 < b) × (b < infinity)
unfolding decode
above_zero_below b (AboveZero.is {m = m} {p = p} {q = q} e) =
    let s : ℕ = sign_of 11 52 b in
    let x : ℕ = exponent_of 11 52 b in
    let t : ℕ = fraction_of 11 52 b in
    let n = fields_low s x t e in
    let f = go s x t (eqb x 0) refl (sym (fields_finite s x t n) ∙ e) in
    numbers s x t f.0 f.1 (finite_below b (Finite.is e)) refl (lower b)
  where
    go : (s x t : ℕ) (c : Bool) → eqb x 0 ≡ c → cond c (finite s t 1 (bias 11 + 52)) (finite s (2 ^ 52 + t) x (bias 11 + 52)) ≡ finite 0 (suc m) p q → (s ≡ 0) × (0 < x + t)
    go s x t true c f = let y : s ≡ 0 = cc in let z : t ≡ suc m = cc in (y, omega arith)
    go s x t false c f =
        let y : s ≡ 0 = cc in
        let w : 0 < x = positive (eqb-false x 0 c) in
        (y, omega arith)
      where
        positive : (x ≡ 0 → ⊥) → 0 < x
        positive n = pick (dec_lt 0 x)
          where
            pick : Dec (0 < x) → 0 < x
            pick (yes l) = l
            pick (no l) = let same : x ≡ 0 = omega arith in absurd (n same)

    numbers : (s x t : ℕ) → s ≡ 0 → 0 < x + t → b % 2 ^ 63 < infinity → b / 2 ^ 52 / 2 ^ 11 ≡ s → b % 2 ^ 63 ≡ x * 2 ^ 52 + t → (0 < b) × (b < infinity)
    numbers s x t a c l e f =
        let k : b / 2 ^ 63 ≡ 0 = omega arith in
        let j : b % 2 ^ 63 ≡ b = omega arith in
        (omega arith, omega arith)

pub below_above_zero : (b : ℕ) → 0 < b → b < infinity → AboveZero b
unfolding decode
below_above_zero b l u =
    let s : ℕ = sign_of 11 52 b in
    let x : ℕ = exponent_of 11 52 b in
    let t : ℕ = fraction_of 11 52 b in
    let j : b % 2 ^ 63 ≡ b = omega arith in
    let z : s ≡ 0 = omega arith in
    let h : b % 2 ^ 63 < infinity = omega arith in
    let n : b ≡ x * 2 ^ 52 + t = sym j ∙ lower b in
    let y : 0 < x * 2 ^ 52 + t = subst (λ (k : ℕ). 0 < k) n l in
    go s x t (eqb x 0) refl z y (fields_finite s x t (low_exponent b h))
  where
    go : (s x t : ℕ) (c : Bool) → eqb x 0 ≡ c → s ≡ 0 → 0 < x * 2 ^ 52 + t → decode 11 52 b ≡ cond c (finite s t 1 (bias 11 + 52)) (finite s (2 ^ 52 + t) x (bias 11 + 52)) → AboveZero b
    go s x zero true c z y e = let same : x ≡ 0 = eqb-true x 0 c in absurd (omega arith)
    go s x (suc t) true c z y e = AboveZero.is (e ∙ ap (λ (k : ℕ). finite k (suc t) 1 (bias 11 + 52)) z)
    go s x t false c z y e =
        let w : 2 ^ 52 + t ≡ suc (4503599627370495 + t) = omega arith in
        AboveZero.is (e ∙ ap (λ (k : ℕ). finite k (2 ^ 52 + t) x (bias 11 + 52)) z ∙ ap (λ (k : ℕ). finite 0 k x (bias 11 + 52)) w)

-- ---- one rule is the first that is broken

module _ {x : ModelSaid} where
  -- a model that breaks a rule doesn't keep all
  pub house_never : {n : ℕ} → HouseModel x → ModelBreaks x n → ⊥
  house_never h (ModelBreaks.ids n) = n h.ids
  house_never h (ModelBreaks.names a n) = n h.names
  house_never h (ModelBreaks.leaves a b n) = n h.leaves
  house_never h (ModelBreaks.means a b c n) = n h.means
  house_never h (ModelBreaks.variances a b c d n) = n h.variances

  pub breaks_one : {n k : ℕ} → ModelBreaks x n → ModelBreaks x k → n ≡ k
  breaks_one (ModelBreaks.ids n) (ModelBreaks.ids m) = refl
  breaks_one (ModelBreaks.ids n) (ModelBreaks.names a m) = absurd (n a)
  breaks_one (ModelBreaks.ids n) (ModelBreaks.leaves a b m) = absurd (n a)
  breaks_one (ModelBreaks.ids n) (ModelBreaks.means a b c m) = absurd (n a)
  breaks_one (ModelBreaks.ids n) (ModelBreaks.variances a b c d m) = absurd (n a)
  breaks_one (ModelBreaks.names a n) (ModelBreaks.ids m) = absurd (m a)
  breaks_one (ModelBreaks.names a n) (ModelBreaks.names b m) = refl
  breaks_one (ModelBreaks.names a n) (ModelBreaks.leaves b c m) = absurd (n c)
  breaks_one (ModelBreaks.names a n) (ModelBreaks.means b c d m) = absurd (n c)
  breaks_one (ModelBreaks.names a n) (ModelBreaks.variances b c d e m) = absurd (n c)
  breaks_one (ModelBreaks.leaves a b n) (ModelBreaks.ids m) = absurd (m a)
  breaks_one (ModelBreaks.leaves a b n) (ModelBreaks.names c m) = absurd (m b)
  breaks_one (ModelBreaks.leaves a b n) (ModelBreaks.leaves c d m) = refl
  breaks_one (ModelBreaks.leaves a b n) (ModelBreaks.means c d e m) = absurd (n e)
  breaks_one (ModelBreaks.leaves a b n) (ModelBreaks.variances c d e f m) = absurd (n e)
  breaks_one (ModelBreaks.means a b c n) (ModelBreaks.ids m) = absurd (m a)
  breaks_one (ModelBreaks.means a b c n) (ModelBreaks.names d m) = absurd (m b)
  breaks_one (ModelBreaks.means a b c n) (ModelBreaks.leaves d e m) = absurd (m c)
  breaks_one (ModelBreaks.means a b c n) (ModelBreaks.means d e f m) = refl
  breaks_one (ModelBreaks.means a b c n) (ModelBreaks.variances d e f g m) = absurd (n g)
  breaks_one (ModelBreaks.variances a b c d n) (ModelBreaks.ids m) = absurd (m a)
  breaks_one (ModelBreaks.variances a b c d n) (ModelBreaks.names e m) = absurd (m b)
  breaks_one (ModelBreaks.variances a b c d n) (ModelBreaks.leaves e f m) = absurd (m c)
  breaks_one (ModelBreaks.variances a b c d n) (ModelBreaks.means e f g m) = absurd (m d)
  breaks_one (ModelBreaks.variances a b c d n) (ModelBreaks.variances e f g h m) = refl

-- the first model that breaks one is one
pub first_breaks_one : {ms : List Model} {xs : List ModelSaid} {n m k j : ℕ} → FirstBreaks ms xs n k → FirstBreaks ms xs m j → (n ≡ m) × (k ≡ j)
first_breaks_one (FirstBreaks.here a) (FirstBreaks.here b) = (breaks_one a b, refl)
first_breaks_one (FirstBreaks.here a) (FirstBreaks.later h b) = absurd (house_never h a)
first_breaks_one (FirstBreaks.later h a) (FirstBreaks.here b) = absurd (house_never h b)
first_breaks_one (FirstBreaks.later h a) (FirstBreaks.later g b) = first_breaks_one a b

first_breaks_never : {ms : List Model} {xs : List ModelSaid} {n k : ℕ} → All HouseModel xs → FirstBreaks ms xs n k → ⊥
first_breaks_never (All.next h a) (FirstBreaks.here b) = house_never h b
first_breaks_never (All.next h a) (FirstBreaks.later g b) = first_breaks_never a b
first_breaks_never {ms = ms} {n = n} {k = k} Rattle.written.specs.Record.end x3 = elim x3 [ ]

module _ {s : List ℕ} {h : Header} where
  pub voice_breaks_one : {ms : List Model} {xs : List ModelSaid} {n m k j : ℕ} → VoiceBreaks s h ms xs n k → VoiceBreaks s h ms xs m j → (n ≡ m) × (k ≡ j)
  voice_breaks_one (VoiceBreaks.counted a) (VoiceBreaks.counted b) = (refl, refl)
  voice_breaks_one (VoiceBreaks.counted a) (VoiceBreaks.types b c) = absurd (a b)
  voice_breaks_one (VoiceBreaks.counted a) (VoiceBreaks.model b c d) = absurd (a b)
  voice_breaks_one (VoiceBreaks.types a b) (VoiceBreaks.counted c) = absurd (c a)
  voice_breaks_one (VoiceBreaks.types a b) (VoiceBreaks.types c d) = (refl, refl)
  voice_breaks_one (VoiceBreaks.types a b) (VoiceBreaks.model c d e) = absurd (b d)
  voice_breaks_one (VoiceBreaks.model a b c) (VoiceBreaks.counted d) = absurd (d a)
  voice_breaks_one (VoiceBreaks.model a b c) (VoiceBreaks.types d e) = absurd (e b)
  voice_breaks_one (VoiceBreaks.model a b c) (VoiceBreaks.model d e f) = first_breaks_one c f

  pub voice_never : {ms : List Model} {xs : List ModelSaid} {n k : ℕ} → HouseVoice s h xs → VoiceBreaks s h ms xs n k → ⊥
  voice_never v (VoiceBreaks.counted a) = a v.counted
  voice_never v (VoiceBreaks.types a b) = b v.types
  voice_never v (VoiceBreaks.model a b c) = first_breaks_never v.each c

-- ---- the call has one answer, where a load has one

module _ {Loads : Model → ModelSaid → Type 0} {Refuses : Model → ℕ → ℕ → ℕ → Type 0}
    (loads-one : (m : Model) (x y : ModelSaid) → Loads m x → Loads m y → x ≡ y)
    (refuses-one : (m : Model) (n p l k q j : ℕ) → Refuses m n p l → Refuses m k q j → (n ≡ k) × (p ≡ q) × (l ≡ j))
    (never_both : (m : Model) (x : ModelSaid) (n p l : ℕ) → Loads m x → Refuses m n p l → ⊥) where
  all_one : {ms : List Model} {xs ys : List ModelSaid} → Pointwise Loads ms xs → Pointwise Loads ms ys → xs ≡ ys
  all_one Pointwise.none Pointwise.none = refl
  all_one (Pointwise.more {a = m} {b = x} a p) (Pointwise.more {b = y} b q) = ap₂ ◌∷◌ (loads-one m x y a b) (all_one p q)

  all_never : {ms : List Model} {xs : List ModelSaid} {n p l k : ℕ} → Pointwise Loads ms xs → FirstRefused Loads Refuses ms n p l k → ⊥
  all_never (Pointwise.more {a = m} {b = x} a p) (FirstRefused.here {n = n} {p = q} {l = l} r) = never_both m x n q l a r
  all_never (Pointwise.more a p) (FirstRefused.later b r) = all_never p r
  all_never {n = n} {p = p} {l = l} {k = k} Rattle.written.specs.Groups.none x4 = elim x4 [ ]

  first_refused_one : {ms : List Model} {n p l k m q j i : ℕ} → FirstRefused Loads Refuses ms n p l k → FirstRefused Loads Refuses ms m q j i → (n ≡ m) × (p ≡ q) × (l ≡ j) × (k ≡ i)
  first_refused_one (FirstRefused.here {m = m} {n = n} {p = p} {l = l} a) (FirstRefused.here {n = k} {p = q} {l = j} b) =
      let e = refuses-one m n p l k q j a b in (e.0, e.1, e.2, refl)
  first_refused_one (FirstRefused.here {m = m} {n = n} {p = p} {l = l} a) (FirstRefused.later {x = x} b r) = absurd (never_both m x n p l b a)
  first_refused_one (FirstRefused.later {m = m} {x = x} b r) (FirstRefused.here {n = n} {p = p} {l = l} a) = absurd (never_both m x n p l b a)
  first_refused_one (FirstRefused.later a r) (FirstRefused.later b t) = first_refused_one r t

  pub judges_one : {s : List ℕ} {h : Header} {ms : List Model} {n p l k m q j i : ℕ} → Judges Loads Refuses s h ms n p l k → Judges Loads Refuses s h ms m q j i
      → (n ≡ m) × (p ≡ q) × (l ≡ j) × (k ≡ i)
  judges_one (Judges.refused a) (Judges.refused b) = first_refused_one a b
  judges_one (Judges.refused a) (Judges.breaks b v) = absurd (all_never b a)
  judges_one (Judges.refused a) (Judges.house b v) = absurd (all_never b a)
  judges_one (Judges.breaks a v) (Judges.refused b) = absurd (all_never a b)
  judges_one {s} {h} {ms} (Judges.breaks {n = n} {k = k} a v) (Judges.breaks b w) =
      let e = voice_breaks_one (subst (λ (xs : List ModelSaid). VoiceBreaks s h ms xs n k) (all_one a b) v) w in (e.0, refl, refl, e.1)
  judges_one {s} {h} {ms} (Judges.breaks {n = n} {k = k} a v) (Judges.house b w) = absurd (voice_never w (subst (λ (xs : List ModelSaid). VoiceBreaks s h ms xs n k) (all_one a b) v))
  judges_one (Judges.house a v) (Judges.refused b) = absurd (all_never a b)
  judges_one {s} {h} {ms} (Judges.house a v) (Judges.breaks {n = n} {k = k} b w) = absurd (voice_never v (subst (λ (xs : List ModelSaid). VoiceBreaks s h ms xs n k) (all_one b a) w))
  judges_one (Judges.house a v) (Judges.house b w) = (refl, refl, refl, refl)
