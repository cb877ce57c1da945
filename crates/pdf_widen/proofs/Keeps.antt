-- Widening keeps the value, for every pair of formats of which the second is `Wider`.
use mathlib.Core.Path.{◌≡◌, refl, sym, ap, ◌∙◌, subst}
use Prim.Native.Nat.{ℕ, zero, suc, ◌+◌, ◌-◌, ◌*◌, ◌/◌, ◌^◌, ◌≤◌, ◌<◌}
use native.Mathlib.Nat.{mod-lt, add-mul, mul_assoc, mul-lt-mul_of_pos_right, pow-suc}
use native.Mathlib.Omega.{arith}
use borrow.Author.Tests.{eq-eqb, ne_eqb}
use lib.Pow.{pow_pos, pow-add, high, low}
use lib.Count.{count_leading_zeros}
use Rattle.written.specs.Interchange.{Value, finite, infinite, nan, bias, join, sign_of, exponent_of, fraction_of, decode, decode_fields, quiet, Wider, Kept}
use Rattle.pdf_widen.specs.Widening.{widen_fields, widen_of}
use native.Mathlib.Decide.{ℕ_discrete}
use Rattle.pdf_widen.proofs.Leading.{Normal, normal}
use Rattle.pdf_widen.proofs.Cases.{wide_infinite, wide_nan, wide_zero, wide_subnormal, wide_normal}

-- ---- fields

-- a pattern that is joined has the fields that it is joined of
pub fields : (e f s x t : ℕ) → x < 2 ^ e → t < 2 ^ f → decode e f (join e f s x t) ≡ decode_fields e f s x t
unfolding decode
fields e f s x t hx ht = simp (high (s * 2 ^ e + x) f ht, low (s * 2 ^ e + x) f ht, high s e hx, low s e hx)

-- 2 ^ e is 2 * bias e + 2
top : (e : ℕ) → 0 < e → 2 ^ e ≡ bias e + bias e + 2
unfolding bias
top zero h = omega arith
top (suc e) h =
    let p = pow-suc 2 e in
    let q : suc e - 1 ≡ e = omega arith in
    rw q (omega (arith, pow_pos e))

positive : (d : ℕ) → 0 < 2 ^ (d - 1) - 1 → 0 < d
positive zero h = h
positive (suc d) h = omega arith

-- ---- what each kind of pattern decodes to

module _ (e f s x t : ℕ) where
  is_infinite : x ≡ 2 ^ e - 1 → t ≡ 0 → decode_fields e f s x t ≡ infinite s
  unfolding decode_fields
  is_infinite hx ht = simp (eq-eqb x (2 ^ e - 1) hx, eq-eqb t 0 ht)

  is_nan : x ≡ 2 ^ e - 1 → 0 < t → decode_fields e f s x t ≡ nan s t
  unfolding decode_fields
  is_nan hx ht = simp (eq-eqb x (2 ^ e - 1) hx, ne_eqb t 0 (omega arith))

  is_low : x < 2 ^ e - 1 → x ≡ 0 → decode_fields e f s x t ≡ finite s t 1 (bias e + f)
  unfolding decode_fields
  is_low hx h0 = simp (ne_eqb x (2 ^ e - 1) (omega arith), eq-eqb x 0 h0)

  is_normal : x < 2 ^ e - 1 → 0 < x → decode_fields e f s x t ≡ finite s (2 ^ f + t) x (bias e + f)
  unfolding decode_fields
  is_normal hx h0 = simp (ne_eqb x (2 ^ e - 1) (omega arith), ne_eqb x 0 (omega arith))

-- ---- powers

gather : (m a b : ℕ) → m * 2 ^ a * 2 ^ b ≡ m * 2 ^ (a + b)
gather m a b = mul_assoc m (2 ^ a) (2 ^ b) ∙ ap (λ (n : ℕ). m * n) (sym (pow-add 2 a b))

-- m * 2 ^ p / 2 ^ q and m * 2 ^ c * 2 ^ k / 2 ^ l are the same number where the exponents agree
level : (m p q c k l : ℕ) → p + l ≡ c + k + q → m * 2 ^ p * 2 ^ l ≡ m * 2 ^ c * 2 ^ k * 2 ^ q
level m p q c k l e =
    gather m p l ∙ ap (λ (n : ℕ). m * 2 ^ n) e ∙ sym (gather m (c + k) q) ∙ ap (λ (n : ℕ). n * 2 ^ q) (sym (gather m c k))

-- the hidden digit and the fraction below it, moved up together
hidden : (f g t : ℕ) → f ≤ g → 2 ^ g + t * 2 ^ (g - f) ≡ (2 ^ f + t) * 2 ^ (g - f)
hidden f g t h =
    let whole : f + (g - f) ≡ g = omega arith in
    let p : 2 ^ g ≡ 2 ^ f * 2 ^ (g - f) = ap (λ (n : ℕ). 2 ^ n) (sym whole) ∙ pow-add 2 f (g - f) in
    rw p (sym (add-mul (2 ^ f) t (2 ^ (g - f))))

-- ---- bounds

moved_up : (f g y : ℕ) → f ≤ g → y < 2 ^ f → y * 2 ^ (g - f) < 2 ^ g
moved_up f g y h lt =
    let whole : f + (g - f) ≡ g = omega arith in
    let p : 2 ^ f * 2 ^ (g - f) ≡ 2 ^ g = sym (pow-add 2 f (g - f)) ∙ ap (λ (n : ℕ). 2 ^ n) whole in
    subst (λ (n : ℕ). y * 2 ^ (g - f) < n) p (mul-lt-mul_of_pos_right lt (pow_pos (g - f)))

twice : (g : ℕ) → 0 < g → 2 ^ g ≡ 2 ^ (g - 1) + 2 ^ (g - 1)
twice zero h = omega arith
twice (suc g) h =
    let p = pow-suc 2 g in
    let q : suc g - 1 ≡ g = omega arith in
    rw q (omega arith)

quiet-lt : (f g t : ℕ) → 0 < g → quiet f g t < 2 ^ g
quiet-lt f g t h = omega (arith, twice g h, mod-lt (t * 2 ^ (g - f)) (pow_pos (g - 1)))

-- ---- each case

module _ (e f d g : ℕ) (w : Wider e f d g) (s x t : ℕ) (hx : x < 2 ^ e) (ht : t < 2 ^ f) where
  Goal : Type 0
  Goal = Kept f g (decode_fields e f s x t) (decode d g (widen_fields e f d g s x t))

  sizes : (0 < d) × (2 ^ e ≡ bias e + bias e + 2) × (2 ^ d ≡ bias d + bias d + 2)
  unfolding bias
  sizes =
      let p : 0 < d = positive d (omega (arith, w.fraction, w.further)) in
      (p, top e w.exponent, top d p)

  -- both sides decoded, to values v and u
  by : (y u : ℕ) (v v' : Value) → decode_fields e f s x t ≡ v → widen_fields e f d g s x t ≡ join d g s y u → y < 2 ^ d → u < 2 ^ g
      → decode_fields d g s y u ≡ v' → Kept f g v v' → Goal
  unfolding Goal
  by y u v v' p q hy hu r k = rw (p, q, fields d g s y u hy hu, r) k

  case_infinite : x ≡ 2 ^ e - 1 → t ≡ 0 → Goal
  case_infinite h k =
      by (2 ^ d - 1) 0 (infinite s) (infinite s) (is_infinite e f s x t h k) (wide_infinite e f d g s x t h k)
      (omega (arith, pow_pos d)) (pow_pos g) (is_infinite d g s (2 ^ d - 1) 0 refl refl) refl

  case_nan : x ≡ 2 ^ e - 1 → (t ≡ 0 → ⊥) → Goal
  case_nan h k =
      by (2 ^ d - 1) (quiet f g t) (nan s t) (nan s (quiet f g t)) (is_nan e f s x t h (omega (arith, k))) (wide_nan e f d g s x t h k)
      (omega (arith, pow_pos d)) (quiet-lt f g t (omega (arith, w.fraction, w.longer)))
      (is_nan d g s (2 ^ d - 1) (quiet f g t) refl (omega (arith, pow_pos (g - 1)))) (refl, refl)

  case_zero : (x ≡ 2 ^ e - 1 → ⊥) → x ≡ 0 → t ≡ 0 → Goal
  case_zero n h k =
      let z = sizes in
      by 0 0 (finite s t 1 (bias e + f)) (finite s 0 1 (bias d + g)) (is_low e f s x t (omega (arith, n)) h) (wide_zero e f d g s x t n h k)
      (pow_pos d) (pow_pos g) (is_low d g s 0 0 (omega (arith, w.further, w.fraction)) refl) (refl, rw k (omega arith))

  case_subnormal : (x ≡ 2 ^ e - 1 → ⊥) → x ≡ 0 → (t ≡ 0 → ⊥) → Goal
  case_subnormal n h k =
      let z : ℕ = count_leading_zeros (f + 1) t in
      let m : Normal f t z = normal f t (omega (arith, k)) ht in
      let y : ℕ = bias d - bias e + 1 - z in
      let u : ℕ = (t * 2 ^ z - 2 ^ f) * 2 ^ (g - f) in
      let back : 2 ^ f + (t * 2 ^ z - 2 ^ f) ≡ t * 2 ^ z = omega (arith, m.above) in
      let b = sizes in
      by y u (finite s t 1 (bias e + f)) (finite s (2 ^ g + u) y (bias d + g)) (is_low e f s x t (omega (arith, n)) h) (wide_subnormal e f d g s x t n h k)
      (omega (arith, w.further, m.small)) (moved_up f g (t * 2 ^ z - 2 ^ f) w.longer (omega (arith, m.below, m.above)))
      (is_normal d g s y u (omega (arith, w.further, m.small)) (omega (arith, w.further, m.small)))
      (refl, rw (hidden f g (t * 2 ^ z - 2 ^ f) w.longer, back, gather t z (g - f)) (level t 1 (bias e + f) (z + (g - f)) y (bias d + g) (omega (arith, w.further, m.small, w.longer))))

  case_normal : (x ≡ 2 ^ e - 1 → ⊥) → (x ≡ 0 → ⊥) → Goal
  case_normal n h =
      let y : ℕ = x + (bias d - bias e) in
      let u : ℕ = t * 2 ^ (g - f) in
      let b = sizes in
      by y u (finite s (2 ^ f + t) x (bias e + f)) (finite s (2 ^ g + u) y (bias d + g)) (is_normal e f s x t (omega (arith, n)) (omega (arith, h)))
      (wide_normal e f d g s x t n h)
      (omega (arith, w.further, n)) (moved_up f g t w.longer ht)
      (is_normal d g s y u (omega (arith, w.further, n)) (omega (arith, h)))
      (refl, rw (hidden f g t w.longer) (level (2 ^ f + t) x (bias e + f) (g - f) y (bias d + g) (omega (arith, w.further, w.longer))))

  choose : Dec (x ≡ 2 ^ e - 1) → Dec (x ≡ 0) → Dec (t ≡ 0) → Goal
  choose (yes h) b (yes k) = case_infinite h k
  choose (yes h) b (no k) = case_nan h k
  choose (no n) (yes h) (yes k) = case_zero n h k
  choose (no n) (yes h) (no k) = case_subnormal n h k
  choose (no n) (no h) c = case_normal n h

  fields_kept : Goal
  fields_kept = choose (ℕ_discrete x (2 ^ e - 1)) (ℕ_discrete x 0) (ℕ_discrete t 0)

-- widening keeps the value, whatever the sizes of the fields
pub keeps : (e f d g b : ℕ) → Wider e f d g → Kept f g (decode e f b) (decode d g (widen_of e f d g b))
unfolding decode widen_of Goal
keeps e f d g b w =
    fields_kept e f d g w (sign_of e f b) (exponent_of e f b) (fraction_of e f b) (mod-lt (b / 2 ^ f) (pow_pos e)) (mod-lt b (pow_pos f))

-- binary32 to binary64
pub binary : Wider 8 23 11 52
unfolding bias
binary = record { exponent = omega arith; fraction = omega arith; longer = omega arith; further = omega arith }

pub widens : (b : ℕ) → Kept 23 52 (decode 8 23 b) (decode 11 52 (widen_of 8 23 11 52 b))
widens b = keeps 8 23 11 52 b binary

-- and binary16 to binary32, by the same law
pub half : (b : ℕ) → Kept 10 23 (decode 5 10 b) (decode 8 23 (widen_of 5 10 8 23 b))
unfolding bias
half b = keeps 5 10 8 23 b (record { exponent = omega arith; fraction = omega arith; longer = omega arith; further = omega arith })
