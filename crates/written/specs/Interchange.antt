-- IEEE 754's binary interchange formats, over the sizes of their fields: 1 bit of sign, e of exponent, f of fraction, from the top.
-- binary32 is e = 8, f = 23, and binary64 is e = 11, f = 52.
use Rattle.std.specs.Prelude.{◌≡◌, cond, ℕ, ◌+◌, ◌-◌, ◌*◌, ◌/◌, ◌%◌, ◌^◌, ◌≤◌, ◌<◌, eqb}

-- what a pattern stands for; s is 0 for plus and 1 for minus
pub data Value : Type 0 where
  -- `finite s m p q` is the number m * 2 ^ p / 2 ^ q with the sign s
  finite : (s m p q : ℕ) → Value
  infinite : (s : ℕ) → Value
  -- a NaN and its fraction, which is not 0
  nan : (s t : ℕ) → Value

-- the exponent's field of the number 1
unfoldable pub bias : ℕ → ℕ
bias e = 2 ^ (e - 1) - 1

-- the fields of a pattern b
abbrev pub sign_of : (e f b : ℕ) → ℕ
sign_of e f b = b / 2 ^ f / 2 ^ e

abbrev pub exponent_of : (e f b : ℕ) → ℕ
exponent_of e f b = b / 2 ^ f % 2 ^ e

abbrev pub fraction_of : (e f b : ℕ) → ℕ
fraction_of e f b = b % 2 ^ f

-- the pattern with these fields
abbrev pub join : (e f s x t : ℕ) → ℕ
join e f s x t = (s * 2 ^ e + x) * 2 ^ f + t

-- A field of all ones is an infinity or a NaN. A field of 0 has no hidden digit, and counts as a field of 1.
unfoldable pub decode_fields : (e f s x t : ℕ) → Value
decode_fields e f s x t =
    cond (eqb x (2 ^ e - 1))
    (cond (eqb t 0) (infinite s) (nan s t))
    (cond (eqb x 0) (finite s t 1 (bias e + f)) (finite s (2 ^ f + t) x (bias e + f)))

unfoldable pub decode : (e f b : ℕ) → Value
decode e f b = decode_fields e f (sign_of e f b) (exponent_of e f b) (fraction_of e f b)

-- ---- keeping a value in a wider format

-- the second format holds every finite value of the first, the subnormal ones as normal ones
pub record Wider (e f d g : ℕ) : Type 0 where
  pub exponent : 0 < e
  pub fraction : 0 < f
  pub longer : f ≤ g
  pub further : bias e + f ≤ bias d

-- the fraction t of a NaN, at the top of a fraction of g bits, with the highest bit, the quiet bit, set
abbrev pub quiet : (f g t : ℕ) → ℕ
quiet f g t = 2 ^ (g - 1) + t * 2 ^ (g - f) % 2 ^ (g - 1)

-- A value of a format with f bits of fraction, kept in one with g: a finite number is the same number with the same sign,
-- m * 2 ^ p / 2 ^ q = n * 2 ^ k / 2 ^ l; an infinity keeps its sign; a NaN its sign, and its fraction by the rule of `quiet`.
abbrev pub Kept : (f g : ℕ) → Value → Value → Type 0
Kept f g (finite s m p q) (finite r n k l) = (s ≡ r) × (m * 2 ^ p * 2 ^ l ≡ n * 2 ^ k * 2 ^ q)
Kept f g (finite s m p q) (infinite r) = ⊥
Kept f g (finite s m p q) (nan r u) = ⊥
Kept f g (infinite s) (finite r n k l) = ⊥
Kept f g (infinite s) (infinite r) = s ≡ r
Kept f g (infinite s) (nan r u) = ⊥
Kept f g (nan s t) (finite r n k l) = ⊥
Kept f g (nan s t) (infinite r) = ⊥
Kept f g (nan s t) (nan r u) = (s ≡ r) × (u ≡ quiet f g t)
