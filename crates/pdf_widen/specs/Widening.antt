-- Widening a pattern of one interchange format to a wider one, by computation, over the sizes of the fields.
use Rattle.std.specs.Prelude.{cond, ℕ, ◌+◌, ◌-◌, ◌*◌, ◌^◌, eqb}
use Rattle.std.specs.Int.Count.{count_leading_zeros}
use Rattle.written.specs.Interchange.{bias, sign_of, exponent_of, fraction_of, join, quiet}

-- A subnormal's fraction t, moved up by its leading zeros until its highest digit is the hidden one, which the field leaves out.
abbrev pub normalised : (e f d g s t z : ℕ) → ℕ
normalised e f d g s t z = join d g s (bias d - bias e + 1 - z) ((t * 2 ^ z - 2 ^ f) * 2 ^ (g - f))

-- from e bits of exponent and f of fraction to d and g
unfoldable pub widen_fields : (e f d g s x t : ℕ) → ℕ
widen_fields e f d g s x t =
    cond (eqb x (2 ^ e - 1))
    (cond (eqb t 0) (join d g s (2 ^ d - 1) 0) (join d g s (2 ^ d - 1) (quiet f g t)))
    (cond (eqb x 0)
    (cond (eqb t 0) (join d g s 0 0) (normalised e f d g s t (count_leading_zeros (f + 1) t)))
    (join d g s (x + (bias d - bias e)) (t * 2 ^ (g - f))))

unfoldable pub widen_of : (e f d g b : ℕ) → ℕ
widen_of e f d g b = widen_fields e f d g (sign_of e f b) (exponent_of e f b) (fraction_of e f b)
