-- 01's classes of bytes as the values of `Class`, by `written`'s tests, and the bytes that are usual in patterns.
use Rattle.std.specs.Prelude.{ℕ, ◌/◌, ◌^◌, Bool, false, cond, ◌||◌, [], ◌∷◌, ◌==◌, bit_and, nat_lt}
use Rattle.written.specs.Bytes.{letter, digit, wildcard, mark, one_of}
use Rattle.text_base.specs.declared.Class.{Class}
use Rattle.text_base.specs.declared.Class.TheVariants.{Letter, Digit, Wildcard, Mark, Rest}

-- the class of a byte
unfoldable pub class_of : ℕ → Class
unfolding letter digit wildcard mark
class_of b = cond (letter b) Letter (cond (digit b) Digit (cond (wildcard b) Wildcard (cond (mark b) Mark Rest)))

-- a letter, a digit or one of * + - / : = @ ^ _ |: bytes of patterns, and nearly all that patterns have
unfoldable pub usual : ℕ → Bool
unfolding letter digit one_of
usual b = letter b || digit b || one_of (42 ∷ 43 ∷ 45 ∷ 47 ∷ 58 ∷ 61 ∷ 64 ∷ 94 ∷ 95 ∷ 124 ∷ []) b

-- the byte b is in the set of 128 bits whose first 64 are `low`, the others `high`
unfoldable pub in_set : ℕ → ℕ → ℕ → Bool
in_set low high b = cond (nat_lt 127 b) false (bit_and (cond (nat_lt b 64) low high / 2 ^ bit_and b 63) 1 == 1)
