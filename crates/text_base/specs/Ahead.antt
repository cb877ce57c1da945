-- Runs met eight bytes at a time: the bytes ahead of a place, the number that they make, and how many of them pass a test before any other.
use Rattle.std.specs.Prelude.{ℕ, zero, suc, ◌+◌, ◌-◌, ◌*◌, ◌%◌, Bool, cond, ◌&&◌, List, [], ◌∷◌, length, ◌==◌, bit_and, bit_or, nat_le, nat_lt, slice_index}
use Rattle.laws.specs.Runs.{run}

-- the n bytes from i on
unfoldable pub bytes_at : ℕ → List ℕ → ℕ → List ℕ
bytes_at zero s i = []
bytes_at (suc n) s i = slice_index s i ∷ bytes_at n s (suc i)

-- bytes as a number, the first one lowest
unfoldable pub little : List ℕ → ℕ
little [] = 0
little (b ∷ l) = b + 256 * little l

abbrev pub is_space : ℕ → Bool
is_space b = b == 32

-- ! to 127
abbrev pub is_printed : ℕ → Bool
is_printed b = nat_le 33 b && nat_le b 127

-- of the number that eight bytes make, the top bit of each byte that is above 127, and of each whose difference from 160 is; below the first of these the
-- difference is that of each byte alone
abbrev pub unprinted : ℕ → ℕ
unprinted w = bit_and (bit_or ((11574427654092267680 + (18446744073709551616 - w)) % 18446744073709551616) w) 9259542123273814144

-- how many of the eight bytes from i on pass p before any other; none where no ninth byte stands behind them
unfoldable pub ahead : (ℕ → Bool) → List ℕ → ℕ → ℕ
unfolding bytes_at
ahead p s i = cond (nat_lt (i + 8) (length s)) (length (run p (bytes_at 8 s i))) 0
