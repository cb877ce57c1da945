-- A PDF block read by position: words, counts and values (01, 'PDF blocks').
use Rattle.std.specs.declared.option.Option.{Option}
use Rattle.std.specs.Prelude.{Bool, true, cond, ◌&&◌, List, [], ◌∷◌, ◌++◌, ℕ, zero, suc, ◌+◌, ◌-◌, ◌*◌, ◌/◌, ◌%◌, leb, eqb, length, get_or, Some, None}
use Rattle.written.specs.Blocks.{total}
use Rattle.pdf_widen.specs.Widening.{widen_of}

-- the little-endian 32-bit number at i
abbrev pub word_at : List ℕ → ℕ → ℕ
word_at s i = get_or s i 0 + get_or s (i + 1) 0 * 0x100 + get_or s (i + 2) 0 * 0x1_0000 + get_or s (i + 3) 0 * 0x100_0000

-- n of them from i on
unfoldable pub words_at : List ℕ → ℕ → ℕ → List ℕ
words_at s i zero = []
words_at s i (suc n) = word_at s i ∷ words_at s (i + 4) n

-- ---- whether the block is used up exactly

-- t counts at i, then as many entries of w numbers; width 0 with a count above 0 is none
unfoldable pub block_at : ℕ → ℕ → List ℕ → ℕ → Option ℕ
block_at t w s i =
    cond (leb (4 * t) (length s - i) && (eqb (length s - i) (4 * (t + total (words_at s i t) * w)) && cond (eqb w 0) (eqb (total (words_at s i t)) 0) true))
    (Some (total (words_at s i t)))
    None

-- ---- what it says

-- the binary64 pattern of the binary32 at i
abbrev pub value_at : List ℕ → ℕ → ℕ
value_at s i = widen_of 8 23 11 52 (word_at s i)

-- m pairs: means from a on, variances from b on
unfoldable pub pairs_at : List ℕ → ℕ → ℕ → ℕ → List ℕ
pairs_at s a b zero = []
pairs_at s a b (suc m) = value_at s a ∷ value_at s b ∷ pairs_at s (a + 4) (b + 4) m

-- an entry of half pairs, and of an odd last number, the msd
unfoldable pub entry_at : List ℕ → ℕ → ℕ → Bool → List ℕ
unfolding pairs_at
entry_at s i half odd = pairs_at s i (i + 4 * half) half ++ cond odd (value_at s (i + 8 * half) ∷ []) []

-- n entries of w numbers
unfoldable pub values_at : List ℕ → ℕ → ℕ → ℕ → List ℕ
unfolding entry_at
values_at s i w zero = []
values_at s i w (suc n) = entry_at s i (w / 2) (eqb (w % 2) 1) ++ values_at s (i + 4 * w) w n
