-- Whether numbers stand in bytes, little-endian, 32 bits each.
use Rattle.std.specs.Prelude.{ℕ, ◌+◌, Bool, true, ◌&&◌, List, [], ◌∷◌, ◌==◌}
use Rattle.pdf_blocks.specs.Values.{word_at}

-- these numbers, from i on
unfoldable pub same_words : List ℕ → ℕ → List ℕ → Bool
same_words s i [] = true
same_words s i (n ∷ ns) = word_at s i == n && same_words s (i + 4) ns
