-- Runs of bytes that pass a test, by computation: the bytes, and the place where they end. Contracts of readers cite these;
-- proofs/Stops and proofs/Cursor join them to the runs of `written`.
use Rattle.std.specs.Prelude.{Bool, cond, List, [], ◌∷◌, ℕ, ◌+◌, length, drop}

-- the longest prefix whose bytes pass p
unfoldable pub run : (ℕ → Bool) → List ℕ → List ℕ
run p [] = []
run p (b ∷ s) = cond (p b) (b ∷ run p s) []

-- the first place from i on whose byte does not pass p, or the end
unfoldable pub stop : (ℕ → Bool) → List ℕ → ℕ → ℕ
stop p s i = i + length (run p (drop i s))
