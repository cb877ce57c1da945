-- What a contract says of a count of bytes or numbers at the front of a buffer.
use Rattle.std.specs.Prelude.{◌≡◌, ℕ, ◌≤◌, List, length, take, Option}
use Rattle.std.specs.Io.KnownBytes.{Consumes}

-- `&xs[..n]` is in bounds and has n items. The second part follows from the first, and spares a caller's `&xs[..n]` a proof file.
abbrev pub IsPrefixLen : ℕ → List ℕ → Type 0
IsPrefixLen n xs = (n ≤ length xs) × (n ≡ length (take n xs))

-- all that was read of the bytes that a reader had left stands at the front of xs
abbrev pub StandsInFront : Option (List ℕ) → Option (List ℕ) → List ℕ → Type 0
StandsInFront old new xs = (n : ℕ) × (n ≤ length xs) × Consumes old new (take n xs)
