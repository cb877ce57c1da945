-- Bytes put into a buffer at a place, as far as the buffer goes.
use Rattle.std.specs.Prelude.{◌≡◌, List, ℕ, ◌+◌, ◌≤◌, min, length}
use Rattle.std.proofs.lemmas.List.Edits.{sets}

-- w is put into b at `at`, which gives e; r is the place behind it, or 2^64 - 1, where no buffer reaches
pub record Put (b : List ℕ) (at : ℕ) (w : List ℕ) (r : ℕ) (e : List ℕ) : Type 0 where
  pub short : length b ≤ 18446744073709551615
  pub next : r ≡ min (at + length w) 18446744073709551615
  pub bytes_of : e ≡ sets b at w
