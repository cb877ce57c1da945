-- The laws of rows.
use mathlib.Core.Path.{◌≡◌}
use mathlib.Core.Bool.{true}
use mathlib.Core.List.{List}
use Prim.Native.Nat.{ℕ, ◌<◌}
use borrow.Author.Tests.{ltb-true}
use lib.Dec.{ltb}
use Rattle.laws.proofs.Every.{first_of}
use Rattle.table_rows.specs.Rows.{record_rows}
use Rattle.link_fits.specs.Fits.{is_leaf}

-- a leaf is there
pub leaf_there : (R : List ℕ) (i : ℕ) → is_leaf R i ≡ true → i < record_rows R
unfolding is_leaf
leaf_there R i h = ltb-true i (record_rows R) (first_of (ltb i (record_rows R)) _ h)
