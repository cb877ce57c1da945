-- What the blocks say, set into the rows of a tree table (02, Wish 10): of each tree its first value and entries, the last two of its six numbers.
use Rattle.std.specs.Prelude.{List, [], ◌∷◌, ◌++◌, ℕ, suc, ◌+◌, ◌*◌}
use Rattle.std.proofs.lemmas.List.Edits.{sets}
use Rattle.written.specs.Linking.{Row}
use Rattle.written.specs.Blocks as block

-- a row before its block is read: what the text says of the tree, and 0, 0
abbrev pub begun : Row → Row
begun r = r ++ (0 ∷ 0 ∷ [])

-- the table with these first values and entries, from row k on
unfoldable pub with_blocks : List ℕ → ℕ → List block.Row → List ℕ
with_blocks t k [] = t
with_blocks t k (b ∷ bs) = with_blocks (sets t (6 * k + 4) (b.first ∷ b.entries ∷ [])) (suc k) bs
