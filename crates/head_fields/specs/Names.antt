-- A key sought among names that stand in one text, a space behind each.
use Rattle.std.specs.Prelude.{◌&&◌, cond, List, [], ◌∷◌, ℕ, suc, ◌+◌, eqb, ltb, length, get_or}

-- one byte more of a name that has been the first m bytes of w: how many it is now; more than w has where they differ
unfoldable pub one_more : List ℕ → ℕ → ℕ → ℕ
one_more w m b = cond (ltb m (length w) && eqb b (get_or w m 0)) (m + 1) (length w + 1)

-- the number of the name that w is, where the name that is being read has been the first m bytes of w; behind the last where w is none of them
unfoldable pub name_index : List ℕ → ℕ → List ℕ → ℕ
name_index w m [] = 0
name_index w m (b ∷ t) = cond (eqb b 32) (cond (eqb m (length w)) 0 (suc (name_index w 0 t))) (name_index w (one_more w m b) t)
