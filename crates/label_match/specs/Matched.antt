-- Whether a whole label matches a pattern, by computation.
use Rattle.std.specs.Prelude.{Bool, true, false, not, cond, ◌&&◌, ◌||◌, List, [], ◌∷◌, ℕ, eqb}

-- a byte of a pattern that is no star, and a byte of the label
unfoldable pub passes : ℕ → ℕ → Bool
passes c b = eqb c 63 || eqb c b

-- the list has a first byte that passes t, and the others pass f
abbrev pub headed : (ℕ → Bool) → (List ℕ → Bool) → List ℕ → Bool
headed t f [] = false
headed t f (b ∷ l) = t b && f l

-- some end of the list passes: the whole list, the empty one, or one between
unfoldable pub some_end : (List ℕ → Bool) → List ℕ → Bool
some_end f [] = f []
some_end f (b ∷ l) = f (b ∷ l) || some_end f l

abbrev pub over : List ℕ → Bool
over [] = true
over (b ∷ l) = false

unfoldable pub match_of : List ℕ → List ℕ → Bool
match_of [] l = over l
match_of (c ∷ p) l = cond (eqb c 42) (some_end (match_of p) l) (headed (passes c) (match_of p) l)

-- ---- parts of a pattern without a star

unfoldable pub plain : List ℕ → Bool
plain [] = true
plain (c ∷ u) = not (eqb c 42) && plain u

-- such a part stands at the front of the label
unfoldable pub front : List ℕ → List ℕ → Bool
front [] l = true
front (c ∷ u) l = headed (passes c) (front u) l
