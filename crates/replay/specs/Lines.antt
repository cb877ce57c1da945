-- How many lines a text has.
use Rattle.std.specs.Prelude.{Bool, true, false, List, [], ◌∷◌, ℕ, suc, eqb, cond}

-- every newline ends one, and what is behind the last newline is one if anything is; `inside`: something of the line stands before the text
unfoldable pub lines_of : Bool → List ℕ → ℕ
lines_of inside [] = cond inside 1 0
lines_of inside (b ∷ s) = cond (eqb b 10) (suc (lines_of false s)) (lines_of true s)

abbrev pub lines : List ℕ → ℕ
lines s = lines_of false s
