-- How the verdict on somebody else's rows crosses to C: its three numbers to the front of `out`, and the first is returned; where `out` is shorter, 20, and nothing is written.
use Rattle.std.specs.Prelude.{◌≡◌, List, [], ◌∷◌, ℕ, ◌≤◌, ◌<◌, length}
use Rattle.std.proofs.lemmas.List.Edits.{sets}
use Rattle.error.specs.declared.Told.{Told}
use Rattle.walk_accepts.specs.Accepting.{accepts_of, accepts_told}

-- the verdict on the rows R for tree t of the text s
abbrev pub accepts_said : List ℕ → ℕ → List ℕ → Told
accepts_said s t R = accepts_told (accepts_of s t R)

-- what is promised of the call: what it returns, and `out` after it
pub data AcceptTells (s : List ℕ) (t : ℕ) (R out : List ℕ) (r : ℕ) (out' : List ℕ) : Type 0 where
  no_room : length out < 3 → r ≡ 20 → out' ≡ out → AcceptTells s t R out r out'
  told : 3 ≤ length out → r ≡ (accepts_said s t R).number → out' ≡ sets out 0 ((accepts_said s t R).number ∷ (accepts_said s t R).place ∷ (accepts_said s t R).line ∷ []) → AcceptTells s t R out r out'
