-- How the depth of a tree crosses to C: its three numbers to the front of `out`, and the first is returned; where `out` is shorter, 20, and nothing is written anywhere.
use Rattle.std.specs.Prelude.{◌≡◌, List, [], ◌∷◌, ℕ, ◌≤◌, ◌<◌, ℤ, length}
use Rattle.std.proofs.lemmas.List.Edits.{sets}
use Rattle.walk_depth.specs.declared.Depth.{Depth}
use Rattle.walk_depth.specs.Said.{DepthSays}

-- what is promised of the call: what it returns, the work and `out` after it
pub data DepthTells (T R : List ℕ) (t : ℕ) (w : List ℤ) (out : List ℕ) (r : ℕ) (w' : List ℤ) (out' : List ℕ) : Type 0 where
  no_room : length out < 3 → r ≡ 20 → w' ≡ w → out' ≡ out → DepthTells T R t w out r w' out'
  told : {d : Depth} → 3 ≤ length out → DepthSays T R t w d w' → r ≡ d.number → out' ≡ sets out 0 (d.number ∷ d.answer ∷ d.questions ∷ []) → DepthTells T R t w out r w' out'
