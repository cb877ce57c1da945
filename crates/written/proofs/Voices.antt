-- The models of a voice and the house's rules, in small: a GV is a model only where USE_GV isn't 0; a leaf of 0 breaks, zero is no variance, and the last value of an odd width is free.
use mathlib.Core.Path.{◌≡◌, refl, subst}
use mathlib.Core.Bool.{true}
use mathlib.Core.List.{List, [], ◌∷◌}
use Prim.Native.Nat.{ℕ, suc, ◌+◌, ◌*◌, ◌<◌}
use native.Mathlib.Omega.{arith}
use lib.ListN.{length}
use Rattle.written.specs.Bytes.{Span}
use Rattle.written.specs.Interchange.{decode, decode_fields}
use Rattle.written.specs.Record.{Header, Stream}
use Rattle.written.specs.Blocks as block
use Rattle.written.specs.Said.{Text, Tree}
use Rattle.written.specs.Linking.{Nth, here, there}
use Rattle.written.specs.Models.{Model, gv, bytes_of, stream_name, LastNamed, StreamModels}
use Rattle.written.specs.Loading.{ModelSaid}
use Rattle.written.specs.House.{Leaf, Finite, AboveZero, Leaves, Means}

-- ---- models

module _ {s : List ℕ} {h : Header} where
  -- where a GV is a model, the stream of some name uses it
  pub gv_used : {i j k : ℕ} {xs : List Span} {ms : List Model} {m : Model} → StreamModels s h i xs ms → Nth ms k m → m ≡ gv j
      → (x : Span) × (d : Stream) × LastNamed stream_name s (bytes_of s x) h.streams d × (d.use_gv ≡ true)
  gv_used (StreamModels.both l u r) here e = let z : ◌≡◌ {A = ℕ} 0 1 = cc in absurd (omega arith)
  gv_used (StreamModels.both {x = x} {d = d} l u r) (there here) e = (x, d, l, u)
  gv_used (StreamModels.both l u r) (there (there n)) e = gv_used r n e
  gv_used (StreamModels.alone l u r) here e = let z : ◌≡◌ {A = ℕ} 0 1 = cc in absurd (omega arith)
  gv_used (StreamModels.alone l u r) (there n) e = gv_used r n e
  gv_used (StreamModels.unnamed l r) here e = let z : ◌≡◌ {A = ℕ} 0 1 = cc in absurd (omega arith)
  gv_used (StreamModels.unnamed l r) (there n) e = gv_used r n e
  gv_used {j = j} {k = k} {m = m} (Rattle.written.specs.Models.end {i = i}) x9 e = elim x9 [ ]

-- ---- the house's rules

-- a leaf of 0, whatever the model
pub leaf-zero : (x : ModelSaid) {k : ℕ} {t : Tree} {r : block.Row} → Nth x.text.trees k t → Nth x.rows k r → Leaf t.body 0 → ¬ Leaves x
leaf-zero x {k} {t} {r} h g l f = omega (arith, (f k 0 t r h g l).0)

pub no_zero : ¬ AboveZero 0
unfolding decode decode_fields
no_zero (AboveZero.is {m = m} e) = let z : 0 ≡ suc m = cc in omega arith

inside : {l : List ℕ} {k v : ℕ} → Nth l k v → k < length l
inside here = omega arith
inside (there n) = omega (arith, inside n)

first : {a v : ℕ} {l : List ℕ} → Nth (a ∷ l) 0 v → a ≡ v
first here = refl

-- one entry of three values: a mean, a variance, and one that may be anything
pub msd_free : (t : Text) (rows : List block.Row) (m v z : ℕ) → Finite m → Means (record { text = t; rows = rows; width = 3; values = m ∷ v ∷ z ∷ [] })
msd_free t rows m v z f i k x l h =
    let n = inside h in
    let c : k ≡ 0 = omega arith in
    let d : i ≡ 0 = omega arith in
    let e : i * 3 + 2 * k ≡ 0 = omega arith in
    subst Finite (first (subst (λ (j : ℕ). Nth (m ∷ v ∷ z ∷ []) j x) e h)) f
