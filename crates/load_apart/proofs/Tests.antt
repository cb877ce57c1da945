-- The tests say what they are named after.
use mathlib.Core.Path.{◌≡◌, refl, sym, ap, ◌∙◌, fun_ext}
use mathlib.Core.Bool.{Bool, true, false, ◌&&◌}
use Prim.Native.Nat.{ℕ, ◌+◌, ◌≤◌}
use native.Mathlib.Omega.{arith}
use lib.Dec.{leb, eqb}
use lib.ListN.{length}
use borrow.Author.Tests.{leb-true, le-leb, eqb-true, not-false}
use Rattle.written.specs.Sharing.{Table, questions, patterns, trees, records, values, width, whole_rows, Tables, Held, nothing, left_of, Stand, every_table, holds, stands, room_beside}
use Rattle.load_apart.proofs.Rows.{room_stands, stands_room}

pub width-pos : (k : Table) → 1 ≤ width k
width-pos questions = omega arith
width-pos patterns = omega arith
width-pos trees = omega arith
width-pos records = omega arith
width-pos values = omega arith

pub both : (a b : Bool) → (a && b) ≡ true → (a ≡ true) × (b ≡ true)
both true b h = (refl, h)
both false b h = let u : ◌≡◌ {A = ℕ} 0 1 = cc in absurd (omega arith)

module _ (p : Table → Bool) where
  pub every_true : every_table p ≡ true → (k : Table) → p k ≡ true
  every_true h =
      let a = both (p questions) _ h in
      let b = both (p patterns) _ a.1 in
      let c = both (p trees) _ b.1 in
      let d = both (p records) _ c.1 in
      at a.0 b.0 c.0 d.0 d.1
    where
      at : p questions ≡ true → p patterns ≡ true → p trees ≡ true → p records ≡ true → p values ≡ true → (k : Table) → p k ≡ true
      at a b c d e questions = a
      at a b c d e patterns = b
      at a b c d e trees = c
      at a b c d e records = d
      at a b c d e values = e

  pub true_every : ((k : Table) → p k ≡ true) → every_table p ≡ true
  true_every h = rw (h questions, h patterns, h trees, h records, h values)

pub stands_is : (t : Tables) (a b : Held) → stands t a b ≡ true → Stand t a b
unfolding stands
stands_is t a b h k = leb-true _ _ (every_true (λ k. leb (a k + b k) (whole_rows (width k) (length (t k)))) h k)

pub is_stands : (t : Tables) (a b : Held) → Stand t a b → stands t a b ≡ true
unfolding stands
is_stands t a b h = true_every (λ k. leb (a k + b k) (whole_rows (width k) (length (t k)))) (λ k. le-leb _ _ (h k))

pub room_is : (n other : Held) (t : Tables) → Stand t nothing other → room_beside n other t ≡ true → Stand t n other
unfolding room_beside
room_is n other t s h k =
    room_stands (width k) (width-pos k) (length (t k)) (n k) (other k) (omega (arith, s k))
    (leb-true _ _ (every_true (λ k. leb (n k) (whole_rows (width k) (left_of (width k) (length (t k)) (other k)))) h k))

pub is_room : (n other : Held) (t : Tables) → Stand t n other → room_beside n other t ≡ true
unfolding room_beside
is_room n other t h =
    true_every (λ k. leb (n k) (whole_rows (width k) (left_of (width k) (length (t k)) (other k))))
    (λ k. le-leb _ _ (stands_room (width k) (width-pos k) (length (t k)) (n k) (other k) (h k)))

-- beside bounds that stand, room is the same test
pub room_stands_same : (n other : Held) (t : Tables) → Stand t nothing other → room_beside n other t ≡ stands t n other
room_stands_same n other t s = go (room_beside n other t) refl (stands t n other) refl
  where
    go : (a : Bool) → room_beside n other t ≡ a → (b : Bool) → stands t n other ≡ b → room_beside n other t ≡ stands t n other
    go true e b f = e ∙ sym (is_stands t n other (room_is n other t s e))
    go false e true f = is_room n other t (stands_is t n other f) ∙ sym f
    go false e false f = e ∙ sym f

pub holds-nothing : (h : Held) → holds h ≡ false → h ≡ nothing
unfolding holds
holds-nothing h e = fun_ext (λ k. eqb-true (h k) 0 (every_true (λ k. eqb (h k) 0) (not-false _ e) k))

pub nothing-holds : (h : Held) → h ≡ nothing → holds h ≡ false
unfolding holds
nothing-holds h e = ap holds e
