-- `link_tree::index_lines`: nothing where the ids are in order, else the lines' numbers, sorted where they stand.
use mathlib.Core.Path.{◌≡◌, refl, sym, ◌∙◌}
use mathlib.Core.Bool.{Bool, true, false, cond}
use mathlib.Core.List.{List}
use Prim.Native.Nat.{ℕ}
use native.Mathlib.Omega.{arith}
use Rattle.link_order.specs.Keys.{key_of, id_key, id_at}
use Rattle.link_search.specs.Found.{count_from}
use Rattle.link_search.proofs.Last.{length-count}
use Rattle.link_tree.proofs.Whole.{sorted_part}
use Rattle.link_tree.proofs.index_lines.Goals as goal

-- the answer by the test
picked : {b : Bool} {r : Bool} {x y z : List ℕ} → r ≡ b → (r ≡ true → z ≡ x) → (r ≡ false → z ≡ y) → z ≡ cond b x y
picked {b} {r} e f g = go r b e f g
  where
    go : (r b : Bool) → r ≡ b → {x y z : List ℕ} → (r ≡ true → z ≡ x) → (r ≡ false → z ≡ y) → z ≡ cond b x y
    go true true e f g = f refl
    go true false e f g = let u : ◌≡◌ {A = ℕ} 0 1 = cc in absurd (omega arith)
    go false true e f g = let u : ◌≡◌ {A = ℕ} 0 1 = cc in absurd (omega arith)
    go false false e f g = g refl

never : {A : Type 0} {b : Bool} → b ≡ true → b ≡ false → A
never p q = let u : ◌≡◌ {A = ℕ} 0 1 = cc in absurd (omega arith)

pub returns-then-in_order : goal.returns-then-in_order
returns-then-in_order c =
    let o = c.in_order.ensures in
    (sym c.if-in_order.true ∙ o, picked o (λ t. refl) (λ f. never c.if-in_order.true f))

pub returns : goal.returns
returns c =
    let a = c.args in
    let o = c.in_order.ensures in
    let n = length-count 0 a.n in (
      sym c.if-in_order.false ∙ o,
      picked o (λ t. never t c.if-in_order.false)
          (λ f. sorted_part (key_of (λ e. id_key (id_at a.work.now e))) a.rows.now 0 a.n (count_from 0 a.n) (omega (arith, c.requires)) (omega arith) c.number_lines.ensures c.sort_ids.ensures),
    )
