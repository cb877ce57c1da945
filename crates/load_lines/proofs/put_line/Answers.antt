-- `load_lines::put_line` meets its contract.
use mathlib.Core.Path.{◌≡◌, ◌∙◌}
use mathlib.Core.List.{List, [], ◌∷◌}
use Prim.Native.Nat.{ℕ, suc, ◌+◌}
use native.Mathlib.Numerals.{add-one}
use native.Mathlib.Omega.{arith}
use lib.IntN.{ℤ}
use lib.ListN.{set, length-set}
use lib.Seq.{sets}
use Rattle.laws.proofs.Signed.{back}
use borrow.Author.Rules.{rules}
use Rattle.load_lines.proofs.put_line.Goals as goal

add_two : (k : ℕ) → k + 2 ≡ suc (suc k)
add_two k = omega arith

add_three : (k : ℕ) → k + 3 ≡ suc (suc (suc k))
add_three k = omega arith

add_four : (k : ℕ) → k + 4 ≡ suc (suc (suc (suc k)))
add_four k = omega arith

add_five : (k : ℕ) → k + 5 ≡ suc (suc (suc (suc (suc k))))
add_five k = omega arith

six : (w : List ℤ) (k : ℕ) {a b c d e f a' b' c' d' e' f' : ℤ} → a ≡ a' → b ≡ b' → c ≡ c' → d ≡ d' → e ≡ e' → f ≡ f'
    → set (set (set (set (set (set w k a) (k + 1) b) (k + 2) c) (k + 3) d) (k + 4) e) (k + 5) f ≡ sets w k (a' ∷ b' ∷ c' ∷ d' ∷ e' ∷ f' ∷ [])
six w k p q r s t u = rw (add-one, add_two, add_three, add_four, add_five, p, q, r, s, t, u)

pub bounds-work-at-2 : goal.bounds-work-at-2
bounds-work-at-2 c = simp length-set (omega arith)

pub bounds-work-at-3 : goal.bounds-work-at-3
bounds-work-at-3 c = simp length-set (omega arith)

pub bounds-work-at-4 : goal.bounds-work-at-4
bounds-work-at-4 c = simp length-set (omega arith)

pub bounds-work-at-5 : goal.bounds-work-at-5
bounds-work-at-5 c = simp length-set (omega arith)

pub bounds-work-at-6 : goal.bounds-work-at-6
bounds-work-at-6 c = simp length-set (omega arith)

pub shape_of-work : goal.shape_of-work
shape_of-work c = simp length-set

pub returns : goal.returns
returns c =
    let a = c.args in
    six a.work.now a.at (search rules)
    (back _ c.kind_of.type_inv ∙ c.kind_of.ensures)
    (back _ c.number_of.type_inv ∙ c.number_of.ensures)
    (back _ c.kind_of-2.type_inv ∙ c.kind_of-2.ensures)
    (back _ c.number_of-2.type_inv ∙ c.number_of-2.ensures)
    (back a.question c.ranges.question.sfits)
