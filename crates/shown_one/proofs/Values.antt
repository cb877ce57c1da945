-- The values of one tree are a part of the block's; its row among those that the block says.
use mathlib.Core.Path.{◌≡◌, sym, ap, ◌∙◌, subst}
use mathlib.Core.List.{List, ◌++◌, append_assoc}
use Prim.Native.Nat.{ℕ, zero, suc, ◌+◌, ◌-◌, ◌*◌, ◌/◌, ◌%◌, ◌≤◌, ◌<◌}
use native.Mathlib.Nat.{zero-mul}
use native.Mathlib.Omega.{arith}
use lib.Dec.{eqb}
use lib.ListN.{take, drop}
use lib.Seq.{take_at, drop_at}
use Rattle.written.specs.Linking.{Nth, here, there}
use Rattle.written.specs.Blocks as block
use Rattle.written.specs.Blocks.{total, rows_from}
use Rattle.pdf_blocks.specs.Values.{word_at, words_at, entry_at, values_at}
use Rattle.load_model.proofs.Laws.{length_values}

-- values of a entries, then of the others
values_append : (s : List ℕ) (i w a b : ℕ) → values_at s i w (a + b) ≡ values_at s i w a ++ values_at s (i + 4 * (a * w)) w b
unfolding values_at
values_append s i w zero b =
    let z : 0 + b ≡ b = omega arith in
    let y : i + 4 * (0 * w) ≡ i = omega (arith, zero-mul w) in
    ap (values_at s i w) z ∙ sym (ap (λ (j : ℕ). values_at s j w b) y)
values_append s i w (suc a) b =
    let z : suc a + b ≡ suc (a + b) = omega arith in
    let m : suc a * w ≡ a * w + w = omega arith in
    let y : i + 4 * w + 4 * (a * w) ≡ i + 4 * (suc a * w) = place (a * w) (suc a * w) m in
    let E = entry_at s i (w / 2) (eqb (w % 2) 1) in
    ap (values_at s i w) z ∙ ap (λ (l : List ℕ). E ++ l) (values_append s (i + 4 * w) w a b ∙ ap (λ (j : ℕ). values_at s (i + 4 * w) w a ++ values_at s j w b) y)
    ∙ sym (append_assoc E (values_at s (i + 4 * w) w a) (values_at s (i + 4 * (suc a * w)) w b))
  where
    place : (x y : ℕ) → y ≡ x + w → i + 4 * w + 4 * x ≡ i + 4 * y
    place x y e = omega arith

-- the entries from a on, m of them, of n
pub values_part : (s : List ℕ) (i w a m n : ℕ) → a + m ≤ n → values_at s (i + 4 * (a * w)) w m ≡ take (m * w) (drop (a * w) (values_at s i w n))
values_part s i w a m n h =
    let c = n - (a + m) in
    let e : n ≡ a + (m + c) = omega arith in
    let R = values_at s (i + 4 * (a * w)) w m in
    let Q = values_at s (i + 4 * (a * w) + 4 * (m * w)) w c in
    let v : values_at s i w n ≡ values_at s i w a ++ (R ++ Q) =
    ap (values_at s i w) e ∙ values_append s i w a (m + c) ∙ ap (λ (l : List ℕ). values_at s i w a ++ l) (values_append s (i + 4 * (a * w)) w m c) in
    sym (ap (λ (l : List ℕ). take (m * w) (drop (a * w) l)) v ∙ ap (take (m * w)) (drop_at (values_at s i w a) (R ++ Q) (a * w) (length_values s i w a)) ∙ take_at R Q (m * w) (length_values s (i + 4 * (a * w)) w m))

-- the row of tree k of n
pub block_row : (s : List ℕ) (b w k n v : ℕ) → k < n → Nth (rows_from w v (words_at s b n)) k (record { first = v + total (words_at s b k) * w; entries = word_at s (b + 4 * k) })
unfolding rows_from words_at total
block_row s b w k zero v h = absurd (omega arith)
block_row s b w zero (suc n) v h =
    let e : v ≡ v + 0 * w = omega (arith, zero-mul w) in
    let f : b ≡ b + 4 * 0 = omega arith in
    subst (λ (r : block.Row). Nth (rows_from w v (words_at s b (suc n))) 0 r) (λ z. record { first = e z; entries = word_at s (f z) }) here
block_row s b w (suc k) (suc n) v h =
    let T = total (words_at s (b + 4) k) in
    let m : (word_at s b + T) * w ≡ word_at s b * w + T * w = omega arith in
    let e : v + word_at s b * w + T * w ≡ v + (word_at s b + T) * w = place (word_at s b * w) (T * w) ((word_at s b + T) * w) m in
    let f : b + 4 + 4 * k ≡ b + 4 * suc k = omega arith in
    subst (λ (r : block.Row). Nth (rows_from w v (words_at s b (suc n))) (suc k) r) (λ z. record { first = e z; entries = word_at s (f z) }) (there (block_row s (b + 4) w k n (v + word_at s b * w) (omega arith)))
  where
    place : (x y z : ℕ) → z ≡ x + y → v + x + y ≡ v + z
    place x y z e = omega arith
