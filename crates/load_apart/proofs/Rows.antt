-- One table that two tasks share, its rows of any width w: a task's rows end with the last whole row at the latest, what is put there is what
-- it sees, and what the other sees is as before.
use mathlib.Core.Path.{◌≡◌, refl, sym, ap, ◌∙◌}
use mathlib.Core.List.{List}
use Prim.Native.Nat.{ℕ, ◌+◌, ◌-◌, ◌*◌, ◌/◌, ◌≤◌}
use native.Mathlib.Nat.{mul-zero, mul-add, mul-le-mul_left, mul-div-le, sub-add_cancel, mul-div_cancel_left}
use native.Mathlib.Omega.{arith}
use lib.ListN.{length, take, drop, length-drop}
use lib.Seq.{sets, length-sets, length-take-le}
use Rattle.written.specs.Bytes.{part}
use Rattle.laws.proofs.Tables.{part-sets, take-sets, drop-sets}
use Rattle.written.specs.Sharing.{Side, bottom, top, opposite, start_of, own, put_rows, left_of, Beyond}

pub length_part : (t : List ℕ) (a n : ℕ) → a + n ≤ length t → length (part t a n) ≡ n
length_part t a n h = length-take-le n (drop a t) (omega (arith, length-drop a t))

-- ---- where the rows of a task stand

-- from its first number on, w * n of them
pub ends : (x : Side) (w len n : ℕ) → n ≤ len / w → start_of x w len n + w * n ≤ w * (len / w)
ends bottom w len n h = omega (arith, mul-zero w, mul-le-mul_left w h)
ends top w len n h =
    let e : w * (len / w - n) + w * n ≡ w * (len / w) = sym (mul-add w (len / w - n) n) ∙ ap (λ (m : ℕ). w * m) (sub-add_cancel h) in
    omega arith

pub within : (x : Side) (w len n : ℕ) → n ≤ len / w → start_of x w len n + w * n ≤ len
within x w len n h = omega (arith, ends x w len n h, mul-div-le len w)

-- the bottom's rows end where those of the top begin, or before
below_top : (w len n m : ℕ) → n + m ≤ len / w → w * n ≤ start_of top w len m
below_top w len n m h = mul-le-mul_left w (omega arith)

pub length_own : (x : Side) (w : ℕ) (t : List ℕ) (n : ℕ) → n ≤ length t / w → length (own x w t n) ≡ w * n
length_own x w t n h = length_part t (start_of x w (length t) n) (w * n) (within x w (length t) n h)

-- ---- rows that are put

module _ (x : Side) (w : ℕ) (t : List ℕ) (n : ℕ) (rows : List ℕ) (e : length rows ≡ w * n) where
  pub length_put : length (put_rows x w t n rows) ≡ length t
  length_put = length-sets t (start_of x w (length t) n) rows

  -- what was put is what the task sees
  pub own_put : n ≤ length t / w → own x w (put_rows x w t n rows) n ≡ rows
  own_put h =
      let a = start_of x w (length t) n in
      ap (λ (l : ℕ). part (put_rows x w t n rows) (start_of x w l n) (w * n)) length_put
      ∙ ap (part (put_rows x w t n rows) a) (sym e)
      ∙ part-sets t a rows (omega (arith, within x w (length t) n h))

  -- nothing else differs
  pub beyond_put : Beyond x w t n (put_rows x w t n rows)
  beyond_put =
      record {
        long = length_put;
        before = λ i h. take-sets rows t (start_of x w (length t) n) i h;
        behind = λ i h. drop-sets rows t (start_of x w (length t) n) i (omega arith);
      }

pub beyond_none : (x : Side) (w : ℕ) (t : List ℕ) (n : ℕ) → Beyond x w t n t
beyond_none x w t n = record { long = refl; before = λ i h. refl; behind = λ i h. refl }

-- the other's rows are as before
pub other_put : (x : Side) (w : ℕ) (t : List ℕ) (n : ℕ) (rows : List ℕ) → length rows ≡ w * n → (m : ℕ) → n + m ≤ length t / w
    → own (opposite x) w (put_rows x w t n rows) m ≡ own (opposite x) w t m
other_put bottom w t n rows e m h =
    let a = start_of top w (length t) m in
    ap (λ (l : ℕ). part (put_rows bottom w t n rows) (start_of top w l m) (w * m)) (length-sets t (w * 0) rows)
    ∙ ap (take (w * m)) (drop-sets rows t (w * 0) a (omega (arith, mul-zero w, below_top w (length t) n m h)))
other_put top w t n rows e m h =
    let a = start_of top w (length t) n in
    ap (λ (i : ℕ). part (sets t a rows) i (w * m)) (mul-zero w)
    ∙ take-sets rows t a (w * m) (below_top w (length t) m n (omega arith))
    ∙ sym (ap (λ (i : ℕ). part t i (w * m)) (mul-zero w))

-- ---- room beside the other

module _ (w : ℕ) (pos : 1 ≤ w) (len n m : ℕ) where
  pub left_rows : left_of w len m / w ≡ len / w - m
  left_rows = mul-div_cancel_left (len / w - m) pos

  pub room_stands : m ≤ len / w → n ≤ left_of w len m / w → n + m ≤ len / w
  room_stands h r = omega (arith, left_rows)

  pub stands_room : n + m ≤ len / w → n ≤ left_of w len m / w
  stands_room h = omega (arith, left_rows)
