-- A list never moves the cursor back, where its items don't.
use mathlib.Core.Path.{◌≡◌, refl}
use mathlib.Core.List.{List, [], ◌∷◌, ◌++◌}
use Prim.Native.Nat.{ℕ, zero, suc, ◌≤◌}
use native.Mathlib.Omega.{arith}
use lib.ListN.{length}
use Rattle.written.specs.Bytes.{comma}
use Rattle.head_de.specs.Values.{delimiter_at}
use Rattle.head_de.specs.Readings.{Reading, read, refused}
use Rattle.head_de.specs.declared.Delimiter.{Delimiter}
use Rattle.head_de.specs.declared.Delimiter.TheVariants as delimiter
use Rattle.head_de.proofs.Moves.{behind, Onward, read_moves, delimiter_moves}
use Rattle.head_de_lists.specs.Lists.{after_item, item_of, items_from, items_at, list_of, list_at}

module _ {A : Type 0} (item : ℕ → Reading A) (moves : (i : ℕ) → Onward i (item i)) (D s : List ℕ) where
  after : (more : ℕ → List A → Reading (List A)) (k : ℕ) → ((i : ℕ) (l : List A) → k ≤ i → k ≤ behind k (more i l))
      → (j : ℕ) (l : List A) → k ≤ j → (d : Delimiter) → delimiter_at comma D s j ≡ d → k ≤ behind k (after_item more j l d)
  after more k go j l h (delimiter.Passed c) e = go c.at l (omega (arith, delimiter_moves comma D s j e))
  after more k go j l h delimiter.Closed e = h
  after more k go j l h delimiter.Missing e = omega arith

  one : (more : ℕ → List A → Reading (List A)) (k : ℕ) → ((i : ℕ) (l : List A) → k ≤ i → k ≤ behind k (more i l))
      → (i : ℕ) (l : List A) → k ≤ i → (x : Reading A) → item i ≡ x → k ≤ behind k (item_of more D s l x)
  one more k go i l h (read a j) e = after more k go j (l ++ (a ∷ [])) (omega (arith, read_moves (moves i) e)) (delimiter_at comma D s j) refl
  one more k go i l h (refused r) e = omega arith

  items_from_lem : (f k i : ℕ) (l : List A) → k ≤ i → k ≤ behind k (items_from f item D s i l)
  unfolding items_from
  items_from_lem zero k i l h = h
  items_from_lem (suc f) k i l h = one (items_from f item D s) k (λ j m. items_from_lem f k j m) i l h (item i) refl

  list_of_lem : (i : ℕ) (d : Delimiter) → delimiter_at comma D s i ≡ d → i ≤ behind i (list_of item D s i d)
  unfolding items_at
  list_of_lem i (delimiter.Passed c) e = items_from_lem (suc (length s)) i c.at [] (omega (arith, delimiter_moves comma D s i e))
  list_of_lem i delimiter.Closed e = omega arith
  list_of_lem i delimiter.Missing e = items_from_lem (suc (length s)) i i [] (omega arith)

  pub list_moves : (i : ℕ) → Onward i (list_at item D s i)
  unfolding list_at
  list_moves i = record { moves = list_of_lem i (delimiter_at comma D s i) refl }
