-- A list answers as `written` says, where its items do.
use mathlib.Core.Path.{◌≡◌, refl}
use mathlib.Core.Bool.{false}
use mathlib.Core.List.{List, [], ◌∷◌, ◌++◌}
use Prim.Native.Nat.{ℕ, zero, suc, ◌+◌, ◌≤◌, ◌<◌}
use native.Mathlib.Omega.{arith}
use lib.ListN.{length}
use Rattle.written.specs.Bytes.{comma, one_of, Ends}
use Rattle.written.specs.HeaderText.{Led, swallowed, plain, Many, none, Passed, Listed, empty, full}
use Rattle.written.specs.Faults.{NoList, item}
use Rattle.written_total.proofs.Total.{snoc}
use Rattle.head_de.specs.Values.{delimiter_at}
use Rattle.head_de.specs.Readings.{Reading, read, refused}
use Rattle.head_de.specs.declared.Delimiter.{Delimiter}
use Rattle.head_de.specs.declared.Delimiter.TheVariants as delimiter
use Rattle.head_de.proofs.Sound.{Answers, right, wrong, Bytes, Stands, passed, closed, missing, stands, not_ends}
use Rattle.head_de_lists.specs.Lists.{after_item, item_of, items_from, items_at, list_of, list_at}

module _ {A : Type 0} (Item : ℕ → A → ℕ → Type 0) (NoItem : ℕ → ℕ → ℕ → Type 0) {s : List ℕ} (b : Bytes s) (D : List ℕ) (open-comma : one_of D comma ≡ false) (read-item : ℕ → Reading A) (sound : (i : ℕ) → i ≤ length s → Answers s i (Item i) (NoItem i) (read-item i)) where
  abbrev Right : ℕ → Reading (List A) → Type 0
  Right i x = Answers s i (Listed Item D s i) (NoList Item NoItem D s i) x

  -- the items from k on, behind the items l
  items_sound : (f i k₀ k : ℕ) (l : List A) → i ≤ k → k ≤ length s → length s < k + f → ¬ Ends (one_of D) s i → Led comma s i k₀ → Many (Passed Item s) k₀ l k → Right i (items_from f read-item D s k l)
  unfolding items_from
  items_sound zero i k₀ k l x y z e led m = absurd (omega arith)
  items_sound (suc f) i k₀ k l x y z e led m = go (read-item k) (sound k y) (λ n t p q r w. items_sound f i k₀ n t p q r e led w)
    where
      after : (a : A) (j : ℕ) → k ≤ j → j ≤ length s → Item k a j → ((n : ℕ) (t : List A) → i ≤ n → n ≤ length s → length s < n + f → Many (Passed Item s) k₀ t n → Right i (items_from f read-item D s n t))
          → (d : Delimiter) → Stands comma D s j d → Right i (after_item (items_from f read-item D s) j (l ++ (a ∷ [])) d)
      after a j p q h rec (delimiter.Passed c) (passed d) =
          rec (j + 1) (l ++ (a ∷ [])) (omega arith) (omega (arith, d.inside)) (omega arith) (snoc m (record { k = j; item = h; behind = d; next = refl }))
      after a j p q h rec delimiter.Closed (closed g) = right {j = j} (omega arith) q (full e led m h g)
      after a j p q h rec delimiter.Missing (missing n g) = wrong (NoList.unsplit e led m h n g)

      go : (x : Reading A) → Answers s k (Item k) (NoItem k) x → ((n : ℕ) (t : List A) → i ≤ n → n ≤ length s → length s < n + f → Many (Passed Item s) k₀ t n → Right i (items_from f read-item D s n t))
          → Right i (item_of (items_from f read-item D s) D s l x)
      go (read a j) (right p q h) rec = after a j p q h rec (delimiter_at comma D s j) (stands b comma D j (omega arith) q)
      go (refused r) (wrong h) rec = wrong (item e led m h)

  pub list_sound : (i : ℕ) → i ≤ length s → Right i (list_at read-item D s i)
  unfolding list_at items_at
  list_sound i h = go (delimiter_at comma D s i) (stands b comma D i (omega arith) h)
    where
      go : (d : Delimiter) → Stands comma D s i d → Right i (list_of read-item D s i d)
      go (delimiter.Passed c) (passed d) =
          items_sound (suc (length s)) i (i + 1) (i + 1) [] (omega arith) (omega (arith, d.inside)) (omega arith) (not_ends D s i comma open-comma d) (swallowed d refl) none
      go delimiter.Closed (closed e) = right {j = i} (omega arith) h (empty e)
      go delimiter.Missing (missing n e) = items_sound (suc (length s)) i i i [] (omega arith) h (omega arith) e (plain n refl) none
