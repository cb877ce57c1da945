-- What can be met of a tree's records: the queue in the work while they are visited, and what the visits say in the end.
use Rattle.std.specs.declared.option.Option.{Option}
use Rattle.std.specs.Prelude.{◌≡◌, Bool, true, false, List, ℕ, ◌+◌, ◌*◌, ◌≤◌, ◌<◌, ℤ, length, Some, None}
use Rattle.written.specs.Linking.{Row}
use Rattle.written.specs.Depths.{Refers, Met, Good}
use Rattle.walk_reach.specs.Work.{slot_at, zeros}

module _ (rows : List Row) (n : ℕ) where
  -- the queue up to its end has just the marked records, of n; each of them can be met
  pub record Queue (w : List ℤ) (tail : ℕ) : Type 0 where
    pub room : 4 * n ≤ length w
    pub inside : (i : ℕ) → i < tail → slot_at 1 w i < n
    pub met : (i : ℕ) → i < tail → Met rows (slot_at 1 w i)
    pub queued : (j : ℕ) → j < n → ¬ (slot_at 0 w j ≡ 0) → (i : ℕ) × (i < tail) × (slot_at 1 w i ≡ j)
    pub counted : zeros (slot_at 0 w) n + tail ≡ n

  -- a record below n that is marked
  pub record Marked (w : List ℤ) (j : ℕ) : Type 0 where
    pub inside : j < n
    pub marked : ¬ (slot_at 0 w j ≡ 0)

  -- what stands in the queue stays, and what is marked too
  pub record Grown (w : List ℤ) (tail : ℕ) (w' : List ℤ) (tail' : ℕ) : Type 0 where
    pub longer : tail ≤ tail'
    pub stays : (i : ℕ) → i < tail → slot_at 1 w' i ≡ slot_at 1 w i
    pub marks : (j : ℕ) → Marked w j → Marked w' j

  -- record k is a line or a leaf, and all that it refers to is marked; or it, or one that it refers to, is neither
  pub data Visits (w : List ℤ) (tail k : ℕ) : Option ℕ → List ℤ → Type 0 where
    on : {next : ℕ} {w' : List ℤ} → Queue w' next → Grown w tail w' next → Good rows k → ((j : ℕ) → Refers rows k j → Marked w' j) → Visits w tail k (Some next) w'
    outside : {j : ℕ} {w' : List ℤ} → Met rows j → ¬ Good rows j → Visits w tail k None w'

-- every record that can be met is a line or a leaf; or one is neither
pub data Reaches (rows : List Row) : Bool → Type 0 where
  all_good : ((j : ℕ) → Met rows j → Good rows j) → Reaches rows true
  one_bad : {j : ℕ} → Met rows j → ¬ Good rows j → Reaches rows false
