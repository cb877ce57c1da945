-- Depths from the leaves up, in the work: what settling a record says, and how the way from the first record ends.
use Rattle.std.specs.declared.option.Option.{Option}
use Rattle.std.specs.Prelude.{◌≡◌, List, ◌⊎◌, ℕ, suc, ◌≤◌, ◌<◌, ℤ, Some, None}
use Rattle.written.specs.Linking.{Row}
use Rattle.written.specs.Depths.{Refers, Round}
use Rattle.written_depth.proofs.Deepest.{Deep}
use Rattle.walk_reach.specs.Work.{slot_at}
use Rattle.walk_depth.specs.declared.Next.{Next}
use Rattle.walk_depth.specs.declared.Next.TheVariants.{Settled, Down}

-- no depth that the work knows is above n
pub record Small (n : ℕ) (w : List ℤ) : Type 0 where
  pub each : (k : ℕ) → k < n → slot_at 2 w k ≤ n

module _ (rows : List Row) (n : ℕ) where
  -- what the work knows of depths is so
  pub record Knows (w : List ℤ) : Type 0 where
    pub deep : (k d : ℕ) → k < n → slot_at 2 w k ≡ suc d → Deep rows k d

  -- the depth of record k, if what the work knows is so: one more than the greatest that it knows of a record, at most; or a record to which k refers and whose depth it doesn't know
  pub data Settles (w : List ℤ) (k : ℕ) : Next → Type 0 where
    settled : {v d : ℕ} → (Knows w → Deep rows k d) → v ≡ suc d → (v ≡ 1) ⊎ ((j : ℕ) × (j < n) × (v ≡ suc (slot_at 2 w j))) → Settles w k (Settled v)
    down : {j : ℕ} → Refers rows k j → slot_at 2 w j ≡ 0 → Settles w k (Down j)

-- the depth of the first record, or a path that meets a record twice
pub data Deepest (rows : List Row) : Option ℕ → Type 0 where
  found : {d : ℕ} → Deep rows 0 d → Deepest rows (Some d)
  round : Round rows → Deepest rows None
