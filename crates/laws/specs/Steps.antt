-- Items of a text, read one after another by a step: what stands at a place, and where reading goes on from there.
use Rattle.std.specs.Prelude.{List, [], ◌∷◌, ℕ, zero, suc}

-- how reading ended: past what closes the items, or at the start of an item that couldn't be read
pub data Ending : Type 0 where
  done_at : ℕ → Ending
  broken_at : ℕ → Ending

module _ (A : Type 0) where
  -- an item, and where the next one stands; the last item, and the place past what closes them; or where reading stopped
  pub data Step : Type 0 where
    next : A → ℕ → Step
    last : A → ℕ → Step
    broken : ℕ → Step

  -- the items that were read, and how it ended
  pub record Reading : Type 0 where
    pub items : List A
    pub ending : Ending

module _ {A : Type 0} where
  -- what a step reads, where `rest` says what is read from a later place on
  abbrev pub read_of : (ℕ → Reading A) → Step A → Reading A
  read_of rest (next x p) = record { items = x ∷ (rest p).items; ending = (rest p).ending }
  read_of rest (last x p) = record { items = x ∷ []; ending = done_at p }
  read_of rest (broken p) = record { items = []; ending = broken_at p }

  -- the items from a place on, of which there are at most n
  unfoldable pub read_from : (ℕ → Step A) → ℕ → ℕ → Reading A
  read_from step zero i = record { items = []; ending = broken_at i }
  read_from step (suc n) i = read_of (read_from step n) (step i)

  -- the items from a place on, in a text of n bytes: each item takes a byte at least
  unfoldable pub read : (ℕ → Step A) → ℕ → ℕ → Reading A
  read step n i = read_from step (suc n) i
