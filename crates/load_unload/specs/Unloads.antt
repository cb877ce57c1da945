-- What an unload answers and leaves (02, Wish 9).
use Rattle.std.specs.Prelude.{◌≡◌, Bool, List, ℕ}
use Rattle.written.specs.Sharing.{Side, questions, patterns, trees, records, values, Tables, Held, stands}
use Rattle.error.specs.declared.Refusal.{Refusal}
use Rattle.load_apart.specs.Loads.{unload_of}
use Rattle.load_bounds.specs.Bounds.{tables_of}

-- the slices are these tables
pub record Tabled (x : Tables) (q a t c v : List ℕ) : Type 0 where
  pub questions : q ≡ x questions
  pub patterns : a ≡ x patterns
  pub trees : t ≡ x trees
  pub records : c ≡ x records
  pub values : v ≡ x values

-- an unload: whether it was done, and the tables after it
pub record Unloads (x : Side) (mine other : Held) (q a t c v : List ℕ) (r : Bool) (q₁ a₁ t₁ c₁ v₁ : List ℕ) : Type 0 where
  pub done : r ≡ stands (tables_of q a t c v) mine other
  pub tables : Tabled (unload_of {R = Refusal} x mine other (tables_of q a t c v)).tables q₁ a₁ t₁ c₁ v₁
