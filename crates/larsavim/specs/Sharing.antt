-- How a shared load and an unload cross to C (02, Wish 9): the load's eight numbers to the front of `out`, the first of them returned, the task's bounds its rows where it is
-- done; an unload returns its number, and the bounds are 0 where it is done. Where `out` or bounds are too short, 20, and nothing is written anywhere.
use Rattle.std.specs.Prelude.{◌≡◌, Bool, cond, List, [], ◌∷◌, ◌⊎◌, ℕ, ◌≤◌, ◌<◌, length}
use Rattle.std.proofs.lemmas.List.Edits.{sets}
use Rattle.load_model.specs.Load.{Tables}
use Rattle.load_bounds.specs.Bounds.{tables_of}
use Rattle.load_unload.specs.Unloads.{Tabled}
use Rattle.face_model.specs.declared.Rows.{Rows}
use Rattle.face_shared.specs.Answers.{held_at, SharedSaid, UnloadSaid}
use Rattle.face_tree.specs.Answers.{TreeSaid}
use Rattle.face_put.specs.Put.{rows_numbers, held_left}

-- larsavim_load_shared: what it returns, the task's bounds, what was lent and `out` after it
pub data LoadShares (s w : List ℕ) (n d : ℕ) (held other : List ℕ) (T : Tables) (out : List ℕ) (r : ℕ) (held₁ : List ℕ) (T₁ : Tables) (out₁ : List ℕ) : Type 0 where
  no_room : (length out < 8) ⊎ ((length held < 5) ⊎ (length other < 5)) → r ≡ 20 → held₁ ≡ held → T₁ ≡ T → out₁ ≡ out → LoadShares s w n d held other T out r held₁ T₁ out₁
  told : {x : Rows} → 8 ≤ length out → 5 ≤ length held → 5 ≤ length other → SharedSaid s w n d (held_at held) (held_at other) T x T₁
      → r ≡ x.number → held₁ ≡ held_left x held → out₁ ≡ sets out 0 (rows_numbers x) → LoadShares s w n d held other T out r held₁ T₁ out₁

-- larsavim_load_tree: as larsavim_load_shared, of tree k of the model
pub data TreeShares (s w : List ℕ) (n k d : ℕ) (held other : List ℕ) (T : Tables) (out : List ℕ) (r : ℕ) (held₁ : List ℕ) (T₁ : Tables) (out₁ : List ℕ) : Type 0 where
  no_room : (length out < 8) ⊎ ((length held < 5) ⊎ (length other < 5)) → r ≡ 20 → held₁ ≡ held → T₁ ≡ T → out₁ ≡ out → TreeShares s w n k d held other T out r held₁ T₁ out₁
  told : {x : Rows} → 8 ≤ length out → 5 ≤ length held → 5 ≤ length other → TreeSaid s w n k d (held_at held) (held_at other) T x T₁
      → r ≡ x.number → held₁ ≡ held_left x held → out₁ ≡ sets out 0 (rows_numbers x) → TreeShares s w n k d held other T out r held₁ T₁ out₁

-- larsavim_unload
pub data UnloadTells (d : ℕ) (held other q a t c v : List ℕ) (r : ℕ) (held₁ q₁ a₁ t₁ c₁ v₁ : List ℕ) : Type 0 where
  no_room : (length held < 5) ⊎ (length other < 5) → r ≡ 20 → held₁ ≡ held → Tabled (tables_of q a t c v) q₁ a₁ t₁ c₁ v₁ → UnloadTells d held other q a t c v r held₁ q₁ a₁ t₁ c₁ v₁
  told : {b : Bool} → 5 ≤ length held → 5 ≤ length other → UnloadSaid d (held_at held) (held_at other) q a t c v b q₁ a₁ t₁ c₁ v₁
      → r ≡ cond b 0 24 → held₁ ≡ cond b (sets held 0 (0 ∷ 0 ∷ 0 ∷ 0 ∷ 0 ∷ [])) held → UnloadTells d held other q a t c v r held₁ q₁ a₁ t₁ c₁ v₁
