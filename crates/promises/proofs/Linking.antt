-- Demand 3's last sentence, of a whole model: linking is refused exactly where some tree is `Broken`.
use mathlib.Core.List.{List, ◌∷◌}
use mathlib.Core.Logic.{◌⊎◌, inl, inr}
use Prim.Native.Nat.{ℕ, suc}
use Rattle.written.specs.Said.{Tree, Question}
use Rattle.written.specs.Linking.{Nth, here, there, Row, Records, Refused, Broken}
use Rattle.written.specs.Tables.{ModelRefused}
use Rattle.written.proofs.Links.{links, refused_broken, broken_refused}

-- some tree is broken
pub record SomeBroken (qs : List Question) (ts : List Tree) : Type 0 where
  pub which : ℕ
  pub tree : Tree
  pub stands : Nth ts which tree
  pub broken : Broken qs tree.body

pub refused_some : {qs : List Question} {ts : List Tree} {c i k : ℕ} → ModelRefused qs ts c i k → SomeBroken qs ts
refused_some (ModelRefused.here {t = t} r) = record { which = 0; tree = t; stands = here; broken = refused_broken r }
refused_some (ModelRefused.later x r) = let b = refused_some r in record { which = suc b.which; tree = b.tree; stands = there b.stands; broken = b.broken }

some_refused! : {qs : List Question} {ts : List Tree} {j : ℕ} {t : Tree} → Nth ts j t → Broken qs t.body → (c : ℕ) × (i : ℕ) × (k : ℕ) × ModelRefused qs ts c i k
some_refused! here b = let r = broken_refused b in (r.0, 0, r.1, ModelRefused.here r.2)
some_refused! {qs} (there {y = y} n) b = go (links qs y.body) (some_refused! n b)
  where
    go : {ts : List Tree} → ((rows : List Row) × Records qs y.body rows) ⊎ ((c : ℕ) × (k : ℕ) × Refused qs y.body c k) → (c : ℕ) × (i : ℕ) × (k : ℕ) × ModelRefused qs ts c i k
        → (c : ℕ) × (i : ℕ) × (k : ℕ) × ModelRefused qs (y ∷ ts) c i k
    go (inl x) r = (r.0, suc r.1, r.2, ModelRefused.later x.1 r.3)
    go (inr x) r = (x.0, 0, x.1, ModelRefused.here x.2)

pub some_refused : {qs : List Question} {ts : List Tree} → SomeBroken qs ts → (c : ℕ) × (i : ℕ) × (k : ℕ) × ModelRefused qs ts c i k
some_refused b = some_refused! b.stands b.broken
