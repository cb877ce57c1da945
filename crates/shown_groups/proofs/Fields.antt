-- The value of a field of a section or a group, by its kind: a required one stands once, an optional one at most once.
use mathlib.Core.Path.{◌≡◌, ap, ◌∙◌, subst}
use mathlib.Core.Bool.{true}
use mathlib.Core.List.{List, [], ◌∷◌}
use Prim.Native.Nat.{ℕ, ◌<◌}
use Prim.Native.String.{String}
use lib.ListN.{length, get_or}
use Rattle.written.specs.Bytes.{bytes}
use Rattle.written.specs.HeaderText.{Kind, Value, Field, kind_of, Entry, values_of, Distinct}
use Rattle.written.specs.Faults.{Missing}
use Rattle.head_lines.proofs.Kept.{OfKind, Kinded, value_kind, Stands, nowhere, once, one_or_none, needed, no_field, mem_at}

module _ {T : List Field} {xs : List Entry} (kinded : Kinded T xs) (distinct : Distinct T xs) (n : ℕ) (known : n < length T) (w : String) (name : bytes w ≡ (get_or T n no_field).name)
    {k : Kind} (kind : kind_of T (bytes w) ≡ k) {A : Type 0} (made : A → Value) (of-kind : (v : Value) → OfKind k v → (a : A) × (v ≡ made a)) where
  value_made : (v : Value) → values_of (get_or T n no_field).name xs ≡ v ∷ [] → (a : A) × (values_of (bytes w) xs ≡ made a ∷ [])
  value_made v h =
      let g : values_of (bytes w) xs ≡ v ∷ [] = ap (λ (u : List ℕ). values_of u xs) name ∙ h in
      let o = of-kind v (subst (λ (t : Kind). OfKind t v) kind (value_kind kinded (bytes w) g)) in
      (o.0, g ∙ ap (λ (u : Value). u ∷ []) o.1)

  pub once_made : ¬ Missing T xs → (get_or T n no_field).required ≡ true → (a : A) × (values_of (bytes w) xs ≡ made a ∷ [])
  once_made whole required = let v = needed distinct whole (get_or T n no_field) (mem_at T n known) required in value_made v.0 v.1

  pub data Optional : Type 0 where
    not_there : values_of (bytes w) xs ≡ [] → Optional
    stands : (a : A) → values_of (bytes w) xs ≡ made a ∷ [] → Optional

  pub perhaps_made : Optional
  perhaps_made = go (one_or_none distinct (get_or T n no_field) (mem_at T n known))
    where
      go : Stands xs (get_or T n no_field).name → Optional
      go (nowhere h) = not_there (ap (λ (u : List ℕ). values_of u xs) name ∙ h)
      go (once v h) = let o = value_made v h in stands o.0 o.1
