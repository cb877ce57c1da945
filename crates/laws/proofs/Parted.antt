-- Items that `written` has parted, and items that are read by steps: where each step reads what stands there, what is read is what is parted, both ways.
use mathlib.Core.Path.{◌≡◌, refl, ap, ap₂, ◌∙◌, subst}
use mathlib.Core.List.{List, [], ◌∷◌, zip_with}
use Prim.Native.Nat.{ℕ, zero, suc, ◌≤◌, ◌<◌}
use native.Mathlib.Omega.{arith}
use Rattle.written.specs.TreeText.{Parted, last as only, next as then}
use Rattle.written.proofs.Once.{head}
use Rattle.laws.specs.Steps.{done_at, Step, next, last, broken, Reading, read_of, read_from, read}
use Rattle.laws.proofs.Steps.{Onward, read_is}

module _ {A B C : Type 0} where
  -- the item at i that is z in code, and what stands where it ends
  pub record Stood (Item : ℕ → ℕ → A → B → Type 0) (code : A → B → C) (i : ℕ) (z : C) (Rest : ℕ → Type 0) : Type 0 where
    pub ends : ℕ
    pub said : A
    pub laid : B
    pub item : Item i ends said laid
    pub rest : Rest ends
    pub is : z ≡ code said laid

  -- a step reads the item that stands there, in code, and what parts it from the next or closes the items
  pub record Reads (Part : ℕ → ℕ → Type 0) (Item : ℕ → ℕ → A → B → Type 0) (Close : ℕ → ℕ → Type 0) (code : A → B → C) (n : ℕ) (step : ℕ → Step C) : Type 0 where
    pub on : {i a b j : ℕ} {x x' : A} {y y' : B} → Item i a x y → Part a b → Item b j x' y' → step i ≡ next (code x y) b
    pub done : {i a e : ℕ} {x : A} {y : B} → Item i a x y → Close a e → step i ≡ last (code x y) e
    pub was_on : (i b : ℕ) (z : C) → step i ≡ next z b → Stood Item code i z (λ a. Part a b)
    pub was_done : (i e : ℕ) (z : C) → step i ≡ last z e → Stood Item code i z (λ a. Close a e)
    pub moves : {i a b : ℕ} {x : A} {y : B} → Item i a x y → Part a b → (i < b) × (b ≤ n)

  module _ {Part : ℕ → ℕ → Type 0} {Item : ℕ → ℕ → A → B → Type 0} {Close : ℕ → ℕ → Type 0} {code : A → B → C} {n : ℕ} {step : ℕ → Step C} (R : Reads Part Item Close code n step) where
    pub onward : Onward step n
    onward = record { on = λ i p z e. let w = R.was_on i p z e in R.moves w.item w.rest }

    -- what is parted is read
    pub parted_read : {i j e : ℕ} {xs : List A} {ys : List B} → Parted Part Item i j xs ys → Close j e → read step n i ≡ record { items = zip_with code xs ys; ending = done_at e }
    unfolding zip_with
    parted_read {i} (only t) c = read_is step n onward i ∙ ap (read_of (read step n)) (R.done t c)
    parted_read {i} (then {b = b} {x = x} {y = y} t p r) c =
        read_is step n onward i ∙ ap (read_of (read step n)) (R.on t p (head r).3) ∙ ap (λ (m : Reading C). read_of (λ _. m) (next (code x y) b)) (parted_read r c)

    -- the items from i on, up to what closes them at e
    pub record Read (i e : ℕ) (zs : List C) : Type 0 where
      pub ends : ℕ
      pub said : List A
      pub laid : List B
      pub items : Parted Part Item i ends said laid
      pub closed : Close ends e
      pub is : zs ≡ zip_with code said laid

    read_from_lem : (f i e : ℕ) → (read_from step f i).ending ≡ done_at e → Read i e (read_from step f i).items
    unfolding read_from zip_with
    read_from_lem zero i e h = let u : ◌≡◌ {A = ℕ} 0 1 = cc in absurd (omega arith)
    read_from_lem (suc f) i e h = go (step i) refl h (λ b h. read_from_lem f b e h)
      where
        go : (t : Step C) → step i ≡ t → (read_of (read_from step f) t).ending ≡ done_at e
            → ((b : ℕ) → (read_from step f b).ending ≡ done_at e → Read b e (read_from step f b).items) → Read i e (read_of (read_from step f) t).items
        go (next z b) q h r =
            let w = R.was_on i b z q in
            let k = r b h in
            record { ends = k.ends; said = w.said ∷ k.said; laid = w.laid ∷ k.laid; items = then w.item w.rest k.items; closed = k.closed; is = ap₂ ◌∷◌ w.is k.is }
        go (last z b) q h r =
            let u : b ≡ e = cc in
            let w = R.was_done i b z q in
            record { ends = w.ends; said = w.said ∷ []; laid = w.laid ∷ []; items = only w.item; closed = subst (Close w.ends) u w.rest; is = ap (◌∷ []) w.is }
        go (broken p) q h r = let u : ◌≡◌ {A = ℕ} 0 1 = cc in absurd (omega arith)

    -- what is read is parted
    pub read_parted : (i e : ℕ) → (read step n i).ending ≡ done_at e → Read i e (read step n i).items
    unfolding read
    read_parted i e h = read_from_lem (suc n) i e h

-- items that are in code where they stand alone
module _ {A B : Type 0} where
  pub laid_only : {Part : ℕ → ℕ → Type 0} {Item : ℕ → ℕ → A → B → Type 0} {i j : ℕ} {xs : List A} {ys : List B} → Parted Part Item i j xs ys → zip_with (λ x y. y) xs ys ≡ ys
  unfolding zip_with
  laid_only (only t) = refl
  laid_only (then {y = y} t p r) = ap (y ∷◌) (laid_only r)
