-- Items that are read by steps: where each step goes up and stays inside the text, what is read from a place on is what its step reads.
use mathlib.Core.Path.{◌≡◌, refl, ap}
use Prim.Native.Nat.{ℕ, zero, suc, ◌+◌, ◌≤◌, ◌<◌}
use native.Mathlib.Omega.{arith}
use lib.ListN.{length}
use Rattle.laws.specs.Totals.{total}
use Rattle.laws.specs.Steps.{done_at, Step, next, last, broken, Reading, read_of, read_from, read}

module _ {A : Type 0} where
  -- a step that goes on goes up, and not past n
  pub record Onward (step : ℕ → Step A) (n : ℕ) : Type 0 where
    pub on : (i p : ℕ) (x : A) → step i ≡ next x p → (i < p) × (p ≤ n)

  module _ (step : ℕ → Step A) (n : ℕ) (up : Onward step n) where
    one_step : (i : ℕ) (a b : ℕ → Reading A) → ((p : ℕ) → i < p → p ≤ n → a p ≡ b p) → read_of a (step i) ≡ read_of b (step i)
    one_step i a b r = go (step i) refl
      where
        go : (t : Step A) → step i ≡ t → read_of a t ≡ read_of b t
        go (next x p) e = let u = up.on i p x e in ap (λ (m : Reading A). read_of (λ _. m) (next x p)) (r p u.0 u.1)
        go (last x p) e = refl
        go (broken p) e = refl

    -- how many items are allowed doesn't matter, where they are enough
    enough : (f g i : ℕ) → i ≤ n → n < i + f → n < i + g → read_from step f i ≡ read_from step g i
    unfolding read_from
    enough zero g i l h k = absurd (omega arith)
    enough (suc f) zero i l h k = absurd (omega arith)
    enough (suc f) (suc g) i l h k = one_step i (read_from step f) (read_from step g) (λ p u v. enough f g p v (omega arith) (omega arith))

    -- what is read from i on
    pub read_is : (i : ℕ) → read step n i ≡ read_of (read step n) (step i)
    unfolding read read_from
    read_is i = one_step i (read_from step n) (read_from step (suc n)) (λ p u v. enough n (suc n) p v (omega arith) (omega arith))

  module _ (step : ℕ → Step A) (w : A → ℕ) (go_on : (i p : ℕ) (x : A) → step i ≡ next x p → w x + i ≤ p) (end : (i p : ℕ) (x : A) → step i ≡ last x p → w x + i ≤ p) where
    weigh : (f i e : ℕ) → (read_from step f i).ending ≡ done_at e → total w (read_from step f i).items + i ≤ e
    unfolding read_from total
    weigh zero i e h = let u : ◌≡◌ {A = ℕ} 0 1 = cc in absurd (omega arith)
    weigh (suc f) i e h = go (step i) refl h (λ p h. weigh f p e h)
      where
        go : (t : Step A) → step i ≡ t → (read_of (read_from step f) t).ending ≡ done_at e
            → ((p : ℕ) → (read_from step f p).ending ≡ done_at e → total w (read_from step f p).items + p ≤ e) → total w (read_of (read_from step f) t).items + i ≤ e
        go (next x p) q h r = omega (arith, go_on i p x q, r p h)
        go (last x p) q h r = let u : p ≡ e = cc in omega (arith, end i p x q)
        go (broken p) q h r = let u : ◌≡◌ {A = ℕ} 0 1 = cc in absurd (omega arith)

    -- where each item weighs at most the bytes that it takes, all do
    pub weighed : (n i e : ℕ) → (read step n i).ending ≡ done_at e → total w (read step n i).items + i ≤ e
    unfolding read
    weighed n i e h = weigh (suc n) i e h

  module _ (step : ℕ → Step A) where
    some_from : (f i e : ℕ) → (read_from step f i).ending ≡ done_at e → 0 < length (read_from step f i).items
    unfolding read_from
    some_from zero i e h = let u : ◌≡◌ {A = ℕ} 0 1 = cc in absurd (omega arith)
    some_from (suc f) i e h = go (step i) h
      where
        go : (t : Step A) → (read_of (read_from step f) t).ending ≡ done_at e → 0 < length (read_of (read_from step f) t).items
        go (next x p) h = omega arith
        go (last x p) h = omega arith
        go (broken p) h = let u : ◌≡◌ {A = ℕ} 0 1 = cc in absurd (omega arith)

    -- what is read to its end has an item
    pub some : (n i e : ℕ) → (read step n i).ending ≡ done_at e → 0 < length (read step n i).items
    unfolding read
    some n i e h = some_from (suc n) i e h

  module _ (step : ℕ → Step A) (w : A → ℕ) (go_on : (i p : ℕ) (x : A) → step i ≡ next x p → 0 < w x) (end : (i p : ℕ) (x : A) → step i ≡ last x p → 0 < w x) where
    each_from : (f i : ℕ) → length (read_from step f i).items ≤ total w (read_from step f i).items
    unfolding read_from total
    each_from zero i = omega arith
    each_from (suc f) i = go (step i) refl (λ p. each_from f p)
      where
        go : (t : Step A) → step i ≡ t → ((p : ℕ) → length (read_from step f p).items ≤ total w (read_from step f p).items)
            → length (read_of (read_from step f) t).items ≤ total w (read_of (read_from step f) t).items
        go (next x p) q r = omega (arith, go_on i p x q, r p)
        go (last x p) q r = omega (arith, end i p x q)
        go (broken p) q r = omega arith

    -- where each item weighs something, all weigh as many at least
    pub each_weighs : (n i : ℕ) → length (read step n i).items ≤ total w (read step n i).items
    unfolding read
    each_weighs n i = each_from (suc n) i
