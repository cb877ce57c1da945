-- A walk that asks as many questions as its tree has records in the table goes round: a limit above that many makes no difference.
-- Stated over any `meets` whose lines stand below m.
use mathlib.Core.Path.{◌≡◌, refl, sym, ap, ap₂, ◌∙◌, subst}
use mathlib.Core.Logic.{◌⊎◌, inl, inr}
use Prim.Native.Nat.{ℕ, zero, suc, ◌+◌, ◌-◌, ◌≤◌, ◌<◌, min}
use native.Mathlib.Decide.{dec_lt}
use native.Mathlib.Omega.{arith}
use Rattle.error.specs.declared.Refusal.{Refusal}
use Rattle.walk.specs.declared.Walked.{Walked}
use Rattle.std.specs.declared.result.Result.{Result}
use Rattle.std.specs.Prelude.{Ok, Err}
use Rattle.error.specs.declared.Refusal.TheVariants.{WalkTable, Steps}
use Rattle.walk.specs.declared.Met.{Met}
use Rattle.walk.specs.declared.Met.TheVariants.{Leaf, Line, Wrong}
use Rattle.walk.specs.Walking.{one_more, by_met, walk_from, walked}
use Rattle.written_depth.proofs.Pigeonhole.{Twice, twice}

-- so many questions more
abbrev pub plus : ℕ → Result Walked Refusal → Result Walked Refusal
plus n (Ok r) = Ok (walked r.number (n + r.asked))
plus n (Err r) = Err r

pub plus_none : (w : Result Walked Refusal) → plus 0 w ≡ w
plus_none (Ok r) = let e : 0 + r.asked ≡ r.asked = omega arith in ap (λ (k : ℕ). Ok (walked r.number k)) e
plus_none (Err r) = refl

pub plus_more : (n : ℕ) (w : Result Walked Refusal) → plus n (one_more w) ≡ plus (n + 1) w
plus_more n (Ok r) = let e : n + suc r.asked ≡ n + 1 + r.asked = omega arith in ap (λ (k : ℕ). Ok (walked r.number k)) e
plus_more n (Err r) = refl

-- ---- one record

module _ (meets : ℕ → Met) where
  pub walk_leaf : (l k n : ℕ) → meets k ≡ Leaf n → walk_from meets l k ≡ Ok (walked n 0)
  unfolding walk_from
  walk_leaf zero k n e = ap (by_met (λ j. Err Steps)) e
  walk_leaf (suc l) k n e = ap (by_met (λ j. one_more (walk_from meets l j))) e

  pub walk_wrong : (l k : ℕ) → meets k ≡ Wrong → walk_from meets l k ≡ Err WalkTable
  unfolding walk_from
  walk_wrong zero k e = ap (by_met (λ j. Err Steps)) e
  walk_wrong (suc l) k e = ap (by_met (λ j. one_more (walk_from meets l j))) e

  pub walk_stop : (l k j : ℕ) → l ≡ 0 → meets k ≡ Line j → walk_from meets l k ≡ Err Steps
  unfolding walk_from
  walk_stop zero k j z e = ap (by_met (λ j. Err Steps)) e
  walk_stop (suc l) k j z e = absurd (omega arith)

  pub walk_on : (l k j : ℕ) → 0 < l → meets k ≡ Line j → walk_from meets l k ≡ one_more (walk_from meets (l - 1) j)
  unfolding walk_from
  walk_on zero k j z e = absurd (omega arith)
  walk_on (suc l) k j z e = let q : suc l - 1 ≡ l = omega arith in ap (by_met (λ j. one_more (walk_from meets l j))) e ∙ ap (λ (m : ℕ). one_more (walk_from meets m j)) (sym q)

-- ---- the records met, one after the other

target : Met → ℕ
target (Leaf n) = 0
target (Line j) = j
target Wrong = 0

module _ (meets : ℕ → Met) (start : ℕ) where
  -- the record met after n questions
  met_at : ℕ → ℕ
  met_at zero = start
  met_at (suc n) = target (meets (met_at n))

  -- the first n of them are lines
  Lines : ℕ → Type 0
  Lines n = (i : ℕ) → i < n → meets (met_at i) ≡ Line (met_at (suc i))

  leads : (n j : ℕ) → meets (met_at n) ≡ Line j → meets (met_at n) ≡ Line (met_at (suc n))
  unfolding met_at target
  leads n j e = e ∙ ap Line (sym (ap target e))

  runs : (n l : ℕ) → Lines n → n ≤ l → walk_from meets l start ≡ plus n (walk_from meets (l - n) (met_at n))
  unfolding Lines met_at
  runs zero l f h = let e : l ≡ l - 0 = omega arith in ap (λ (m : ℕ). walk_from meets m start) e ∙ sym (plus_none (walk_from meets (l - 0) start))
  runs (suc n) l f h =
      let e : l - n - 1 ≡ l - suc n = omega arith in
      let q : n + 1 ≡ suc n = omega arith in
      runs n l (λ i g. f i (omega arith)) (omega arith)
      ∙ ap (plus n) (walk_on meets (l - n) (met_at n) (met_at (suc n)) (omega arith) (f n (omega arith)))
      ∙ plus_more n (walk_from meets (l - n - 1) (met_at (suc n)))
      ∙ ap₂ (λ (a b : ℕ). plus a (walk_from meets b (met_at (suc n)))) q e

  -- the first n are lines, or one before them is none
  lines? : (n : ℕ) → Lines n ⊎ ((i : ℕ) × (i < n) × Lines i × ((l m : ℕ) → walk_from meets l (met_at i) ≡ walk_from meets m (met_at i)))
  unfolding Lines
  lines? zero = inl (λ i h. absurd (omega arith))
  lines? (suc n) = go (lines? n)
    where
      go : Lines n ⊎ ((i : ℕ) × (i < n) × Lines i × ((l m : ℕ) → walk_from meets l (met_at i) ≡ walk_from meets m (met_at i)))
          → Lines (suc n) ⊎ ((i : ℕ) × (i < suc n) × Lines i × ((l m : ℕ) → walk_from meets l (met_at i) ≡ walk_from meets m (met_at i)))
      go (inr r) = inr (r.0, omega (arith, r.1), r.2, r.3)
      go (inl f) = at (meets (met_at n)) refl
        where
          at : (x : Met) → meets (met_at n) ≡ x → Lines (suc n) ⊎ ((i : ℕ) × (i < suc n) × Lines i × ((l m : ℕ) → walk_from meets l (met_at i) ≡ walk_from meets m (met_at i)))
          at (Leaf p) e = inr (n, omega arith, f, λ l m. walk_leaf meets l (met_at n) p e ∙ sym (walk_leaf meets m (met_at n) p e))
          at Wrong e = inr (n, omega arith, f, λ l m. walk_wrong meets l (met_at n) e ∙ sym (walk_wrong meets m (met_at n) e))
          at (Line j) e = inl (λ i h. pick i h (dec_lt i n))
            where
              pick : (i : ℕ) → i < suc n → Dec (i < n) → meets (met_at i) ≡ Line (met_at (suc i))
              pick i h (yes l) = f i l
              pick i h (no l) = let q : n ≡ i = omega arith in subst (λ (m : ℕ). meets (met_at m) ≡ Line (met_at (suc m))) q (leads n j e)

  -- where one is met twice, all that follow are lines
  module _ (m : ℕ) (f : Lines (suc m)) (t : Twice met_at m) where
    again : (n : ℕ) → met_at (t.i + n) ≡ met_at (t.j + n)
    unfolding met_at
    again zero = let a : t.i + 0 ≡ t.i = omega arith in let b : t.j ≡ t.j + 0 = omega arith in ap met_at a ∙ t.same ∙ ap met_at b
    again (suc n) =
        let a : t.i + suc n ≡ suc (t.i + n) = omega arith in
        let b : suc (t.j + n) ≡ t.j + suc n = omega arith in
        ap met_at a ∙ ap (λ (x : ℕ). target (meets x)) (again n) ∙ ap met_at b

    round : (b n : ℕ) → n < b → meets (met_at n) ≡ Line (met_at (suc n))
    unfolding Lines
    round zero n h = absurd (omega arith)
    round (suc b) n h = go (dec_lt n (suc m)) (λ d l. round b d l)
      where
        go : Dec (n < suc m) → ((d : ℕ) → d < b → meets (met_at d) ≡ Line (met_at (suc d))) → meets (met_at n) ≡ Line (met_at (suc n))
        go (yes l) r = f n l
        go (no l) r =
            let d = n - t.j in
            let e : t.j + d ≡ n = omega (arith, t.up_to) in
            let g = r (t.i + d) (omega (arith, t.before, t.up_to)) in
            leads n (met_at (suc (t.i + d))) (ap meets (sym (again d ∙ ap met_at e)) ∙ g)

    forever : (l : ℕ) → walk_from meets l start ≡ Err Steps
    unfolding Lines
    forever l =
        let z : l - l ≡ 0 = omega arith in
        runs l l (λ i h. round (suc i) i (omega arith)) (omega arith)
        ∙ ap (plus l) (walk_stop meets (l - l) (met_at l) (met_at (suc l)) z (round (suc l) l (omega arith)))

  -- lines stand below m: so a limit above m is as good as m
  module _ (m : ℕ) (below : (k j : ℕ) → meets k ≡ Line j → k < m) where
    pub enough : (l : ℕ) → m ≤ l → walk_from meets l start ≡ walk_from meets m start
    unfolding Lines
    enough l h = go (lines? (suc m))
      where
        go : Lines (suc m) ⊎ ((i : ℕ) × (i < suc m) × Lines i × ((l m : ℕ) → walk_from meets l (met_at i) ≡ walk_from meets m (met_at i))) → walk_from meets l start ≡ walk_from meets m start
        go (inl f) =
            let t = twice m met_at (λ i g. below (met_at i) (met_at (suc i)) (f i (omega arith))) in
            forever m f t l ∙ sym (forever m f t m)
        go (inr r) = runs r.0 l r.2 (omega (arith, r.1)) ∙ ap (plus r.0) (r.3 (l - r.0) (m - r.0)) ∙ sym (runs r.0 m r.2 (omega (arith, r.1)))

    pub enough_min : (l : ℕ) → walk_from meets (min l m) start ≡ walk_from meets l start
    enough_min l = go (dec_lt m l)
      where
        go : Dec (m < l) → walk_from meets (min l m) start ≡ walk_from meets l start
        go (yes h) = let e : min l m ≡ m = omega arith in ap (λ (n : ℕ). walk_from meets n start) e ∙ sym (enough l (omega arith))
        go (no h) = let e : min l m ≡ l = omega arith in ap (λ (n : ℕ). walk_from meets n start) e
