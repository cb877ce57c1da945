-- The depth of a tree, from its leaves up: what a check needs that goes over records and not over paths.
use mathlib.Core.Path.{◌≡◌, refl, sym, ap, ◌∙◌, subst}
use mathlib.Core.Bool.{Bool, true, false, cond}
use mathlib.Core.List.{List, [], ◌∷◌}
use Prim.Native.Nat.{ℕ, zero, suc, ◌+◌, ◌-◌, ◌≤◌, ◌<◌, max}
use native.Mathlib.Decide.{dec_lt}
use native.Mathlib.Omega.{arith}
use Rattle.written.specs.Linking.{Nth, here, there, Row, branch}
use Rattle.written.specs.Depths.{Path, stay, on, Refers, by_yes, by_no, Met, Good, Round, twice, Depth, deep}
use Rattle.written.proofs.Walk.{nth_once}
use Rattle.written_depth.proofs.Pigeonhole as pigeonhole

module _ (rows : List Row) where
  -- from record k on: a leaf asks nothing; a line one question more than the deeper of its sides
  pub data Deep : ℕ → ℕ → Type 0 where
    leaf : {k n a b : ℕ} → Nth rows k (1 ∷ n ∷ a ∷ b ∷ []) → Deep k 0
    line : {k q y n d e : ℕ} → Nth rows k (branch q y n) → Deep y d → Deep n e → Deep k (suc (max d e))

module _ {rows : List Row} where
  pub then : {i k j m n : ℕ} → Path rows i k m → Path rows k j n → Path rows i j (m + n)
  then {i} {j = j} {n = n} stay q = let e : n ≡ 0 + n = omega arith in subst (Path rows i j) e q
  then {i} {j = j} {n = n} (on {n = m} r p) q = let e : suc (m + n) ≡ suc m + n = omega arith in subst (Path rows i j) e (on r (then p q))

  leaf_stays : {k n a b j m : ℕ} → Nth rows k (1 ∷ n ∷ a ∷ b ∷ []) → Path rows k j m → m ≡ 0
  leaf_stays h stay = refl
  leaf_stays {n = n} {a = a} {b = b} h (on (by_yes {q = q} {y = y} {n = x} g) p) =
      let e : 1 ∷ n ∷ a ∷ b ∷ [] ≡ branch q y x = nth_once h g in let z : ◌≡◌ {A = ℕ} 1 0 = cc in absurd (omega arith)
  leaf_stays {n = n} {a = a} {b = b} h (on (by_no {q = q} {y = y} {n = x} g) p) =
      let e : 1 ∷ n ∷ a ∷ b ∷ [] ≡ branch q y x = nth_once h g in let z : ◌≡◌ {A = ℕ} 1 0 = cc in absurd (omega arith)

  -- no path from k is longer
  pub deep_most : {k d j m : ℕ} → Deep rows k d → Path rows k j m → m ≤ d
  deep_most (Deep.leaf h) p = let e = leaf_stays h p in omega arith
  deep_most (Deep.line h a b) stay = omega arith
  deep_most (Deep.line {q = q} {y = y} {n = n} {d = d} {e = e} h a b) (on {j = j} {n = m} (by_yes {q = r} {y = z} {n = x} g) p) =
      let w : branch r z x ≡ branch q y n = nth_once g h in
      let v : z ≡ y = cc in
      omega (arith, deep_most a (subst (λ i. Path rows i j m) v p))
  deep_most (Deep.line {q = q} {y = y} {n = n} {d = d} {e = e} h a b) (on {j = j} {n = m} (by_no {q = r} {y = z} {n = x} g) p) =
      let w : branch r z x ≡ branch q y n = nth_once g h in
      let v : x ≡ n = cc in
      omega (arith, deep_most b (subst (λ i. Path rows i j m) v p))

  -- and some path is as long
  pub deep_path : {k d : ℕ} → Deep rows k d → (j : ℕ) × Path rows k j d
  deep_path (Deep.leaf {k = k} h) = (k, stay)
  deep_path (Deep.line {k = k} {y = y} {n = x} {d = d} {e = e} h a b) = go (dec_lt d e) (deep_path a) (deep_path b)
    where
      go : Dec (d < e) → (j : ℕ) × Path rows y j d → (j : ℕ) × Path rows x j e → (j : ℕ) × Path rows k j (suc (max d e))
      go (yes l) p q = let z : suc e ≡ suc (max d e) = omega arith in (q.0, subst (Path rows k q.0) z (on (by_no h) q.1))
      go (no l) p q = let z : suc d ≡ suc (max d e) = omega arith in (p.0, subst (Path rows k p.0) z (on (by_yes h) p.1))

  -- so often round
  rounds : {j n : ℕ} → Path rows j j (suc n) → (k : ℕ) → (m : ℕ) × (k ≤ m) × Path rows j j m
  rounds p zero = (0, omega arith, stay)
  rounds {n = n} p (suc k) = let r = rounds p k in (suc n + r.0, omega (arith, r.1), then p r.2)

  -- no path leads from a record of some depth to itself
  pub deep_round : {k d n : ℕ} → Deep rows k d → Path rows k k (suc n) → ⊥
  deep_round {d = d} x p = let r = rounds p (suc d) in omega (arith, r.1, deep_most x r.2)

  -- no path meets a record twice
  pub deep_straight : {d : ℕ} → Deep rows 0 d → Round rows → ⊥
  deep_straight {d} x (twice m p) = let r = rounds p (suc d) in omega (arith, r.1, deep_most x (then m.1 r.2))

  -- a way: each of its first m records refers to the next
  pub way_path : (f : ℕ → ℕ) (m : ℕ) → ((i : ℕ) → i < m → Refers rows (f i) (f (suc i))) → (i n : ℕ) → i + n ≤ m → Path rows (f i) (f (i + n)) n
  way_path f m step i zero h = let e : i ≡ i + 0 = omega arith in subst (λ k. Path rows (f i) (f k) 0) e stay
  way_path f m step i (suc n) h =
      let e : suc i + n ≡ i + suc n = omega arith in
      on (step i (omega arith)) (subst (λ k. Path rows (f (suc i)) (f k) n) e (way_path f m step (suc i) n (omega arith)))

  -- a way of as many references as there are records goes round
  pub long_round : (f : ℕ → ℕ) (m : ℕ) → Met rows (f 0) → ((i : ℕ) → i < m → Refers rows (f i) (f (suc i))) → ((i : ℕ) → i ≤ m → f i < m) → Round rows
  long_round f m start step below =
      let t = pigeonhole.twice m f below in
      let i = t.i in
      let n = t.j - suc i in
      let a = along i (omega (arith, t.before, t.up_to)) in
      let e : suc i + n ≡ t.j = omega (arith, t.before) in
      let b = way_path f m step i (suc n) (omega (arith, t.up_to, e)) in
      let v : i + suc n ≡ t.j = omega (arith, e) in
      twice {n = n} a (subst (λ k. Path rows (f i) k (suc n)) (ap f v ∙ sym t.same) b)
    where
      along : (i : ℕ) → i ≤ m → Met rows (f i)
      along i h = let p = way_path f m step 0 i (omega arith) in let e : 0 + i ≡ i = omega arith in (start.0 + i, then start.1 (subst (λ k. Path rows (f 0) (f k) i) e p))

  -- what a check that knows both passes says
  pub depth_deep : {d : ℕ} → ((j : ℕ) → Met rows j → Good rows j) → Deep rows 0 d → Depth rows (deep d)
  depth_deep g x = Depth.deepest g (deep_straight x) (deep_path x).1 (λ k n p. deep_most x p)

-- ---- at most its line records

-- whether a row is a line's
abbrev pub is_line : Row → Bool
is_line (zero ∷ q ∷ y ∷ n ∷ []) = true
is_line (zero ∷ q ∷ y ∷ n ∷ z ∷ r) = false
is_line (zero ∷ q ∷ y ∷ []) = false
is_line (zero ∷ q ∷ []) = false
is_line (zero ∷ []) = false
is_line (suc k ∷ r) = false
is_line [] = false

unfoldable pub line_records : List Row → ℕ
line_records [] = 0
line_records (r ∷ rs) = cond (is_line r) 1 0 + line_records rs

-- the lines before row k
unfoldable rank : List Row → ℕ → ℕ
rank [] k = 0
rank (r ∷ rs) zero = 0
rank (r ∷ rs) (suc k) = cond (is_line r) 1 0 + rank rs k

rank_below : {rows : List Row} {k q y n : ℕ} → Nth rows k (branch q y n) → rank rows k < line_records rows
unfolding rank line_records
rank_below here = omega arith
rank_below (there {y = r} h) = omega (arith, rank_below h)

rank_one : {rows : List Row} {i j q y n r z x : ℕ} → Nth rows i (branch q y n) → Nth rows j (branch r z x) → rank rows i ≡ rank rows j → i ≡ j
unfolding rank
rank_one here here e = refl
rank_one here (there h) e = absurd (omega arith)
rank_one (there h) here e = absurd (omega arith)
rank_one (there {k = i} h) (there {k = j} g) e = ap suc (rank_one h g (omega arith))

module _ {rows : List Row} where
  -- the record that a path meets after i references
  met_at : {a b n : ℕ} → Path rows a b n → ℕ → ℕ
  met_at {a} stay i = a
  met_at {a} (on r p) zero = a
  met_at (on r p) (suc i) = met_at p i

  met_at_first : {a b n : ℕ} (p : Path rows a b n) → met_at p 0 ≡ a
  unfolding met_at
  met_at_first stay = refl
  met_at_first (on r p) = refl

  met_at_step : {a b n : ℕ} (p : Path rows a b n) (i : ℕ) → i < n → Refers rows (met_at p i) (met_at p (suc i))
  unfolding met_at
  met_at_step stay i h = absurd (omega arith)
  met_at_step (on {i = a} r p) zero h = subst (Refers rows a) (sym (met_at_first p)) r
  met_at_step (on r p) (suc i) h = met_at_step p i (omega arith)

  from_line : {i j : ℕ} → Refers rows i j → (q : ℕ) × (y : ℕ) × (n : ℕ) × Nth rows i (branch q y n)
  from_line (by_yes {q = q} {y = y} {n = n} h) = (q, y, n, h)
  from_line (by_no {q = q} {y = y} {n = n} h) = (q, y, n, h)

  -- a path that meets no record twice has at most as many references as there are line records
  pub straight_lines : {j d : ℕ} → ¬ Round rows → Path rows 0 j d → d ≤ line_records rows
  straight_lines {j} {d} straight p = go (dec_lt (line_records rows) d)
    where
      part : (i n : ℕ) → i + n ≤ d → Path rows (met_at p i) (met_at p (i + n)) n
      part i n h = way_path (met_at p) d (met_at_step p) i n h

      line : (i : ℕ) → i < d → (q : ℕ) × (y : ℕ) × (n : ℕ) × Nth rows (met_at p i) (branch q y n)
      line i h = from_line (met_at_step p i h)

      go : Dec (line_records rows < d) → d ≤ line_records rows
      go (no h) = omega arith
      go (yes h) =
          let t = pigeonhole.twice (line_records rows) (λ i. rank rows (met_at p i)) (λ i l. rank_below (line i (omega arith)).3) in
          let n = t.j - suc t.i in
          let same : met_at p t.i ≡ met_at p t.j = rank_one (line t.i (omega (arith, t.before, t.up_to))).3 (line t.j (omega (arith, t.up_to))).3 t.same in
          let e : t.i + suc n ≡ t.j = omega (arith, t.before) in
          let b = part t.i (suc n) (omega (arith, t.up_to, e)) in
          let m = part 0 t.i (omega (arith, t.before, t.up_to)) in
          let z : 0 + t.i ≡ t.i = omega arith in
          absurd (straight (twice {n = n} (t.i, subst (λ k. Path rows k (met_at p t.i) t.i) (met_at_first p) (subst (λ k. Path rows (met_at p 0) (met_at p k) t.i) z m))
          (subst (λ k. Path rows (met_at p t.i) k (suc n)) (ap (met_at p) e ∙ sym same) b)))
