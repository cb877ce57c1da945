-- What the depth of a tree says: it is one; no walk asks more, whatever the answers and the limit; some path asks that many, and ends at a leaf; and a walk whose limit is the depth
-- at least is not ended by its limit.
use mathlib.Core.Path.{◌≡◌, refl, ap, ◌∙◌, subst}
use mathlib.Core.Bool.{Bool, true, false}
use mathlib.Core.List.{List, [], ◌∷◌}
use Prim.Native.Nat.{ℕ, suc, ◌≤◌}
use native.Mathlib.Omega.{arith}
use lib.ListN.{take, drop}
use Rattle.written.specs.Linking.{Nth, Row, branch}
use Rattle.written.specs.Walks.{chosen, is_yes, Outcome, Loaded, afterwards}
use Rattle.written.specs.Depths.{DepthSaid, Path, stay, on, Refers, by_yes, by_no, Good, Depth, TreeDepth, deep}
use Rattle.written.proofs.Walk.{nth_once}

module _ {rows : List Row} where
  -- ---- walks are paths

  refers_chosen : {i q y n : ℕ} (c : Bool) → Nth rows i (branch q y n) → Refers rows i (chosen c y n)
  refers_chosen true h = by_yes h
  refers_chosen false h = by_no h

  -- a walk from i that ends at a PDF after k questions is a path of k references
  walk_path : {bytes : List ℕ} {i m n k : ℕ} {o : Outcome} → Loaded bytes rows i m o → o ≡ Outcome.at n k → (j : ℕ) × Path rows i j k
  walk_path (Loaded.outside f) e = let z : ◌≡◌ {A = ℕ} 0 1 = cc in absurd (omega arith)
  walk_path (Loaded.kind h) e = let z : ◌≡◌ {A = ℕ} 0 1 = cc in absurd (omega arith)
  walk_path {i = i} {k = k} (Loaded.leaf h) e = let z : 0 ≡ k = cc in (i, subst (Path rows i i) z stay)
  walk_path (Loaded.unanswered h f) e = let z : ◌≡◌ {A = ℕ} 0 1 = cc in absurd (omega arith)
  walk_path (Loaded.met h b) e = let z : ◌≡◌ {A = ℕ} 0 1 = cc in absurd (omega arith)
  walk_path {i = i} {n = n} {k = k} (Loaded.goes {y = y} {n = x} {b = b} {o = o} h a w) e = go o refl e (λ p a q. walk_path {n = p} {k = a} w q)
    where
      go : (u : Outcome) → o ≡ u → afterwards u ≡ Outcome.at n k → ((p a : ℕ) → o ≡ Outcome.at p a → (j : ℕ) × Path rows (chosen (is_yes b) y x) j a) → (j : ℕ) × Path rows i j k
      go (Outcome.at p a) q e f = let z : suc a ≡ k = cc in let r = f p a q in (r.0, subst (Path rows i r.0) z (on (refers_chosen (is_yes b) h) r.1))
      go (Outcome.refused c) q e f = let z : ◌≡◌ {A = ℕ} 0 1 = cc in absurd (omega arith)

  -- a walk that its limit of m questions ends is at a line then, which refers to one record more
  limit_path : {bytes : List ℕ} {i m : ℕ} {o : Outcome} → Loaded bytes rows i m o → o ≡ Outcome.refused 25 → (j : ℕ) × Path rows i j (suc m)
  limit_path (Loaded.outside f) e = let z : ◌≡◌ {A = ℕ} 24 25 = cc in absurd (omega arith)
  limit_path (Loaded.kind h) e = let z : ◌≡◌ {A = ℕ} 24 25 = cc in absurd (omega arith)
  limit_path (Loaded.leaf h) e = let z : ◌≡◌ {A = ℕ} 0 1 = cc in absurd (omega arith)
  limit_path (Loaded.unanswered h f) e = let z : ◌≡◌ {A = ℕ} 24 25 = cc in absurd (omega arith)
  limit_path (Loaded.met {y = y} h b) e = (y, on (by_yes h) stay)
  limit_path {i = i} (Loaded.goes {m = m} {y = y} {n = x} {b = b} {o = o} h a w) e = go o refl e (λ q. limit_path w q)
    where
      go : (u : Outcome) → o ≡ u → afterwards u ≡ Outcome.refused 25 → (o ≡ Outcome.refused 25 → (j : ℕ) × Path rows (chosen (is_yes b) y x) j (suc m)) → (j : ℕ) × Path rows i j (suc (suc m))
      go (Outcome.at p a) q e f = let z : ◌≡◌ {A = ℕ} 0 1 = cc in absurd (omega arith)
      go (Outcome.refused c) q e f = let r = f (q ∙ e) in (r.0, on (refers_chosen (is_yes b) h) r.1)

  -- ---- no walk asks more

  -- no path is longer
  pub deep_all : {x : DepthSaid} {d : ℕ} → Depth rows x → x ≡ deep d → (k n : ℕ) → Path rows 0 k n → n ≤ d
  deep_all (Depth.bad h g) e k n p = let z : ◌≡◌ {A = ℕ} 24 0 = ap (λ (s : DepthSaid). s.number) e in absurd (omega arith)
  deep_all (Depth.round h g) e k n p = let z : ◌≡◌ {A = ℕ} 0 1 = ap (λ (s : DepthSaid). s.answer) e in absurd (omega arith)
  deep_all {d = d} (Depth.deepest {d = c} g r p all) e k n q = let z : c ≡ d = ap (λ (s : DepthSaid). s.questions) e in subst (λ (x : ℕ). n ≤ x) z (all k n q)

  -- whatever the answers and the limit
  pub no_walk_more : {d : ℕ} → Depth rows (deep d) → {bytes : List ℕ} {m n k : ℕ} → Loaded bytes rows 0 m (Outcome.at n k) → k ≤ d
  no_walk_more x {k = k} w = let q = walk_path w refl in deep_all x refl q.0 k q.1

  -- a limit that is at least the depth ends no walk
  pub depth_enough : {d : ℕ} → Depth rows (deep d) → {bytes : List ℕ} {m : ℕ} → d ≤ m → ¬ Loaded bytes rows 0 m (Outcome.refused 25)
  depth_enough x {m = m} h w = let q = limit_path w refl in omega (arith, deep_all x refl q.0 (suc m) q.1)

  -- ---- some path asks that many

  -- one reference more
  path_more : {i k j n : ℕ} → Path rows i k n → Refers rows k j → Path rows i j (suc n)
  path_more stay r = on r stay
  path_more (on s p) r = on s (path_more p r)

  -- the longest path ends at a leaf
  pub some_path : {x : DepthSaid} {d : ℕ} → Depth rows x → x ≡ deep d → (j : ℕ) × (n : ℕ) × (a : ℕ) × (b : ℕ) × Path rows 0 j d × Nth rows j (1 ∷ n ∷ a ∷ b ∷ [])
  some_path (Depth.bad h g) e = let z : ◌≡◌ {A = ℕ} 24 0 = ap (λ (s : DepthSaid). s.number) e in absurd (omega arith)
  some_path (Depth.round h g) e = let z : ◌≡◌ {A = ℕ} 0 1 = ap (λ (s : DepthSaid). s.answer) e in absurd (omega arith)
  some_path {d = d} (Depth.deepest {j = j} {d = c} g r p all) e = let z : c ≡ d = ap (λ (s : DepthSaid). s.questions) e in go z (g j (c, p))
    where
      go : c ≡ d → Good rows j → (j : ℕ) × (n : ℕ) × (a : ℕ) × (b : ℕ) × Path rows 0 j d × Nth rows j (1 ∷ n ∷ a ∷ b ∷ [])
      go z (Good.line {y = y} h) = absurd (omega (arith, all y (suc c) (path_more p (by_yes h))))
      go z (Good.leaf {n = n} {a = a} {b = b} h) = (j, n, a, b, subst (Path rows 0 j) z p, h)

  -- ---- one answer

  pub depth_once : {x y : DepthSaid} → Depth rows x → Depth rows y → x ≡ y
  depth_once (Depth.bad h g) (Depth.bad k f) = refl
  depth_once (Depth.bad {j = j} h g) (Depth.round f r) = absurd (g (f j h))
  depth_once (Depth.bad {j = j} h g) (Depth.deepest f r p all) = absurd (g (f j h))
  depth_once (Depth.round f r) (Depth.bad {j = j} h g) = absurd (g (f j h))
  depth_once (Depth.round f r) (Depth.round g s) = refl
  depth_once (Depth.round f r) (Depth.deepest g s p all) = absurd (s r)
  depth_once (Depth.deepest f r p all) (Depth.bad {j = j} h g) = absurd (g (f j h))
  depth_once (Depth.deepest f r p all) (Depth.round g s) = absurd (r s)
  depth_once (Depth.deepest {j = j} {d = d} f r p all) (Depth.deepest {j = i} {d = e} g s q every) =
      let z : d ≡ e = omega (arith, all i e q, every j d p) in ap deep z

same_row : {a b c d v w e f g h x y : ℕ} → a ∷ b ∷ c ∷ d ∷ v ∷ w ∷ [] ≡ e ∷ f ∷ g ∷ h ∷ x ∷ y ∷ [] → (b ≡ f) × (c ≡ g)
same_row e = (cc, cc)

pub tree_depth_once : {trees records : List Row} {work t : ℕ} {x y : DepthSaid} → TreeDepth trees records work t x → TreeDepth trees records work t y → x ≡ y
tree_depth_once (TreeDepth.missing f) (TreeDepth.missing g) = refl
tree_depth_once (TreeDepth.missing f) (TreeDepth.short h l) = absurd (f _ h)
tree_depth_once (TreeDepth.missing f) (TreeDepth.there h l x) = absurd (f _ h)
tree_depth_once (TreeDepth.short h l) (TreeDepth.missing f) = absurd (f _ h)
tree_depth_once (TreeDepth.short h l) (TreeDepth.short g k) = refl
tree_depth_once (TreeDepth.short h l) (TreeDepth.there g k x) = let e = same_row (nth_once h g) in absurd (omega (arith, e.1))
tree_depth_once (TreeDepth.there h l x) (TreeDepth.missing f) = absurd (f _ h)
tree_depth_once (TreeDepth.there h l x) (TreeDepth.short g k) = let e = same_row (nth_once h g) in absurd (omega (arith, e.1))
tree_depth_once {records = records} {x = x} (TreeDepth.there {first = f} {count = c} h l u) (TreeDepth.there {first = g} {count = d} i k v) =
    let e = same_row (nth_once h i) in
    depth_once (subst (λ (n : ℕ). Depth (take n (drop g records)) x) e.1 (subst (λ (n : ℕ). Depth (take c (drop n records)) x) e.0 u)) v
