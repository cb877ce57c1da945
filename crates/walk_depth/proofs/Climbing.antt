-- The way from the first record: each of it refers to the next, none of it is settled, and what is settled is so. How it begins, loses its last record, grows by one, goes round and ends.
use mathlib.Core.Path.{◌≡◌, sym, ap, ◌∙◌, subst}
use mathlib.Core.Bool.{Bool, cond}
use mathlib.Core.List.{List}
use mathlib.Core.Logic.{◌⊎◌, inl, inr}
use Prim.Native.Nat.{ℕ, suc, ◌+◌, ◌-◌, ◌*◌, ◌≤◌, ◌<◌}
use native.Mathlib.Decide.{dec_lt, ℕ_discrete}
use native.Mathlib.Omega.{arith}
use borrow.Author.Tests.{lt-ltb, le-ltb}
use lib.Dec.{ltb}
use lib.IntN.{ℤ, pos}
use lib.ListN.{length, set, replicate, length-set}
use Rattle.std.specs.Prelude.{Some, None}
use Rattle.written.specs.Linking.{Row}
use Rattle.written.specs.Depths.{Path, Refers, Met}
use Rattle.written_depth.proofs.Deepest.{Deep, deep_round, way_path, long_round}
use Rattle.walk_reach.specs.Work.{slot_at, zeros}
use Rattle.walk_reach.proofs.Rows.{met_on}
use Rattle.walk_reach.proofs.Slots.{slot_same, slot_other, slot_zero, zeros_same, zeros_fewer, zeros_all}
use Rattle.walk_depth.specs.Climbing.{Small, Knows, Settles, settled, down, Deepest}
use Rattle.walk_depth.specs.declared.Next.TheVariants.{Settled, Down}

-- a way of n records, and one behind it
abbrev longer : (ℕ → ℕ) → ℕ → ℕ → ℕ → ℕ
longer way n j i = cond (ltb i n) (way i) j

longer_before : (way : ℕ → ℕ) (n j i : ℕ) → i < n → longer way n j i ≡ way i
longer_before way n j i h = ap (λ (b : Bool). cond b (way i) j) (lt-ltb i n h)

longer_behind : (way : ℕ → ℕ) (n j i : ℕ) → n ≤ i → longer way n j i ≡ j
longer_behind way n j i h = ap (λ (b : Bool). cond b (way i) j) (le-ltb i n h)

module _ (rows : List Row) (n : ℕ) where
  pub record Climbing (w : List ℤ) (len : ℕ) : Type 0 where
    pub room : 4 * n ≤ length w
    pub fits : len ≤ n
    pub start : 0 < len → slot_at 3 w 0 ≡ 0
    pub inside : (i : ℕ) → i < len → slot_at 3 w i < n
    pub refers : (i : ℕ) → suc i < len → Refers rows (slot_at 3 w i) (slot_at 3 w (suc i))
    pub unsettled : (i : ℕ) → i < len → slot_at 2 w (slot_at 3 w i) ≡ 0
    pub knows : Knows rows n w
    pub small : (k : ℕ) → k < n → slot_at 2 w k + zeros (slot_at 2 w) n ≤ n
    pub ended : len ≡ 0 → slot_at 2 w 0 ≡ 0 → ⊥

  -- the first record alone
  pub climbing_first : {w : List ℤ} → 0 < n → 4 * n ≤ length w → w ≡ replicate (length w) (pos 0) → Climbing w 1
  climbing_first {w} some h e =
      let z : (p : ℕ) → p < 4 → (j : ℕ) → j < n → slot_at p w j ≡ 0 = λ p q j l. slot_zero p w j e (omega arith) in
      let none : zeros (slot_at 2 w) n ≡ n = zeros_all (slot_at 2 w) n (z 2 (omega arith)) in
      record {
        room = h;
        fits = some;
        start = λ l. z 3 (omega arith) 0 some;
        inside = λ i l. let q : i ≡ 0 = omega arith in let v : slot_at 3 w i ≡ 0 = ap (slot_at 3 w) q ∙ z 3 (omega arith) 0 some in omega arith;
        refers = λ i l. absurd (omega arith);
        unsettled = λ i l. let q : i ≡ 0 = omega arith in let v : slot_at 3 w i ≡ 0 = ap (slot_at 3 w) q ∙ z 3 (omega arith) 0 some in ap (slot_at 2 w) v ∙ z 2 (omega arith) 0 some;
        knows = record { deep = λ k d l v. let u = z 2 (omega arith) k l in absurd (omega arith) };
        small = λ k l. let u = z 2 (omega arith) k l in omega arith;
        ended = λ q v. omega arith;
      }

  module _ {w : List ℤ} {len : ℕ} (s : Climbing w len) where
    pub all_small : Small n w
    all_small = record { each = λ k l. omega (arith, s.small k l) }

    -- every record of the way can be met
    way_met : (i : ℕ) → i < len → Met rows (slot_at 3 w i)
    way_met i h =
        let p = way_path (slot_at 3 w) (len - 1) (λ j l. s.refers j (omega arith)) 0 i (omega arith) in
        let e : 0 + i ≡ i = omega arith in
        (i, subst (λ (x : ℕ). Path rows x (slot_at 3 w i) i) (s.start (omega arith)) (subst (λ (x : ℕ). Path rows (slot_at 3 w 0) (slot_at 3 w x) i) e p))

    module _ (some : 0 < len) {k : ℕ} (last : k ≡ slot_at 3 w (len - 1)) where
      pub last_met : Met rows k
      last_met = subst (Met rows) (sym last) (way_met (len - 1) (omega arith))

      pub last_inside : k < n
      last_inside = let h = s.inside (len - 1) (omega arith) in omega arith

      pub last_room : 4 * (len - 1) + 3 < length w
      last_room = omega (arith, s.room, s.fits)

      last_unsettled : slot_at 2 w k ≡ 0
      last_unsettled = ap (slot_at 2 w) last ∙ s.unsettled (len - 1) (omega arith)

      -- ---- the last is settled, and leaves

      module _ {v : ℕ} (x : Settles rows n w k (Settled v)) where
        abbrev settled_work : List ℤ
        settled_work = set w (4 * k + 2) (pos v)

        pub record Settling : Type 0 where
          pub depth : ℕ
          pub one_more : v ≡ suc depth
          pub deep : Deep rows k depth
          pub bound : v + zeros (slot_at 2 w) n ≤ n + 1

        settling : Settles rows n w k (Settled v) → Settling
        settling (settled {d = d} f e b) = record { depth = d; one_more = e; deep = f s.knows; bound = at b }
          where
            at : (v ≡ 1) ⊎ ((j : ℕ) × (j < n) × (v ≡ suc (slot_at 2 w j))) → v + zeros (slot_at 2 w) n ≤ n + 1
            at (inl q) = omega (arith, s.small k last_inside)
            at (inr r) = omega (arith, s.small r.0 r.1, r.2)

        abbrev settles : Settling
        settles = settling x

        pub settled_most : v ≤ n + 1
        settled_most = omega (arith, settles.bound)

        way_same : (i : ℕ) → slot_at 3 settled_work i ≡ slot_at 3 w i
        way_same i = slot_other 2 3 w k i v (λ e. omega arith)

        known_here : slot_at 2 settled_work k ≡ v
        known_here = slot_same 2 w k v (omega (arith, s.room, last_inside))

        known_other : (j : ℕ) → (j ≡ k → ⊥) → slot_at 2 settled_work j ≡ slot_at 2 w j
        known_other j d = slot_other 2 2 w k j v (λ e. d (omega arith))

        fewer : suc (zeros (slot_at 2 settled_work) n) ≡ zeros (slot_at 2 w) n
        fewer = zeros_fewer (slot_at 2 w) (slot_at 2 settled_work) n k last_inside last_unsettled (λ e. let z = known_here in omega (arith, settles.one_more)) (λ j l d. known_other j d)

        -- the last stands on the way once: a path from it to itself has no end
        not_twice : (i : ℕ) → i < len - 1 → slot_at 3 w i ≡ k → ⊥
        not_twice i h e =
            let m = len - 1 - suc i in
            let q : i + suc m ≡ len - 1 = omega arith in
            let p = way_path (slot_at 3 w) (len - 1) (λ j l. s.refers j (omega arith)) i (suc m) (omega arith) in
            let t : slot_at 3 w (i + suc m) ≡ k = ap (slot_at 3 w) q ∙ sym last in
            deep_round settles.deep (subst (λ (y : ℕ). Path rows y k (suc m)) e (subst (λ (y : ℕ). Path rows (slot_at 3 w i) y (suc m)) t p))

        pub climbing_settled : Climbing settled_work (len - 1)
        climbing_settled =
            record {
              room = omega (arith, s.room, length-set w (4 * k + 2) (pos v));
              fits = omega (arith, s.fits);
              start = λ l. way_same 0 ∙ s.start (omega arith);
              inside = λ i l. let e = way_same i in let h = s.inside i (omega arith) in omega arith;
              refers = λ i l. subst (λ (y : ℕ). Refers rows (slot_at 3 settled_work i) y) (sym (way_same (suc i))) (subst (λ (y : ℕ). Refers rows y (slot_at 3 w (suc i))) (sym (way_same i)) (s.refers i (omega arith)));
              unsettled = λ i l. ap (slot_at 2 settled_work) (way_same i) ∙ known_other (slot_at 3 w i) (λ e. not_twice i l e) ∙ s.unsettled i (omega arith);
              knows = record { deep = λ j d l e. deep_of j d l e (ℕ_discrete j k) };
              small = λ j l. small_of j l (ℕ_discrete j k);
              ended = λ q e. let u : k ≡ 0 = last ∙ ap (slot_at 3 w) q ∙ s.start some in let t : slot_at 2 settled_work 0 ≡ v = ap (slot_at 2 settled_work) (sym u) ∙ known_here in omega (arith, settles.one_more);
            }
          where
            deep_of : (j d : ℕ) → j < n → slot_at 2 settled_work j ≡ suc d → Dec (j ≡ k) → Deep rows j d
            deep_of j d l e (yes q) =
                let t : slot_at 2 settled_work j ≡ v = ap (slot_at 2 settled_work) q ∙ known_here in
                let u : settles.depth ≡ d = omega (arith, settles.one_more) in
                subst (λ (y : ℕ). Deep rows y d) (sym q) (subst (Deep rows k) u settles.deep)
            deep_of j d l e (no q) = s.knows.deep j d l (sym (known_other j q) ∙ e)

            small_of : (j : ℕ) → j < n → Dec (j ≡ k) → slot_at 2 settled_work j + zeros (slot_at 2 settled_work) n ≤ n
            small_of j l (yes q) = let t : slot_at 2 settled_work j ≡ v = ap (slot_at 2 settled_work) q ∙ known_here in omega (arith, fewer, settles.bound)
            small_of j l (no q) = let t = known_other j q in omega (arith, fewer, s.small j l)

        pub settled_less : 2 * zeros (slot_at 2 settled_work) n + (n - (len - 1)) < 2 * zeros (slot_at 2 w) n + (n - len)
        settled_less = omega (arith, fewer, s.fits)

      -- ---- a record to which the last refers goes behind it

      module _ {j : ℕ} (x : Settles rows n w k (Down j)) where
        abbrev longer_work : List ℤ
        longer_work = set w (4 * len + 3) (pos j)

        down_refers : Settles rows n w k (Down j) → Refers rows k j
        down_refers (down r e) = r

        down_unsettled : Settles rows n w k (Down j) → slot_at 2 w j ≡ 0
        down_unsettled (down r e) = e

        pub down_met : Met rows j
        down_met = met_on last_met (down_refers x)

        module _ (below : j < n) where
          -- as many references as there are records
          pub climbing_round : len ≡ n → Deepest rows None
          climbing_round q = Deepest.round (long_round f n first step under)
            where
              f : ℕ → ℕ
              f = longer (slot_at 3 w) n j

              before : (i : ℕ) → i < n → f i ≡ slot_at 3 w i
              before i h = longer_before (slot_at 3 w) n j i h

              behind : (i : ℕ) → n ≤ i → f i ≡ j
              behind i h = longer_behind (slot_at 3 w) n j i h

              first : Met rows (f 0)
              first = subst (Met rows) (sym (before 0 (omega arith))) (way_met 0 some)

              step : (i : ℕ) → i < n → Refers rows (f i) (f (suc i))
              step i h = subst (λ (y : ℕ). Refers rows y (f (suc i))) (sym (before i h)) (go (dec_lt (suc i) n))
                where
                  go : Dec (suc i < n) → Refers rows (slot_at 3 w i) (f (suc i))
                  go (yes l) = subst (Refers rows (slot_at 3 w i)) (sym (before (suc i) l)) (s.refers i (omega arith))
                  go (no l) =
                      let e : len - 1 ≡ i = omega arith in
                      subst (Refers rows (slot_at 3 w i)) (sym (behind (suc i) (omega arith))) (subst (λ (y : ℕ). Refers rows y j) (last ∙ ap (slot_at 3 w) e) (down_refers x))

              under : (i : ℕ) → i ≤ n → f i < n
              under i h = go (dec_lt i n)
                where
                  go : Dec (i < n) → f i < n
                  go (yes l) = let e = before i l in omega (arith, s.inside i (omega arith))
                  go (no l) = let e = behind i (omega arith) in omega arith

          module _ (short : len ≡ n → ⊥) where
            way_here : slot_at 3 longer_work len ≡ j
            way_here = slot_same 3 w len j (omega (arith, s.room, s.fits, short))

            way_other : (i : ℕ) → i < len → slot_at 3 longer_work i ≡ slot_at 3 w i
            way_other i l = slot_other 3 3 w len i j (λ e. omega arith)

            known_same : (i : ℕ) → slot_at 2 longer_work i ≡ slot_at 2 w i
            known_same i = slot_other 3 2 w len i j (λ e. omega arith)

            as_many : zeros (slot_at 2 longer_work) n ≡ zeros (slot_at 2 w) n
            as_many = zeros_same (slot_at 2 w) (slot_at 2 longer_work) n (λ i l. known_same i)

            pub down_room : 4 * len + 3 < length w
            down_room = omega (arith, s.room, s.fits, short)

            pub climbing_down : Climbing longer_work (len + 1)
            climbing_down =
                record {
                  room = omega (arith, s.room, length-set w (4 * len + 3) (pos j));
                  fits = omega (arith, s.fits, short);
                  start = λ l. way_other 0 some ∙ s.start some;
                  inside = λ i l. inside_of i l (dec_lt i len);
                  refers = λ i l. refers_of i l (dec_lt (suc i) len);
                  unsettled = λ i l. unsettled_of i l (dec_lt i len);
                  knows = record { deep = λ i d l e. s.knows.deep i d l (sym (known_same i) ∙ e) };
                  small = λ i l. let e = known_same i in omega (arith, as_many, s.small i l);
                  ended = λ q e. omega arith;
                }
              where
                new : (i : ℕ) → i < len + 1 → (i < len → ⊥) → slot_at 3 longer_work i ≡ j
                new i l d = let e : i ≡ len = omega (arith, d) in ap (slot_at 3 longer_work) e ∙ way_here

                inside_of : (i : ℕ) → i < len + 1 → Dec (i < len) → slot_at 3 longer_work i < n
                inside_of i l (yes h) = let e = way_other i h in omega (arith, s.inside i h)
                inside_of i l (no h) = let e = new i l h in omega arith

                refers_of : (i : ℕ) → suc i < len + 1 → Dec (suc i < len) → Refers rows (slot_at 3 longer_work i) (slot_at 3 longer_work (suc i))
                refers_of i l (yes h) =
                    subst (λ (y : ℕ). Refers rows (slot_at 3 longer_work i) y) (sym (way_other (suc i) h))
                    (subst (λ (y : ℕ). Refers rows y (slot_at 3 w (suc i))) (sym (way_other i (omega arith))) (s.refers i h))
                refers_of i l (no h) =
                    let e : len - 1 ≡ i = omega (arith, h) in
                    subst (λ (y : ℕ). Refers rows (slot_at 3 longer_work i) y) (sym (new (suc i) l h))
                    (subst (λ (y : ℕ). Refers rows y j) (last ∙ ap (slot_at 3 w) e ∙ sym (way_other i (omega arith))) (down_refers x))

                unsettled_of : (i : ℕ) → i < len + 1 → Dec (i < len) → slot_at 2 longer_work (slot_at 3 longer_work i) ≡ 0
                unsettled_of i l (yes h) = ap (slot_at 2 longer_work) (way_other i h) ∙ known_same (slot_at 3 w i) ∙ s.unsettled i h
                unsettled_of i l (no h) = ap (slot_at 2 longer_work) (new i l h) ∙ known_same j ∙ down_unsettled x

            pub down_less : 2 * zeros (slot_at 2 longer_work) n + (n - (len + 1)) < 2 * zeros (slot_at 2 w) n + (n - len)
            down_less = omega (arith, as_many, s.fits, short)

    -- ---- the way is empty

    pub climbing_found : {d : ℕ} → 0 < n → len ≤ 0 → d ≡ slot_at 2 w 0 → Deepest rows (Some (d - 1))
    climbing_found {d} some h e =
        let t : slot_at 2 w 0 ≡ suc (d - 1) = omega (arith, s.ended (omega arith)) in
        Deepest.found (s.knows.deep 0 (d - 1) some t)

    pub found_some : {d : ℕ} → len ≤ 0 → d ≡ slot_at 2 w 0 → 1 ≤ d
    found_some {d} h e = omega (arith, s.ended (omega arith))
