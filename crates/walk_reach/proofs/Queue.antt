-- The queue of records that can be met: how it begins, grows by a record, and what it says when all of it is visited.
use mathlib.Core.Path.{◌≡◌, refl, sym, ap, ◌∙◌, subst}
use mathlib.Core.Bool.{true, false}
use mathlib.Core.List.{List, [], ◌∷◌}
use mathlib.Core.Logic.{◌⊎◌, inl, inr}
use Prim.Native.Nat.{ℕ, suc, ◌+◌, ◌*◌, ◌≤◌, ◌<◌}
use native.Mathlib.Decide.{dec_lt, ℕ_discrete}
use native.Mathlib.Omega.{arith}
use lib.IntN.{ℤ, pos}
use lib.ListN.{length, set, replicate, length-set}
use Rattle.std.specs.declared.option.Option.{Option}
use Rattle.std.specs.Prelude.{Some, None}
use Rattle.written.specs.Linking.{Row, Nth, branch}
use Rattle.written.specs.Depths.{Path, stay, on, Refers, Met, Good}
use Rattle.walk_reach.specs.Work.{slot_at, zeros, Pushed, known, new}
use Rattle.walk_reach.specs.Reaching.{Queue, Marked, Grown, Visits, Reaches}
use Rattle.walk_reach.proofs.Slots.{slot_same, slot_other, slot_zero, zeros_fewer, zeros_all}
use Rattle.walk_reach.proofs.Rows.{line_refers, leaf_refers}

module _ (rows : List Row) (n : ℕ) where
  -- nothing is met yet
  pub queue_none : {w : List ℤ} → 4 * n ≤ length w → w ≡ replicate (length w) (pos 0) → Queue rows n w 0
  queue_none {w} h e =
      let z : (j : ℕ) → j < n → slot_at 0 w j ≡ 0 = λ j l. slot_zero 0 w j e (omega arith) in
      record {
        room = h;
        inside = λ i l. absurd (omega arith);
        met = λ i l. absurd (omega arith);
        queued = λ j l d. absurd (d (z j l));
        counted = let c : zeros (slot_at 0 w) n ≡ n = zeros_all (slot_at 0 w) n z in omega arith;
      }

  -- ---- a record more

  pub record More (w : List ℤ) (tail : ℕ) (w' : List ℤ) (r j : ℕ) : Type 0 where
    pub queue : Queue rows n w' r
    pub grown : Grown rows n w tail w' r
    pub marked : Marked rows n w' j

  module _ {w : List ℤ} {tail : ℕ} (q : Queue rows n w tail) where
    grown_none : Grown rows n w tail w tail
    grown_none = record { longer = omega arith; stays = λ i h. refl; marks = λ j m. m }

    module _ {j : ℕ} (below : j < n) (meets : Met rows j) where
      -- an unmarked record leaves room in the queue
      module _ (fresh : slot_at 0 w j ≡ 0) where
        abbrev marked_work : List ℤ
        marked_work = set w (4 * j + 0) (pos 1)

        abbrev pushed_work : List ℤ
        pushed_work = set marked_work (4 * tail + 1) (pos j)

        mark_here : slot_at 0 pushed_work j ≡ 1
        mark_here = slot_other 1 0 marked_work tail j j (λ e. omega arith) ∙ slot_same 0 w j 1 (omega (arith, q.room))

        mark_other : (i : ℕ) → (i ≡ j → ⊥) → slot_at 0 pushed_work i ≡ slot_at 0 w i
        mark_other i d = slot_other 1 0 marked_work tail i j (λ e. omega arith) ∙ slot_other 0 0 w j i 1 (λ e. d (omega arith))

        fewer : suc (zeros (slot_at 0 pushed_work) n) ≡ zeros (slot_at 0 w) n
        fewer = zeros_fewer (slot_at 0 w) (slot_at 0 pushed_work) n j below fresh (λ e. let z = mark_here in omega arith) (λ i l d. mark_other i d)

        pub room_left : tail < n
        room_left = omega (arith, fewer, q.counted)

        queue_here : slot_at 1 pushed_work tail ≡ j
        queue_here = slot_same 1 marked_work tail j (omega (arith, q.room, room_left, length-set w (4 * j + 0) (pos 1)))

        queue_other : (i : ℕ) → (i ≡ tail → ⊥) → slot_at 1 pushed_work i ≡ slot_at 1 w i
        queue_other i d = slot_other 1 1 marked_work tail i j (λ e. d (omega arith)) ∙ slot_other 0 1 w j i 1 (λ e. omega arith)

        added : More w tail pushed_work (tail + 1) j
        added =
            record {
              queue =
                  record {
                    room = omega (arith, q.room, length-set w (4 * j + 0) (pos 1), length-set marked_work (4 * tail + 1) (pos j));
                    inside = λ i l. inside_of i l (dec_lt i tail);
                    met = λ i l. met_of i l (dec_lt i tail);
                    queued = λ i l d. queued_of i l d (ℕ_discrete i j);
                    counted = omega (arith, fewer, q.counted);
                  };
              grown = record { longer = omega arith; stays = λ i l. queue_other i (λ e. omega arith); marks = λ i m. record { inside = m.inside; marked = λ e. marks_of i m.marked e (ℕ_discrete i j) } };
              marked = record { inside = below; marked = λ e. let z = mark_here in omega arith };
            }
          where
            last : (i : ℕ) → i < tail + 1 → (i < tail → ⊥) → slot_at 1 pushed_work i ≡ j
            last i l d = let e : i ≡ tail = omega (arith, d) in ap (slot_at 1 pushed_work) e ∙ queue_here

            inside_of : (i : ℕ) → i < tail + 1 → Dec (i < tail) → slot_at 1 pushed_work i < n
            inside_of i l (yes h) = let e = queue_other i (λ z. omega arith) in omega (arith, q.inside i h)
            inside_of i l (no h) = let e = last i l h in omega arith

            met_of : (i : ℕ) → i < tail + 1 → Dec (i < tail) → Met rows (slot_at 1 pushed_work i)
            met_of i l (yes h) = subst (Met rows) (sym (queue_other i (λ z. omega arith))) (q.met i h)
            met_of i l (no h) = subst (Met rows) (sym (last i l h)) meets

            queued_of : (i : ℕ) → i < n → (slot_at 0 pushed_work i ≡ 0 → ⊥) → Dec (i ≡ j) → (k : ℕ) × (k < tail + 1) × (slot_at 1 pushed_work k ≡ i)
            queued_of i l d (yes e) = (tail, omega arith, queue_here ∙ sym e)
            queued_of i l d (no e) =
                let r = q.queued i l (λ z. d (mark_other i e ∙ z)) in
                (r.0, omega (arith, r.1), queue_other r.0 (λ z. omega (arith, r.1)) ∙ r.2)

            marks_of : (i : ℕ) → (slot_at 0 w i ≡ 0 → ⊥) → slot_at 0 pushed_work i ≡ 0 → Dec (i ≡ j) → ⊥
            marks_of i d e (yes h) = let z : slot_at 0 pushed_work i ≡ 1 = ap (slot_at 0 pushed_work) h ∙ mark_here in omega arith
            marks_of i d e (no h) = d (sym (mark_other i h) ∙ e)

      pub pushed_more : {r : ℕ} {w' : List ℤ} → Pushed w tail j r w' → More w tail w' r j
      pushed_more {r} {w'} (known d e u) =
          subst (λ (x : List ℤ). More w tail x r j) (sym u)
          (subst (λ (x : ℕ). More w tail w x j) (sym e) (record { queue = q; grown = grown_none; marked = record { inside = below; marked = d } }))
      pushed_more {r} {w'} (new f e u) = subst (λ (x : List ℤ). More w tail x r j) (sym u) (subst (λ (x : ℕ). More w tail (pushed_work f) x j) (sym e) (added f))

      -- what pushing asks
      pub push_room : slot_at 0 w j ≡ 0 → 4 * tail + 4 ≤ length w
      push_room f = omega (arith, room_left f, q.room)

      pub push_inside : 4 * j + 4 ≤ length w
      push_inside = omega (arith, q.room)

    -- ---- a visit

    pub visit_leaf : {k p a b : ℕ} → Nth rows k (1 ∷ p ∷ a ∷ b ∷ []) → Visits rows n w tail k (Some tail) w
    visit_leaf h = Visits.on q grown_none (Good.leaf h) (λ j r. absurd (leaf_refers h r))

    pub visit_line : {k x y z v next : ℕ} {w₁ w₂ : List ℤ} → Nth rows k (branch x y z) → More w tail w₁ v y → More w₁ v w₂ next z → Visits rows n w tail k (Some next) w₂
    visit_line {y = y} {z = z} {w₂ = w₂} h a b =
        Visits.on b.queue
        (record {
          longer = omega (arith, a.grown.longer, b.grown.longer);
          stays = λ i l. b.grown.stays i (omega (arith, a.grown.longer)) ∙ a.grown.stays i l;
          marks = λ i m. b.grown.marks i (a.grown.marks i m);
        })
        (Good.line h) (λ j r. pick j (line_refers h r))
      where
        pick : (j : ℕ) → (j ≡ y) ⊎ (j ≡ z) → Marked rows n w₂ j
        pick j (inl e) = subst (Marked rows n w₂) (sym e) (b.grown.marks y a.marked)
        pick j (inr e) = subst (Marked rows n w₂) (sym e) b.marked

  -- ---- all of it visited

  pub record Reaching (w : List ℤ) (head tail : ℕ) : Type 0 where
    pub queue : Queue rows n w tail
    pub order : head ≤ tail
    pub start : Marked rows n w 0
    pub good : (i : ℕ) → i < head → Good rows (slot_at 1 w i)
    pub closed : (i : ℕ) → i < head → (j : ℕ) → Refers rows (slot_at 1 w i) j → Marked rows n w j

  pub reaching_none : {w w' : List ℤ} {tail r : ℕ} → More w tail w' r 0 → Reaching w' 0 r
  reaching_none m = record { queue = m.queue; order = omega arith; start = m.marked; good = λ i h. absurd (omega arith); closed = λ i h. absurd (omega arith) }

  module _ {w : List ℤ} {head tail : ℕ} (s : Reaching w head tail) (h : head < tail) where
    pub head_met : Met rows (slot_at 1 w head)
    head_met = s.queue.met head h

    pub head_room : 4 * head + 1 < length w
    head_room = omega (arith, s.queue.counted, s.queue.room)

    pub head_below : head < n
    head_below = omega (arith, s.queue.counted)

    pub reaching_more : {k next : ℕ} {v : Option ℕ} {w' : List ℤ} → k ≡ slot_at 1 w head → Visits rows n w tail k v w' → v ≡ Some next → Reaching w' (head + 1) next
    reaching_more {k} {next} {w' = w'} e (Visits.on {next = m} q g a f) u =
        let z : m ≡ next = cc in
        subst (Reaching w' (head + 1)) z
        (record {
          queue = q;
          order = omega (arith, g.longer);
          start = g.marks 0 s.start;
          good = λ i l. good_of i l (dec_lt i head);
          closed = λ i l. closed_of i l (dec_lt i head);
        })
      where
        stays : (i : ℕ) → i < tail → slot_at 1 w i ≡ slot_at 1 w' i
        stays i l = sym (g.stays i l)

        last : (i : ℕ) → i < head + 1 → (i < head → ⊥) → k ≡ slot_at 1 w' i
        last i l d = let z : head ≡ i = omega (arith, d) in e ∙ stays head h ∙ ap (slot_at 1 w') z

        good_of : (i : ℕ) → i < head + 1 → Dec (i < head) → Good rows (slot_at 1 w' i)
        good_of i l (yes d) = subst (Good rows) (stays i (omega (arith, s.order))) (s.good i d)
        good_of i l (no d) = subst (Good rows) (last i l d) a

        closed_of : (i : ℕ) → i < head + 1 → Dec (i < head) → (j : ℕ) → Refers rows (slot_at 1 w' i) j → Marked rows n w' j
        closed_of i l (yes d) j r = g.marks j (s.closed i d j (subst (λ (x : ℕ). Refers rows x j) (sym (stays i (omega (arith, s.order)))) r))
        closed_of i l (no d) j r = f j (subst (λ (x : ℕ). Refers rows x j) (sym (last i l d)) r)
    reaching_more e (Visits.outside m g) u = let z : ◌≡◌ {A = ℕ} 0 1 = cc in absurd (omega arith)

    pub reaching_bad : {k : ℕ} {v : Option ℕ} {w' : List ℤ} → Visits rows n w tail k v w' → v ≡ None → Reaches rows false
    reaching_bad (Visits.on q g a f) u = let z : ◌≡◌ {A = ℕ} 0 1 = cc in absurd (omega arith)
    reaching_bad (Visits.outside m g) u = Reaches.one_bad m g

  module _ {w : List ℤ} {head tail : ℕ} (s : Reaching w head tail) (h : tail ≤ head) where
    -- what is marked stands in the queue, and so is good, and all that it refers to is marked
    marked_good : {j : ℕ} → Marked rows n w j → Good rows j
    marked_good {j} m = let r = s.queue.queued j m.inside m.marked in subst (Good rows) r.2 (s.good r.0 (omega (arith, r.1)))

    marked_on : {i j : ℕ} → Marked rows n w i → Refers rows i j → Marked rows n w j
    marked_on {i} {j} m x = let r = s.queue.queued i m.inside m.marked in s.closed r.0 (omega (arith, r.1)) j (subst (λ (k : ℕ). Refers rows k j) (sym r.2) x)

    marked_path : {i j m : ℕ} → Path rows i j m → Marked rows n w i → Marked rows n w j
    marked_path stay m = m
    marked_path (on r p) m = marked_path p (marked_on m r)

    pub reaching_all : Reaches rows true
    reaching_all = Reaches.all_good (λ j m. marked_good (marked_path m.1 s.start))
