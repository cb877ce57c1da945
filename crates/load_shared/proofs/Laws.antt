-- A part that is cut out of a table and comes back is the task's rows put there, at any width; and each way through the functions.
use mathlib.Core.Path.{◌≡◌, refl, sym, ap, ◌∙◌, subst}
use mathlib.Core.Bool.{Bool, true, false, not, cond, ◌&&◌}
use mathlib.Core.List.{List}
use Prim.Native.Nat.{ℕ, ◌-◌, ◌*◌, ◌/◌, ◌≤◌, ◌<◌}
use native.Mathlib.Nat.{one-mul}
use native.Mathlib.Omega.{arith}
use lib.Dec.{leb}
use lib.IntN.{ℤ}
use lib.ListN.{length, take, drop}
use borrow.Author.Tests.{le-leb, lt-leb, not-true, not-false}
use borrow.Rule.Slice.PartMut.{put_mid}
use Rattle.written.specs.Sharing.{Side, questions, patterns, trees, records, values, width, Held, put_rows, seen, Stand, stands}
use Rattle.error.specs.declared.Refusal.{Refusal}
use Rattle.error.specs.declared.Refusal.TheVariants as refusal
use Rattle.head_record.specs.declared.Header.{Header}
use Rattle.load_choose.specs.declared.Which.{Which}
use Rattle.load_plan.specs.Plans.{data_of, planned}
use Rattle.load_plan.specs.declared.Plan.{Plan}
use Rattle.load_model.specs.Load.{Tables as Lent, lent, After as FillAfter, room_for, filled, untouched as as_lent, Is}
use Rattle.load_model.proofs.Laws.{same_lent}
use Rattle.load_apart.proofs.Tests.{stands_is}
use Rattle.load_bounds.specs.declared.Held.{Held as Bounds}
use Rattle.load_shared.specs.Beside.{rows_of, with_work, Fits, put_back, placed_in, room_by, beside_for, beside_of, FillsOwn, PlacesBeside, LoadsBeside}
use Rattle.load_bounds.proofs.Laws.{cut_own, cut_length, cut_back, stands_at_lem}
use Rattle.load_bounds.specs.Bounds.{need_of, held_of, tables_of, stands_at, Cut}
use Rattle.load_model.specs.declared.Loaded.{Loaded}
use Rattle.std.specs.Prelude.{Err, Ok, Result}

-- ---- a plan filled into the parts

pub room_true : (p : Plan) (q a t c v w : ℕ) → p.questions ≤ q / 4 → p.patterns ≤ a / 2 → p.trees ≤ t / 6 → p.records ≤ c / 4 → p.entries * p.width ≤ v → p.lines ≤ w / 6 → room_for p q a t c v w ≡ true
unfolding room_for
room_true p q a t c v w h i j k l m = rw (le-leb _ _ h, le-leb _ _ i, le-leb _ _ j, le-leb _ _ k, le-leb _ _ l, le-leb _ _ m) refl

module _ (x : Side) (d : List ℕ) (p : Plan) (q a t c v : List ℕ) (w : List ℤ) {i i' j j' k k' l l' m m' : ℕ} (cq : Cut x 4 (length q) p.questions i i') (ca : Cut x 2 (length a) p.patterns j j')
    (ct : Cut x 6 (length t) p.trees k k') (cc' : Cut x 4 (length c) p.records l l') (cv : Cut x 1 (length v) (p.entries * p.width) m m') where
  pub parts_room : p.lines ≤ length w / 6 → room_for p (length (take (i' - i) (drop i q))) (length (take (j' - j) (drop j a))) (length (take (k' - k) (drop k t))) (length (take (l' - l) (drop l c))) (length (take (m' - m) (drop m v))) (length w) ≡ true
  parts_room h =
      room_true p _ _ _ _ _ _ (omega (arith, cut_length x 4 q p.questions i i' cq)) (omega (arith, cut_length x 2 a p.patterns j j' ca)) (omega (arith, cut_length x 6 t p.trees k k' ct))
      (omega (arith, cut_length x 4 c p.records l l' cc')) (omega (arith, cut_length x 1 v (p.entries * p.width) m m' cv, one-mul (p.entries * p.width))) h

  -- the parts that are lent are the task's rows
  parts_own : lent (take (i' - i) (drop i q)) (take (j' - j) (drop j a)) (take (k' - k) (drop k t)) (take (l' - l) (drop l c)) (take (m' - m) (drop m v)) w
      ≡ with_work (seen x (need_of p) (tables_of q a t c v)) w
  parts_own =
      same_lent (cut_own x 4 q p.questions i i' cq) (cut_own x 2 a p.patterns j j' ca) (cut_own x 6 t p.trees k k' ct) (cut_own x 4 c p.records l l' cc')
      (cut_own x 1 v (p.entries * p.width) m m' cv) refl

  -- what any filling makes of them comes back to where they stand
  pub own_put : (fill : Lent → FillAfter) {r : Result Loaded Refusal} {q₁ a₁ t₁ c₁ v₁ : List ℕ} {w₁ : List ℤ}
      → Is (fill (lent (take (i' - i) (drop i q)) (take (j' - j) (drop j a)) (take (k' - k) (drop k t)) (take (l' - l) (drop l c)) (take (m' - m) (drop m v)) w)) r (lent q₁ a₁ t₁ c₁ v₁ w₁)
      → length q₁ ≡ length (take (i' - i) (drop i q)) → length a₁ ≡ length (take (j' - j) (drop j a)) → length t₁ ≡ length (take (k' - k) (drop k t)) → length c₁ ≡ length (take (l' - l) (drop l c))
      → length v₁ ≡ length (take (m' - m) (drop m v))
      → Is (put_back x p (lent q a t c v w) (fill (with_work (seen x (need_of p) (tables_of q a t c v)) w))) r
      (lent (put_mid i (i' - i) q q₁) (put_mid j (j' - j) a a₁) (put_mid k (k' - k) t t₁) (put_mid l (l' - l) c c₁) (put_mid m (m' - m) v v₁) w₁)
  own_put fill {q₁ = q₁} {a₁} {t₁} {c₁} {v₁} f lq la lt lc lv =
      let e = ap fill parts_own in
      let g = f.1 ∙ ap (λ (o : FillAfter). o.tables) e in (
        f.0 ∙ ap (λ (o : FillAfter). o.answer) e,
        same_lent
            (cut_back x 4 q p.questions i i' cq q₁ lq ∙ ap (λ (T : Lent). put_rows x 4 q p.questions T.questions) g)
            (cut_back x 2 a p.patterns j j' ca a₁ la ∙ ap (λ (T : Lent). put_rows x 2 a p.patterns T.patterns) g)
            (cut_back x 6 t p.trees k k' ct t₁ lt ∙ ap (λ (T : Lent). put_rows x 6 t p.trees T.trees) g)
            (cut_back x 4 c p.records l l' cc' c₁ lc ∙ ap (λ (T : Lent). put_rows x 4 c p.records T.records) g)
            (cut_back x 1 v (p.entries * p.width) m m' cv v₁ lv ∙ ap (λ (T : Lent). put_rows x 1 v (p.entries * p.width) T.values) g)
            (ap (λ (T : Lent). T.work) g),
      )

  pub own_filled : {r : Result Loaded Refusal} {q₁ a₁ t₁ c₁ v₁ : List ℕ} {w₁ : List ℤ}
      → Is (filled d p (lent (take (i' - i) (drop i q)) (take (j' - j) (drop j a)) (take (k' - k) (drop k t)) (take (l' - l) (drop l c)) (take (m' - m) (drop m v)) w)) r (lent q₁ a₁ t₁ c₁ v₁ w₁)
      → length q₁ ≡ length (take (i' - i) (drop i q)) → length a₁ ≡ length (take (j' - j) (drop j a)) → length t₁ ≡ length (take (k' - k) (drop k t)) → length c₁ ≡ length (take (l' - l) (drop l c))
      → length v₁ ≡ length (take (m' - m) (drop m v))
      → FillsOwn x d p (lent q a t c v w) r (lent (put_mid i (i' - i) q q₁) (put_mid j (j' - j) a a₁) (put_mid k (k' - k) t t₁) (put_mid l (l' - l) c c₁) (put_mid m (m' - m) v v₁) w₁)
  unfolding placed_in
  own_filled f lq la lt lc lv = own_put (filled d p) f lq la lt lc lv

-- ---- each way through a load

-- of a plan in the data d
module _ (x : Side) (d : List ℕ) (p : Plan) (other : Held) (T : Lent) where
  by_room : (b : Bool) → room_by p other T ≡ b → {l : Result Loaded Refusal} {T₁ : Lent} → Is (cond b (placed_in x d p T) (as_lent refusal.Room T)) l T₁ → PlacesBeside x d p other T l T₁
  by_room b k {l} {T₁} z = subst (λ (b : Bool). Is (cond b (placed_in x d p T) (as_lent refusal.Room T)) l T₁) (sym k) z

  -- the rows as the code judges them, of bounds that are the plan's need
  module _ (n : Bounds) {b : Bool} (i : held_of n ≡ need_of p)
      (j : b ≡ stands_at (held_of n) other (length T.questions) (length T.patterns) (length T.trees) (length T.records) (length T.values)) where
    pub rows_judged : stands (rows_of T) (need_of p) other ≡ b
    rows_judged =
        sym (stands_at_lem (need_of p) other T.questions T.patterns T.trees T.records T.values)
        ∙ ap (λ (m : Held). stands_at m other (length T.questions) (length T.patterns) (length T.trees) (length T.records) (length T.values)) (sym i) ∙ sym j

    pub load_no_rows : not b ≡ true → PlacesBeside x d p other T (Err refusal.Room) T
    load_no_rows f = by_room false (ap (λ (c : Bool). c && leb p.lines (length T.work / 6)) (rows_judged ∙ not-true b f)) (refl, refl)

    pub load_no_lines : not b ≡ false → length T.work / 6 < p.lines → PlacesBeside x d p other T (Err refusal.Room) T
    load_no_lines f l = by_room false (ap (λ (c : Bool). c && leb p.lines (length T.work / 6)) (rows_judged ∙ not-false b f) ∙ lt-leb _ _ l) (refl, refl)

    pub load_filled : not b ≡ false → p.lines ≤ length T.work / 6 → {l : Result Loaded Refusal} {T₁ : Lent} → FillsOwn x d p T l T₁ → PlacesBeside x d p other T l T₁
    load_filled f k z = by_room true (ap (λ (c : Bool). c && leb p.lines (length T.work / 6)) (rows_judged ∙ not-false b f) ∙ le-leb _ _ k) z

    -- bounds that stand have room for a plan that needs them
    pub load_fits : not b ≡ false → p.lines ≤ length T.work / 6 → Fits p (length T.questions) (length T.patterns) (length T.trees) (length T.records) (length T.values) (length T.work)
    load_fits f k =
        let g : Stand (rows_of T) (need_of p) other = stands_is (rows_of T) (need_of p) other (rows_judged ∙ not-false b f) in
        record {
          questions = omega (arith, g questions);
          patterns = omega (arith, g patterns);
          trees = omega (arith, g trees);
          records = omega (arith, g records);
          values = omega (arith, g values);
          lines = k;
        }

-- of the model asked for
module _ (x : Side) (s : List ℕ) (h : Header) (which : Which) (other : Held) (T : Lent) where
  pub load_refused : {z : Refusal} → Err z ≡ planned s h which → LoadsBeside x s h which other T (Err z) T
  unfolding beside_of
  load_refused {z} e = subst (λ (o : Result Plan Refusal). Is (beside_for x other (data_of s h) o T) (Err z) T) e (refl, refl)

  pub load_model : (p : Plan) → Ok p ≡ planned s h which → {d : List ℕ} {l : Result Loaded Refusal} {T₁ : Lent} → d ≡ data_of s h → PlacesBeside x d p other T l T₁ → LoadsBeside x s h which other T l T₁
  unfolding beside_of
  load_model p e {d} {l} {T₁} y z =
      subst (λ (o : Result Plan Refusal). Is (beside_for x other (data_of s h) o T) l T₁) e (subst (λ (d : List ℕ). Is (beside_for x other d (Ok p) T) l T₁) y z)
