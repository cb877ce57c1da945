-- The load of one tree into a task's rows: where the rows reach the text's trees and there is room, the task's own rows are those that the full load has for that tree. Refusals
-- before linking leave all as it was; 21 to 23 leave the rows needed zero, and the work.
use mathlib.Core.Path.{◌≡◌, refl, sym, ap, ◌∙◌, subst}
use mathlib.Core.Bool.{Bool, true, false, cond}
use mathlib.Core.List.{List}
use Prim.Native.Nat.{ℕ, ◌^◌, ◌<◌}
use native.Mathlib.Omega.{arith}
use lib.IntN.{pos}
use lib.ListN.{length, take, replicate}
use Rattle.written.specs.Said as said
use Rattle.written.specs.Linking.{Nth}
use Rattle.written.specs.Sharing.{Side, Held, seen}
use Rattle.error.specs.declared.LinkFault.{LinkFault}
use Rattle.error.specs.declared.Refusal.{Refusal}
use Rattle.error.specs.declared.Refusal.TheVariants as refusal
use Rattle.head_record.specs.declared.Header.{Header}
use Rattle.tree_body.specs.Trees.{tree_of}
use Rattle.pdf_blocks.proofs.Joined.{Small}
use Rattle.load_choose.specs.declared.Which.{Which}
use Rattle.load_plan.specs.Plans.{data_of}
use Rattle.load_plan.specs.declared.Plan.{Plan}
use Rattle.load_model.specs.Load.{Tables, lent, After, answer_for, untouched}
use Rattle.load_shared.specs.Beside.{rows_of, with_work, put_back, room_by}
use Rattle.load_bounds.specs.Bounds.{need_of}
use Rattle.trail_link.specs.One.{one_end}
use Rattle.trail_plan.specs.Plans.{tree_planned}
use Rattle.trail_load.specs.Load.{tree_filled_by, tree_filled, tree_placed_in, tree_beside_for, tree_beside}
use Rattle.shown_load.specs.Stored.{Stored}
use Rattle.shown_one.specs.One.{Reaching, OneStored}
use Rattle.shown_one.proofs.Plan.{one_plan, tree_planned_lem}
use Rattle.shown_one.proofs.AsFull.{S-short, as_full}
use Rattle.load_trees.specs.declared.TreeFault.{TreeFault}
use Rattle.std.specs.Prelude.{Err, Ok, Result, ⊤}

clash : {A : Type 0} → ◌≡◌ {A = ℕ} 0 1 → A
clash e = absurd (omega arith)

-- the task's own rows of the plan's need, and the work
abbrev pub own : Side → Plan → Tables → Tables
own x p T = with_work (seen x (need_of p) (rows_of T)) T.work

-- what is loaded beside the other task is what filling makes of the task's own rows, put back; and that is what a full load has for the tree
pub record BesideAsFull {s : List ℕ} {h : Header} {which : Which} {F : Tables} {X : After} (K : Stored s h which F X) (x : Side) (k : ℕ) (p : Plan) (T : Tables) (o : After) : Type 0 where
  pub filled : After
  pub placed : o ≡ put_back x p T filled
  pub stored : OneStored K k (own x p T) filled

module _ (s : List ℕ) (h : Header) (which : Which) (short : length s < 2 ^ 63) (small : Small s) {F : Tables} {X : After} (K : Stored s h which F X) {m : ℕ} (r : Reaching s h m K.l) where
  pub beside_as_full : {k : ℕ} {x : said.Tree} {y : said.TreePlace} → Nth K.t.trees k x → Nth K.l.trees k y → (side : Side) (other : Held) (T : Tables)
      → room_by (one_plan (data_of s h) K.p (tree_of x y) k) other T ≡ true
      → BesideAsFull K side k (one_plan (data_of s h) K.p (tree_of x y) k) T (tree_beside side s h which m k other T)
  unfolding tree_beside tree_placed_in
  beside_as_full {k} {x} {y} i j side other T room =
      let d = data_of s h in
      let P = one_plan d K.p (tree_of x y) k in
      let e = tree_planned_lem s h which K.chose i j (S-short s h which short K.chose) r in
      record {
        filled = tree_filled d k P (own side P T);
        placed = sym (ap (λ (o : Result Plan Refusal). tree_beside_for side other d k o T) e) ∙ ap (λ (b : Bool). cond b (tree_placed_in side d k P T) (untouched refusal.Room T)) room;
        stored = as_full s h which short small K i j (own side P T);
      }

-- ---- refusals

-- a refusal of linking
pub data OfLinking : Refusal → Type 0 where
  unlinked : {g : LinkFault} {i k : ℕ} → OfLinking (refusal.Unlinked g i k)

-- how a load that is not done leaves what was lent
pub data Refuses (x : Side) (T : Tables) : Refusal → Tables → Type 0 where
  kept : {z : Refusal} → Refuses x T z T
  zeroed : {z : Refusal} (p : Plan) (L : Tables) → OfLinking z → L ≡ lent (replicate (length (own x p T).questions) 0) (replicate (length (own x p T).patterns) 0) (replicate (length (own x p T).trees) 0) (replicate (length (own x p T).records) 0) (replicate (length (own x p T).values) 0) (replicate (length T.work) (pos 0))
      → Refuses x T z (put_back x p T (record { answer = Err z; tables = L })).tables

module _ (x : Side) (d : List ℕ) (k : ℕ) (p : Plan) (T : Tables) where
  by_end : (o : Result ⊤ TreeFault) {z : Refusal} → answer_for p o ≡ Err z → (a : List ℕ) (b c : ℕ) (g : List ℕ)
      → Refuses x T z (put_back x p T (tree_filled_by p a b c g o (own x p T))).tables
  by_end (Ok _) e a b c g = clash cc
  by_end (Err l) {z} e a b c g = let record { fault = f; tree = q; line = j } = l in let u : refusal.Unlinked f q j ≡ z = cc in subst (λ (z : Refusal). Refuses x T z (put_back x p T (tree_filled_by p a b c g (Err l) (own x p T))).tables) u (zeroed p _ unlinked refl)

pub tree_refuses : (x : Side) (s : List ℕ) (h : Header) (which : Which) (m k : ℕ) (other : Held) (T : Tables) {z : Refusal} → (tree_beside x s h which m k other T).answer ≡ Err z
    → Refuses x T z (tree_beside x s h which m k other T).tables
unfolding tree_beside tree_placed_in tree_filled
tree_refuses x s h which m k other T {z} e = go (tree_planned s h which m k) e
  where
    go : (o : Result Plan Refusal) → (tree_beside_for x other (data_of s h) k o T).answer ≡ Err z → Refuses x T z (tree_beside_for x other (data_of s h) k o T).tables
    go (Err y) e = kept
    go (Ok p) e = by (room_by p other T) e
      where
        by : (b : Bool) → (cond b (tree_placed_in x (data_of s h) k p T) (untouched refusal.Room T)).answer ≡ Err z → Refuses x T z (cond b (tree_placed_in x (data_of s h) k p T) (untouched refusal.Room T)).tables
        by false e = kept
        by true e = by_end x (data_of s h) k p T (one_end (take p.text_end (data_of s h)) p.text p.first k) e (take p.text_end (data_of s h)) p.text p.first (take p.block_end (data_of s h))
