-- The task's rows, cut out of the tables, are what a load has left; the pattern rows come back as they were.
use mathlib.Core.Path.{◌≡◌, ap, ◌∙◌, subst}
use mathlib.Core.List.{List, ◌++◌, append-nil}
use Prim.Native.Nat.{ℕ, ◌-◌, ◌*◌, ◌≤◌}
use native.Mathlib.Omega.{arith}
use lib.ListN.{length, take, drop, drop_of_length-le, take-append-drop}
use lib.Seq.{sets}
use borrow.Rule.Slice.PartMut.{put_mid}
use Rattle.laws.proofs.Tables.{sets-front}
use Rattle.written.specs.Sharing.{Side, own}
use Rattle.load_plan.specs.declared.Plan.{Plan}
use Rattle.load_bounds.specs.Bounds.{Cut}
use Rattle.load_bounds.proofs.Laws.{cut_own, cut_length}
use Rattle.house_model.specs.Model.{rule_of, Loaded}
use Rattle.house_own.specs.Own.{rule_in, LoadedIn}

-- a table put over itself, and a part of one put where it was
sets_self : (t : List ℕ) → sets t 0 t ≡ t
sets_self t =
    let l : length t ≤ length t = omega arith in
    sets-front t t l ∙ ap (λ (r : List ℕ). t ++ r) (drop_of_length-le t l) ∙ append-nil t

put_self : (a m : ℕ) (t : List ℕ) → put_mid a m t (take m (drop a t)) ≡ t
put_self a m t = ap (λ (r : List ℕ). take a t ++ r) (take-append-drop m (drop a t)) ∙ take-append-drop a t

module _ (x : Side) (d : List ℕ) (p : Plan) (q a t v : List ℕ) (h : LoadedIn x d p (length q) a (length t) (length v)) {j j' k k' : ℕ}
    (ca : Cut x 2 (length a) p.patterns j j') (ct : Cut x 6 (length t) p.trees k k') where
  pub own_loaded : Loaded d p (take (j' - j) (drop j a)) (length (take (k' - k) (drop k t)))
  own_loaded =
      record {
        sound = h.sound;
        room = omega (arith, cut_length x 2 a p.patterns j j' ca);
        there = subst (λ (w : List ℕ). sets (take (j' - j) (drop j a)) 0 w ≡ take (j' - j) (drop j a)) (cut_own x 2 a p.patterns j j' ca ∙ h.there) (sets_self (take (j' - j) (drop j a)));
        rows = omega (arith, cut_length x 6 t p.trees k k' ct);
      }

  module _ {i i' m m' : ℕ} (cq : Cut x 4 (length q) p.questions i i') (cv : Cut x 1 (length v) (p.entries * p.width) m m') where
    pub own_rule : {r : ℕ} → r ≡ rule_of d p (take (i' - i) (drop i q)) (take (k' - k) (drop k t)) (take (m' - m) (drop m v)) → r ≡ rule_in x d p q t v
    unfolding rule_in
    own_rule e =
        e ∙ ap (λ (w : List ℕ). rule_of d p w (take (k' - k) (drop k t)) (take (m' - m) (drop m v))) (cut_own x 4 q p.questions i i' cq)
        ∙ ap (λ (w : List ℕ). rule_of d p (own x 4 q p.questions) w (take (m' - m) (drop m v))) (cut_own x 6 t p.trees k k' ct)
        ∙ ap (rule_of d p (own x 4 q p.questions) (own x 6 t p.trees)) (cut_own x 1 v (p.entries * p.width) m m' cv)

  pub own_back : {w : List ℕ} → w ≡ take (j' - j) (drop j a) → put_mid j (j' - j) a w ≡ a
  own_back e = ap (put_mid j (j' - j) a) e ∙ put_self j (j' - j) a
