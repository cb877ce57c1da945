-- Lines and leaves found: the answer of each way.
use mathlib.Core.Path.{◌≡◌, sym, ap, ◌∙◌}
use mathlib.Core.Bool.{Bool, true, false, cond}
use mathlib.Core.List.{List, [], ◌∷◌}
use Prim.Native.Nat.{ℕ, suc, ◌+◌, ◌-◌, ◌≤◌, ◌<◌}
use native.Mathlib.Omega.{arith}
use borrow.Author.Tests.{eq-eqb, ne_eqb}
use lib.Dec.{eqb}
use lib.IntN.{ℤ}
use lib.ListN.{length}
use Rattle.std.specs.declared.option.Option.{Option}
use Rattle.std.specs.Prelude.{Some, None}
use Rattle.written.specs.Said.{Ref, node, pdf}
use Rattle.link_order.specs.Keys.{id_key, id_at}
use Rattle.link_search.specs.Found.{last_below, first_from}
use Rattle.link_search.specs.Index.{Index}
use Rattle.link_search.proofs.Last.{last_is_lem, last_none}
use Rattle.link_targets.specs.Targets.{moved, target_of, order_from, Ready, in_order, by_index}
use Rattle.link_targets.proofs.Refs.{order_at}

pub ready_index : {w : List ℤ} {n : ℕ} {i : List ℕ} {b : Bool} → Ready w n i b → b ≡ false → Index (λ e. id_key (id_at w e)) i × (length i ≡ n)
ready_index (in_order h) e = let u : ◌≡◌ {A = ℕ} 0 1 = cc in absurd (omega arith)
ready_index (by_index x l) e = (x, l)

ready_order : {w : List ℤ} {n : ℕ} {i : List ℕ} {b : Bool} → Ready w n i b → b ≡ true → order_from w 0 n ≡ true
ready_order (in_order h) e = h
ready_order (by_index x l) e = let u : ◌≡◌ {A = ℕ} 0 1 = cc in absurd (omega arith)

-- where the ids are in order, line k bears the id whose key is k below 2^63
module _ {w : List ℤ} {n : ℕ} {i : List ℕ} {b : Bool} (r : Ready w n i b) (t : b ≡ true) where
  keyed : (k : ℕ) → k < n → id_key (id_at w k) + k ≡ 9223372036854775808
  keyed k h = order_at w n 0 n (ready_order r t) k (omega arith) (omega arith)

  pub order_above : (K : ℕ) → 9223372036854775808 < K → last_below (λ e. eqb (id_key (id_at w e)) K) n ≡ None
  order_above K h = last_none (λ e. eqb (id_key (id_at w e)) K) n (λ m l. ne_eqb (id_key (id_at w m)) K (λ e. omega (arith, keyed m l)))

  pub order_found : (K : ℕ) → K ≤ 9223372036854775808 → 9223372036854775808 - K < n → last_below (λ e. eqb (id_key (id_at w e)) K) n ≡ Some (9223372036854775808 - K)
  order_found K h l =
      last_is_lem (λ e. eqb (id_key (id_at w e)) K) n (9223372036854775808 - K) l (eq-eqb (id_key (id_at w (9223372036854775808 - K))) K (omega (arith, keyed (9223372036854775808 - K) l)))
      (λ m a c. ne_eqb (id_key (id_at w m)) K (λ e. omega (arith, keyed m c)))

  pub order_past : (K : ℕ) → K ≤ 9223372036854775808 → n ≤ 9223372036854775808 - K → last_below (λ e. eqb (id_key (id_at w e)) K) n ≡ None
  order_past K h l = last_none (λ e. eqb (id_key (id_at w e)) K) n (λ m c. ne_eqb (id_key (id_at w m)) K (λ e. omega (arith, keyed m c)))

-- a place that is found is inside
pub first_inside : (p : ℕ → Bool) (k : ℕ) (l : List ℕ) (j : ℕ) → first_from p k l ≡ Some j → j < k + length l
unfolding first_from
first_inside p k [] j e = let u : ◌≡◌ {A = ℕ} 0 1 = cc in absurd (omega arith)
first_inside p k (x ∷ l) j e = go (p x) e (first_inside p (suc k) l j)
  where
    go : (b : Bool) → cond b (Some k) (first_from p (suc k) l) ≡ Some j → (first_from p (suc k) l ≡ Some j → j < suc k + length l) → j < k + suc (length l)
    go true q r = let s : k ≡ j = cc in omega arith
    go false q r = omega (arith, r q)

module _ (w : List ℤ) (n : ℕ) (leaves : List ℕ) {ref : Ref} where
  pub target_line : {x : ℤ} {r : Option ℕ} → ref ≡ node x → r ≡ last_below (λ e. eqb (id_key (id_at w e)) (id_key x)) n → r ≡ target_of w n leaves ref
  unfolding target_of
  target_line q e = e ∙ ap (target_of w n leaves) (sym q)

  pub target_leaf : {p : ℕ} {r f : Option ℕ} → ref ≡ pdf p → f ≡ first_from (λ e. eqb e p) 0 leaves → r ≡ moved n f → r ≡ target_of w n leaves ref
  unfolding target_of
  target_leaf q e m = m ∙ ap (moved n) e ∙ ap (target_of w n leaves) (sym q)
