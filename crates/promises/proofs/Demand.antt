-- Demand 1 by number, of the loads and the unload: 0, or a number that changes nothing that is lent, or 21 to 23 and the rows that were needed are zero. Of an opening it is
-- `open-leaves`, of the writer `write-leaves`; no other call writes anything but its answer.
use mathlib.Core.Path.{◌≡◌, refl, sym, ap, subst}
use mathlib.Core.Bool.{Bool, cond}
use mathlib.Core.List.{List}
use mathlib.Core.Logic.{◌⊎◌, inl, inr}
use Prim.Native.Nat.{ℕ, ◌≤◌, ◌<◌}
use native.Mathlib.Omega.{arith}
use borrow.Author.Tests.{ne_eqb}
use lib.ListN.{get_or, drop}
use lib.Seq.{sets}
use Rattle.written.specs.Record.{Header}
use Rattle.written.specs.Models.{Model}
use Rattle.written.specs.Loading.{ModelSaid}
use Rattle.written.specs.Sharing as sharing
use Rattle.load_model.specs.Load.{Tables}
use Rattle.load_shared.specs.Beside.{rows_of}
use Rattle.face_shared.specs.Answers.{held_at, side_at}
use Rattle.promises.specs.Loading.{zeroed, refused_numbers, LoadEnds, AfterLoad}
use Rattle.promises.specs.Sharing.{needed, zero_work, bounds_after, BesideEnds, SharedEnds, AfterShared, AfterUnload}
use Rattle.written_models.proofs.Numbers.{linking_number, no_model_number}

-- ---- larsavim_load

-- a number, and what was lent after it
pub data ByNumber (t : Tables) : ℕ → Tables → Type 0 where
  done : {u : Tables} → ByNumber t 0 u
  as_before : {r : ℕ} → 0 < r → r ≤ 20 → ByNumber t r t
  zero : {r : ℕ} (x : ModelSaid) → 20 < r → r ≤ 23 → ByNumber t r (zeroed x t)

pub load_by_number : {s : List ℕ} {h : Header} {m : Model} {t u : Tables} {out o : List ℕ} {r : ℕ} → AfterLoad s h m t out r u o → ByNumber t r u
load_by_number (AfterLoad.short_out a) = ByNumber.as_before {r = 20} (omega arith) (omega arith)
load_by_number {s} {h} {m} {t} (AfterLoad.ended a x) = go x
  where
    go : {l : List ℕ} {u : Tables} → LoadEnds s h m t l u → ByNumber t (get_or l 0 0) u
    go (LoadEnds.loaded a b c) = ByNumber.done
    go (LoadEnds.no_model {n = c} n l) = ByNumber.as_before {r = c} (omega (arith, (no_model_number n).0)) (omega arith)
    go (LoadEnds.no_room a b) = ByNumber.as_before {r = 20} (omega arith) (omega arith)
    go (LoadEnds.unlinked {x = x} a b c) = let k = linking_number c in ByNumber.zero x k.0 k.1

-- ---- larsavim_load_shared

-- a number, the task's bounds and what was lent after it
pub data SharedByNumber (d : ℕ) (held : List ℕ) (t : Tables) : ℕ → List ℕ → Tables → Type 0 where
  done : {held₁ : List ℕ} {u : Tables} → SharedByNumber d held t 0 held₁ u
  as_before : {r : ℕ} → 0 < r → (r ≤ 20) ⊎ ((r ≡ 24) ⊎ (r ≡ 29)) → SharedByNumber d held t r held t
  zero : {r : ℕ} (y : ModelSaid) → 20 < r → r ≤ 23 → SharedByNumber d held t r held (zero_work (sharing.cleared (side_at d) (needed y) (rows_of t)) t)

-- refused, the bounds stay
kept_bounds : {d : ℕ} {held : List ℕ} {t u : Tables} (l : List ℕ) → 0 < get_or l 0 0 → SharedByNumber d held t (get_or l 0 0) held u → SharedByNumber d held t (get_or l 0 0) (bounds_after l held) u
kept_bounds {d} {held} {t} {u} l p x =
    subst (λ (b : List ℕ). SharedByNumber d held t (get_or l 0 0) b u) (sym (ap (λ (c : Bool). cond c (sets held 0 (drop 3 l)) held) (ne_eqb (get_or l 0 0) 0 (λ e. omega arith)))) x

pub shared_by_number : {s : List ℕ} {h : Header} {m : Model} {d : ℕ} {held other : List ℕ} {t u : Tables} {out o held₁ : List ℕ} {r : ℕ}
    → AfterShared s h m d held other t out r held₁ u o → SharedByNumber d held t r held₁ u
shared_by_number (AfterShared.short a) = SharedByNumber.as_before {r = 20} (omega arith) (inl (omega arith))
shared_by_number {s} {h} {m} {d} {held} {other} {t} (AfterShared.ended a b c x) = go x
  where
    loaded_so : {l : List ℕ} {u : Tables} → BesideEnds (side_at d) s h m (held_at other) t l u → SharedByNumber d held t (get_or l 0 0) (bounds_after l held) u
    loaded_so (BesideEnds.loaded a b c) = SharedByNumber.done
    loaded_so (BesideEnds.no_model {n = n} {p = p} {k = k} x l) =
        let z : 0 < n = omega (arith, (no_model_number x).0) in kept_bounds (refused_numbers n p k) z (SharedByNumber.as_before {r = n} z (inl (omega arith)))
    loaded_so (BesideEnds.no_room a b) = kept_bounds (refused_numbers 20 0 0) (omega arith) (SharedByNumber.as_before {r = 20} (omega arith) (inl (omega arith)))
    loaded_so (BesideEnds.unlinked {y = y} {n = n} {i = i} {k = k} a b c) =
        let z = linking_number c in kept_bounds (refused_numbers n i k) (omega (arith, z.0)) (SharedByNumber.zero y z.0 z.1)

    go : {l : List ℕ} {u : Tables} → SharedEnds d s h m (held_at held) (held_at other) t l u → SharedByNumber d held t (get_or l 0 0) (bounds_after l held) u
    go (SharedEnds.holding n) = kept_bounds (refused_numbers 29 0 0) (omega arith) (SharedByNumber.as_before {r = 29} (omega arith) (inr (inr refl)))
    go (SharedEnds.overlap e n) = kept_bounds (refused_numbers 24 0 0) (omega arith) (SharedByNumber.as_before {r = 24} (omega arith) (inr (inl refl)))
    go (SharedEnds.loads e n x) = loaded_so x

-- ---- larsavim_unload: another number than 0 leaves everything

pub unload_leaves : {d : ℕ} {held other held₁ : List ℕ} {t t₁ : sharing.Tables} {r : ℕ} → AfterUnload d held other t r held₁ t₁ → ¬ (r ≡ 0) → (held₁ ≡ held) × (t₁ ≡ t)
unload_leaves (AfterUnload.short a) n = (refl, refl)
unload_leaves (AfterUnload.overlap a b c) n = (refl, refl)
unload_leaves (AfterUnload.unloaded a b c) n = absurd (n refl)
