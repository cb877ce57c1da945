-- Zeros in a part that is cut out; each way through an unload.
use mathlib.Core.Path.{◌≡◌, refl, sym, ap, ◌∙◌, subst}
use mathlib.Core.Bool.{Bool, true, false, cond}
use mathlib.Core.List.{List}
use Prim.Native.Nat.{ℕ, ◌-◌, ◌*◌, ◌≤◌}
use native.Mathlib.Omega.{arith}
use lib.ListN.{length, take, drop, replicate, length-replicate}
use lib.Seq.{sets}
use borrow.Rule.Slice.PartMut.{put_mid}
use Rattle.laws.proofs.Tables.{part_put}
use Rattle.written.specs.Sharing.{Side, questions, patterns, trees, records, values, Held, nothing, put_rows, cleared, stands}
use Rattle.error.specs.declared.Refusal.{Refusal}
use Rattle.load_apart.specs.Loads.{Done as Done', Overlap, After, untouched, unload_of}
use Rattle.load_apart.proofs.Rows.{length_part}
use Rattle.load_apart.proofs.Tests.{stands_is}
use Rattle.load_apart.proofs.Apart.{unload_is}
use Rattle.load_bounds.specs.Bounds.{tables_of, Cut}
use Rattle.load_bounds.proofs.Laws.{cut_long}
use Rattle.load_unload.specs.Unloads.{Tabled, Unloads}

-- ---- unloading

pub cleared-part : (t : List ℕ) (a e : ℕ) → a ≤ e → e ≤ length t → {ys : List ℕ} → ys ≡ replicate (length (take (e - a) (drop a t))) 0 → put_mid a (e - a) t ys ≡ sets t a (replicate (e - a) 0)
cleared-part t a e h g {ys} f =
    let l : length (take (e - a) (drop a t)) ≡ e - a = length_part t a (e - a) (omega arith) in
    let z : ys ≡ replicate (e - a) 0 = f ∙ ap (λ (m : ℕ). replicate m 0) l in
    ap (put_mid a (e - a) t) z ∙ part_put t a (e - a) (replicate (e - a) 0) (length-replicate (e - a) 0) (omega arith)

pub cleared_is : (x : Side) (w : ℕ) (t : List ℕ) (n a e : ℕ) → Cut x w (length t) n a e → {t₁ : List ℕ} → t₁ ≡ sets t a (replicate (e - a) 0) → t₁ ≡ put_rows x w t n (replicate (w * n) 0)
cleared_is x w t n a e c f = f ∙ ap (λ (m : ℕ). sets t a (replicate m 0)) (cut_long x w t n a e c) ∙ ap (λ (b : ℕ). sets t b (replicate (w * n) 0)) c.start

module _ (x : Side) (mine other : Held) (q a t c v : List ℕ) where
  pub unload_not : stands (tables_of q a t c v) mine other ≡ false → Unloads x mine other q a t c v false q a t c v
  unfolding unload_of
  unload_not s =
      record {
        done = sym s;
        tables =
            subst (λ (b : Bool). Tabled (cond b (record { answer = Done' nothing; tables = cleared x mine (tables_of q a t c v); held = nothing }) (untouched {R = Refusal} Overlap mine (tables_of q a t c v))).tables q a t c v) (sym s)
            (record { questions = refl; patterns = refl; trees = refl; records = refl; values = refl });
      }

  pub unload_done : stands (tables_of q a t c v) mine other ≡ true → {q₁ a₁ t₁ c₁ v₁ : List ℕ} → Tabled (cleared x mine (tables_of q a t c v)) q₁ a₁ t₁ c₁ v₁ → Unloads x mine other q a t c v true q₁ a₁ t₁ c₁ v₁
  unload_done s {q₁} {a₁} {t₁} {c₁} {v₁} l =
      record {
        done = sym s;
        tables =
            subst (λ (o : After Refusal). Tabled o.tables q₁ a₁ t₁ c₁ v₁) (sym (unload_is Refusal x mine other (tables_of q a t c v) (stands_is (tables_of q a t c v) mine other s))) l;
      }
