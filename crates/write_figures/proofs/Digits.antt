-- Digits from the last to the first: what is left, with fuel that is enough, gives the whole.
use mathlib.Core.Path.{◌≡◌, refl, sym, ap, ◌∙◌}
use mathlib.Core.Bool.{Bool, true, false, cond}
use mathlib.Core.List.{List, [], ◌∷◌, ◌++◌}
use Prim.Native.Nat.{ℕ, zero, suc, ◌+◌, ◌-◌, ◌*◌, ◌/◌, ◌%◌, ◌≤◌, ◌<◌, min}
use native.Mathlib.Omega.{arith}
use borrow.Author.Tests.{lt-ltb, le-ltb}
use lib.Dec.{ltb}
use lib.ListN.{length, length-append}
use lib.Seq.{sets}
use Rattle.laws.proofs.Tables.{sets_before}
use Rattle.written.specs.Writing.{figures, figures_in}
use Rattle.write_put.specs.Puts.{Put}
use Rattle.write_put.proofs.Puts.{put_long, sets_out}

-- 10^f
unfoldable pub tens : ℕ → ℕ
tens zero = 1
tens (suc f) = 10 * tens f

module _ (f m : ℕ) where
  last_digit : m < 10 → figures_in (suc f) m ≡ (48 + m) ∷ []
  unfolding figures_in
  last_digit h = rw (lt-ltb m 10 h)

  one_digit : 10 ≤ m → figures_in (suc f) m ≡ figures_in f (m / 10) ++ ((48 + m % 10) ∷ [])
  unfolding figures_in
  one_digit h = rw (le-ltb m 10 h)

-- fuel that is enough for m
pub record Enough (m f : ℕ) : Type 0 where
  pub fuel : m < tens f
  pub some : 0 < f
  pub few : f ≤ 20

enough_start : (n : ℕ) → n < 18446744073709551616 → Enough n 20
unfolding tens
enough_start n h = record { fuel = omega arith; some = omega arith; few = omega arith }

-- the fuel goes down with each digit
enough_more : (m f : ℕ) → Enough m f → 10 ≤ m → (g : ℕ) × (f ≡ suc g) × Enough (m / 10) g
unfolding tens
enough_more m zero p h = absurd (omega (arith, p.some))
enough_more m (suc zero) p h = absurd (omega (arith, p.fuel))
enough_more m (suc (suc g)) p h = (suc g, refl, record { fuel = omega (arith, p.fuel); some = omega arith; few = omega (arith, p.few) })

enough_last : (m f : ℕ) → Enough m f → (g : ℕ) × (f ≡ suc g)
enough_last m zero p = absurd (omega (arith, p.some))
enough_last m (suc g) p = (g, refl)

-- ---- counting: k digits with the one that is always there

pub record Counting (n m k : ℕ) : Type 0 where
  pub f : ℕ
  pub enough : Enough m f
  pub count : k + f ≤ 21
  pub same : length (figures n) + 1 ≡ k + length (figures_in f m)

pub counting_none : (n : ℕ) → n < 18446744073709551616 → Counting n n 1
counting_none n h = record { f = 20; enough = enough_start n h; count = omega arith; same = omega arith }

module _ (n m k : ℕ) (p : Counting n m k) where
  pub counting_more : 10 ≤ m → Counting n (m / 10) (k + 1)
  counting_more h = go (enough_more m p.f p.enough h)
    where
      go : ((g : ℕ) × (p.f ≡ suc g) × Enough (m / 10) g) → Counting n (m / 10) (k + 1)
      go (g, q, u) =
          let e : figures_in p.f m ≡ figures_in g (m / 10) ++ ((48 + m % 10) ∷ []) = ap (λ (x : ℕ). figures_in x m) q ∙ one_digit g m h in
          record {
            f = g;
            enough = u;
            count = omega (arith, p.count, q);
            same = omega (arith, p.same, ap length e, length-append (figures_in g (m / 10)) ((48 + m % 10) ∷ []));
          }

  pub counting_done : m < 10 → k ≡ length (figures n)
  counting_done h = go (enough_last m p.f p.enough)
    where
      go : ((g : ℕ) × (p.f ≡ suc g)) → k ≡ length (figures n)
      go (g, q) = omega (arith, p.same, ap length (ap (λ (x : ℕ). figures_in x m) q ∙ last_digit g m h))

-- ---- storing: the digits that are left, and b as it will be with them

pub record Storing (b₀ : List ℕ) (at n : ℕ) (b : List ℕ) (m k : ℕ) : Type 0 where
  pub f : ℕ
  pub enough : Enough m f
  pub long : length b ≡ length b₀
  pub count : k ≡ length (figures_in f m)
  pub some : 0 < k
  pub few : k ≤ 20
  pub stored : sets b at (figures_in f m) ≡ sets b₀ at (figures n)

at_least : (f m : ℕ) → 0 < length (figures_in (suc f) m)
unfolding figures_in
at_least f m = go (ltb m 10)
  where
    go : (x : Bool) → 0 < length (cond x ((48 + m) ∷ []) (figures_in f (m / 10) ++ ((48 + m % 10) ∷ [])))
    go true = omega arith
    go false = omega (arith, length-append (figures_in f (m / 10)) ((48 + m % 10) ∷ []))

some_digits : (m f : ℕ) → Enough m f → 0 < length (figures_in f m)
some_digits m zero p = absurd (omega (arith, p.some))
some_digits m (suc f) p = at_least f m

-- no more digits than fuel
few_digits : (f m : ℕ) → length (figures_in f m) ≤ f
unfolding figures_in
few_digits zero m = omega arith
few_digits (suc f) m = go (ltb m 10) (few_digits f (m / 10))
  where
    go : (x : Bool) → length (figures_in f (m / 10)) ≤ f → length (cond x ((48 + m) ∷ []) (figures_in f (m / 10) ++ ((48 + m % 10) ∷ []))) ≤ suc f
    go true h = omega arith
    go false h = omega (arith, length-append (figures_in f (m / 10)) ((48 + m % 10) ∷ []))

module _ (b₀ : List ℕ) (at n : ℕ) where
  pub storing_none : (k : ℕ) → k ≡ length (figures n) → n < 18446744073709551616 → Storing b₀ at n b₀ n k
  storing_none k q h = record { f = 20; enough = enough_start n h; long = refl; count = q; some = omega (arith, q, at_least 19 n); few = omega (arith, q, few_digits 20 n); stored = refl }

  module _ (b : List ℕ) (m k : ℕ) (p : Storing b₀ at n b m k) where
    pub storing_more : 10 ≤ m → {r : ℕ} {e : List ℕ} → Put b (at + (k - 1)) ((48 + m % 10) ∷ []) r e → Storing b₀ at n e (m / 10) (k - 1)
    storing_more h {r} {e} u = go (enough_more m p.f p.enough h)
      where
        go : ((g : ℕ) × (p.f ≡ suc g) × Enough (m / 10) g) → Storing b₀ at n e (m / 10) (k - 1)
        go (g, q, v) =
            let w : figures_in p.f m ≡ figures_in g (m / 10) ++ ((48 + m % 10) ∷ []) = ap (λ (x : ℕ). figures_in x m) q ∙ one_digit g m h in
            let l : k - 1 ≡ length (figures_in g (m / 10)) = omega (arith, p.count, ap length w, length-append (figures_in g (m / 10)) ((48 + m % 10) ∷ [])) in
            record {
              f = g;
              enough = v;
              long = put_long u ∙ p.long;
              count = l;
              some = omega (arith, l, some_digits (m / 10) g v);
              few = omega (arith, p.few);
              stored =
                  ap (λ (t : List ℕ). sets t at (figures_in g (m / 10))) (u.bytes_of ∙ ap (λ (j : ℕ). sets b (at + j) ((48 + m % 10) ∷ [])) l)
                  ∙ sets_before (figures_in g (m / 10)) ((48 + m % 10) ∷ []) b at ∙ ap (sets b at) (sym w) ∙ p.stored;
            }

    pub storing_done : m < 10 → {r : ℕ} {e : List ℕ} → Put b at ((48 + m) ∷ []) r e → {x : ℕ} → x ≡ min (at + length (figures n)) 18446744073709551615 → Put b₀ at (figures n) x e
    storing_done h {r} {e} u {x} y = go (enough_last m p.f p.enough)
      where
        go : ((g : ℕ) × (p.f ≡ suc g)) → Put b₀ at (figures n) x e
        go (g, q) = record {
          short = omega (arith, p.long, u.short);
          next = y;
          bytes_of = u.bytes_of ∙ ap (sets b at) (sym (ap (λ (j : ℕ). figures_in j m) q ∙ last_digit g m h)) ∙ p.stored;
        }

-- behind the end nothing is stored
pub put_out : (b : List ℕ) (at : ℕ) (w : List ℕ) → length b ≤ at → length b ≤ 18446744073709551615 → {x : ℕ} → x ≡ min (at + length w) 18446744073709551615 → Put b at w x b
put_out b at w h l y = record { short = l; next = y; bytes_of = sym (sets_out w b at h) }
