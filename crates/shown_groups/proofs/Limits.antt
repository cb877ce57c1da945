-- Counts past their limit, from the last place of an array of n: over any struct with a count, as the groups of a section stand in it.
use mathlib.Core.Path.{◌≡◌, refl, sym, ap, ◌∙◌, subst}
use mathlib.Core.Bool.{Bool, true, false, cond}
use mathlib.Core.List.{List, [], ◌∷◌, map}
use Prim.Native.Nat.{ℕ, zero, suc, ◌≤◌, ◌<◌}
use native.Mathlib.Omega.{arith}
use native.Mathlib.Decide.{dec_lt}
use borrow.Author.Tests.{lt-ltb, ltb-true, ltb-false}
use lib.Dec.{ltb}
use lib.ListN.{length, get_or}
use Rattle.written.specs.Record.{All, next}
use Rattle.written.proofs.Tests.{differ}
use Rattle.head_record.specs.Lists.{filled}

module _ {D E : Type 0} (count : D → ℕ) (long : E → ℕ) (made : E → D) (empty nothing : D) (count-made : (e : E) → count (made e) ≡ long e) (count-empty : count empty ≡ 0) (limit : ℕ) where
  -- places whose counts keep the limit hold a list whose counts do
  within_all : (n : ℕ) (es : List E) → length es ≤ n → ((k : ℕ) → k < n → count (get_or (filled n empty (map made es)) k nothing) ≤ limit) → All (λ e. long e ≤ limit) es
  unfolding filled
  within_all zero [] h f = All.end
  within_all zero (e ∷ es) h f = absurd (omega arith)
  within_all (suc n) [] h f = All.end
  within_all (suc n) (e ∷ es) h f = next {a = e} (omega (arith, f 0 (omega arith), count-made e)) (within_all n es (omega arith) (λ k l. f (suc k) (omega arith)))

  past_some : (n : ℕ) (es : List E) (k : ℕ) → k < n → limit < count (get_or (filled n empty (map made es)) k nothing) → All (λ e. long e ≤ limit) es → ⊥
  unfolding filled
  past_some zero es k h l a = omega arith
  past_some (suc n) [] zero h l a = omega (arith, count-empty)
  past_some (suc n) [] (suc k) h l a = past_some n [] k (omega arith) l All.end
  past_some (suc n) (e ∷ es) zero h l (next p a) = omega (arith, count-made e)
  past_some (suc n) (e ∷ es) (suc k) h l (next p a) = past_some n es k (omega arith) l a

  module _ (many : List D → ℕ → Bool) (many-none : (t : List D) → many t 0 ≡ false)
      (many_more : (t : List D) (n : ℕ) → many t (suc n) ≡ cond (ltb n 8) (cond (ltb limit (count (get_or t n nothing))) true (many t n)) (many t n)) where
    many_in : (t : List D) (n : ℕ) → n ≤ 8 → many t n ≡ true → (k : ℕ) × (k < n) × (limit < count (get_or t k nothing))
    many_in t zero h e = differ e (many-none t)
    many_in t (suc n) h e = go (ltb limit (count (get_or t n nothing))) refl (sym (many_more t n ∙ ap (λ (u : Bool). cond u (cond (ltb limit (count (get_or t n nothing))) true (many t n)) (many t n)) (lt-ltb n 8 (omega arith))) ∙ e) (λ f. many_in t n (omega arith) f)
      where
        go : (u : Bool) → ltb limit (count (get_or t n nothing)) ≡ u → cond u true (many t n) ≡ true → (many t n ≡ true → (k : ℕ) × (k < n) × (limit < count (get_or t k nothing))) → (k : ℕ) × (k < suc n) × (limit < count (get_or t k nothing))
        go true f g rec = (n, omega arith, ltb-true limit (count (get_or t n nothing)) f)
        go false f g rec = let r = rec g in (r.0, omega (arith, r.1), r.2)

    many_out : (t : List D) (n : ℕ) → n ≤ 8 → many t n ≡ false → (k : ℕ) → k < n → count (get_or t k nothing) ≤ limit
    many_out t zero h e k l = absurd (omega arith)
    many_out t (suc n) h e k l = go (ltb limit (count (get_or t n nothing))) refl (sym (many_more t n ∙ ap (λ (u : Bool). cond u (cond (ltb limit (count (get_or t n nothing))) true (many t n)) (many t n)) (lt-ltb n 8 (omega arith))) ∙ e) (λ f i. many_out t n (omega arith) f k i) (dec_lt k n)
      where
        go : (u : Bool) → ltb limit (count (get_or t n nothing)) ≡ u → cond u true (many t n) ≡ false → (many t n ≡ false → k < n → count (get_or t k nothing) ≤ limit) → Dec (k < n) → count (get_or t k nothing) ≤ limit
        go true f g rec d = differ refl g
        go false f g rec (yes i) = rec g i
        go false f g rec (no i) = let z : k ≡ n = omega arith in subst (λ (j : ℕ). count (get_or t j nothing) ≤ limit) (sym z) (ltb-false limit (count (get_or t n nothing)) f)

    -- none passes the limit exactly where all of the list keep it
    pub all_within : (t : List D) (es : List E) → t ≡ filled 8 empty (map made es) → length es ≤ 8 → many t 8 ≡ false → All (λ e. long e ≤ limit) es
    all_within t es q l e = within_all 8 es l (λ k h. subst (λ (u : List D). count (get_or u k nothing) ≤ limit) q (many_out t 8 (omega arith) e k h))

    pub some_past : (t : List D) (es : List E) → t ≡ filled 8 empty (map made es) → many t 8 ≡ true → ¬ All (λ e. long e ≤ limit) es
    some_past t es q e a = let r = many_in t 8 (omega arith) e in past_some 8 es r.0 r.1 (subst (λ (u : List D). limit < count (get_or u r.0 nothing)) q r.2) a
