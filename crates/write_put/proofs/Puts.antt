-- Bytes put one behind the other, and a loop that puts what is left.
use mathlib.Core.Path.{◌≡◌, refl, sym, ap, ◌∙◌, subst}
use mathlib.Core.List.{List, [], ◌∷◌, ◌++◌}
use Prim.Native.Nat.{ℕ, suc, ◌+◌, ◌≤◌, ◌<◌}
use native.Mathlib.Decide.{dec_le}
use native.Mathlib.Omega.{arith}
use lib.ListN.{length, get_or, drop, set, length-set, length-append}
use lib.Seq.{sets, length-sets, set_out, drop-cons}
use Rattle.laws.proofs.Tables.{sets-append}
use Rattle.write_put.specs.Puts.{Put}

-- behind the end nothing is stored
pub sets_out : {A : Type 0} (w t : List A) (k : ℕ) → length t ≤ k → sets t k w ≡ t
sets_out [] t k h = refl
sets_out (x ∷ w) t k h = sets_out w (set t k x) (suc k) (omega (arith, length-set t k x)) ∙ set_out t k x h

-- ---- one behind the other

module _ {b v e : List ℕ} {at r : ℕ} (p : Put b at v r e) where
  pub put_long : length e ≡ length b
  put_long = ap length p.bytes_of ∙ length-sets b at v

  behind : (w : List ℕ) → sets e r w ≡ sets b at (v ++ w)
  behind w = ap (λ (l : List ℕ). sets l r w) p.bytes_of ∙ go (dec_le (at + length v) 18446744073709551615)
    where
      go : Dec (at + length v ≤ 18446744073709551615) → sets (sets b at v) r w ≡ sets b at (v ++ w)
      go (yes h) =
          let q : r ≡ at + length v = omega (arith, p.next) in
          ap (λ (n : ℕ). sets (sets b at v) n w) q ∙ sets-append b at v w
      go (no h) =
          sets_out w (sets b at v) r (omega (arith, p.next, p.short, length-sets b at v))
          ∙ sym (sets_out w (sets b at v) (at + length v) (omega (arith, p.short, length-sets b at v))) ∙ sets-append b at v w

  pub put_then : {r' : ℕ} {w e' : List ℕ} → Put e r w r' e' → Put b at (v ++ w) r' e'
  put_then {w = w} q = record {
    short = p.short;
    next = omega (arith, p.next, q.next, length-append v w);
    bytes_of = q.bytes_of ∙ behind w;
  }

-- the bytes by another name
pub put_as : {b v w e : List ℕ} {at r : ℕ} → v ≡ w → Put b at v r e → Put b at w r e
put_as {b} {v} {w} {e} {at} {r} q p = subst (λ (l : List ℕ). Put b at l r e) q p

pub put_none : {b : List ℕ} {at : ℕ} → length b ≤ 18446744073709551615 → at ≤ 18446744073709551615 → Put b at [] at b
put_none {b} {at} h l = record { short = h; next = omega arith; bytes_of = refl }

-- ---- a loop: whatever puts what is left puts the whole

pub record Leads (b₀ : List ℕ) (at₀ : ℕ) (whole b : List ℕ) (at : ℕ) (rest : List ℕ) : Type 0 where
  pub short : length b ≤ 18446744073709551615
  pub place : at ≤ 18446744073709551615
  pub long : length b ≡ length b₀
  pub on : (r : ℕ) (e : List ℕ) → Put b at rest r e → Put b₀ at₀ whole r e

pub leads_none : (b : List ℕ) (at : ℕ) (w : List ℕ) → length b ≤ 18446744073709551615 → at ≤ 18446744073709551615 → Leads b at w b at w
leads_none b at w h l = record { short = h; place = l; long = refl; on = λ r e p. p }

module _ {b₀ whole b rest : List ℕ} {at₀ at : ℕ} (p : Leads b₀ at₀ whole b at rest) where
  pub leads_more : (first more : List ℕ) → rest ≡ first ++ more → {r : ℕ} {e : List ℕ} → Put b at first r e → Leads b₀ at₀ whole e r more
  leads_more first more q {r} {e} u = record {
    short = omega (arith, put_long u, p.short);
    place = omega (arith, u.next);
    long = put_long u ∙ p.long;
    on = λ r' e' v. p.on r' e' (put_as (sym q) (put_then u v));
  }

  pub leads_done : rest ≡ [] → Put b₀ at₀ whole at b
  leads_done q = p.on at b (put_as (sym q) (put_none p.short p.place))

-- ---- a byte of a slice, before those behind it

pub next_byte : (d : List ℕ) (i : ℕ) → i < length d → drop i d ≡ (get_or d i 0 ∷ []) ++ drop (i + 1) d
next_byte d i h = let s : suc i ≡ i + 1 = omega arith in drop-cons d i 0 h ∙ ap (λ (j : ℕ). get_or d i 0 ∷ drop j d) s
