-- Ids and names are the same exactly where their keys are.
use mathlib.Core.Path.{◌≡◌, refl, sym, ap, ◌∙◌, subst}
use mathlib.Core.Bool.{Bool, true, false, cond, ◌&&◌}
use mathlib.Core.List.{List, [], ◌∷◌}
use Prim.Native.Nat.{ℕ, ◌+◌, ◌-◌, ◌*◌, ◌/◌, ◌^◌, ◌≤◌, ◌<◌}
use native.Mathlib.Decide.{dec_lt}
use native.Mathlib.Omega.{arith}
use borrow.Author.Tests.{eq-eqb, ne_eqb, eqb-true, eqb-false}
use lib.Dec.{eqb, ltb, leb}
use lib.IntN.{ℤ, pos, negsuc}
use lib.ListN.{length, get_or, take, drop, length-take, get_or-eq_default}
use lib.Seq.{get_or-take, get_or-drop}
use lib.Signed.{mag}
use Rattle.laws.specs.Wholes.{eq_z}
use Rattle.written.specs.Bytes.{same, part}
use Rattle.link_order.specs.Keys.{id_key, name_key, id_at, name_at}
use Rattle.text_parts.specs.Parts.{part_inside}
use Rattle.link_order.proofs.Names.{Small, name_one}

-- ---- ids

pub same_id : (a b : ℤ) → mag a < 2 ^ 63 → mag b < 2 ^ 63 → eq_z a b ≡ eqb (id_key a) (id_key b)
unfolding eq_z
same_id (pos a) (pos b) h k = go (eqb a b) refl
  where
    go : (x : Bool) → eqb a b ≡ x → eqb a b ≡ eqb (9223372036854775808 + a) (9223372036854775808 + b)
    go true e = e ∙ sym (eq-eqb (9223372036854775808 + a) (9223372036854775808 + b) (omega (arith, eqb-true a b e)))
    go false e = e ∙ sym (ne_eqb (9223372036854775808 + a) (9223372036854775808 + b) (λ q. eqb-false a b e (omega arith)))
same_id (pos a) (negsuc b) h k = sym (ne_eqb (9223372036854775808 + a) (9223372036854775807 - b) (λ q. omega arith))
same_id (negsuc a) (pos b) h k = sym (ne_eqb (9223372036854775807 - a) (9223372036854775808 + b) (λ q. omega arith))
same_id (negsuc a) (negsuc b) h k = go (eqb a b) refl
  where
    go : (x : Bool) → eqb a b ≡ x → eqb a b ≡ eqb (9223372036854775807 - a) (9223372036854775807 - b)
    go true e = e ∙ sym (eq-eqb (9223372036854775807 - a) (9223372036854775807 - b) (omega (arith, eqb-true a b e)))
    go false e = e ∙ sym (ne_eqb (9223372036854775807 - a) (9223372036854775807 - b) (λ q. eqb-false a b e (omega arith)))

-- an id of a line is a number of the work, or 0
pub id_small : (work : List ℤ) → ((i : ℕ) → mag (get_or work i (pos 0)) < 2 ^ 63) → (x : ℕ) → mag (id_at work x) < 2 ^ 63
unfolding id_at
id_small work h x = go (ltb x (length work / 6))
  where
    go : (b : Bool) → mag (cond b (get_or work (6 * x) (pos 0)) (pos 0)) < 2 ^ 63
    go true = h (6 * x)
    go false = omega arith

-- ---- names

pub same_true : (s : List ℕ) → same s s ≡ true
unfolding same
same_true [] = refl
same_true (b ∷ s) = rw (eq-eqb b b refl) (same_true s)

pub true_same : (s t : List ℕ) → same s t ≡ true → s ≡ t
unfolding same
true_same [] [] e = refl
true_same [] (c ∷ t) e = let u : ◌≡◌ {A = ℕ} 0 1 = cc in absurd (omega arith)
true_same (b ∷ s) [] e = let u : ◌≡◌ {A = ℕ} 0 1 = cc in absurd (omega arith)
true_same (b ∷ s) (c ∷ t) e = go (eqb b c) refl e (true_same s t)
  where
    go : (x : Bool) → eqb b c ≡ x → (x && same s t) ≡ true → (same s t ≡ true → s ≡ t) → b ∷ s ≡ c ∷ t
    go true p q r = let u : b ≡ c = eqb-true b c p in let v : s ≡ t = r q in cc
    go false p q r = let u : ◌≡◌ {A = ℕ} 0 1 = cc in absurd (omega arith)

pub same_name : (s t : List ℕ) → Small s → Small t → same s t ≡ eqb (name_key s) (name_key t)
same_name s t h k = go (same s t) refl
  where
    go : (b : Bool) → same s t ≡ b → same s t ≡ eqb (name_key s) (name_key t)
    go true e = e ∙ sym (eq-eqb (name_key s) (name_key t) (ap name_key (true_same s t e)))
    go false e =
        e ∙ sym (ne_eqb (name_key s) (name_key t) (λ q. let z : same s t ≡ true = subst (λ (u : List ℕ). same s u ≡ true) (name_one s t h k q) (same_true s) in let u : ◌≡◌ {A = ℕ} 0 1 = cc in omega arith))

-- the bytes of a part are bytes of the whole
part_small : (s : List ℕ) (i n : ℕ) → Small s → Small (part s i n)
part_small s i n h k = go (dec_lt k n)
  where
    go : Dec (k < n) → get_or (part s i n) k 0 < 256
    go (yes l) = rw (get_or-take n (drop i s) k 0 l, get_or-drop i s k 0) (h (i + k))
    go (no l) = let e : length (take n (drop i s)) ≤ k = omega (arith, length-take n (drop i s)) in rw (get_or-eq_default (take n (drop i s)) 0 e) (omega arith)

pub name_small : (s questions : List ℕ) → Small s → (x : ℕ) → Small (name_at s questions x)
unfolding name_at part_inside
name_small s questions h x = go (ltb x (length questions / 4)) (leb (get_or questions (4 * x) 0) (length s) && leb (get_or questions (4 * x + 1) 0) (length s - get_or questions (4 * x) 0))
  where
    go : (a b : Bool) → Small (cond a (cond b (part s (get_or questions (4 * x) 0) (get_or questions (4 * x + 1) 0)) []) [])
    go true true = part_small s (get_or questions (4 * x) 0) (get_or questions (4 * x + 1) 0) h
    go true false = λ i. omega arith
    go false b = λ i. omega arith
