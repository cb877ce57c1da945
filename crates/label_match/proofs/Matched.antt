-- The computed match is the written one, and the laws that a matcher needs which goes from star to star: the first place where a part without a star
-- fits is as good as any.
use mathlib.Core.Path.{◌≡◌, refl, sym, ap, ap₂, ◌∙◌}
use mathlib.Core.Bool.{Bool, true, false, not, cond, ◌&&◌, ◌||◌}
use mathlib.Core.List.{List, [], ◌∷◌, ◌++◌}
use Prim.Native.Nat.{ℕ, zero, suc, ◌+◌, ◌-◌, ◌≤◌, ◌<◌}
use native.Mathlib.Omega.{arith}
use borrow.Author.Tests.{eqb-true, eqb-false, eq-eqb, ne_eqb}
use lib.Dec.{eqb, eqb-suc-suc}
use lib.ListN.{length, drop, length-append, length-drop}
use lib.Seq.{drop-drop, drop-append_seam}
use Rattle.written.specs.Matching.{Stands, Matches}
use Rattle.label_match.specs.Matched.{passes, headed, some_end, over, match_of, plain, front}

-- ---- truth values

both_true : (a b : Bool) → (a && b) ≡ true → (a ≡ true) × (b ≡ true)
both_true true b e = (refl, e)
both_true false b e = let z : ◌≡◌ {A = ℕ} 0 1 = cc in absurd (omega arith)

or_true : (a b : Bool) → (a || b) ≡ true → (t : Bool) × (cond t (a ≡ true) (b ≡ true))
or_true true b e = (true, refl)
or_true false b e = (false, e)

or_false : (a b : Bool) → a ≡ false → (a || b) ≡ b
or_false a b e = ap (λ (t : Bool). t || b) e

or_left : (a b : Bool) → a ≡ true → (a || b) ≡ true
or_left a b e = ap (λ (t : Bool). t || b) e

or_right : (a b : Bool) → b ≡ true → (a || b) ≡ true
or_right true b e = refl
or_right false b e = e

true_alike : (a b : Bool) → (a ≡ true → b ≡ true) → (b ≡ true → a ≡ true) → a ≡ b
true_alike true b f g = sym (f refl)
true_alike false true f g = g refl
true_alike false false f g = refl

-- ---- the definition, by the first byte

pub match_star : (c : ℕ) (p l : List ℕ) → c ≡ 42 → match_of (c ∷ p) l ≡ some_end (match_of p) l
unfolding match_of
match_star c p l e = ap (λ (t : Bool). cond t (some_end (match_of p) l) (headed (passes c) (match_of p) l)) (eq-eqb c 42 e)

match_byte : (c : ℕ) (p l : List ℕ) → eqb c 42 ≡ false → match_of (c ∷ p) l ≡ headed (passes c) (match_of p) l
unfolding match_of
match_byte c p l e = ap (λ (t : Bool). cond t (some_end (match_of p) l) (headed (passes c) (match_of p) l)) e

-- ---- ends

-- an end that passes
end_some : (f : List ℕ → Bool) (l : List ℕ) → some_end f l ≡ true → (w : List ℕ) × (rest : List ℕ) × (l ≡ w ++ rest) × (f rest ≡ true)
unfolding some_end
end_some f [] e = ([], [], refl, e)
end_some f (b ∷ l) e = go (or_true (f (b ∷ l)) (some_end f l) e) (end_some f l)
  where
    go : (t : Bool) × (cond t (f (b ∷ l) ≡ true) (some_end f l ≡ true)) → (some_end f l ≡ true → (w : List ℕ) × (rest : List ℕ) × (l ≡ w ++ rest) × (f rest ≡ true))
        → (w : List ℕ) × (rest : List ℕ) × (b ∷ l ≡ w ++ rest) × (f rest ≡ true)
    go (true, h) again = ([], b ∷ l, refl, h)
    go (false, h) again = let r = again h in (b ∷ r.0, r.1, ap (λ x. b ∷ x) r.2, r.3)

whole_some : (f : List ℕ → Bool) (l : List ℕ) → f l ≡ true → some_end f l ≡ true
unfolding some_end
whole_some f [] e = e
whole_some f (b ∷ l) e = or_left (f (b ∷ l)) (some_end f l) e

some_end_lem : (f : List ℕ → Bool) (w rest : List ℕ) → f rest ≡ true → some_end f (w ++ rest) ≡ true
unfolding some_end
some_end_lem f [] rest e = whole_some f rest e
some_end_lem f (b ∷ w) rest e = or_right (f (b ∷ (w ++ rest))) (some_end f (w ++ rest)) (some_end_lem f w rest e)

-- ---- sound and complete

passes-mark : (c b : ℕ) → c ≡ 63 → passes c b ≡ true
unfolding passes
passes-mark c b e = or_left (eqb c 63) (eqb c b) (eq-eqb c 63 e)

passes-itself : (c : ℕ) → passes c c ≡ true
unfolding passes
passes-itself c = or_right (eqb c 63) (eqb c c) (eq-eqb c c refl)

pub match_sound : (p l : List ℕ) → match_of p l ≡ true → Matches p l
unfolding match_of passes
match_sound [] [] e = Matches.end
match_sound [] (b ∷ l) e = let z : ◌≡◌ {A = ℕ} 0 1 = cc in absurd (omega arith)
match_sound (c ∷ p) l e = go (eqb c 42) refl (match_sound p)
  where
    byte : (l : List ℕ) → eqb c 42 ≡ false → headed (passes c) (match_of p) l ≡ true → ((l : List ℕ) → match_of p l ≡ true → Matches p l) → Matches (c ∷ p) l
    byte [] n h again = let z : ◌≡◌ {A = ℕ} 0 1 = cc in absurd (omega arith)
    byte (b ∷ l) n h again = let s = both_true (passes c b) (match_of p l) h in kind (eqb c 63) refl s.0 (again l s.1)
      where
        kind : (t : Bool) → eqb c 63 ≡ t → (eqb c 63 || eqb c b) ≡ true → Matches p l → Matches (c ∷ p) (b ∷ l)
        kind true q k m = Matches.piece {w = b ∷ []} (Stands.one (eqb-true c 63 q)) m refl
        kind false q k m =
            let d : c ≡ b = eqb-true c b (sym (or_false (eqb c 63) (eqb c b) q) ∙ k) in
            Matches.piece {w = c ∷ []} (Stands.itself (eqb-false c 42 n) (eqb-false c 63 q)) m (ap (λ (x : ℕ). x ∷ l) (sym d))

    go : (t : Bool) → eqb c 42 ≡ t → ((l : List ℕ) → match_of p l ≡ true → Matches p l) → Matches (c ∷ p) l
    go true q again =
        let r = end_some (match_of p) l (sym (match_star c p l (eqb-true c 42 q)) ∙ e) in
        Matches.piece {w = r.0} (Stands.run (eqb-true c 42 q)) (again r.1 r.3) r.2
    go false q again = byte l q (sym (match_byte c p l q) ∙ e) again

pub match_complete : {p l : List ℕ} → Matches p l → match_of p l ≡ true
unfolding match_of
match_complete Matches.end = refl
match_complete (Matches.piece {c = c} {p = p} {rest = rest} {label = l} s m e) = go s e (match_complete m)
  where
    go : {w : List ℕ} → Stands c w → l ≡ w ++ rest → match_of p rest ≡ true → match_of (c ∷ p) l ≡ true
    go (Stands.run {w = w} q) e h = match_star c p l q ∙ ap (some_end (match_of p)) e ∙ some_end_lem (match_of p) w rest h
    go (Stands.one {b = b} q) e h =
        match_byte c p l (ne_eqb c 42 (λ z. omega arith)) ∙ ap (headed (passes c) (match_of p)) e ∙ ap₂ ◌&&◌ (passes-mark c b q) h
    go (Stands.itself n k) e h = match_byte c p l (ne_eqb c 42 n) ∙ ap (headed (passes c) (match_of p)) e ∙ ap₂ ◌&&◌ (passes-itself c) h

-- ---- parts without a star

plain-cons : (c : ℕ) (u : List ℕ) → plain (c ∷ u) ≡ true → (eqb c 42 ≡ false) × (plain u ≡ true)
unfolding plain
plain-cons c u e = let s = both_true (not (eqb c 42)) (plain u) e in (turned (eqb c 42) s.0, s.1)
  where
    turned : (t : Bool) → not t ≡ true → t ≡ false
    turned true e = let z : ◌≡◌ {A = ℕ} 0 1 = cc in absurd (omega arith)
    turned false e = refl

-- a part without a star stands at the front, and the rest matches what is behind it
pub plain_match : (u r l : List ℕ) → plain u ≡ true → match_of (u ++ r) l ≡ (front u l && match_of r (drop (length u) l))
unfolding front
plain_match [] r l e = refl
plain_match (c ∷ u) r l e = let s = plain-cons c u e in match_byte c (u ++ r) l s.0 ∙ go l (λ l. plain_match u r l s.1)
  where
    go : (l : List ℕ) → ((l : List ℕ) → match_of (u ++ r) l ≡ (front u l && match_of r (drop (length u) l)))
        → headed (passes c) (match_of (u ++ r)) l ≡ (headed (passes c) (front u) l && match_of r (drop (length (c ∷ u)) l))
    go [] again = refl
    go (b ∷ l) again = ap (λ (t : Bool). passes c b && t) (again l) ∙ assoc (passes c b) (front u l) (match_of r (drop (length u) l))
      where
        assoc : (x y z : Bool) → (x && (y && z)) ≡ ((x && y) && z)
        assoc true y z = refl
        assoc false y z = refl

-- what has a front is as long
pub front_long : (u l : List ℕ) → front u l ≡ true → length u ≤ length l
unfolding front
front_long [] l e = omega arith
front_long (c ∷ u) [] e = let z : ◌≡◌ {A = ℕ} 0 1 = cc in absurd (omega arith)
front_long (c ∷ u) (b ∷ l) e = let s = both_true (passes c b) (front u l) e in omega (arith, front_long u l s.1)

-- a star takes one byte more
star_some : (f : List ℕ → Bool) (b : ℕ) (l : List ℕ) → some_end f l ≡ true → some_end f (b ∷ l) ≡ true
unfolding some_end
star_some f b l e = or_right (f (b ∷ l)) (some_end f l) e

-- and as many as wanted
star-drop : (f : List ℕ → Bool) (n : ℕ) (l : List ℕ) → some_end f (drop n l) ≡ true → some_end f l ≡ true
star-drop f zero l e = e
star-drop f (suc n) [] e = e
star-drop f (suc n) (b ∷ l) e = star_some f b l (star-drop f n l e)

drop_swap : (m n : ℕ) (l : List ℕ) → drop m (drop n l) ≡ drop n (drop m l)
drop_swap m n l = let e : n + m ≡ m + n = omega arith in drop-drop m n l ∙ ap (λ (k : ℕ). drop k l) e ∙ sym (drop-drop n m l)

-- behind a star: the first place where a part fits, with a star behind the part, is as good as any
pub star-front : (c : ℕ) (u q l : List ℕ) → c ≡ 42 → plain u ≡ true → front u l ≡ true → some_end (match_of (u ++ (c ∷ q))) l ≡ match_of (c ∷ q) (drop (length u) l)
star-front c u q l e p f = true_alike (some_end (match_of (u ++ (c ∷ q))) l) (match_of (c ∷ q) (drop (length u) l)) forth back
  where
    forth : some_end (match_of (u ++ (c ∷ q))) l ≡ true → match_of (c ∷ q) (drop (length u) l) ≡ true
    forth h =
        let r = end_some (match_of (u ++ (c ∷ q))) l h in
        let s = both_true (front u r.1) (match_of (c ∷ q) (drop (length u) r.1)) (sym (plain_match u (c ∷ q) r.1 p) ∙ r.3) in
        let k : r.1 ≡ drop (length r.0) l = sym (ap (drop (length r.0)) r.2 ∙ drop-append_seam r.0 r.1) in
        let t : some_end (match_of q) (drop (length r.0) (drop (length u) l)) ≡ true =
        ap (some_end (match_of q)) (sym (drop_swap (length u) (length r.0) l) ∙ ap (drop (length u)) (sym k)) ∙ sym (match_star c q (drop (length u) r.1) e) ∙ s.1 in
        match_star c q (drop (length u) l) e ∙ star-drop (match_of q) (length r.0) (drop (length u) l) t

    back : match_of (c ∷ q) (drop (length u) l) ≡ true → some_end (match_of (u ++ (c ∷ q))) l ≡ true
    back h = whole_some (match_of (u ++ (c ∷ q))) l (plain_match u (c ∷ q) l p ∙ ap₂ ◌&&◌ f h)

-- where it doesn't fit, the star takes a byte
pub star_skip : (u r : List ℕ) (b : ℕ) (l : List ℕ) → plain u ≡ true → front u (b ∷ l) ≡ false → some_end (match_of (u ++ r)) (b ∷ l) ≡ some_end (match_of (u ++ r)) l
unfolding some_end
star_skip u r b l p f =
    or_false (match_of (u ++ r) (b ∷ l)) (some_end (match_of (u ++ r)) l) (plain_match u r (b ∷ l) p ∙ ap (λ (t : Bool). t && match_of r (drop (length u) (b ∷ l))) f)

-- the part behind the last star stands at the very end; a pattern without a star is such a part, as long as the label
over_long : (l : List ℕ) → over l ≡ eqb (length l) 0
over_long [] = refl
over_long (b ∷ l) = sym (ne_eqb (length (b ∷ l)) 0 (λ e. omega arith))

pub plain_whole : (u l : List ℕ) → plain u ≡ true → match_of u l ≡ (front u l && eqb (length l) (length u))
unfolding front match_of
plain_whole [] l e = over_long l
plain_whole (c ∷ u) l e = let s = plain-cons c u e in match_byte c u l s.0 ∙ go l (λ l. plain_whole u l s.1)
  where
    go : (l : List ℕ) → ((l : List ℕ) → match_of u l ≡ (front u l && eqb (length l) (length u))) → headed (passes c) (match_of u) l ≡ (headed (passes c) (front u) l && eqb (length l) (length (c ∷ u)))
    go [] again = refl
    go (b ∷ l) again =
        ap (λ (t : Bool). passes c b && t) (again l) ∙ assoc (passes c b) (front u l) (eqb (length l) (length u))
        ∙ ap (λ (t : Bool). (passes c b && front u l) && t) (sym (eqb-suc-suc (length l) (length u)))
      where
        assoc : (x y z : Bool) → (x && (y && z)) ≡ ((x && y) && z)
        assoc true y z = refl
        assoc false y z = refl

-- behind the last star
pub star_last : (u l : List ℕ) → plain u ≡ true → length u ≤ length l → some_end (match_of u) l ≡ front u (drop (length l - length u) l)
star_last u l p h = true_alike (some_end (match_of u) l) (front u (drop (length l - length u) l)) forth back
  where
    forth : some_end (match_of u) l ≡ true → front u (drop (length l - length u) l) ≡ true
    forth e =
        let r = end_some (match_of u) l e in
        let s = both_true (front u r.1) (eqb (length r.1) (length u)) (sym (plain_whole u r.1 p) ∙ r.3) in
        let n : length r.1 ≡ length u = eqb-true (length r.1) (length u) s.1 in
        let k : length l ≡ length r.0 + length r.1 = ap length r.2 ∙ length-append r.0 r.1 in
        let m : length l - length u ≡ length r.0 = omega (arith, n, k) in
        let t : drop (length l - length u) l ≡ r.1 = ap (λ (k : ℕ). drop k l) m ∙ ap (drop (length r.0)) r.2 ∙ drop-append_seam r.0 r.1 in
        ap (front u) t ∙ s.0

    back : front u (drop (length l - length u) l) ≡ true → some_end (match_of u) l ≡ true
    back e =
        let n : length (drop (length l - length u) l) ≡ length u = omega (arith, length-drop (length l - length u) l) in
        star-drop (match_of u) (length l - length u) l
        (whole_some (match_of u) (drop (length l - length u) l) (plain_whole u (drop (length l - length u) l) p ∙ ap₂ ◌&&◌ e (eq-eqb (length (drop (length l - length u) l)) (length u) n)))

-- and there is no room for it in a label that is shorter
pub star_short : (u l : List ℕ) → plain u ≡ true → length l < length u → some_end (match_of u) l ≡ false
star_short u l p h = go (some_end (match_of u) l) refl
  where
    go : (t : Bool) → some_end (match_of u) l ≡ t → t ≡ false
    go false e = refl
    go true e =
        let r = end_some (match_of u) l e in
        let s = both_true (front u r.1) (eqb (length r.1) (length u)) (sym (plain_whole u r.1 p) ∙ r.3) in
        let n : length r.1 ≡ length u = eqb-true (length r.1) (length u) s.1 in
        let k : length l ≡ length r.0 + length r.1 = ap length r.2 ∙ length-append r.0 r.1 in
        absurd (omega (arith, n, k))
