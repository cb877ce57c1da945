-- Each way through the functions of the matcher, by the laws of Matched.
use mathlib.Core.Path.{◌≡◌, refl, sym, ap, ap₂, ◌∙◌}
use mathlib.Core.Bool.{Bool, true, false, not, ◌&&◌}
use mathlib.Core.List.{List, [], ◌∷◌, ◌++◌}
use Prim.Native.Nat.{ℕ, zero, suc, ◌+◌, ◌-◌, ◌≤◌, ◌<◌}
use native.Mathlib.Decide.{dec_lt}
use native.Mathlib.Numerals.{add-one}
use native.Mathlib.Omega.{arith}
use borrow.Author.Tests.{ne_eqb}
use lib.Dec.{eqb}
use lib.ListN.{length, get_or, take, drop, length-drop, take-append-drop, drop_of_length-le}
use lib.Seq.{drop-drop, drop-cons, take_all, length-take-le, get_or-drop}
use Rattle.std.specs.declared.option.Option.{Option}
use Rattle.std.specs.Prelude.{Some, None}
use Rattle.label_match.specs.Matched.{passes, some_end, match_of, plain, front}
use Rattle.label_match.specs.Parts.{PartEnd, Finds}
use Rattle.label_match.proofs.Matched.{match_star, plain_match, plain_whole, front_long, star-front, star_skip, star_last, star_short}

-- ---- where a part ends

-- the part from `from` up to `end`
abbrev pub part_of : List ℕ → ℕ → ℕ → List ℕ
part_of p from end = take (end - from) (drop from p)

pub record Starless (p : List ℕ) (from end : ℕ) : Type 0 where
  pub order : from ≤ end
  pub inside : end ≤ length p
  pub starless : (k : ℕ) → from ≤ k → k < end → ¬ (get_or p k 0 ≡ 42)

plain-front : (n : ℕ) (s : List ℕ) → ((k : ℕ) → k < n → ¬ (get_or s k 0 ≡ 42)) → plain (take n s) ≡ true
unfolding plain
plain-front zero s f = refl
plain-front (suc n) [] f = refl
plain-front (suc n) (c ∷ s) f = ap₂ (λ (a b : Bool). not a && b) (ne_eqb c 42 (f 0 (omega arith))) (plain-front n s (λ k h. f (suc k) (omega arith)))

module _ {p : List ℕ} {from end : ℕ} (s : PartEnd p from end) where
  pub part-plain : plain (part_of p from end) ≡ true
  part-plain = plain-front (end - from) (drop from p) (λ k h e. s.starless (from + k) (omega arith) (omega (arith, s.order)) (sym (get_or-drop from p k 0) ∙ e))

  pub part_length : length (part_of p from end) ≡ end - from
  part_length = length-take-le (end - from) (drop from p) (omega (arith, length-drop from p, s.inside))

  -- the part behind the last star is all that is left
  pub part_last : end ≡ length p → part_of p from end ≡ drop from p
  part_last e = take_all (end - from) (drop from p) (omega (arith, length-drop from p))

  -- another is followed by a star
  pub part_parted : end < length p → drop from p ≡ part_of p from end ++ (42 ∷ drop (end + 1) p)
  part_parted h =
      let q : from + (end - from) ≡ end = omega (arith, s.order) in
      sym (take-append-drop (end - from) (drop from p))
      ∙ ap (λ (t : List ℕ). part_of p from end ++ t)
      (drop-drop (end - from) from p ∙ ap (λ (n : ℕ). drop n p) q ∙ drop-cons p end 0 h
      ∙ ap₂ (λ (c n : ℕ). c ∷ drop n p) (s.star h) (sym (add-one end)))

-- ---- a part in the label

pub record Standing (u l : List ℕ) (at k : ℕ) : Type 0 where
  pub within : k ≤ length u
  pub rest : front (drop k u) (drop (at + k) l) ≡ front u (drop at l)

module _ (u l : List ℕ) (at : ℕ) where
  module _ (k : ℕ) (s : Standing u l at k) (h : k < length u) (room : at + length u ≤ length l) where
    both : front (drop k u) (drop (at + k) l) ≡ (passes (get_or u k 0) (get_or l (at + k) 0) && front (drop (k + 1) u) (drop (at + (k + 1)) l))
    unfolding front
    both =
        let e : suc (at + k) ≡ at + (k + 1) = omega arith in
        ap₂ front (drop-cons u k 0 h) (drop-cons l (at + k) 0 (omega arith))
        ∙ ap₂ (λ (a b : ℕ). passes (get_or u k 0) (get_or l (at + k) 0) && front (drop a u) (drop b l)) (sym (add-one k)) e

    pub standing_more : passes (get_or u k 0) (get_or l (at + k) 0) ≡ true → Standing u l at (k + 1)
    standing_more e =
        record { within = omega arith; rest = sym (ap (λ (t : Bool). t && front (drop (k + 1) u) (drop (at + (k + 1)) l)) e) ∙ sym both ∙ s.rest }

    pub standing_off : passes (get_or u k 0) (get_or l (at + k) 0) ≡ false → false ≡ front u (drop at l)
    standing_off e = sym (ap (λ (t : Bool). t && front (drop (k + 1) u) (drop (at + (k + 1)) l)) e) ∙ sym both ∙ s.rest

  pub standing_end : (k : ℕ) → Standing u l at k → length u ≤ k → true ≡ front u (drop at l)
  unfolding front
  standing_end k s h = sym (ap (λ (t : List ℕ). front t (drop (at + k) l)) (drop_of_length-le u {i = k} h)) ∙ s.rest

-- ---- the first place

-- what is longer than what is left stands nowhere there
front_short : (u l : List ℕ) → length l < length u → front u l ≡ false
front_short u l h = go (front u l) refl
  where
    go : (b : Bool) → front u l ≡ b → b ≡ false
    go true e = absurd (omega (arith, front_long u l e))
    go false e = refl

-- what stands nowhere is not empty
not_empty : (u l : List ℕ) → front u l ≡ false → 0 < length u
unfolding front
not_empty [] l e = let z : ◌≡◌ {A = ℕ} 0 1 = cc in absurd (omega arith)
not_empty (c ∷ u) l e = omega arith

pub record Seeking (u l : List ℕ) (at i : ℕ) : Type 0 where
  pub from : at ≤ i
  pub before : (j : ℕ) → at ≤ j → j < i → front u (drop j l) ≡ false

module _ (u l : List ℕ) (at : ℕ) where
  pub find_short : at ≤ length l → length l - at < length u → Finds u l at None
  find_short a h = Finds.none (λ i b. front_short u (drop i l) (omega (arith, length-drop i l)))

  pub seeking_none : Seeking u l at at
  seeking_none = record { from = omega arith; before = λ j a b. absurd (omega arith) }

  module _ (i : ℕ) (s : Seeking u l at i) where
    pub seeking_more : front u (drop i l) ≡ false → Seeking u l at (i + 1)
    seeking_more e = record { from = omega (arith, s.from); before = λ j a b. go j a (dec_lt j i) b }
      where
        go : (j : ℕ) → at ≤ j → Dec (j < i) → j < i + 1 → front u (drop j l) ≡ false
        go j a (yes h) b = s.before j a h
        go j a (no h) b = let q : j ≡ i = omega arith in ap (λ (n : ℕ). front u (drop n l)) q ∙ e

    pub seeking_here : i + length u ≤ length l → true ≡ front u (drop i l) → Finds u l at (Some i)
    seeking_here h e = Finds.first s.from h (sym e) s.before

    pub seeking_end : at + length u ≤ length l → length l < i + length u → Finds u l at None
    seeking_end r h = Finds.none (λ j a. go j a (dec_lt j i))
      where
        some : 0 < length u
        some = not_empty u (drop at l) (s.before at (omega arith) (omega arith))

        go : (j : ℕ) → at ≤ j → Dec (j < i) → front u (drop j l) ≡ false
        go j a (yes b) = s.before j a b
        go j a (no b) = front_short u (drop j l) (omega (arith, length-drop j l, some))

-- ---- behind a star

-- up to the first place a star takes byte after byte
skips : (u r : List ℕ) (n : ℕ) (l : List ℕ) → plain u ≡ true → ((k : ℕ) → k < n → front u (drop k l) ≡ false) → some_end (match_of (u ++ r)) l ≡ some_end (match_of (u ++ r)) (drop n l)
skips u r zero l e f = refl
skips u r (suc n) [] e f = refl
skips u r (suc n) (b ∷ l) e f = star_skip u r b l e (f 0 (omega arith)) ∙ skips u r n l e (λ k h. f (suc k) (omega arith))

-- a part that stands nowhere
never : (u r l : List ℕ) → plain u ≡ true → ((k : ℕ) → front u (drop k l) ≡ false) → some_end (match_of (u ++ r)) l ≡ false
unfolding some_end
never u r [] e f = plain_match u r [] e ∙ ap (λ (t : Bool). t && match_of r (drop (length u) [])) (f 0)
never u r (b ∷ l) e f = star_skip u r b l e (f 0) ∙ never u r l e (λ k. f (suc k))

pub record Behind (p l : List ℕ) (from at j i : ℕ) : Type 0 where
  pub in_a_pattern : j ≤ length p
  pub in_label : i ≤ length l
  pub same : some_end (match_of (drop j p)) (drop i l) ≡ some_end (match_of (drop from p)) (drop at l)

module _ (p l : List ℕ) (from at : ℕ) where
  pub behind_none : from ≤ length p → at ≤ length l → Behind p l from at from at
  behind_none h g = record { in_a_pattern = h; in_label = g; same = refl }

  module _ (j i : ℕ) (s : Behind p l from at j i) {end : ℕ} (e : PartEnd p j end) where
    pub behind_last : {r : Bool} → end ≡ length p → r ≡ some_end (match_of (part_of p j end)) (drop i l) → r ≡ some_end (match_of (drop from p)) (drop at l)
    behind_last q h = h ∙ ap (λ (u : List ℕ). some_end (match_of u) (drop i l)) (part_last e q) ∙ s.same

    module _ (h : end < length p) where
      parted : some_end (match_of (part_of p j end ++ (42 ∷ drop (end + 1) p))) (drop i l) ≡ some_end (match_of (drop from p)) (drop at l)
      parted = ap (λ (u : List ℕ). some_end (match_of u) (drop i l)) (sym (part_parted e h)) ∙ s.same

      pub behind_nowhere : {f : Option ℕ} → Finds (part_of p j end) l i f → f ≡ None → false ≡ some_end (match_of (drop from p)) (drop at l)
      behind_nowhere (Finds.first a b c d) q = let z : ◌≡◌ {A = ℕ} 0 1 = cc in absurd (omega arith)
      behind_nowhere (Finds.none f) q =
          sym (never (part_of p j end) (42 ∷ drop (end + 1) p) (drop i l) (part-plain e) (λ k. ap (front (part_of p j end)) (drop-drop k i l) ∙ f (i + k) (omega arith))) ∙ parted

      pub behind_more : {f : Option ℕ} {k : ℕ} → Finds (part_of p j end) l i f → f ≡ Some k → Behind p l from at (end + 1) (k + (end - j))
      behind_more {k = k} (Finds.first {k = m} a b c d) q =
          let z : m ≡ k = cc in
          let w : i + (m - i) ≡ m = omega arith in
          let v : m + length (part_of p j end) ≡ k + (end - j) = omega (arith, part_length e) in
          let to : drop (m - i) (drop i l) ≡ drop m l = drop-drop (m - i) i l ∙ ap (λ (n : ℕ). drop n l) w in
          record {
            in_a_pattern = omega arith;
            in_label = omega (arith, part_length e);
            same =
                ap (λ (n : ℕ). some_end (match_of (drop (end + 1) p)) (drop n l)) (sym v)
                ∙ ap (some_end (match_of (drop (end + 1) p))) (sym (drop-drop (length (part_of p j end)) m l))
                ∙ sym (match_star 42 (drop (end + 1) p) (drop (length (part_of p j end)) (drop m l)) refl)
                ∙ sym (star-front 42 (part_of p j end) (drop (end + 1) p) (drop m l) refl (part-plain e) c)
                ∙ ap (some_end (match_of (part_of p j end ++ (42 ∷ drop (end + 1) p)))) (sym to)
                ∙ sym (skips (part_of p j end) (42 ∷ drop (end + 1) p) (m - i) (drop i l) (part-plain e)
                (λ n g. ap (front (part_of p j end)) (drop-drop n i l) ∙ d (i + n) (omega arith) (omega arith)))
                ∙ parted;
          }
      behind_more (Finds.none f) q = let z : ◌≡◌ {A = ℕ} 0 1 = cc in absurd (omega arith)

-- the part behind the last star
module _ (u l : List ℕ) (at : ℕ) (e : plain u ≡ true) where
  pub last_short : at ≤ length l → length l - at < length u → false ≡ some_end (match_of u) (drop at l)
  last_short a h = sym (star_short u (drop at l) e (omega (arith, length-drop at l)))

  pub last_stands : {r : Bool} → at ≤ length l → length u ≤ length l - at → r ≡ front u (drop (length l - length u) l) → r ≡ some_end (match_of u) (drop at l)
  last_stands a h q =
      let w : at + (length (drop at l) - length u) ≡ length l - length u = omega (arith, length-drop at l) in
      q ∙ ap (front u) (sym (drop-drop (length (drop at l) - length u) at l ∙ ap (λ (n : ℕ). drop n l) w))
      ∙ sym (star_last u (drop at l) e (omega (arith, length-drop at l)))

-- ---- the whole pattern

module _ (p l : List ℕ) {end : ℕ} (e : PartEnd p 0 end) where
  long : length (take end p) ≡ end
  long = length-take-le end p e.inside

  starless : plain (take end p) ≡ true
  starless = plain-front end p (λ k h. e.starless k (omega arith) h)

  matched : match_of p l ≡ (front (take end p) l && match_of (drop end p) (drop (length (take end p)) l))
  matched = ap (λ (q : List ℕ). match_of q l) (sym (take-append-drop end p)) ∙ plain_match (take end p) (drop end p) l starless

  pub match_off : front (take end p) l ≡ false → false ≡ match_of p l
  match_off h = sym (matched ∙ ap (λ (t : Bool). t && match_of (drop end p) (drop (length (take end p)) l)) h)

  pub match_short : length l < end → false ≡ match_of p l
  match_short h = match_off (front_short (take end p) l (omega (arith, long)))

  module _ (stands : front (take end p) l ≡ true) where
    pub match_plain : end ≡ length p → eqb (length l) end ≡ match_of p l
    match_plain q =
        let u : take end p ≡ p = take_all end p (omega arith) in
        let h : front p l ≡ true = ap (λ (t : List ℕ). front t l) (sym u) ∙ stands in
        let f : plain p ≡ true = ap plain (sym u) ∙ starless in
        ap (eqb (length l)) q ∙ sym (plain_whole p l f ∙ ap (λ (t : Bool). t && eqb (length l) (length p)) h)

    pub match_parted : {r : Bool} → end < length p → r ≡ some_end (match_of (drop (end + 1) p)) (drop end l) → r ≡ match_of p l
    match_parted h q =
        let c : drop end p ≡ 42 ∷ drop (end + 1) p = drop-cons p end 0 h ∙ ap₂ (λ (c n : ℕ). c ∷ drop n p) (e.star h) (sym (add-one end)) in
        q ∙ sym (match_star 42 (drop (end + 1) p) (drop end l) refl) ∙ ap₂ match_of (sym c) (ap (λ (n : ℕ). drop n l) (sym long))
        ∙ sym (matched ∙ ap (λ (t : Bool). t && match_of (drop end p) (drop (length (take end p)) l)) stands)
