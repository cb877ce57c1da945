-- Items of one width, laid in words and read from them one by one, over any items and any width.
use mathlib.Core.Path.{◌≡◌, refl, sym, ap, ap₂, ◌∙◌}
use mathlib.Core.List.{List, [], ◌∷◌, ◌++◌, append-nil, append_assoc}
use Prim.Native.Nat.{ℕ, zero, suc, ◌+◌, ◌-◌, ◌*◌, ◌≤◌, ◌<◌}
use native.Mathlib.Nat.{add-zero}
use native.Mathlib.Numerals.{add-one}
use native.Mathlib.Omega.{arith}
use lib.ListN.{length, get_or, set, length-set, length-append, drop_of_length-le}
use lib.Seq.{sets, length-sets, set-get_or}
use Rattle.laws.proofs.Tables.{sets-append, sets-front, sets_over, sets_before, sets_under, sets_past, sets_at}
use Rattle.head_words.specs.Words.{run, flat, Zeros}

-- ---- lengths

pub length_run : {A : Type 0} (f : ℕ → A) (k n : ℕ) → length (run f k n) ≡ n
unfolding run
length_run f k zero = refl
length_run f k (suc n) = ap suc (length_run f (suc k) n)

pub length-flat : (g : ℕ → List ℕ) (w : ℕ) → ((j : ℕ) → length (g j) ≡ w) → (k n : ℕ) → length (flat g k n) ≡ w * n
unfolding flat
length-flat g w e k zero = omega arith
length-flat g w e k (suc n) = omega (arith, length-append (g k) (flat g (suc k) n), e k, length-flat g w e (suc k) n)

-- ---- an array of n items, filled by f item by item

pub record Reading {A : Type 0} (f : ℕ → A) (n : ℕ) (t : List A) (k : ℕ) : Type 0 where
  pub within : k ≤ n
  pub long : length t ≡ n
  pub stored : sets t k (run f k (n - k)) ≡ run f 0 n

module _ {A : Type 0} (f : ℕ → A) (n : ℕ) (t : List A) where
  pub reading_none : length t ≡ n → Reading f n t 0
  reading_none l =
      let e : n - 0 ≡ n = omega arith in
      let r : length (run f 0 n) ≡ n = length_run f 0 n in
      record {
        within = omega arith;
        long = l;
        stored =
            ap (λ (m : ℕ). sets t 0 (run f 0 m)) e ∙ sets-front t (run f 0 n) (omega arith)
            ∙ ap (λ (m : List A). run f 0 n ++ m) (drop_of_length-le t {i = length (run f 0 n)} (omega arith)) ∙ append-nil (run f 0 n);
      }

  module _ (k : ℕ) (s : Reading f n t k) where
    pub reading_more : (x : A) → x ≡ f k → k < n → Reading f n (set t k x) (k + 1)
    unfolding run
    reading_more x q h =
        let e : n - k ≡ suc (n - (k + 1)) = omega arith in
        record {
          within = omega arith;
          long = length-set t k x ∙ s.long;
          stored =
              ap₂ (λ (j : ℕ) (y : A). sets (set t k y) j (run f j (n - (k + 1)))) (add-one k) q ∙ sym (ap (λ (m : ℕ). sets t k (run f k m)) e) ∙ s.stored;
        }

    pub reading_done : n ≤ k → t ≡ run f 0 n
    unfolding run
    reading_done h = let e : n - k ≡ 0 = omega arith in sym (ap (λ (m : ℕ). sets t k (run f k m)) e) ∙ s.stored

-- ---- words, laid by g item by item from a place on

pub record Laying (g : ℕ → List ℕ) (w n i : ℕ) (t₀ t : List ℕ) (k : ℕ) : Type 0 where
  pub within : k ≤ n
  pub long : length t ≡ length t₀
  pub laid : sets t (i + w * k) (flat g k (n - k)) ≡ sets t₀ i (flat g 0 n)

module _ (g : ℕ → List ℕ) (w n i : ℕ) (t₀ : List ℕ) where
  pub laying_none : Laying g w n i t₀ t₀ 0
  laying_none =
      let e : n - 0 ≡ n = omega arith in
      let z : i + w * 0 ≡ i = omega arith in
      record { within = omega arith; long = refl; laid = ap₂ (λ (j m : ℕ). sets t₀ j (flat g 0 m)) z e }

  module _ (t : List ℕ) (k : ℕ) (s : Laying g w n i t₀ t k) where
    pub laying_more : (u : List ℕ) → u ≡ sets t (i + w * k) (g k) → length (g k) ≡ w → k < n → Laying g w n i t₀ u (k + 1)
    unfolding flat
    laying_more u q l h =
        let e : n - k ≡ suc (n - (k + 1)) = omega arith in
        let j : i + w * (k + 1) ≡ i + w * k + length (g k) = omega arith in
        record {
          within = omega arith;
          long = ap length q ∙ length-sets t (i + w * k) (g k) ∙ s.long;
          laid =
              ap (λ (v : List ℕ). sets v (i + w * (k + 1)) (flat g (k + 1) (n - (k + 1)))) q
              ∙ ap₂ (λ (a b : ℕ). sets (sets t (i + w * k) (g k)) a (flat g b (n - (k + 1)))) j (add-one k)
              ∙ sets-append t (i + w * k) (g k) (flat g (suc k) (n - (k + 1)))
              ∙ sym (ap (λ (m : ℕ). sets t (i + w * k) (flat g k m)) e) ∙ s.laid;
        }

    pub laying_done : n ≤ k → t ≡ sets t₀ i (flat g 0 n)
    unfolding flat
    laying_done h = let e : n - k ≡ 0 = omega arith in sym (ap (λ (m : ℕ). sets t (i + w * k) (flat g k m)) e) ∙ s.laid

-- words laid behind others are one run with them
pub laid_before : (t u : List ℕ) (i j : ℕ) (xs ys : List ℕ) → u ≡ sets t i xs → j ≡ i + length xs → sets u j ys ≡ sets t i (xs ++ ys)
laid_before t u i j xs ys q e = ap (λ (l : List ℕ). sets l j ys) q ∙ ap (λ (m : ℕ). sets (sets t i xs) m ys) e ∙ sets-append t i xs ys

pub laid_long : (t u : List ℕ) (i : ℕ) (xs : List ℕ) → u ≡ sets t i xs → length u ≡ length t
laid_long t u i xs q = ap length q ∙ length-sets t i xs

-- ---- what stands in words from a place on

pub record Stands (t : List ℕ) (i : ℕ) (ws : List ℕ) : Type 0 where
  pub each : (k : ℕ) → k < length ws → get_or t (i + k) 0 ≡ get_or ws k 0

append_left : (xs ys : List ℕ) (k : ℕ) → k < length xs → get_or (xs ++ ys) k 0 ≡ get_or xs k 0
append_left [] ys k h = absurd (omega arith)
append_left (x ∷ xs) ys zero h = refl
append_left (x ∷ xs) ys (suc k) h = append_left xs ys k (omega arith)

append_right : (xs ys : List ℕ) (k : ℕ) → get_or (xs ++ ys) (length xs + k) 0 ≡ get_or ys k 0
append_right [] ys k = ap (λ (m : ℕ). get_or ys m 0) (omega arith)
append_right (x ∷ xs) ys k =
    let e : suc (length xs) + k ≡ suc (length xs + k) = omega arith in ap (λ (m : ℕ). get_or (x ∷ (xs ++ ys)) m 0) e ∙ append_right xs ys k

module _ (t : List ℕ) (i : ℕ) (xs ys : List ℕ) (s : Stands t i (xs ++ ys)) where
  pub stands_left : Stands t i xs
  stands_left = record { each = λ k h. s.each k (omega (arith, length-append xs ys, h)) ∙ append_left xs ys k h }

  pub stands_right : (j : ℕ) → j ≡ i + length xs → Stands t j ys
  stands_right j e =
      record {
        each = λ k h.
            ap (λ (m : ℕ). get_or t m 0) (the_place k) ∙ s.each (length xs + k) (omega (arith, length-append xs ys, h)) ∙ append_right xs ys k;
      }
    where
      the_place : (k : ℕ) → j + k ≡ i + (length xs + k)
      the_place k = omega (arith, e)

pub stands_item : (t : List ℕ) (g : ℕ → List ℕ) (w : ℕ) → ((j : ℕ) → length (g j) ≡ w) → (i k n : ℕ) → Stands t i (flat g k n) → (j : ℕ) → j < n → Stands t (i + w * j) (g (k + j))
unfolding flat
stands_item t g w e i k zero s j h = absurd (omega arith)
stands_item t g w e i k (suc n) s zero h =
    let p : i + w * 0 ≡ i = omega arith in
    let q : k + 0 ≡ k = omega arith in
    record { each = rw (p, q) (stands_left t i (g k) (flat g (suc k) n) s).each }
stands_item t g w e i k (suc n) s (suc j) h =
    let r = stands_item t g w e (i + w) (suc k) n (stands_right t i (g k) (flat g (suc k) n) s (i + w) (omega (arith, e k))) j (omega arith) in
    let p : i + w * suc j ≡ i + w + w * j = omega arith in
    let q : k + suc j ≡ suc k + j = omega arith in
    record { each = rw (p, q) r.each }

-- words that are stored stand there
pub stands_whole : (ws : List ℕ) → Stands ws 0 ws
stands_whole ws = record { each = λ k h. ap (λ (m : ℕ). get_or ws m 0) (omega arith) }

-- items that are read where they stand are the list
pub run_back : {A : Type 0} (d : A) (l : List A) (f : ℕ → A) (k : ℕ) → ((i : ℕ) → i < length l → f (k + i) ≡ get_or l i d) → run f k (length l) ≡ l
unfolding run
run_back d [] f k e = refl
run_back d (x ∷ l) f k e =
    ap₂ ◌∷◌ (ap f (omega arith) ∙ e 0 (omega arith))
    (run_back d l f (suc k) (λ i h. ap f (omega arith) ∙ e (suc i) (omega arith)))

-- words that are stored in a place stand there
pub stands-laid : (t : List ℕ) (i : ℕ) (xs : List ℕ) → i + length xs ≤ length t → Stands (sets t i xs) i xs
stands-laid t i xs h = record { each = λ k l. sets_at xs t i k 0 l h }

-- words that stand in a place are not changed by storing them there
pub laid_same : (t : List ℕ) (i : ℕ) (xs : List ℕ) → Stands t i xs → sets t i xs ≡ t
laid_same t i [] s = refl
laid_same t i (x ∷ xs) s =
    let e : get_or t i 0 ≡ x = ap (λ (m : ℕ). get_or t m 0) (sym (add-zero i)) ∙ s.each 0 (omega arith) in
    ap (λ (l : List ℕ). sets l (suc i) xs) (ap (set t i) (sym e) ∙ set-get_or t i 0)
    ∙ laid_same t (suc i) xs (record { each = λ k l. ap (λ (m : ℕ). get_or t m 0) (omega arith) ∙ s.each (suc k) (omega arith) })

-- ---- words that are 0

-- storing as many zeros changes nothing
pub zeros-laid : (t : List ℕ) (i : ℕ) (xs : List ℕ) → Zeros t i (length xs) → ((k : ℕ) → k < length xs → get_or xs k 0 ≡ 0) → sets t i xs ≡ t
zeros-laid t i xs z e = laid_same t i xs (record { each = λ k l. z.each k l ∙ sym (e k l) })

-- they stay 0 while words behind or before them are stored
pub zeros_before : (t : List ℕ) (i n j : ℕ) (xs : List ℕ) → i + n ≤ j → Zeros t i n → Zeros (sets t j xs) i n
zeros_before t i n j xs h z = record { each = λ k l. sets_under xs t j (i + k) 0 (omega arith) ∙ z.each k l }

pub zeros_behind : (t : List ℕ) (i n j : ℕ) (xs : List ℕ) → j + length xs ≤ i → Zeros t i n → Zeros (sets t j xs) i n
zeros_behind t i n j xs h z = record { each = λ k l. sets_past xs t j (i + k) 0 (omega arith) ∙ z.each k l }

-- ---- a part stored anew

pub laid_inside : (t : List ℕ) (i : ℕ) (xs ys zs us : List ℕ) → length us ≡ length ys → sets (sets t i (xs ++ (ys ++ zs))) (i + length xs) us ≡ sets t i (xs ++ (us ++ zs))
laid_inside t i xs ys zs us e =
    let j : ℕ = i + length xs in
    let u : List ℕ = sets t i xs in
    let q : j + length ys ≡ j + length us = omega (arith, e) in
    ap (λ (l : List ℕ). sets l j us) (sym (sets-append t i xs (ys ++ zs)) ∙ sym (sets_before ys zs u j))
    ∙ sets_over ys us (sets u (j + length ys) zs) j (omega (arith, e))
    ∙ ap (λ (m : ℕ). sets (sets u m zs) j us) q
    ∙ sets_before us zs u j
    ∙ sets-append t i xs (us ++ zs)

-- ---- items by their places

pub get_or-run : {A : Type 0} (f : ℕ → A) (d : A) (j n k : ℕ) → k < n → get_or (run f j n) k d ≡ f (j + k)
unfolding run
get_or-run f d j zero k h = absurd (omega arith)
get_or-run f d j (suc n) zero h = ap f (omega arith)
get_or-run f d j (suc n) (suc k) h = get_or-run f d (suc j) n k (omega arith) ∙ ap f (omega arith)

pub flat_same : (f g : ℕ → List ℕ) (k n : ℕ) → ((j : ℕ) → k ≤ j → j < k + n → f j ≡ g j) → flat f k n ≡ flat g k n
unfolding flat
flat_same f g k zero e = refl
flat_same f g k (suc n) e = ap₂ ◌++◌ (e k (omega arith) (omega arith)) (flat_same f g (suc k) n (λ j l h. e j (omega arith) (omega arith)))

-- the items before one, that one, and those behind it
pub flat_around : (g : ℕ → List ℕ) (k m n : ℕ) → flat g k (m + suc n) ≡ flat g k m ++ (g (k + m) ++ flat g (suc (k + m)) n)
unfolding flat
flat_around g k zero n =
    let e : zero + suc n ≡ suc n = omega arith in
    let q : k + 0 ≡ k = omega arith in
    rw (e, q)
flat_around g k (suc m) n =
    let e : suc m + suc n ≡ suc (m + suc n) = omega arith in
    let q : k + suc m ≡ suc k + m = omega arith in
    rw (e, q, flat_around g (suc k) m n) (sym (append_assoc (g k) (flat g (suc k) m) (g (suc k + m) ++ flat g (suc (suc k + m)) n)))

-- words that stand there stay while words behind them are stored
pub stands_under : (t : List ℕ) (i : ℕ) (ws : List ℕ) (j : ℕ) (xs : List ℕ) → i + length ws ≤ j → Stands t i ws → Stands (sets t j xs) i ws
stands_under t i ws j xs h s = record { each = λ k l. sets_under xs t j (i + k) 0 (omega arith) ∙ s.each k l }
