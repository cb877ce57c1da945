-- Runs met eight bytes at a time: the zeros at the low end of a number made of the bytes, eight for each byte, say how many pass a test before any other,
-- and a run goes on over these.
use Rattle.std.proofs.Common.{◌≡◌, ℕ, zero, suc, ◌+◌, ◌-◌, ◌*◌, ◌/◌, ◌%◌, ◌<◌, ◌≤◌, Bool, true, false, cond, not, ◌&&◌, eqb, ltb, leb, ◌⊎◌, List, [], ◌∷◌, length, get_or, sym, refl, ap, ◌∙◌, ap₂, inl, inr, ⊎_elim, arith, ltb-true, le-ltb, lt-ltb, eq-eqb, ne_eqb, eqb-true, le-leb, leb-true}
use native.Mathlib.Decide.{dec_lt, ℕ_discrete}
use borrow.Author.Tests.{lt-leb, not-false}
use lib.Bits.{bit_and, bit_or, and_le_l, and_le_r, or_lt, or_add_and, and_block, or_block}
use lib.Count.{count_trailing_zeros, trailing_of_zero, trailing_le}
use Rattle.laws.specs.Runs.{run, stop}
use Rattle.laws.proofs.Ranges.{is}
use Rattle.laws.proofs.Runs.{stop_on}
use Rattle.text_base.specs.Ahead.{bytes_at, little, is_space, is_printed, unprinted, ahead}

-- ---- zeros at the low end

even : (k m : ℕ) → count_trailing_zeros (suc k) (2 * m) ≡ suc (count_trailing_zeros k m)
unfolding count_trailing_zeros
even k m =
    let e : (2 * m) % 2 ≡ 0 = omega arith in
    let h : (2 * m) / 2 ≡ m = omega arith in
    rw (e, h)

odd : (k m : ℕ) → count_trailing_zeros (suc k) (2 * m + 1) ≡ 0
unfolding count_trailing_zeros
odd k m =
    let e : (2 * m + 1) % 2 ≡ 1 = omega arith in
    rw e

-- m with j zeros below it; k with j above it
abbrev low : ℕ → ℕ → ℕ
low zero m = m
low (suc j) m = 2 * low j m

abbrev up : ℕ → ℕ → ℕ
up zero k = k
up (suc j) k = suc (up j k)

zeros_through : (j k m : ℕ) → count_trailing_zeros (up j k) (low j m) ≡ up j (count_trailing_zeros k m)
zeros_through zero k m = refl
zeros_through (suc j) k m = even (up j k) (low j m) ∙ ap suc (zeros_through j k m)

zeros_within : (j k c m : ℕ) → zero < c → c < low j 1 → count_trailing_zeros (up j k) (c + low j m) < j
zeros_within zero k c m p l = absurd (omega arith)
zeros_within (suc j) k c m p l = elim (ℕ_discrete (c % 2) 0) [
  | yes e ↦
      let h : c + 2 * low j m ≡ 2 * (c / 2 + low j m) = omega arith in
      let r : count_trailing_zeros (up j k) (c / 2 + low j m) < j = zeros_within j k (c / 2) m (omega arith) (omega arith) in
      omega (arith, ap (count_trailing_zeros (suc (up j k))) h ∙ even (up j k) (c / 2 + low j m))
  | no n ↦
      let h : c + 2 * low j m ≡ 2 * (c / 2 + low j m) + 1 = omega arith in
      omega (arith, ap (count_trailing_zeros (suc (up j k))) h ∙ odd (up j k) (c / 2 + low j m))
]

-- all are zeros of the number zero alone
zeros_all : (k n : ℕ) → n < low k 1 → count_trailing_zeros k n ≡ k → n ≡ 0
unfolding count_trailing_zeros
zeros_all zero n l e = omega arith
zeros_all (suc k) n l e = elim (ℕ_discrete (n % 2) 0) [
  | yes z ↦
      let h : n ≡ 2 * (n / 2) = omega arith in
      let t : count_trailing_zeros k (n / 2) ≡ k = omega (arith, ap (count_trailing_zeros (suc k)) h ∙ even k (n / 2)) in
      omega (arith, zeros_all k (n / 2) (omega arith) t)
  | no o ↦
      let h : n ≡ 2 * (n / 2) + 1 = omega arith in
      absurd (omega (arith, ap (count_trailing_zeros (suc k)) h ∙ odd k (n / 2)))
]

-- so the number is zero where they make up all eight bytes
pub eight_zeros : (n m : ℕ) → n < 18446744073709551616 → count_trailing_zeros 64 n / 8 ≡ m → eqb n 0 ≡ eqb m 8
eight_zeros n m l e = elim (ℕ_discrete n 0) [
  | yes z ↦
      let t : m ≡ 8 = omega (arith, ap (count_trailing_zeros 64) z ∙ trailing_of_zero 64) in
      eq-eqb n 0 z ∙ sym (eq-eqb m 8 t)
  | no d ↦
      let t : m ≡ 8 → ⊥ = λ f. d (zeros_all 64 n l (omega (arith, trailing_le 64 n))) in
      ne_eqb n 0 d ∙ sym (ne_eqb m 8 t)
]

-- ---- the difference from spaces

-- eight digits for each byte; spaces as a number; q times what is one more than the largest number of k bytes
abbrev digits_of : ℕ → ℕ
digits_of zero = 0
digits_of (suc k) = up 8 (digits_of k)

abbrev spaces_of : ℕ → ℕ
spaces_of zero = 0
spaces_of (suc k) = 32 + 256 * spaces_of k

abbrev above : ℕ → ℕ → ℕ
above zero q = q
above (suc k) q = 256 * above k q

eights : (n t : ℕ) → t / 8 ≡ n → up 8 t / 8 ≡ suc n
eights n t e = omega arith

-- n is the difference of the bytes l from as many spaces, but for what wraps
pub spaces_first : (k : ℕ) (l : List ℕ) (n q : ℕ) → length l ≡ k → ((i : ℕ) → get_or l i 0 < 256) → n + spaces_of k ≡ little l + above k q
    → count_trailing_zeros (digits_of k) n / 8 ≡ length (run is_space l)
unfolding count_trailing_zeros little run
spaces_first zero [] n q e b h = refl
spaces_first zero (x ∷ l) n q e b h = absurd (omega arith)
spaces_first (suc k) [] n q e b h = absurd (omega arith)
spaces_first (suc k) (x ∷ l) n q e b h = elim (ℕ_discrete x 32) [
  | yes s ↦
      let m : n ≡ low 8 (n / 256) = omega arith in
      let r : count_trailing_zeros (digits_of k) (n / 256) / 8 ≡ length (run is_space l) = spaces_first k l (n / 256) q (omega arith) (λ i. b (suc i)) (omega arith) in
      rw (eq-eqb x 32 s, m, zeros_through 8 (digits_of k) (n / 256)) (eights _ _ r)
  | no d ↦
      let o : x < 256 = b 0 in
      let m : n ≡ n % 256 + low 8 (n / 256) = omega arith in
      let r : count_trailing_zeros (up 8 (digits_of k)) (n % 256 + low 8 (n / 256)) < 8 = zeros_within 8 (digits_of k) (n % 256) (n / 256) (omega arith) (omega arith) in
      rw (ne_eqb x 32 d) (omega (arith, ap (count_trailing_zeros (digits_of (suc k))) m))
]

-- ---- the top bits of others than printed bytes

-- 128 and 160 in each of k bytes
abbrev tops_of : ℕ → ℕ
tops_of zero = 0
tops_of (suc k) = 128 + 256 * tops_of k

abbrev from_of : ℕ → ℕ
from_of zero = 0
from_of (suc k) = 160 + 256 * from_of k

-- the top bit of a byte
top_clear : (n : ℕ) → n < 128 → bit_and n 128 ≡ 0
top_clear n h = is (λ b. bit_and b 128) 0 128 0 refl n (omega arith) (omega arith)

top_set : (n : ℕ) → 128 ≤ n → n < 256 → bit_and n 128 ≡ 128
top_set n h l = is (λ b. bit_and b 128) 128 128 128 refl n h (omega arith)

or_clear : (c x : ℕ) → c < 128 → x < 128 → bit_and (bit_or c x) 128 ≡ 0
or_clear c x h l = top_clear (bit_or c x) (or_lt 7 c x h l)

or_set : (c x : ℕ) → c < 256 → x < 256 → 128 ≤ c + x → (c < 128 → x < 128 → ⊥) → bit_and (bit_or c x) 128 ≡ 128
or_set c x h l s n = elim (dec_lt c 128) [
  | yes p ↦ elim (dec_lt x 128) [
    | yes q ↦ absurd (n p q)
    | no q ↦ top_set (bit_or c x) (omega (arith, or_add_and c x, and_le_l c x)) (or_lt 8 c x h l)
  ]
  | no p ↦ top_set (bit_or c x) (omega (arith, or_add_and c x, and_le_r c x)) (or_lt 8 c x h l)
]

-- the lowest byte and the others apart
split_bits : (u w t c x : ℕ) → c < 256 → x < 256
    → bit_and (bit_or (u * 256 + c) (w * 256 + x)) (t * 256 + 128) ≡ bit_and (bit_or u w) t * 256 + bit_and (bit_or c x) 128
split_bits u w t c x h l =
    ap (λ n. bit_and n (t * 256 + 128)) (or_block 8 u w c x h l) ∙ and_block 8 (bit_or u w) t (bit_or c x) 128 (or_lt 8 c x h l) (omega arith)

not_printed : (x : ℕ) → (x < 33) ⊎ (127 < x) → is_printed x ≡ false
not_printed x w = ⊎_elim (λ h. rw (lt-leb 33 x h)) (λ h. rw (le-leb 33 x (omega arith), lt-leb x 127 h)) w

pub printed_range : (x : ℕ) → is_printed x ≡ true → (33 ≤ x) × (x ≤ 127)
printed_range x e = go (leb 33 x) (leb x 127) refl refl e
  where
    go : (a b : Bool) → leb 33 x ≡ a → leb x 127 ≡ b → a && b ≡ true → (33 ≤ x) × (x ≤ 127)
    go true true p q e = (leb-true 33 x p, leb-true x 127 q)
    go true false p q e = let z : ◌≡◌ {A = ℕ} 0 1 = cc in absurd (omega arith)
    go false b p q e = let z : ◌≡◌ {A = ℕ} 0 1 = cc in absurd (omega arith)

-- u is the difference of the bytes l from as many of 160, but for what wraps
printed_first : (k : ℕ) (l : List ℕ) (u q : ℕ) → length l ≡ k → ((i : ℕ) → get_or l i 0 < 256) → u + little l ≡ from_of k + above k q
    → count_trailing_zeros (digits_of k) (bit_and (bit_or u (little l)) (tops_of k)) / 8 ≡ length (run is_printed l)
unfolding count_trailing_zeros little run
printed_first zero [] u q e b h = refl
printed_first zero (x ∷ l) u q e b h = absurd (omega arith)
printed_first (suc k) [] u q e b h = absurd (omega arith)
printed_first (suc k) (x ∷ l) u q e b h =
    let o : x < 256 = b 0 in
    let c = u % 256 in
    let z = bit_and (bit_or (u / 256) (little l)) (tops_of k) in
    let e₁ : u ≡ u / 256 * 256 + u % 256 = omega arith in
    let e₂ : x + 256 * little l ≡ little l * 256 + x = omega arith in
    let e₃ : 128 + 256 * tops_of k ≡ tops_of k * 256 + 128 = omega arith in
    let whole : bit_and (bit_or u (x + 256 * little l)) (128 + 256 * tops_of k) ≡ z * 256 + bit_and (bit_or c x) 128
    = ap₂ (λ m n. bit_and (bit_or m n) (128 + 256 * tops_of k)) e₁ e₂
    ∙ ap (bit_and (bit_or (u / 256 * 256 + u % 256) (little l * 256 + x))) e₃
    ∙ split_bits (u / 256) (little l) (tops_of k) (u % 256) x (omega arith) o in
    let rest : ((x < 33) ⊎ (127 < x)) → count_trailing_zeros (up 8 (digits_of k)) (bit_and (bit_or u (x + 256 * little l)) (128 + 256 * tops_of k)) / 8 ≡ length (cond (is_printed x) (x ∷ run is_printed l) [])
    = λ w.
    let t : bit_and (bit_or c x) 128 ≡ 128 = or_set c x (omega arith) o (omega arith) (λ m n. ⊎_elim (λ v. omega arith) (λ v. omega arith) w) in
    let y : bit_and (bit_or u (x + 256 * little l)) (128 + 256 * tops_of k) ≡ 128 + low 8 z = omega arith in
    let r : count_trailing_zeros (up 8 (digits_of k)) (128 + low 8 z) < 8 = zeros_within 8 (digits_of k) 128 z (omega arith) (omega arith) in
    rw (not_printed x w) (omega (arith, ap (count_trailing_zeros (up 8 (digits_of k))) y)) in
    elim (dec_lt x 33) [
      | yes g ↦ rest (inl g)
      | no g ↦ elim (dec_lt 127 x) [
        | yes f ↦ rest (inr f)
        | no f ↦
            let t : bit_and (bit_or c x) 128 ≡ 0 = or_clear c x (omega arith) (omega arith) in
            let y : bit_and (bit_or u (x + 256 * little l)) (128 + 256 * tops_of k) ≡ low 8 z = omega arith in
            let r : count_trailing_zeros (digits_of k) z / 8 ≡ length (run is_printed l) = printed_first k l (u / 256) q (omega arith) (λ i. b (suc i)) (omega arith) in
            rw (le-leb 33 x (omega arith), le-leb x 127 (omega arith))
            (ap (λ n. count_trailing_zeros (up 8 (digits_of k)) n / 8) y ∙ ap (λ n. n / 8) (zeros_through 8 (digits_of k) z) ∙ eights _ _ r)
      ]
    ]

-- ---- the eight bytes, as the code reads them

bytes_small : (n : ℕ) (s : List ℕ) (i : ℕ) → ((j : ℕ) → get_or s j 0 < 256) → (j : ℕ) → get_or (bytes_at n s i) j 0 < 256
unfolding bytes_at
bytes_small zero s i b j = omega arith
bytes_small (suc n) s i b zero = b i
bytes_small (suc n) s i b (suc j) = bytes_small n s (suc i) b j

length-bytes : (n : ℕ) (s : List ℕ) (i : ℕ) → length (bytes_at n s i) ≡ n
unfolding bytes_at
length-bytes zero s i = refl
length-bytes (suc n) s i = ap suc (length-bytes n s (suc i))

pub eight_bytes : (s : List ℕ) (i : ℕ)
    → little (bytes_at 8 s i)
    ≡ get_or s i 0 + 256 * get_or s (i + 1) 0 + 65536 * get_or s (i + 2) 0 + 16777216 * get_or s (i + 3) 0 + 4294967296 * get_or s (i + 4) 0
    + 1099511627776 * get_or s (i + 5) 0 + 281474976710656 * get_or s (i + 6) 0 + 72057594037927936 * get_or s (i + 7) 0
unfolding little bytes_at
eight_bytes s i =
    let at : (j k : ℕ) → j ≡ k → get_or s j 0 ≡ get_or s k 0 = λ j k q. ap (λ n. get_or s n 0) q in
    omega (
      arith,
      at (suc i) (i + 1) (omega arith),
      at (suc (suc i)) (i + 2) (omega arith),
      at (suc (suc (suc i))) (i + 3) (omega arith),
      at (suc (suc (suc (suc i)))) (i + 4) (omega arith),
      at (suc (suc (suc (suc (suc i))))) (i + 5) (omega arith),
      at (suc (suc (suc (suc (suc (suc i)))))) (i + 6) (omega arith),
      at (suc (suc (suc (suc (suc (suc (suc i))))))) (i + 7) (omega arith),
    )

-- ---- how many come first

pub nine_of : (s : List ℕ) (i : ℕ) → ltb 8 (length s - i) ≡ ltb (i + 8) (length s)
nine_of s i = elim (dec_lt (i + 8) (length s)) [
  | yes h ↦ lt-ltb 8 (length s - i) (omega arith) ∙ sym (lt-ltb (i + 8) (length s) h)
  | no n ↦ le-ltb 8 (length s - i) (omega arith) ∙ sym (le-ltb (i + 8) (length s) (omega arith))
]

pub nine_in : (r : Bool) (s : List ℕ) (i : ℕ) → r ≡ ltb (i + 8) (length s) → not r ≡ false → i + 8 < length s
nine_in r s i e h = ltb-true (i + 8) (length s) (sym e ∙ not-false r h)

pub ahead_none : (p : ℕ → Bool) (s : List ℕ) (i : ℕ) → ltb (i + 8) (length s) ≡ false → 0 ≡ ahead p s i
unfolding ahead
ahead_none p s i h = rw h

module _ (s : List ℕ) (i : ℕ) (h : i + 8 < length s) (b : (j : ℕ) → get_or s j 0 < 256) where
  pub ahead_spaces : (n : ℕ) → (n + 2314885530818453536) % 18446744073709551616 ≡ little (bytes_at 8 s i) → count_trailing_zeros 64 n / 8 ≡ ahead is_space s i
  unfolding ahead
  ahead_spaces n e =
      rw (lt-ltb (i + 8) (length s) h)
      (spaces_first 8 (bytes_at 8 s i) n ((n + 2314885530818453536) / 18446744073709551616) (length-bytes 8 s i) (bytes_small 8 s i b) (omega arith))

  -- the number of the eight bytes says whether all are spaces
  pub all_spaces : (w : ℕ) → w ≡ little (bytes_at 8 s i) → w < 18446744073709551616 → eqb w 2314885530818453536 ≡ eqb (ahead is_space s i) 8
  all_spaces w q l = same (ℕ_discrete w 2314885530818453536) ∙ eight_zeros n (ahead is_space s i) (omega arith) (ahead_spaces n (e ∙ q))
    where
      n : ℕ
      n = (w + 16131858542891098080) % 18446744073709551616

      e : (n + 2314885530818453536) % 18446744073709551616 ≡ w
      e = omega arith

      same : Dec (w ≡ 2314885530818453536) → eqb w 2314885530818453536 ≡ eqb n 0
      same (yes z) = eq-eqb w 2314885530818453536 z ∙ sym (eq-eqb n 0 (omega arith))
      same (no d) = ne_eqb w 2314885530818453536 d ∙ sym (ne_eqb n 0 (λ z. d (omega arith)))

  ahead_printed : (u w : ℕ) → (u + w) % 18446744073709551616 ≡ 11574427654092267680 → w ≡ little (bytes_at 8 s i)
      → count_trailing_zeros 64 (bit_and (bit_or u w) 9259542123273814144) / 8 ≡ ahead is_printed s i
  unfolding ahead
  ahead_printed u w e q =
      rw (lt-ltb (i + 8) (length s) h, q)
      (printed_first 8 (bytes_at 8 s i) u ((u + w) / 18446744073709551616) (length-bytes 8 s i) (bytes_small 8 s i b) (omega arith))

  little_small : little (bytes_at 8 s i) < 18446744073709551616
  little_small = omega (arith, eight_bytes s i, b i, b (i + 1), b (i + 2), b (i + 3), b (i + 4), b (i + 5), b (i + 6), b (i + 7))

  pub ahead-unprinted : (r : ℕ) → r ≡ unprinted (little (bytes_at 8 s i)) → count_trailing_zeros 64 r / 8 ≡ ahead is_printed s i
  ahead-unprinted r q =
      ap (λ n. count_trailing_zeros 64 n / 8) q
      ∙ ahead_printed ((11574427654092267680 + (18446744073709551616 - little (bytes_at 8 s i))) % 18446744073709551616) (little (bytes_at 8 s i)) (omega (arith, little_small)) refl

  pub all_printed : (r : ℕ) → r ≡ unprinted (little (bytes_at 8 s i)) → r < 18446744073709551616 → eqb r 0 ≡ eqb (ahead is_printed s i) 8
  all_printed r q l = eight_zeros r (ahead is_printed s i) l (ahead-unprinted r q)

-- the code's difference is that of the definition
pub is_unprinted : (u w v : ℕ) → (u + w) % 18446744073709551616 ≡ 11574427654092267680 → u < 18446744073709551616 → w < 18446744073709551616 → w ≡ v
    → bit_and (bit_or u w) 9259542123273814144 ≡ unprinted v
is_unprinted u w v e l k q =
    let d : u ≡ (11574427654092267680 + (18446744073709551616 - v)) % 18446744073709551616 = omega arith in
    ap₂ (λ m n. bit_and (bit_or m n) 9259542123273814144) d q

-- ---- a run over them

length_run : (p : ℕ → Bool) (l : List ℕ) → length (run p l) ≤ length l
unfolding run
length_run p [] = omega arith
length_run p (b ∷ l) = go (p b) (length_run p l)
  where
    go : (t : Bool) → length (run p l) ≤ length l → length (cond t (b ∷ run p l) []) ≤ suc (length l)
    go true h = omega arith
    go false h = omega arith

-- p takes all that q does
module _ (p q : ℕ → Bool) (takes : (b : ℕ) → q b ≡ true → p b ≡ true) (s : List ℕ) where
  ahead_in : (i : ℕ) → i < length s → i + ahead q s i < length s
  unfolding ahead
  ahead_in i l = elim (dec_lt (i + 8) (length s)) [
    | yes h ↦ rw (lt-ltb (i + 8) (length s) h) (omega (arith, length_run q (bytes_at 8 s i), length-bytes 8 s i))
    | no n ↦ rw (le-ltb (i + 8) (length s) (omega arith)) (omega arith)
  ]

  pub past_in : (i r : ℕ) → r ≡ ahead q s i → i < length s → i + r < length s
  past_in i r e l = omega (arith, ahead_in i l)

  stop_over : (n i : ℕ) → i + n < length s → stop p s i ≡ stop p s (i + length (run q (bytes_at n s i)))
  unfolding run bytes_at
  stop_over zero i h =
      let k : i ≡ i + 0 = omega arith in
      ap (stop p s) k
  stop_over (suc n) i h = go (q (get_or s i 0)) refl (λ _. stop_over n (suc i) (omega arith))
    where
      go : (t : Bool) → q (get_or s i 0) ≡ t → (t ≡ true → stop p s (suc i) ≡ stop p s (suc i + length (run q (bytes_at n s (suc i)))))
          → stop p s i ≡ stop p s (i + length (cond t (get_or s i 0 ∷ run q (bytes_at n s (suc i))) []))
      go true e r =
          let on : stop p s i ≡ stop p s (i + 1) = stop_on p s i (omega arith) (takes (get_or s i 0) e) in
          let j : i + 1 ≡ suc i = omega arith in
          let k : suc i + length (run q (bytes_at n s (suc i))) ≡ i + suc (length (run q (bytes_at n s (suc i)))) = omega arith in
          on ∙ ap (stop p s) j ∙ r refl ∙ ap (stop p s) k
      go false e r =
          let k : i ≡ i + 0 = omega arith in
          ap (stop p s) k

  stop-ahead : (i : ℕ) → stop p s i ≡ stop p s (i + ahead q s i)
  unfolding ahead
  stop-ahead i = elim (dec_lt (i + 8) (length s)) [
    | yes h ↦ rw (lt-ltb (i + 8) (length s) h) (stop_over 8 i h)
    | no n ↦
        let k : i ≡ i + 0 = omega arith in
        rw (le-ltb (i + 8) (length s) (omega arith)) (ap (stop p s) k)
  ]

  pub stop_past : (i r : ℕ) → r ≡ ahead q s i → stop p s (i + r) ≡ stop p s i
  stop_past i r e = ap (λ k. stop p s (i + k)) e ∙ sym (stop-ahead i)

  -- eight that all pass leave a byte behind them, and the run stops where it did
  pub eight_in : (i : ℕ) → eqb (ahead q s i) 8 ≡ true → i + 8 < length s
  unfolding ahead
  eight_in i e = elim (dec_lt (i + 8) (length s)) [
    | yes h ↦ h
    | no n ↦
        let z : ahead q s i ≡ 0 = rw (le-ltb (i + 8) (length s) (omega arith)) in
        absurd (omega (arith, eqb-true (ahead q s i) 8 e))
  ]

  pub stop_eight : (i : ℕ) → eqb (ahead q s i) 8 ≡ true → stop p s (i + 8) ≡ stop p s i
  stop_eight i e = stop_past i 8 (sym (eqb-true (ahead q s i) 8 e))
