-- `block_at`, the counts and `valuesAt` are `written`'s `Block`, both ways, over any bytes.
use mathlib.Core.Path.{◌≡◌, refl, sym, ap, ap₂, ◌∙◌, subst}
use mathlib.Core.Bool.{Bool, true, false, cond, ◌&&◌}
use mathlib.Core.List.{List, [], ◌∷◌, ◌++◌, map, append-nil, append_assoc}
use Prim.Native.Nat.{ℕ, zero, suc, ◌+◌, ◌-◌, ◌*◌, ◌/◌, ◌%◌, ◌^◌, ◌≤◌, ◌<◌}
use native.Mathlib.Omega.{arith}
use borrow.Author.Tests.{eqb-true, eq-eqb}
use lib.Dec.{leb, eqb}
use lib.ListN.{length, get_or, drop, length-drop, length-append}
use lib.Seq.{drop-cons}
use Rattle.std.specs.Prelude.{Some, None}
use Rattle.written.specs.Blocks.{little_endian, Below32, end, next, total, Row, rows_from, paired, Laid, entry, Block}
use Rattle.written.specs.Blocks as B
use Rattle.written.proofs.OneBlock.{bytes_one, block_one}
use Rattle.written.proofs.OneFile.{append_same}
use Rattle.pdf_widen.specs.Widening.{widen_of}
use Rattle.pdf_blocks.proofs.Counts.{block_fits}
use Rattle.pdf_blocks.specs.Values.{word_at, words_at, block_at, value_at, pairs_at, entry_at, values_at}

-- every number of a list is a byte
abbrev pub Small : List ℕ → Type 0
Small s = (k : ℕ) → get_or s k 0 < 0x100

abbrev widened : ℕ → ℕ
widened = widen_of 8 23 11 52

-- a row for each count
pub length_rows : (w first : ℕ) (cs : List ℕ) → length (rows_from w first cs) ≡ length cs
unfolding rows_from
length_rows w first [] = refl
length_rows w first (c ∷ cs) = ap suc (length_rows w (first + c * w) cs)

nil : (l : List ℕ) → length l ≡ 0 → l ≡ []
nil [] h = refl
nil (x ∷ l) h = absurd (omega arith)

pub length_words : (s : List ℕ) (i n : ℕ) → length (words_at s i n) ≡ n
unfolding words_at
length_words s i zero = refl
length_words s i (suc n) = ap suc (length_words s (i + 4) n)

pub words_append : (s : List ℕ) (i n m : ℕ) → words_at s i (n + m) ≡ words_at s i n ++ words_at s (i + 4 * n) m
unfolding words_at
words_append s i zero m = let e : i ≡ i + 4 * 0 = omega arith in let z : 0 + m ≡ m = omega arith in ap (words_at s i) z ∙ ap (λ (j : ℕ). words_at s j m) e
words_append s i (suc n) m =
    let e : i + 4 + 4 * n ≡ i + 4 * suc n = omega arith in
    let z : suc n + m ≡ suc (n + m) = omega arith in
    ap (words_at s i) z ∙ ap (λ l. word_at s i ∷ l) (words_append s (i + 4) n m ∙ ap (λ (j : ℕ). words_at s (i + 4) n ++ words_at s j m) e)

module _ (s : List ℕ) (small : Small s) where
  below : (i : ℕ) → word_at s i < 2 ^ 32
  below i = omega (arith, small i, small (i + 1), small (i + 2), small (i + 3))

  pub words_below : (i n : ℕ) → Below32 (words_at s i n)
  unfolding words_at
  words_below i zero = end
  words_below i (suc n) = next (below i) (words_below (i + 4) n)

  byte0 : (i : ℕ) → word_at s i % 0x100 ≡ get_or s i 0
  byte0 i = omega (arith, small i, small (i + 1), small (i + 2), small (i + 3))

  byte1 : (i : ℕ) → word_at s i / 0x100 % 0x100 ≡ get_or s (i + 1) 0
  byte1 i = omega (arith, small i, small (i + 1), small (i + 2), small (i + 3))

  byte2 : (i : ℕ) → word_at s i / 0x1_0000 % 0x100 ≡ get_or s (i + 2) 0
  byte2 i = omega (arith, small i, small (i + 1), small (i + 2), small (i + 3))

  byte3 : (i : ℕ) → word_at s i / 0x100_0000 % 0x100 ≡ get_or s (i + 3) 0
  byte3 i = omega (arith, small i, small (i + 1), small (i + 2), small (i + 3))

  -- the bytes of n words
  pub words_bytes : (i n : ℕ) → i + 4 * n ≤ length s → little_endian (words_at s i n) ++ drop (i + 4 * n) s ≡ drop i s
  unfolding words_at little_endian
  words_bytes i zero h = let e : i + 4 * 0 ≡ i = omega arith in ap (λ (j : ℕ). drop j s) e
  words_bytes i (suc n) h =
      let e : i + 4 + 4 * n ≡ i + 4 * suc n = omega arith in
      let a : suc i ≡ i + 1 = omega arith in
      let b : suc (i + 1) ≡ i + 2 = omega arith in
      let c : suc (i + 2) ≡ i + 3 = omega arith in
      let d : suc (i + 3) ≡ i + 4 = omega arith in
      let r = words_bytes (i + 4) n (omega arith) in
      let d0 : drop i s ≡ get_or s i 0 ∷ drop (i + 1) s = drop-cons s i 0 (omega arith) ∙ ap (λ (j : ℕ). get_or s i 0 ∷ drop j s) a in
      let d1 : drop (i + 1) s ≡ get_or s (i + 1) 0 ∷ drop (i + 2) s = drop-cons s (i + 1) 0 (omega arith) ∙ ap (λ (j : ℕ). get_or s (i + 1) 0 ∷ drop j s) b in
      let d2 : drop (i + 2) s ≡ get_or s (i + 2) 0 ∷ drop (i + 3) s = drop-cons s (i + 2) 0 (omega arith) ∙ ap (λ (j : ℕ). get_or s (i + 2) 0 ∷ drop j s) c in
      let d3 : drop (i + 3) s ≡ get_or s (i + 3) 0 ∷ drop (i + 4) s = drop-cons s (i + 3) 0 (omega arith) ∙ ap (λ (j : ℕ). get_or s (i + 3) 0 ∷ drop j s) d in
      ap (λ (j : ℕ). little_endian (words_at s i (suc n)) ++ drop j s) (sym e)
      ∙ ap₂ ◌∷◌ (byte0 i) (ap₂ ◌∷◌ (byte1 i) (ap₂ ◌∷◌ (byte2 i) (ap₂ ◌∷◌ (byte3 i) r ∙ sym d3) ∙ sym d2) ∙ sym d1) ∙ sym d0

  -- a list of words that fills the rest of the bytes
  pub words_whole : (i n : ℕ) → length s ≡ i + 4 * n → little_endian (words_at s i n) ≡ drop i s
  words_whole i n h =
      let z : drop (i + 4 * n) s ≡ [] = nil (drop (i + 4 * n) s) (omega (arith, length-drop (i + 4 * n) s)) in
      sym (append-nil (little_endian (words_at s i n))) ∙ ap (λ l. little_endian (words_at s i n) ++ l) (sym z) ∙ words_bytes i n (omega arith)

-- ---- the values

pairs_are : (s : List ℕ) (a b n : ℕ) → paired (map widened (words_at s a n)) (map widened (words_at s b n)) ≡ pairs_at s a b n
unfolding paired words_at pairs_at
pairs_are s a b zero = refl
pairs_are s a b (suc n) = ap (λ l. value_at s a ∷ value_at s b ∷ l) (pairs_are s (a + 4) (b + 4) n)

last_are : (s : List ℕ) (i o : ℕ) → o < 2 → map widened (words_at s i o) ≡ cond (eqb o 1) (value_at s i ∷ []) []
unfolding words_at
last_are s i zero h = refl
last_are s i (suc zero) h = refl
last_are s i (suc (suc o)) h = absurd (omega arith)

cast : {f : ℕ → ℕ} {w n : ℕ} {x y u v : List ℕ} → x ≡ y → u ≡ v → Laid f w n x u → Laid f w n y v
cast {f} {w} {n} {y = y} {u = u} e g l = subst (λ (v : List ℕ). Laid f w n y v) g (subst (λ (x : List ℕ). Laid f w n x u) e l)

-- n entries of width w from j on, as written and as values
pub entries_laid : (s : List ℕ) (j w n : ℕ) → Laid widened w n (words_at s j (n * w)) (values_at s j w n)
unfolding words_at values_at entry_at
entries_laid s j w zero = let z : 0 ≡ 0 * w = omega arith in cast (ap (words_at s j) z) refl B.Laid.end
entries_laid s j w (suc n) =
    let h = w / 2 in
    let o = w % 2 in
    let small : o < 2 = omega arith in
    let g : h + (h + (o + n * w)) ≡ suc n * w = omega arith in
    let k : j + 4 * h + 4 * h ≡ j + 8 * h = omega arith in
    let e : j + 4 * h + 4 * h + 4 * o ≡ j + 4 * w = omega arith in
    let u : words_at s j (suc n * w) ≡ words_at s j h ++ (words_at s (j + 4 * h) h ++ (words_at s (j + 4 * h + 4 * h) o ++ words_at s (j + 4 * w) (n * w))) =
    ap (words_at s j) (sym g) ∙ words_append s j h (h + (o + n * w))
    ∙ ap (λ l. words_at s j h ++ l) (words_append s (j + 4 * h) h (o + n * w) ∙ ap (λ l. words_at s (j + 4 * h) h ++ l) (words_append s (j + 4 * h + 4 * h) o (n * w) ∙ ap (λ (i : ℕ). words_at s (j + 4 * h + 4 * h) o ++ words_at s i (n * w)) e)) in
    let v : values_at s j w (suc n) ≡ paired (map widened (words_at s j h)) (map widened (words_at s (j + 4 * h) h)) ++ (map widened (words_at s (j + 4 * h + 4 * h) o) ++ values_at s (j + 4 * w) w n) =
    append_assoc (pairs_at s j (j + 4 * h) h) (cond (eqb o 1) (value_at s (j + 8 * h) ∷ []) []) (values_at s (j + 4 * w) w n)
    ∙ ap₂ (λ p q. p ++ (q ++ values_at s (j + 4 * w) w n)) (sym (pairs_are s j (j + 4 * h) h)) (sym (last_are s (j + 8 * h) o small) ∙ ap (λ (i : ℕ). map widened (words_at s i o)) (sym k)) in
    cast (sym u) (sym v)
    (entry (words_at s j h) (words_at s (j + 4 * h) h) (words_at s (j + 4 * h + 4 * h) o) (length_words s j h) (length_words s (j + 4 * h) h) (length_words s (j + 4 * h + 4 * h) o) (entries_laid s (j + 4 * w) w n))

laid-length : {f : ℕ → ℕ} {w n : ℕ} {x u : List ℕ} → Laid f w n x u → length x ≡ n * w
laid-length {w = w} B.Laid.end = omega arith
laid-length {w = w} (entry {n = n} {written = x} ms vs d a b c l) =
    let r = laid-length l in
    let e : length (ms ++ (vs ++ (d ++ x))) ≡ length ms + (length vs + (length d + length x)) = length-append ms (vs ++ (d ++ x)) ∙ ap (λ (k : ℕ). length ms + k) (length-append vs (d ++ x) ∙ ap (λ (k : ℕ). length vs + k) (length-append d x)) in
    omega arith

-- ---- a whole block

length-bytes : (l : List ℕ) → length (little_endian l) ≡ 4 * length l
unfolding little_endian
length-bytes [] = refl
length-bytes (x ∷ l) = omega (arith, length-bytes l)

-- words that fill the bytes from i on, wherever i is
words_rest : (s : List ℕ) → Small s → (i n : ℕ) → length s - i ≡ 4 * n → little_endian (words_at s i n) ≡ drop i s
unfolding words_at little_endian
words_rest s small i zero h = sym (nil (drop i s) (omega (arith, length-drop i s)))
words_rest s small i (suc n) h = words_whole s small i (suc n) (omega arith)

module _ (s : List ℕ) (small : Small s) (t w i : ℕ) where
  abbrev counts : List ℕ
  counts = words_at s i t

  abbrev sum : ℕ
  sum = total (words_at s i t)

  -- where the block fits, its bytes say the rows and values that are read
  pub fits_block : {n : ℕ} → Some n ≡ block_at t w s i
      → (n ≡ total (words_at s i t)) × Block widened t w (drop i s) (rows_from w 0 (words_at s i t)) (values_at s (i + 4 * t) w (total (words_at s i t)))
  unfolding block_at
  fits_block {n} e = go (leb (4 * t) (length s - i)) refl (eqb (length s - i) (4 * (t + sum * w))) refl (eqb w 0) refl (eqb sum 0) refl e
    where
      made : length s - i ≡ 4 * (t + sum * w) → (w ≡ 0 → sum ≡ 0) → Block widened t w (drop i s) (rows_from w 0 counts) (values_at s (i + 4 * t) w sum)
      made h f = record {
        counts = counts;
        written = words_at s (i + 4 * t) (sum * w);
        whole = sym (words_rest s small i (t + sum * w) h) ∙ ap little_endian (words_append s i t (sum * w));
        below = subst Below32 (words_append s i t (sum * w)) (words_below s small i (t + sum * w));
        per_tree = length_words s i t;
        width = f;
        row = refl;
        laid = entries_laid s (i + 4 * t) w sum;
      }

      go : (a : Bool) → leb (4 * t) (length s - i) ≡ a → (b : Bool) → eqb (length s - i) (4 * (t + sum * w)) ≡ b → (c : Bool) → eqb w 0 ≡ c → (d : Bool) → eqb sum 0 ≡ d
          → Some n ≡ cond (a && (b && cond c d true)) (Some sum) None → (n ≡ sum) × Block widened t w (drop i s) (rows_from w 0 counts) (values_at s (i + 4 * t) w sum)
      go true p true q true r true u e = (let z : n ≡ sum = cc in z, made (eqb-true (length s - i) (4 * (t + sum * w)) q) (λ z. eqb-true sum 0 u))
      go true p true q false r d u e = (let z : n ≡ sum = cc in z, made (eqb-true (length s - i) (4 * (t + sum * w)) q) (λ z. absurd (let y : ◌≡◌ {A = Bool} true false = sym (eq-eqb w 0 z) ∙ r in let x : ◌≡◌ {A = ℕ} 0 1 = cc in omega arith)))
      go true p true q true r false u e = let x : ◌≡◌ {A = ℕ} 0 1 = cc in absurd (omega arith)
      go true p false q c r d u e = let x : ◌≡◌ {A = ℕ} 0 1 = cc in absurd (omega arith)
      go false p b q c r d u e = let x : ◌≡◌ {A = ℕ} 0 1 = cc in absurd (omega arith)

  -- and where its bytes say rows and values, it fits, and just these are read
  pub block_read : {rows : List Row} {values : List ℕ} → Block widened t w (drop i s) rows values
      → (Some (total (words_at s i t)) ≡ block_at t w s i) × (rows ≡ rows_from w 0 (words_at s i t)) × (values ≡ values_at s (i + 4 * t) w (total (words_at s i t)))
  block_read {rows} {values} b =
      let T = total b.counts in
      let long : length (b.counts ++ b.written) ≡ t + T * w = length-append b.counts b.written ∙ ap₂ (λ (x y : ℕ). x + y) b.per_tree (laid-length b.laid) in
      let size : length s - i ≡ 4 * (t + T * w) = sym (length-drop i s) ∙ ap length b.whole ∙ length-bytes (b.counts ++ b.written) ∙ ap (λ (k : ℕ). 4 * k) long in
      let same : words_at s i (t + T * w) ≡ b.counts ++ b.written = bytes_one (words_below s small i (t + T * w)) b.below (words_rest s small i (t + T * w) size ∙ b.whole) in
      let split = append_same (words_at s i t) b.counts (length_words s i t ∙ sym b.per_tree) (sym (words_append s i t (T * w)) ∙ same) in
      let sums : T ≡ sum = ap total (sym split.0) in
      let fits = block_fits t w s i (omega arith) (size ∙ ap (λ (k : ℕ). 4 * (t + k * w)) sums) (λ z. sym sums ∙ b.width z) in
      let one = block_one b (fits_block fits).1 in
      (fits, one.0, one.1)
