-- Of every opened file the house's call has an answer, in tables with room for each model: bytes are a block or none, a model is there or refused.
use mathlib.Core.Path.{◌≡◌, refl, sym, ap, ◌∙◌, subst}
use mathlib.Core.Logic.{◌⊎◌, inl, inr}
use mathlib.Core.List.{List, [], ◌∷◌, ◌++◌, map}
use Prim.Native.Nat.{ℕ, zero, suc, ◌+◌, ◌*◌, ◌/◌, ◌%◌, ◌^◌, ◌≤◌, ◌<◌}
use native.Mathlib.Nat.{suc-mul}
use native.Mathlib.Omega.{arith}
use native.Mathlib.Decide.{dec_lt, dec_le, ℕ_discrete}
use lib.ListN.{length, take, drop, length-append, length-drop, take-append-drop}
use lib.Seq.{length-take-le}
use Rattle.written.specs.HeaderText.{Range}
use Rattle.written.specs.Groups.{Pointwise}
use Rattle.written.specs.Record.{Header, Says}
use Rattle.written.specs.Faults.{Refused}
use Rattle.written.specs.Blocks.{little_endian, Below32, total, Row, rows_from, paired, Laid, Block}
use Rattle.written.specs.Said.{Text, Layout}
use Rattle.written.specs.TreeText as tree
use Rattle.written.specs.Breaks.{Breaks}
use Rattle.written.specs.Tables.{TreeRows, ModelRefused, Negative}
use Rattle.written.specs.Models.{Model, data_of, Within, Placed, Unplaced}
use Rattle.written.specs.Loading.{ModelSaid, Unloaded, Unread, NoModel}
use Rattle.written.specs.House.{HouseVoice, VoiceBreaks, SaysModel, FirstRefused, Judges, JudgesFile}
use Rattle.written.proofs.OneFile.{heads, tails, append_same}
use Rattle.written.proofs.OneBlock.{bytes_one}
use Rattle.written.proofs.Model.{model_links}
use Rattle.written_total.proofs.BreaksAlways.{says_or_breaks}
use Rattle.written_trailer.proofs.TrailerTotal.{models_total, placed_or, negative_or, within_or}
use Rattle.written_house.proofs.HouseDecided.{voice_or_breaks}

-- ---- bytes as 32-bit numbers, or not

abbrev Numbers : List ℕ → Type 0
Numbers bytes = (ns : List ℕ) × (bytes ≡ little_endian ns) × Below32 ns

abbrev NoNumbers : List ℕ → Type 0
NoNumbers bytes = (ns : List ℕ) → Below32 ns → ¬ (bytes ≡ little_endian ns)

-- four bytes and the number that they are
number : (a b c d : ℕ) → a < 256 → b < 256 → c < 256 → d < 256 → (n : ℕ) × (n < 2 ^ 32) × (n % 0x100 ≡ a) × (n / 0x100 % 0x100 ≡ b) × (n / 0x1_0000 % 0x100 ≡ c) × (n / 0x100_0000 % 0x100 ≡ d)
number a b c d p q r s = (a + 0x100 * b + 0x1_0000 * c + 0x100_0000 * d, omega arith, omega arith, omega arith, omega arith, omega arith)

-- the bytes of a list of numbers: four at a time, each below 256
four : (a b c d : ℕ) (rest ns : List ℕ) → Below32 ns → a ∷ b ∷ c ∷ d ∷ rest ≡ little_endian ns
    → (a < 256) × (b < 256) × (c < 256) × (d < 256) × ((ms : List ℕ) × Below32 ms × (rest ≡ little_endian ms))
unfolding little_endian
four a b c d rest [] Below32.end e = absurd (omega (arith, ap length e))
four a b c d rest (n ∷ ns) (Below32.next l h) e =
    let x : a ≡ n % 0x100 = heads e in
    let y : b ≡ n / 0x100 % 0x100 = heads (tails e) in
    let z : c ≡ n / 0x1_0000 % 0x100 = heads (tails (tails e)) in
    let w : d ≡ n / 0x100_0000 % 0x100 = heads (tails (tails (tails e))) in
    (omega arith, omega arith, omega arith, omega arith, (ns, h, tails (tails (tails (tails e)))))

some_bytes : (bytes ns : List ℕ) → 0 < length bytes → length bytes < 4 → Below32 ns → ¬ (bytes ≡ little_endian ns)
unfolding little_endian
some_bytes bytes [] a b Below32.end e = omega (arith, ap length e)
some_bytes bytes (n ∷ ns) a b (Below32.next l h) e = omega (arith, ap length e)

numbers_or : (bytes : List ℕ) → Numbers bytes ⊎ NoNumbers bytes
unfolding little_endian
numbers_or [] = inl ([], refl, Below32.end)
numbers_or (a ∷ []) = inr (λ ns h. some_bytes (a ∷ []) ns (omega arith) (omega arith) h)
numbers_or (a ∷ b ∷ []) = inr (λ ns h. some_bytes (a ∷ b ∷ []) ns (omega arith) (omega arith) h)
numbers_or (a ∷ b ∷ c ∷ []) = inr (λ ns h. some_bytes (a ∷ b ∷ c ∷ []) ns (omega arith) (omega arith) h)
numbers_or (a ∷ b ∷ c ∷ d ∷ rest) = go (dec_lt a 256) (dec_lt b 256) (dec_lt c 256) (dec_lt d 256) (numbers_or rest)
  where
    go : Dec (a < 256) → Dec (b < 256) → Dec (c < 256) → Dec (d < 256) → Numbers rest ⊎ NoNumbers rest → Numbers (a ∷ b ∷ c ∷ d ∷ rest) ⊎ NoNumbers (a ∷ b ∷ c ∷ d ∷ rest)
    go (no n) q r s t = inr (λ ns h e. n (four a b c d rest ns h e).0)
    go (yes p) (no n) r s t = inr (λ ns h e. n (four a b c d rest ns h e).1)
    go (yes p) (yes q) (no n) s t = inr (λ ns h e. n (four a b c d rest ns h e).2)
    go (yes p) (yes q) (yes r) (no n) t = inr (λ ns h e. n (four a b c d rest ns h e).3)
    go (yes p) (yes q) (yes r) (yes s) (inr f) = inr (λ ns h e. let k = (four a b c d rest ns h e).4 in f k.0 k.1 k.2)
    go (yes p) (yes q) (yes r) (yes s) (inl (ns, e, h)) =
        let k = number a b c d p q r s in
        let x = sym k.2 in
        let y = sym k.3 in
        let z = sym k.4 in
        let w = sym k.5 in
        inl (k.0 ∷ ns, (λ i. x i ∷ y i ∷ z i ∷ w i ∷ e i), Below32.next k.1 h)

-- ---- entries

laid-length : {f : ℕ → ℕ} {w n : ℕ} {x v : List ℕ} → Laid f w n x v → length x ≡ n * w
laid-length {w = w} Laid.end = omega arith
laid-length {w = w} (Laid.entry {n = n} {written = written} ms vs d a b c l) =
    let e = length-append ms (vs ++ (d ++ written)) in
    let g = length-append vs (d ++ written) in
    let k = length-append d written in
    let i : suc n * w ≡ n * w + w = suc-mul n w in
    omega (arith, e, g, k, i, laid-length l)

-- a list cut in two
front : (k : ℕ) (x : List ℕ) → k ≤ length x → (a : List ℕ) × (b : List ℕ) × (x ≡ a ++ b) × (length a ≡ k) × (length b + k ≡ length x)
front k x l =
    let e = take-append-drop k x in
    let f = length-take-le k x l in
    (take k x, drop k x, sym e, f, omega (arith, length-drop k x))

laid-total : (f : ℕ → ℕ) (w n : ℕ) (x : List ℕ) → length x ≡ n * w → (v : List ℕ) × Laid f w n x v
laid-total f w zero [] e = ([], Laid.end)
laid-total f w zero (a ∷ x) e = absurd (omega arith)
laid-total f w (suc n) x e =
    let i : suc n * w ≡ n * w + w = suc-mul n w in
    let p = front (w / 2) x (omega arith) in
    let q = front (w / 2) p.1 (omega (arith, p.4)) in
    let r = front (w % 2) q.1 (omega (arith, p.4, q.4)) in
    let l : length r.1 ≡ n * w = omega (arith, p.4, q.4, r.4) in
    let g = laid-total f w n r.1 l in
    let whole : x ≡ p.0 ++ (q.0 ++ (r.0 ++ r.1)) = p.2 ∙ ap (λ (z : List ℕ). p.0 ++ z) (q.2 ∙ ap (λ (z : List ℕ). q.0 ++ z) r.2) in
    let v : List ℕ = paired (map f p.0) (map f q.0) ++ (map f r.0 ++ g.0) in
    (v, subst (λ (z : List ℕ). Laid f w (suc n) z v) (sym whole) (Laid.entry p.0 q.0 r.0 p.3 q.3 r.3 g.1))

-- ---- blocks

abbrev BlockOr : (ℕ → ℕ) → ℕ → ℕ → List ℕ → Type 0
BlockOr f t w bytes = ((rows : List Row) × (values : List ℕ) × Block f t w bytes rows values) ⊎ ((rows : List Row) (values : List ℕ) → ¬ Block f t w bytes rows values)

module _ (f : ℕ → ℕ) (t w : ℕ) (bytes : List ℕ) where
  module _ (counts written : List ℕ) (whole : bytes ≡ little_endian (counts ++ written)) (below : Below32 (counts ++ written)) (per-tree : length counts ≡ t) where
    -- whatever block it is, these are its counts and its numbers
    same : {rows : List Row} {values : List ℕ} (b : Block f t w bytes rows values) → (counts ≡ b.counts) × (written ≡ b.written)
    same b = append_same counts b.counts (per-tree ∙ sym b.per_tree) (bytes_one below b.below (sym whole ∙ b.whole))

    laid : (w ≡ 0 → total counts ≡ 0) → Dec (length written ≡ total counts * w) → BlockOr f t w bytes
    laid z (yes e) =
        let g = laid-total f w (total counts) written e in
        inl (rows_from w 0 counts, g.0, record { counts = counts; written = written; whole = whole; below = below; per_tree = per-tree; width = z; row = refl; laid = g.1 })
    laid z (no n) = inr (λ rows values b. let s = same b in n (ap length s.1 ∙ laid-length b.laid ∙ ap (λ (c : List ℕ). total c * w) (sym s.0)))

    wide : Dec (w ≡ 0) → Dec (total counts ≡ 0) → BlockOr f t w bytes
    wide (no n) c = laid (λ e. absurd (n e)) (ℕ_discrete (length written) (total counts * w))
    wide (yes e) (yes c) = laid (λ z. c) (ℕ_discrete (length written) (total counts * w))
    wide (yes e) (no n) = inr (λ rows values b. n (ap total (same b).0 ∙ b.width e))

  long : (ns : List ℕ) → bytes ≡ little_endian ns → Below32 ns → Dec (t ≤ length ns) → BlockOr f t w bytes
  long ns e h (yes l) =
      let p = front t ns l in
      wide p.0 p.1 (e ∙ ap little_endian p.2) (subst Below32 p.2 h) p.3 (ℕ_discrete w 0) (ℕ_discrete (total p.0) 0)
  long ns e h (no n) =
      inr (λ rows values b.
      let k : length ns ≡ length (b.counts ++ b.written) = ap length (bytes_one h b.below (sym e ∙ b.whole)) in
      n (omega (arith, k, length-append b.counts b.written, b.per_tree)))

  -- bytes are a block, or none
  pub block_or : ((rows : List Row) × (values : List ℕ) × Block f t w bytes rows values) ⊎ ((rows : List Row) (values : List ℕ) → ¬ Block f t w bytes rows values)
  block_or = go (numbers_or bytes)
    where
      go : Numbers bytes ⊎ NoNumbers bytes → BlockOr f t w bytes
      go (inl (ns, e, h)) = long ns e h (dec_le t (length ns))
      go (inr n) = inr (λ rows values b. n (b.counts ++ b.written) b.below b.whole)

-- ---- models

module _ (widen : ℕ → ℕ) (s : List ℕ) (h : Header) where
  abbrev Loaded : Model → Type 0
  Loaded m = ((x : ModelSaid) × SaysModel widen s h m x) ⊎ ((n : ℕ) × (p : ℕ) × (k : ℕ) × NoModel widen s h m n p k)

  module _ {m : Model} {t b : Range} {w : ℕ} (placed : Placed s h m t b w) (narrow : w ≤ 4096) (inside : Within t (data_of s h)) where
    module _ {x : Text} {l : Layout} (says : tree.Says (take (t.to + 1) (data_of s h)) t.from x l) where
      refuse : {n p k : ℕ} → Unloaded widen s h x b w n p k → Loaded m
      refuse u = inr (_, _, _, NoModel.placed placed (Unread.said narrow inside says u))

      linked : ¬ Negative x.trees → Within b (data_of s h) → {rows : List Row} {values : List ℕ} → Block widen (length x.trees) w (drop b.from (take (b.to + 1) (data_of s h))) rows values
          → ((trees : List (List ℕ)) × (records : List (List ℕ)) × TreeRows x.questions 0 x.trees trees records) ⊎ ((c : ℕ) × (i : ℕ) × (k : ℕ) × ModelRefused x.questions x.trees c i k) → Loaded m
      linked n i {rows} {values} y (inl r) =
          inl (
            record { text = x; rows = rows; width = w; values = values },
            record {
              layout = l;
              trees = r.0;
              records = r.1;
              reads = record { text_at = t; block_range = b; placed = placed; narrow = narrow; text_inside = inside; text_says = says; natural = n; block_inside = i; block_says = y };
              linked = r.2;
            },
          )
      linked n i y (inr r) = refuse (Unloaded.unlinked n i y r.3)

      blocked : ¬ Negative x.trees → Within b (data_of s h) → BlockOr widen (length x.trees) w (drop b.from (take (b.to + 1) (data_of s h))) → Loaded m
      blocked n i (inl y) = linked n i y.2 (model_links x.questions x.trees 0 n)
      blocked n i (inr y) = refuse (Unloaded.no_block n i y)

      block_within : ¬ Negative x.trees → Within b (data_of s h) ⊎ (¬ Within b (data_of s h)) → Loaded m
      block_within n (inl i) = blocked n i (block_or widen (length x.trees) w (drop b.from (take (b.to + 1) (data_of s h))))
      block_within n (inr o) = refuse (Unloaded.block_outside n o)

      natural : Negative x.trees ⊎ (¬ Negative x.trees) → Loaded m
      natural (inl n) = refuse (Unloaded.negative n)
      natural (inr n) = block_within n (within_or b (data_of s h))

    said : ((x : Text) × (l : Layout) × tree.Says (take (t.to + 1) (data_of s h)) t.from x l) ⊎ ((p : ℕ) × Breaks (take (t.to + 1) (data_of s h)) t.from p) → Loaded m
    said (inl y) = natural y.2 (negative_or y.0.trees)
    said (inr y) = inr (_, _, _, NoModel.placed placed (Unread.breaks narrow inside y.1))

  -- a model is there, or refused
  pub model_or : (m : Model) → Loaded m
  model_or m = go (placed_or s h m)
    where
      within : {t b : Range} {w : ℕ} → Placed s h m t b w → w ≤ 4096 → Within t (data_of s h) ⊎ (¬ Within t (data_of s h)) → Loaded m
      within {t} p l (inl i) = said p l i (says_or_breaks (take (t.to + 1) (data_of s h)) t.from)
      within p l (inr o) = inr (_, _, _, NoModel.placed p (Unread.text_outside l o))

      narrow : {t b : Range} {w : ℕ} → Placed s h m t b w → Dec (w ≤ 4096) → Loaded m
      narrow {t} p (yes l) = within p l (within_or t (data_of s h))
      narrow {w = w} p (no n) = let l : 4096 < w = omega arith in inr (_, _, _, NoModel.placed p (Unread.wide l))

      go : ((t : Range) × (b : Range) × (w : ℕ) × Placed s h m t b w) ⊎ ((n : ℕ) × Unplaced s h m n) → Loaded m
      go (inl p) = narrow p.3 (dec_le p.2 4096)
      go (inr u) = inr (_, _, _, NoModel.unplaced u.1)

  models_or : (ms : List Model) → ((xs : List ModelSaid) × Pointwise (SaysModel widen s h) ms xs) ⊎ ((n : ℕ) × (p : ℕ) × (l : ℕ) × (k : ℕ) × FirstRefused (SaysModel widen s h) (NoModel widen s h) ms n p l k)
  models_or [] = inl ([], Pointwise.none)
  models_or (m ∷ ms) = go (model_or m) (models_or ms)
    where
      go : Loaded m → ((xs : List ModelSaid) × Pointwise (SaysModel widen s h) ms xs) ⊎ ((n : ℕ) × (p : ℕ) × (l : ℕ) × (k : ℕ) × FirstRefused (SaysModel widen s h) (NoModel widen s h) ms n p l k)
          → ((xs : List ModelSaid) × Pointwise (SaysModel widen s h) (m ∷ ms) xs) ⊎ ((n : ℕ) × (p : ℕ) × (l : ℕ) × (k : ℕ) × FirstRefused (SaysModel widen s h) (NoModel widen s h) (m ∷ ms) n p l k)
      go (inr r) q = inr (_, _, _, _, FirstRefused.here r.3)
      go (inl a) (inr r) = inr (_, _, _, _, FirstRefused.later a.1 r.4)
      go (inl a) (inl r) = inl (_, Pointwise.more a.1 r.1)

  pub judges_total : (ms : List Model) → (n : ℕ) × (p : ℕ) × (l : ℕ) × (k : ℕ) × Judges (SaysModel widen s h) (NoModel widen s h) s h ms n p l k
  judges_total ms = go (models_or ms)
    where
      Goal : Type 0
      Goal = (n : ℕ) × (p : ℕ) × (l : ℕ) × (k : ℕ) × Judges (SaysModel widen s h) (NoModel widen s h) s h ms n p l k

      judged : {xs : List ModelSaid} → Pointwise (SaysModel widen s h) ms xs → HouseVoice s h xs ⊎ ((n : ℕ) × (k : ℕ) × VoiceBreaks s h ms xs n k) → Goal
      judged a (inl v) = (_, _, _, _, Judges.house a v)
      judged a (inr v) = (_, _, _, _, Judges.breaks a v.2)

      go : ((xs : List ModelSaid) × Pointwise (SaysModel widen s h) ms xs) ⊎ ((n : ℕ) × (p : ℕ) × (l : ℕ) × (k : ℕ) × FirstRefused (SaysModel widen s h) (NoModel widen s h) ms n p l k) → Goal
      go (inl a) = judged a.1 (voice_or_breaks s h a.1)
      go (inr r) = (_, _, _, _, Judges.refused r.4)

-- where opening has an answer, so has the call
pub judges_file_total : (widen : ℕ → ℕ) (file : List ℕ) → ((h : Header) × Says file h) ⊎ ((n : ℕ) × (p : ℕ) × Refused file n p) → (n : ℕ) × (p : ℕ) × (l : ℕ) × (k : ℕ) × JudgesFile widen file n p l k
judges_file_total widen file (inl o) = let m = models_total file o.0 in let j = judges_total widen file o.0 m.0 in (_, _, _, _, JudgesFile.opened o.1 m.1 j.4)
judges_file_total widen file (inr r) = (_, _, _, _, JudgesFile.unopened r.2)
