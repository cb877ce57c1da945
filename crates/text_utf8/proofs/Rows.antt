-- The table's laws: no two rows share a first byte, by one computed test, so the first byte says which row can apply.
use mathlib.Core.Path.{◌≡◌, refl, ap, ◌∙◌, subst}
use mathlib.Core.Bool.{Bool, true, false, cond, ◌&&◌, ◌||◌, and-true, and-false, or_comm}
use mathlib.Core.List.{List, [], ◌∷◌, Memᴰ}
use mathlib.Core.Logic.{◌⊎◌, inl, inr}
use Prim.Native.Nat.{ℕ, zero, suc, ◌+◌, ◌≤◌, ◌<◌}
use native.Mathlib.Nat.{not-suc-le-zero, le_of_suc-le-suc}
use native.Mathlib.Omega.{arith}
use native.Mathlib.Numerals.{add-one}
use borrow.Author.Tests.{le-leb, lt-leb}
use mir.Facts.{and_yes}
use lib.Dec.{T, ltb, ltb→lt}
use lib.ListN.{length, drop, get_or}
use lib.Seq.{drop-cons, drop-drop}
use Rattle.written.specs.Rfc3629.{Range, ◌⋯◌, table}
use Rattle.text_utf8.specs.Widths.{starts, width, holds}

-- ---- one byte and a range

pub inside : (lo hi b : ℕ) → lo ≤ b → b ≤ hi → holds (lo ⋯ hi) b ≡ true
inside lo hi b h k = simp (le-leb lo b h, le-leb b hi k)

pub below : (lo hi b : ℕ) → b < lo → holds (lo ⋯ hi) b ≡ false
below lo hi b h = simp (lt-leb lo b h)

pub above : (lo hi b : ℕ) → hi < b → holds (lo ⋯ hi) b ≡ false
above lo hi b h = simp (lt-leb b hi h, and-false)

-- a row is tested byte by byte
pub split : (r : Range) (rs : List Range) (s : List ℕ) → starts (r ∷ rs) s ≡ (starts (r ∷ []) s && starts rs (drop 1 s))
unfolding starts
split r rs [] = refl
split r rs (b ∷ s) = simp and-true

pub split_at : (r : Range) (rs : List Range) (s : List ℕ) (i : ℕ)
    → starts (r ∷ rs) (drop i s) ≡ (starts (r ∷ []) (drop i s) && starts rs (drop (i + 1) s))
split_at r rs s i = split r rs (drop i s) ∙ ap (λ (l : List ℕ). starts (r ∷ []) (drop i s) && starts rs l) (drop-drop 1 i s)

pub pair_at : (r q : Range) (s : List ℕ) (i : ℕ)
    → starts (r ∷ q ∷ []) (drop i s) ≡ (starts (r ∷ []) (drop i s) && starts (q ∷ []) (drop (i + 1) s))
pair_at r q s i = split_at r (q ∷ []) s i

pub triple_at : (r q p : Range) (s : List ℕ) (i : ℕ)
    → starts (r ∷ q ∷ p ∷ []) (drop i s) ≡ (starts (r ∷ []) (drop i s) && (starts (q ∷ []) (drop (i + 1) s) && starts (p ∷ []) (drop (i + 2) s)))
triple_at r q p s i =
    let e : i + 1 + 1 ≡ i + 2 = omega arith in
    split_at r (q ∷ p ∷ []) s i ∙ ap (λ (x : Bool). starts (r ∷ []) (drop i s) && x) (rw (← e) (pair_at q p s (i + 1)))

-- ---- rows by their first byte

abbrev pub apart : List Range → List Range → Bool
apart [] q = false
apart (r ∷ rs) [] = false
apart (lo ⋯ hi ∷ rs) (low ⋯ high ∷ q) = ltb hi low || ltb high lo

abbrev pub all : (List Range → Bool) → List (List Range) → Bool
all f [] = true
all f (r ∷ rs) = f r && all f rs

abbrev pub distinct : List (List Range) → Bool
distinct [] = true
distinct (r ∷ rs) = all (apart r) rs && distinct rs

-- b is a first byte of the row
abbrev pub Head : List Range → ℕ → Type 0
Head [] b = ⊥
Head (lo ⋯ hi ∷ r) b = (lo ≤ b) × (b ≤ hi)

or_yes : (a b : Bool) → T (a || b) → T a ⊎ T b
or_yes true b t = inl t
or_yes false b t = inr t

other : (r q : List Range) (b : ℕ) (s : List ℕ) → T (apart r q) → Head r b → starts q (b ∷ s) ≡ false
unfolding starts
other [] q b s t h = absurd t
other (r ∷ rs) [] b s t h = absurd t
other (lo ⋯ hi ∷ rs) (low ⋯ high ∷ q) b s t h =
    ap (λ (x : Bool). x && starts q s) (go (or_yes (ltb hi low) (ltb high lo) t))
  where
    go : T (ltb hi low) ⊎ T (ltb high lo) → holds (low ⋯ high) b ≡ false
    go (inl u) = below low high b (omega (arith, ltb→lt hi low u, h))
    go (inr u) = above low high b (omega (arith, ltb→lt high lo u, h))

others : (r : List Range) (rows : List (List Range)) (b : ℕ) (s : List ℕ) → T (all (apart r) rows) → Head r b → width rows (b ∷ s) ≡ 0
unfolding width
others r [] b s t h = refl
others r (q ∷ rows) b s t h =
    let p = and_yes (apart r q) (all (apart r) rows) t in
    simp (other r q b s p.0 h, others r rows b s p.1 h)

apart_sym : (r q : List Range) → T (apart r q) → T (apart q r)
apart_sym [] q t = absurd t
apart_sym (r ∷ rs) [] t = absurd t
apart_sym (lo ⋯ hi ∷ rs) (low ⋯ high ∷ q) t = subst T (or_comm (ltb hi low) (ltb high lo)) t

pub all_at : (f : List Range → Bool) (rows : List (List Range)) (r : List Range) → T (all f rows) → Memᴰ r rows → T (f r)
all_at f [] r t m = elim m [ ]
all_at f (q ∷ rows) r t (Memᴰ.head e) = rw e (and_yes (f q) (all f rows) t).0
all_at f (q ∷ rows) r t (Memᴰ.tail m) = all_at f rows r (and_yes (f q) (all f rows) t).1 m

-- where b is a first byte of a row of the table, that row decides
pub decides : (rows : List (List Range)) (r : List Range) (b : ℕ) (s : List ℕ) → T (distinct rows) → Memᴰ r rows → Head r b
    → width rows (b ∷ s) ≡ cond (starts r (b ∷ s)) (length r) 0
unfolding width
decides [] r b s t m h = elim m [ ]
decides (q ∷ rows) r b s t (Memᴰ.head e) h =
    let p = and_yes (all (apart q) rows) (distinct rows) t in
    let k : Head q b = subst (λ (x : List Range). Head x b) e h in
    rw (e, others q rows b s p.0 k)
decides (q ∷ rows) r b s t (Memᴰ.tail m) h =
    let p = and_yes (all (apart q) rows) (distinct rows) t in
    rw (other r q b s (apart_sym q r (all_at (apart q) rows r p.0 m)) h) (decides rows r b s p.1 m h)

-- the row of number k
pub member : (rows : List (List Range)) (k : ℕ) → k < length rows → Memᴰ (get_or rows k []) rows
member [] k h = absurd (not-suc-le-zero h)
member (r ∷ rows) zero h = Memᴰ.head refl
member (r ∷ rows) (suc k) h = Memᴰ.tail (member rows k (le_of_suc-le-suc h))

-- the byte at i is a first byte of row k, so the rest of that row decides what starts at i
pub arm : (s : List ℕ) (i k lo hi : ℕ) (rest : List Range) → i < length s → T (ltb k 9) → get_or table k [] ≡ lo ⋯ hi ∷ rest
    → lo ≤ get_or s i 0 → get_or s i 0 ≤ hi → width table (drop i s) ≡ cond (starts rest (drop (i + 1) s)) (suc (length rest)) 0
unfolding table starts
arm s i k lo hi rest h t e p q =
    let m = subst (λ (r : List Range). Memᴰ r table) e (member table k (ltb→lt k 9 t)) in
    rw (drop-cons s i 0 h, add-one)
    (decides table (lo ⋯ hi ∷ rest) (get_or s i 0) (drop (suc i) s) tt m (p, q)
    ∙ ap (λ (x : Bool). cond (x && starts rest (drop (suc i) s)) (suc (length rest)) 0) (inside lo hi (get_or s i 0) p q))

-- the byte at i is from lo to hi, where no row has a first byte
pub nowhere : (s : List ℕ) (i lo hi : ℕ) → i < length s → T (all (apart (lo ⋯ hi ∷ [])) table) → lo ≤ get_or s i 0 → get_or s i 0 ≤ hi
    → width table (drop i s) ≡ 0
nowhere s i lo hi h t p q = rw (drop-cons s i 0 h) (others (lo ⋯ hi ∷ []) table (get_or s i 0) (drop (suc i) s) t (p, q))
