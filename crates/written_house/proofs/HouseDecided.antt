-- Every rule of the house is decided: a model keeps all rules or breaks a first one, and so does a voice.
use mathlib.Core.Path.{◌≡◌, refl, sym, subst}
use mathlib.Core.Logic.{◌⊎◌, inl, inr}
use mathlib.Core.List.{List, [], ◌∷◌, List-discrete}
use Prim.Native.Nat.{ℕ, zero, suc, ◌+◌, ◌*◌, ◌/◌, ◌%◌, ◌^◌, ◌≤◌, ◌<◌}
use native.Mathlib.Nat.{mul-suc}
use native.Mathlib.Omega.{arith}
use native.Mathlib.Decide.{dec_lt, dec_le, ℕ_discrete}
use lib.ListN.{length}
use lib.IntN.{pos, neg_ℤ, ℤ_discrete}
use Rattle.written.specs.Blocks as block
use Rattle.written.specs.Groups.{Pointwise}
use Rattle.written.specs.Record.{Header, All}
use Rattle.written.specs.Said.{Ref, node, pdf, Line, Body, lone, braces}
use Rattle.written.specs.Linking.{Nth, here, there}
use Rattle.written.specs.Writing.{Numbered}
use Rattle.written.specs.Models.{Model, model_number, bytes_of}
use Rattle.written.specs.Loading.{ModelSaid}
use Rattle.written.specs.House.{NoneTwice, IdsRun, Leaf, Finite, AboveZero, Ids, Names, Leaves, Means, Variances, HouseModel, ModelBreaks, FirstBreaks, Counted, TypesOnce, HouseVoice, VoiceBreaks}
use Rattle.written.proofs.Walk.{no_row}
use Rattle.written_house.proofs.Housed.{infinity, finite_below, below_finite, above_zero_below, below_above_zero}

-- ---- decisions

implies? : {A B : Type 0} → Dec A → Dec B → Dec (A → B)
implies? (no n) b = yes (λ a. absurd (n a))
implies? (yes a) (yes b) = yes (λ x. b)
implies? (yes a) (no n) = no (λ f. n (f a))

both? : {A B : Type 0} → Dec A → Dec B → Dec (A × B)
both? (no n) b = no (λ p. n p.0)
both? (yes a) (no n) = no (λ p. n p.1)
both? (yes a) (yes b) = yes (a, b)

map? : {A B : Type 0} → (A → B) → (B → A) → Dec A → Dec B
map? f g (yes a) = yes (f a)
map? f g (no n) = no (λ b. n (g b))

-- of every member of a list, with its place
each : {A : Type 0} (P : ℕ → A → Type 0) {y : A} {l : List A} {k : ℕ} {x : A} → P 0 y → ((k : ℕ) (x : A) → Nth l k x → P (suc k) x) → Nth (y ∷ l) k x → P k x
each P p f here = p
each P p f (there {x = x} {k = k} n) = f k x n

all? : {A : Type 0} (P : ℕ → A → Type 0) → ((k : ℕ) (x : A) → Dec (P k x)) → (l : List A) → Dec ((k : ℕ) (x : A) → Nth l k x → P k x)
all? P d [] = yes (λ k x n. absurd (no_row n))
all? {A} P d (y ∷ l) = go (d 0 y) (all? (λ k x. P (suc k) x) (λ k x. d (suc k) x) l)
  where
    go : Dec (P 0 y) → Dec ((k : ℕ) (x : A) → Nth l k x → P (suc k) x) → Dec ((k : ℕ) (x : A) → Nth (y ∷ l) k x → P k x)
    go (no n) r = no (λ f. n (f 0 y here))
    go (yes p) (no n) = no (λ f. n (λ k x h. f (suc k) x (there h)))
    go (yes p) (yes f) = yes (λ k x h. each P p f h)

-- of every number below b
below? : (P : ℕ → Type 0) → ((n : ℕ) → Dec (P n)) → (b : ℕ) → Dec ((n : ℕ) → n < b → P n)
below? P d zero = yes (λ n l. absurd (omega arith))
below? P d (suc b) = go (d b) (below? P d b)
  where
    go : Dec (P b) → Dec ((n : ℕ) → n < b → P n) → Dec ((n : ℕ) → n < suc b → P n)
    go (no x) r = no (λ f. x (f b (omega arith)))
    go (yes p) (no x) = no (λ f. x (λ n l. f n (omega arith)))
    go (yes p) (yes f) = yes (λ n l. last n l (dec_lt n b))
      where
        last : (n : ℕ) → n < suc b → Dec (n < b) → P n
        last n l (yes m) = f n m
        last n l (no m) = let e : b ≡ n = omega arith in subst P e p

-- ---- the rules

numbered? : (k : ℕ) (ls : List Line) → Dec (Numbered k ls)
numbered? k [] = yes Numbered.none
numbered? k (l ∷ ls) = go (ℤ_discrete l.id (neg_ℤ (pos k))) (numbered? (suc k) ls)
  where
    head : Numbered k (l ∷ ls) → l.id ≡ neg_ℤ (pos k)
    head (Numbered.more e n) = e

    tail : Numbered k (l ∷ ls) → Numbered (suc k) ls
    tail (Numbered.more e n) = n

    go : Dec (l.id ≡ neg_ℤ (pos k)) → Dec (Numbered (suc k) ls) → Dec (Numbered k (l ∷ ls))
    go (no n) r = no (λ h. n (head h))
    go (yes e) (no n) = no (λ h. n (tail h))
    go (yes e) (yes r) = yes (Numbered.more e r)

run? : (b : Body) → Dec (IdsRun b)
run? (lone r) = yes IdsRun.alone
run? (braces ls) = map? IdsRun.lines back (numbered? 0 ls)
  where
    back : IdsRun (braces ls) → Numbered 0 ls
    back (IdsRun.lines n) = n

none_twice? : {A : Type 0} (name : A → List ℕ) (l : List A) → Dec (NoneTwice name l)
none_twice? {A} name l =
    map? (λ f i j x y n m e. f i x n j y m e) (λ f i x n j y m e. f i j x y n m e)
    (all? (λ i x. (j : ℕ) (y : A) → Nth l j y → name x ≡ name y → i ≡ j)
    (λ i x. all? (λ j y. name x ≡ name y → i ≡ j) (λ j y. implies? (List-discrete ℕ_discrete (name x) (name y)) (ℕ_discrete i j)) l) l)

-- a reference within so many entries
abbrev Fits : ℕ → Ref → Type 0
Fits e r = (n : ℕ) → r ≡ pdf n → (1 ≤ n) × (n ≤ e)

fits? : (e : ℕ) (r : Ref) → Dec (Fits e r)
fits? e (node z) = yes (λ n q. let u : ◌≡◌ {A = ℕ} 0 1 = cc in absurd (omega arith))
fits? e (pdf m) = map? (λ p n q. let u : m ≡ n = cc in subst (λ k. (1 ≤ k) × (k ≤ e)) u p) (λ f. f m refl) (both? (dec_le 1 m) (dec_le m e))

abbrev Within : ℕ → Body → Type 0
Within e b = (n : ℕ) → Leaf b n → (1 ≤ n) × (n ≤ e)

of_lone : {r : Ref} {n : ℕ} → Leaf (lone r) n → r ≡ pdf n
of_lone Leaf.alone = refl

within? : (e : ℕ) (b : Body) → Dec (Within e b)
within? e (lone r) = map? there_is (λ f n q. f n (subst (λ x. Leaf (lone x) n) (sym q) Leaf.alone)) (fits? e r)
  where
    there_is : Fits e r → Within e (lone r)
    there_is f n h = f n (of_lone h)
within? e (braces ls) = map? there_is back (all? (λ k l. Fits e l.yes × Fits e l.no) (λ k l. both? (fits? e l.yes) (fits? e l.no)) ls)
  where
    there_is : ((k : ℕ) (l : Line) → Nth ls k l → Fits e l.yes × Fits e l.no) → Within e (braces ls)
    there_is f n (Leaf.yes_side {l = l} {k = k} h q) = (f k l h).0 n q
    there_is f n (Leaf.no_side {l = l} {k = k} h q) = (f k l h).1 n q

    back : Within e (braces ls) → (k : ℕ) (l : Line) → Nth ls k l → Fits e l.yes × Fits e l.no
    back f k l h = (λ n q. f n (Leaf.yes_side h q), λ n q. f n (Leaf.no_side h q))

-- what stands at a place
nth? : (l : List ℕ) (k : ℕ) → ((v : ℕ) × Nth l k v) ⊎ ((v : ℕ) → ¬ Nth l k v)
nth? [] k = inr (λ v n. no_row n)
nth? (x ∷ l) zero = inl (x, here)
nth? (x ∷ l) (suc k) = go (nth? l k)
  where
    behind : {v : ℕ} → Nth (x ∷ l) (suc k) v → Nth l k v
    behind (there n) = n

    go : ((v : ℕ) × Nth l k v) ⊎ ((v : ℕ) → ¬ Nth l k v) → ((v : ℕ) × Nth (x ∷ l) (suc k) v) ⊎ ((v : ℕ) → ¬ Nth (x ∷ l) (suc k) v)
    go (inl r) = inl (r.0, there r.1)
    go (inr f) = inr (λ v n. f v (behind n))

nth_one : {l : List ℕ} {k v w : ℕ} → Nth l k v → Nth l k w → v ≡ w
nth_one here here = refl
nth_one (there a) (there b) = nth_one a b

nth_inside : {l : List ℕ} {k v : ℕ} → Nth l k v → k < length l
nth_inside here = omega arith
nth_inside (there n) = omega (arith, nth_inside n)

module _ (Q : ℕ → Type 0) (d : (v : ℕ) → Dec (Q v)) (vs : List ℕ) where
  at? : (k : ℕ) → Dec ((v : ℕ) → Nth vs k v → Q v)
  at? k = go (nth? vs k)
    where
      go : ((v : ℕ) × Nth vs k v) ⊎ ((v : ℕ) → ¬ Nth vs k v) → Dec ((v : ℕ) → Nth vs k v → Q v)
      go (inl r) = map? (λ q v n. subst Q (nth_one r.1 n) q) (λ f. f r.0 r.1) (d r.0)
      go (inr f) = yes (λ v n. absurd (f v n))

  -- the values of pairs: of entry i, pair k, at a place that is at least i
  pairs? : (w : ℕ) (place : ℕ → ℕ → ℕ) → ((i k : ℕ) → k < w / 2 → i ≤ place i k) → Dec ((i k v : ℕ) → k < w / 2 → Nth vs (place i k) v → Q v)
  pairs? w place far =
      map? (λ f i k v l n. f i (inside i k v l n) k l v n) (λ f i m k l v n. f i k v l n)
      (below? (λ i. (k : ℕ) → k < w / 2 → (v : ℕ) → Nth vs (place i k) v → Q v) (λ i. below? (λ k. (v : ℕ) → Nth vs (place i k) v → Q v) (λ k. at? (place i k)) (w / 2)) (length vs))
    where
      inside : (i k v : ℕ) → k < w / 2 → Nth vs (place i k) v → i < length vs
      inside i k v l n = omega (arith, far i k l, nth_inside n)

-- an entry of two values or more stands at its number or behind it
behind : (w i k : ℕ) → k < w / 2 → i ≤ i * w
behind zero i k l = absurd (omega arith)
behind (suc w) i k l = omega (arith, mul-suc i w)

finite? : (v : ℕ) → Dec (Finite v)
finite? v = map? (below_finite v) (finite_below v) (dec_lt (v % 2 ^ 63) infinity)

above_zero? : (v : ℕ) → Dec (AboveZero v)
above_zero? v = map? (λ p. below_above_zero v p.0 p.1) (above_zero_below v) (both? (dec_lt 0 v) (dec_lt v infinity))

module _ (x : ModelSaid) where
  pub ids? : Dec (Ids x)
  ids? = all? (λ k t. IdsRun t.body) (λ k t. run? t.body) x.text.trees

  pub names? : Dec (Names x)
  names? = none_twice? (λ q. q.name) x.text.questions

  pub leaves? : Dec (Leaves x)
  leaves? =
      map? (λ f k n t r h g l. f k t h k r g refl n l) (λ f k t h j r g e n l. f k n t r h (subst (λ i. Nth x.rows i r) e g) l)
      (all? (λ k t. (j : ℕ) (r : block.Row) → Nth x.rows j r → j ≡ k → Within r.entries t.body)
      (λ k t. all? (λ j r. j ≡ k → Within r.entries t.body) (λ j r. implies? (ℕ_discrete j k) (within? r.entries t.body)) x.rows) x.text.trees)

  pub means? : Dec (Means x)
  means? = pairs? Finite finite? x.values x.width (λ i k. i * x.width + 2 * k) (λ i k l. let b : i ≤ i * x.width = behind x.width i k l in omega arith)

  pub variances? : Dec (Variances x)
  variances? = pairs? AboveZero above_zero? x.values x.width (λ i k. i * x.width + 2 * k + 1) (λ i k l. let b : i ≤ i * x.width = behind x.width i k l in omega arith)

  -- all rules, or the first that is broken
  pub house_or_breaks : HouseModel x ⊎ ((n : ℕ) × ModelBreaks x n)
  house_or_breaks = go ids? names? leaves? means? variances?
    where
      go : Dec (Ids x) → Dec (Names x) → Dec (Leaves x) → Dec (Means x) → Dec (Variances x) → HouseModel x ⊎ ((n : ℕ) × ModelBreaks x n)
      go (no n) b c d e = inr (32, ModelBreaks.ids n)
      go (yes i) (no n) c d e = inr (33, ModelBreaks.names i n)
      go (yes i) (yes j) (no n) d e = inr (34, ModelBreaks.leaves i j n)
      go (yes i) (yes j) (yes k) (no n) e = inr (35, ModelBreaks.means i j k n)
      go (yes i) (yes j) (yes k) (yes l) (no n) = inr (36, ModelBreaks.variances i j k l n)
      go (yes i) (yes j) (yes k) (yes l) (yes m) = inl (record { ids = i; names = j; leaves = k; means = l; variances = m })

-- the models of a voice, whatever tells which is which
models_or_break : {R : Model → ModelSaid → Type 0} {ms : List Model} {xs : List ModelSaid} → Pointwise R ms xs → All HouseModel xs ⊎ ((n : ℕ) × (k : ℕ) × FirstBreaks ms xs n k)
models_or_break Pointwise.none = inl All.end
models_or_break {ms = ms} {xs = xs} (Pointwise.more {a = m} {b = x} {l = l} {m = ys} r p) = go (house_or_breaks x) (models_or_break p)
  where
    go : HouseModel x ⊎ ((n : ℕ) × ModelBreaks x n) → All HouseModel ys ⊎ ((n : ℕ) × (k : ℕ) × FirstBreaks l ys n k)
        → All HouseModel (x ∷ ys) ⊎ ((n : ℕ) × (k : ℕ) × FirstBreaks (m ∷ l) (x ∷ ys) n k)
    go (inr b) q = inr (b.0, model_number m, FirstBreaks.here b.1)
    go (inl h) (inl a) = inl (All.next h a)
    go (inl h) (inr b) = inr (b.0, b.1, FirstBreaks.later h b.2)

pub voice_or_breaks : (s : List ℕ) (h : Header) {R : Model → ModelSaid → Type 0} {ms : List Model} {xs : List ModelSaid} → Pointwise R ms xs
    → HouseVoice s h xs ⊎ ((n : ℕ) × (k : ℕ) × VoiceBreaks s h ms xs n k)
voice_or_breaks s h {R} {ms} {xs} p = go (ℕ_discrete h.global.num_streams (length h.global.stream_type)) (none_twice? (bytes_of s) h.global.stream_type) (models_or_break p)
  where
    go : Dec (Counted s h) → Dec (TypesOnce s h) → All HouseModel xs ⊎ ((n : ℕ) × (k : ℕ) × FirstBreaks ms xs n k) → HouseVoice s h xs ⊎ ((n : ℕ) × (k : ℕ) × VoiceBreaks s h ms xs n k)
    go (no n) t q = inr (30, 0, VoiceBreaks.counted n)
    go (yes c) (no n) q = inr (31, 0, VoiceBreaks.types c n)
    go (yes c) (yes t) (inl a) = inl (record { counted = c; types = t; each = a })
    go (yes c) (yes t) (inr b) = inr (b.0, b.1, VoiceBreaks.model c t b.2)
