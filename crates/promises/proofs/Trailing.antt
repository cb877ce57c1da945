-- `larsavim_trailer` and `larsavim_trailed` keep their promises, each of which allows one outcome; a refusal leaves the buffer as it was; what is written is read.
use mathlib.Core.Path.{◌≡◌, refl, sym, ap, ◌∙◌, subst}
use mathlib.Core.Bool.{Bool, true, false, cond}
use mathlib.Core.List.{List, [], ◌∷◌, ◌++◌}
use Prim.Native.Nat.{ℕ, ◌≤◌, ◌<◌}
use native.Mathlib.Omega.{arith}
use borrow.Author.Tests.{ltb-true, ltb-false, lt-ltb, le-ltb}
use lib.Dec.{ltb}
use lib.ListN.{length}
use lib.Seq.{sets}
use Rattle.std.specs.Prelude.{Result, Ok, Err, ⊤}
use Rattle.written.specs.Record.{Header, Says}
use Rattle.written.specs.Faults.{Refused}
use Rattle.written.specs.Trailer.{Trailer, Writes, Finds}
use Rattle.written.proofs.OneFile.{says_one}
use Rattle.written_apart.proofs.ApartFile.{refused_one, says_never}
use Rattle.written_trailer.proofs.Trailing.{writes_once, finds_once, written_read}
use Rattle.written_trailer.proofs.TrailerExactly.{refused_nothing, writes_zero}
use Rattle.error.specs.declared.Refusal.{Refusal}
use Rattle.head_record.specs.Record.{header_record}
use Rattle.head_words.specs.Words.{header_words}
use Rattle.head_de.proofs.Sound.{Bytes}
use Rattle.head_open.specs.Open.{open_of, refused_with}
use Rattle.head_open.specs.declared.Opened.{Opened}
use Rattle.face_open.specs.Answers.{open_words_by, open_words}
use Rattle.face_trail.specs.Answers.{trailer_said, trailer_left, trailed_said}
use Rattle.face_trail.specs.declared.Written.{Written}
use Rattle.face_trail.specs.declared.Found.{Found}
use Rattle.larsavim.specs.Face.{answered as returned, written, left}
use Rattle.larsavim.specs.Trails.{written_numbers, found_numbers, TrailerTells, TrailedTells}
use Rattle.shown_open.proofs.Opened.{says_open, refused_open}
use Rattle.shown_trail.proofs.Answers.{WritesSaid, FindsSaid, writes_sound, finds_sound}
use Rattle.shown_trail.proofs.Answers as said
use Rattle.promises.proofs.Moved.{moved₃}
use Rattle.promises.proofs.Opening.{never_zero}
use Rattle.promises.specs.Opening.{record_words}
use Rattle.promises.specs.Trailing.{AfterTrailer, AfterTrailed}

-- ---- the words after opening

module _ (s w : List ℕ) where
  words_few : length w < 647 → open_words s w ≡ w
  unfolding open_words
  words_few l = go (open_of s).verdict
    where
      go : (v : Result ⊤ Refusal) → open_words_by w (open_of s).header v ≡ w
      go (Ok _) = ap (λ (b : Bool). cond b w (sets w 0 (header_words (open_of s).header))) (lt-ltb (length w) 647 l)
      go (Err r) = refl

  module _ (bytes : Bytes s) where
    words_refused : {n p : ℕ} → Refused s n p → open_words s w ≡ w
    unfolding open_words refused_with
    words_refused x = let r = refused_open bytes x in ap (λ (o : Opened). open_words_by w o.header o.verdict) r.1

    words_opened : {h : Header} → Says s h → 647 ≤ length w → open_words s w ≡ sets w 0 (record_words h)
    unfolding open_words
    words_opened {h} x l =
        ap (λ (o : Opened). open_words_by w o.header o.verdict) (says_open bytes x)
        ∙ ap (λ (b : Bool). cond b w (sets w 0 (header_words (header_record h)))) (le-ltb (length w) 647 l)

-- ---- the promises are kept

module _ {A B C D : Type 0} (P : A → B → C → D → Type 0) where
  moved₄ : {a a' : A} {b b' : B} {c c' : C} {d d' : D} → a ≡ a' → b ≡ b' → c ≡ c' → d ≡ d' → P a' b' c' d' → P a b c d
  moved₄ {a} {a'} {b} {b'} {c} {c'} {d} {d'} p q r t x = subst (λ (y : A). P y b c d) (sym p) (moved₃ (P a') q r t x)

pub trailer_kept : {s w t out : List ℕ} {r : ℕ} {w' t' o : List ℕ} → TrailerTells s w t out r w' t' o → AfterTrailer s w t out r w' t' o
unfolding returned written left
trailer_kept {s} {w} {t} {out} c = moved₄ (AfterTrailer s w t out) c.number c.words c.buffer c.answer (go (ltb (length out) 3) refl)
  where
    bytes : Bytes s
    bytes = record { below = c.bytes }

    tell : 3 ≤ length out → {x : Written} {t' : List ℕ} → WritesSaid s w t x t' → AfterTrailer s w t out x.number (open_words s w) t' (sets out 0 (written_numbers x))
    tell l (said.WritesSaid.few_words x f) = subst (λ (u : List ℕ). AfterTrailer s w t out 20 u t (sets out 0 (20 ∷ 0 ∷ 0 ∷ []))) (sym (words_few s w f)) (AfterTrailer.few_words l x f)
    tell l (said.WritesSaid.told roomy (Writes.unopened {n = n} {p = p} x)) =
        subst (λ (u : List ℕ). AfterTrailer s w t out n u t (sets out 0 (n ∷ p ∷ 0 ∷ []))) (sym (words_refused s w bytes x)) (AfterTrailer.unopened l x)
    tell l (said.WritesSaid.told roomy (Writes.opened {h = h} {n = n} {p = p} {size = z} {trailer = v} o m x)) =
        subst (λ (u : List ℕ). AfterTrailer s w t out n u (sets t 0 v) (sets out 0 (n ∷ p ∷ z ∷ []))) (sym (words_opened s w bytes o (roomy h o))) (AfterTrailer.answered l o (roomy h o) (Writes.opened o m x))

    go : (b : Bool) → ltb (length out) 3 ≡ b
        → AfterTrailer s w t out (cond b 20 (trailer_said s w (length t)).number) (cond b w (open_words s w)) (cond b t (trailer_left s w t)) (cond b out (sets out 0 (written_numbers (trailer_said s w (length t)))))
    go true e = AfterTrailer.short_out (ltb-true (length out) 3 e)
    go false e = tell (ltb-false (length out) 3 e) (writes_sound s bytes w t)

pub trailed_kept : {s w out : List ℕ} {r : ℕ} {w' o : List ℕ} → TrailedTells s w out r w' o → AfterTrailed s w out r w' o
unfolding returned written left
trailed_kept {s} {w} {out} c = moved₃ (AfterTrailed s w out) c.number c.words c.answer (go (ltb (length out) 4) refl)
  where
    bytes : Bytes s
    bytes = record { below = c.bytes }

    tell : 4 ≤ length out → {x : Found} → FindsSaid s w x → AfterTrailed s w out x.number (open_words s w) (sets out 0 (found_numbers x))
    tell l (said.FindsSaid.few_words x f) = subst (λ (u : List ℕ). AfterTrailed s w out 20 u (sets out 0 (20 ∷ 0 ∷ 0 ∷ 0 ∷ []))) (sym (words_few s w f)) (AfterTrailed.few_words l x f)
    tell l (said.FindsSaid.told {k = k} roomy (Finds.unopened {n = n} {p = p} x) e) =
        let z : k ≡ 0 = omega (arith, e) in
        subst (λ (j : ℕ). AfterTrailed s w out n (open_words s w) (sets out 0 (n ∷ p ∷ j ∷ 0 ∷ []))) (sym z)
        (subst (λ (u : List ℕ). AfterTrailed s w out n u (sets out 0 (n ∷ p ∷ 0 ∷ 0 ∷ []))) (sym (words_refused s w bytes x)) (AfterTrailed.unopened l x))
    tell l (said.FindsSaid.told {k = k} roomy (Finds.opened {h = h} {n = n} {p = p} {begin = b} o m x) e) =
        subst (λ (u : List ℕ). AfterTrailed s w out n u (sets out 0 (n ∷ p ∷ k ∷ b ∷ []))) (sym (words_opened s w bytes o (roomy h o))) (AfterTrailed.answered k l o (roomy h o) (Finds.opened o m x) e)

    go : (b : Bool) → ltb (length out) 4 ≡ b
        → AfterTrailed s w out (cond b 20 (trailed_said s w).number) (cond b w (open_words s w)) (cond b out (sets out 0 (found_numbers (trailed_said s w))))
    go true e = AfterTrailed.short_out (ltb-true (length out) 4 e)
    go false e = tell (ltb-false (length out) 4 e) (finds_sound s bytes w)

-- ---- one outcome

pub trailer_once : {s w t out : List ℕ} {r r' : ℕ} {w₁ w₂ t₁ t₂ o₁ o₂ : List ℕ} → AfterTrailer s w t out r w₁ t₁ o₁ → AfterTrailer s w t out r' w₂ t₂ o₂
    → (r ≡ r') × (w₁ ≡ w₂) × (t₁ ≡ t₂) × (o₁ ≡ o₂)
trailer_once (AfterTrailer.short_out a) (AfterTrailer.short_out b) = (refl, refl, refl, refl)
trailer_once (AfterTrailer.short_out a) (AfterTrailer.unopened b y) = absurd (omega arith)
trailer_once (AfterTrailer.short_out a) (AfterTrailer.few_words b y k) = absurd (omega arith)
trailer_once (AfterTrailer.short_out a) (AfterTrailer.answered b y k v) = absurd (omega arith)
trailer_once (AfterTrailer.unopened a x) (AfterTrailer.short_out b) = absurd (omega arith)
trailer_once {out = out} (AfterTrailer.unopened a x) (AfterTrailer.unopened b y) = let z = refused_one x y in (z.0, refl, refl, λ i. sets out 0 (z.0 i ∷ z.1 i ∷ 0 ∷ []))
trailer_once (AfterTrailer.unopened a x) (AfterTrailer.few_words b y k) = absurd (says_never y x)
trailer_once (AfterTrailer.unopened a x) (AfterTrailer.answered b y k v) = absurd (says_never y x)
trailer_once (AfterTrailer.few_words a x l) (AfterTrailer.short_out b) = absurd (omega arith)
trailer_once (AfterTrailer.few_words a x l) (AfterTrailer.unopened b y) = absurd (says_never x y)
trailer_once (AfterTrailer.few_words a x l) (AfterTrailer.few_words b y k) = (refl, refl, refl, refl)
trailer_once (AfterTrailer.few_words a x l) (AfterTrailer.answered b y k v) = absurd (omega arith)
trailer_once (AfterTrailer.answered a x l u) (AfterTrailer.short_out b) = absurd (omega arith)
trailer_once (AfterTrailer.answered a x l u) (AfterTrailer.unopened b y) = absurd (says_never x y)
trailer_once (AfterTrailer.answered a x l u) (AfterTrailer.few_words b y k) = absurd (omega arith)
trailer_once {w = w} {t = t} {out = out} (AfterTrailer.answered a x l u) (AfterTrailer.answered b y k v) =
    let z = writes_once u v in
    (z.number, ap (λ (h : Header). sets w 0 (record_words h)) (says_one x y), ap (sets t 0) z.bytes, λ i. sets out 0 (z.number i ∷ z.place i ∷ z.size i ∷ []))

pub trailed_once : {s w out : List ℕ} {r r' : ℕ} {w₁ w₂ o₁ o₂ : List ℕ} → AfterTrailed s w out r w₁ o₁ → AfterTrailed s w out r' w₂ o₂ → (r ≡ r') × (w₁ ≡ w₂) × (o₁ ≡ o₂)
trailed_once (AfterTrailed.short_out a) (AfterTrailed.short_out b) = (refl, refl, refl)
trailed_once (AfterTrailed.short_out a) (AfterTrailed.unopened b y) = absurd (omega arith)
trailed_once (AfterTrailed.short_out a) (AfterTrailed.few_words b y k) = absurd (omega arith)
trailed_once (AfterTrailed.short_out a) (AfterTrailed.answered j b y k v e) = absurd (omega arith)
trailed_once (AfterTrailed.unopened a x) (AfterTrailed.short_out b) = absurd (omega arith)
trailed_once {out = out} (AfterTrailed.unopened a x) (AfterTrailed.unopened b y) = let z = refused_one x y in (z.0, refl, λ i. sets out 0 (z.0 i ∷ z.1 i ∷ 0 ∷ 0 ∷ []))
trailed_once (AfterTrailed.unopened a x) (AfterTrailed.few_words b y k) = absurd (says_never y x)
trailed_once (AfterTrailed.unopened a x) (AfterTrailed.answered j b y k v e) = absurd (says_never y x)
trailed_once (AfterTrailed.few_words a x l) (AfterTrailed.short_out b) = absurd (omega arith)
trailed_once (AfterTrailed.few_words a x l) (AfterTrailed.unopened b y) = absurd (says_never x y)
trailed_once (AfterTrailed.few_words a x l) (AfterTrailed.few_words b y k) = (refl, refl, refl)
trailed_once (AfterTrailed.few_words a x l) (AfterTrailed.answered j b y k v e) = absurd (omega arith)
trailed_once (AfterTrailed.answered i a x l u d) (AfterTrailed.short_out b) = absurd (omega arith)
trailed_once (AfterTrailed.answered i a x l u d) (AfterTrailed.unopened b y) = absurd (says_never x y)
trailed_once (AfterTrailed.answered i a x l u d) (AfterTrailed.few_words b y k) = absurd (omega arith)
trailed_once {w = w} {out = out} (AfterTrailed.answered i a x l u d) (AfterTrailed.answered j b y k v e) =
    let z = finds_once u v in
    let n : i ≡ j = omega (arith, d, e, ap length z.row) in
    (z.number, ap (λ (h : Header). sets w 0 (record_words h)) (says_one x y), λ t. sets out 0 (z.number t ∷ z.place t ∷ n t ∷ z.begin t ∷ []))

-- ---- a refusal leaves the buffer as it was

pub trailer_leaves : {s w t out : List ℕ} {r : ℕ} {w' t' o : List ℕ} → AfterTrailer s w t out r w' t' o → ¬ (r ≡ 0) → t' ≡ t
trailer_leaves (AfterTrailer.short_out a) n = refl
trailer_leaves (AfterTrailer.unopened a x) n = refl
trailer_leaves (AfterTrailer.few_words a x l) n = refl
trailer_leaves {t = t} (AfterTrailer.answered a x l v) n = ap (sets t 0) (refused_nothing v n)

-- ---- what is written is read: a call that answered 0, and one on the file with what it wrote behind it

-- the trailer of s that stands in a buffer t, which became t'
pub record Wrote (s t t' : List ℕ) : Type 0 where
  pub trailer : List ℕ
  pub rows : List ℕ
  pub fits : length trailer ≤ length t
  pub stands : t' ≡ sets t 0 trailer
  pub is : Trailer s rows trailer
  pub reads : Finds (s ++ trailer) 0 0 rows (length s)

pub wrote-zero : {s w t out : List ℕ} {r : ℕ} {w' t' o : List ℕ} → Bytes s → AfterTrailer s w t out r w' t' o → r ≡ 0 → Wrote s t t'
wrote-zero bytes (AfterTrailer.short_out a) e = absurd (omega (arith, e))
wrote-zero bytes (AfterTrailer.unopened a x) e = absurd (never_zero bytes x e)
wrote-zero bytes (AfterTrailer.few_words a x l) e = absurd (omega (arith, e))
wrote-zero bytes (AfterTrailer.answered {trailer = v} a x l u) e =
    let z = writes_zero u e in
    record { trailer = v; rows = z.2; fits = z.7; stands = refl; is = z.6; reads = written_read z.3 z.4 z.5 z.6 z.8 }

module _ (s w t out w' t' o : List ℕ) (call : TrailerTells s w t out 0 w' t' o) where
  pub wrote_so : Wrote s t t'
  wrote_so = wrote-zero (record { below = call.bytes }) (trailer_kept call) refl

  abbrev W : Wrote s t t'
  W = wrote_so

  -- the number is 0, and the answer tells the rows that were written and where they begin
  pub written_is_read : (w₁ out₁ : List ℕ) → 647 ≤ length w₁ → 4 ≤ length out₁ → {r : ℕ} {w₂ o₁ : List ℕ} → TrailedTells (s ++ W.trailer) w₁ out₁ r w₂ o₁
      → (r ≡ 0) × (o₁ ≡ sets out₁ 0 (0 ∷ 0 ∷ W.is.count ∷ length s ∷ []))
  written_is_read w₁ out₁ l m c = go (trailed_kept c)
    where
      go : {r : ℕ} {w₂ o₁ : List ℕ} → AfterTrailed (s ++ W.trailer) w₁ out₁ r w₂ o₁ → (r ≡ 0) × (o₁ ≡ sets out₁ 0 (0 ∷ 0 ∷ W.is.count ∷ length s ∷ []))
      go (AfterTrailed.short_out a) = absurd (omega arith)
      go (AfterTrailed.unopened a x) = let z = finds_once (Finds.unopened x) W.reads in absurd (never_zero (record { below = c.bytes }) x z.number)
      go (AfterTrailed.few_words a x k) = absurd (omega arith)
      go (AfterTrailed.answered k a x i f e) =
          let z = finds_once f W.reads in
          let n : k ≡ W.is.count = omega (arith, e, ap length z.row, W.is.threes) in
          (z.number, λ j. sets out₁ 0 (z.number j ∷ z.place j ∷ n j ∷ z.begin j ∷ []))
