-- The groups of one section while they stand in words, over any groups of one width: one more, the names known, and the limits.
use mathlib.Core.Path.{◌≡◌, refl, sym, ap, ap₂, ◌∙◌}
use mathlib.Core.Bool.{Bool, true, false, cond}
use mathlib.Core.List.{List, ◌++◌}
use Prim.Native.Nat.{ℕ, zero, suc, ◌+◌, ◌-◌, ◌*◌, ◌≤◌, ◌<◌}
use native.Mathlib.Decide.{dec_lt}
use native.Mathlib.Omega.{arith}
use borrow.Author.Tests.{lt-ltb, le-ltb, leb-false}
use lib.Dec.{ltb, leb}
use lib.ListN.{length, get_or, set, replicate, length-set, length-replicate, get_or-replicate}
use lib.Seq.{sets, length-sets, get_or-set_same, get_or-set_other}
use Rattle.std.specs.Prelude.{Ok, Err}
use Rattle.written.specs.Bytes.{same}
use Rattle.error.specs.declared.Refusal.TheVariants as refusal
use Rattle.head_record.specs.Empty.{span, no_span}
use Rattle.text_parts.specs.declared.Span.{Span}
use Rattle.head_words.specs.Words.{flat, Zeros, word_at, span_at}
use Rattle.head_words.proofs.Items.{Stands, length-flat, flat_same, flat_around, stands_item, stands-laid, laid_inside, zeros-laid, stands_under}
use Rattle.head_brackets.specs.Rows.{no_names, names_with, known_from, known_in}
use Rattle.text_parts.specs.Parts.{bytes_of}
use Rattle.head_brackets.specs.declared.Names.{Names}
use Rattle.head_group_words.specs.Groups.{names_at, many_at, judged_in}
use Rattle.head_group_words.proofs.Limits.{name_at}

-- names that are the same as far as they count are known alike
known_same : (s : List ℕ) (t u : List Span) (v : List ℕ) (n k : ℕ) → ((j : ℕ) → j < k + n → j < 8 → get_or t j no_span ≡ get_or u j no_span) → known_from n s t k v ≡ known_from n s u k v
unfolding known_from
known_same s t u v zero k e = refl
known_same s t u v (suc n) k e = go (leb 8 k) refl (known_same s t u v n (k + 1) (λ j h o. e j (omega arith) o))
  where
    go : (x : Bool) → leb 8 k ≡ x → {a b : Bool} → a ≡ b
        → cond x false (cond (same (bytes_of s (get_or t k no_span)) v) true a) ≡ cond x false (cond (same (bytes_of s (get_or u k no_span)) v) true b)
    go true q r = refl
    go false q r = ap₂ (λ (y : Span) (z : Bool). cond (same (bytes_of s y) v) true z) (e k (omega arith) (leb-false 8 k q)) r

-- where the groups of a section stand, and how the words of one are read
pub record Section (A : Type 0) : Type 0 where
  pub none : A
  pub words_of : A → List ℕ
  pub name_of : A → Span
  pub place : ℕ
  pub width : ℕ
  pub two : 2 ≤ width
  pub long : (a : A) → length (words_of a) ≡ width
  pub named : (a : A) → span_at (words_of a) 0 ≡ name_of a

module _ {A : Type 0} (g : Section A) where
  abbrev pub item : List A → ℕ → A
  item l k = get_or l k g.none

  abbrev pub groups_words : List A → List ℕ
  groups_words l = flat (λ k. g.words_of (item l k)) 0 8

  long_words : (l : List A) → length (groups_words l) ≡ g.width * 8
  long_words l = length-flat (λ k. g.words_of (item l k)) g.width (λ j. g.long (item l j)) 0 8

  -- ---- one more

  pub laid_one : (w : List ℕ) (l : List A) (n : ℕ) (d : A) → n < 8 → n < length l
      → sets (sets w g.place (groups_words l)) (g.place + g.width * n) (g.words_of d) ≡ sets w g.place (groups_words (set l n d))
  laid_one w l n d h k =
      ap (λ (m : ℕ). sets (sets w g.place (groups_words l)) (g.place + m) (g.words_of d)) (sym front)
      ∙ ap (λ (m : List ℕ). sets (sets w g.place m) (g.place + length (flat f 0 n)) (g.words_of d)) (around f)
      ∙ laid_inside w g.place (flat f 0 n) (f (0 + n)) (flat f (suc (0 + n)) (7 - n)) (g.words_of d) (g.long d ∙ sym (g.long (item l (0 + n))))
      ∙ ap (λ (m : List ℕ). sets w g.place m)
      (ap₂ (λ (a b : List ℕ). a ++ (g.words_of d ++ b)) (flat_same f e 0 n (λ j o p. other j (omega arith))) (flat_same f e (suc (0 + n)) (7 - n) (λ j o p. other j (omega arith)))
      ∙ ap (λ (a : List ℕ). flat e 0 n ++ (a ++ flat e (suc (0 + n)) (7 - n))) (sym here)
      ∙ sym (around e))
    where
      f : ℕ → List ℕ
      f j = g.words_of (item l j)

      e : ℕ → List ℕ
      e j = g.words_of (item (set l n d) j)

      front : length (flat f 0 n) ≡ g.width * n
      front = length-flat f g.width (λ j. g.long (item l j)) 0 n

      around : (b : ℕ → List ℕ) → flat b 0 8 ≡ flat b 0 n ++ (b (0 + n) ++ flat b (suc (0 + n)) (7 - n))
      around b = let q : 8 ≡ n + suc (7 - n) = omega arith in ap (flat b 0) q ∙ flat_around b 0 n (7 - n)

      other : (j : ℕ) → (j ≡ n → ⊥) → f j ≡ e j
      other j q = ap g.words_of (sym (get_or-set_other l n j d g.none q))

      here : e (0 + n) ≡ g.words_of d
      here = let q : 0 + n ≡ n = omega arith in ap e q ∙ ap g.words_of (get_or-set_same l n d g.none k)

  -- ---- groups that stand in words

  module _ (u : List ℕ) (l : List A) (s : Stands u g.place (groups_words l)) where
    stands_one : (k p : ℕ) → k < 8 → p < g.width → word_at u (g.place + g.width * k + p) ≡ get_or (g.words_of (item l k)) p 0
    stands_one k p h o =
        let q : 0 + k ≡ k = omega arith in
        let t : Stands u (g.place + g.width * k) (g.words_of (item l k)) =
        rw q at (stands_item u (λ j. g.words_of (item l j)) g.width (λ j. g.long (item l j)) g.place 0 8 s k h) in
        t.each p (omega (arith, g.long (item l k)))

    name_stands : (k : ℕ) → k < 8 → get_or (names_at u g.place g.width) k no_span ≡ g.name_of (item l k)
    name_stands k h =
        let q : g.place + g.width * k + 0 ≡ g.place + g.width * k = omega arith in
        name_at u g.place g.width k h
        ∙ ap₂ span (ap (word_at u) (sym q) ∙ stands_one k 0 h (omega (arith, g.two))) (stands_one k 1 h (omega (arith, g.two)))
        ∙ g.named (item l k)

    pub known_laid : (b : List ℕ) (t : List Span) (n : ℕ) (v : List ℕ) → ((k : ℕ) → k < n → k < 8 → get_or t k no_span ≡ g.name_of (item l k))
        → known_in b (names_at u g.place g.width) n v ≡ known_in b t n v
    unfolding known_in
    known_laid b t n v e = known_same b (names_at u g.place g.width) t v n 0 (λ k h o. name_stands k o ∙ sym (e k (omega arith) o))

    pub many_laid : (p m : ℕ) → p < g.width → (t : ℕ → Bool) → t 0 ≡ false → ((k : ℕ) → k < 8 → t (suc k) ≡ cond (ltb m (get_or (g.words_of (item l k)) p 0)) true (t k))
        → (n : ℕ) → n ≤ 8 → many_at u (g.place + p) g.width m n ≡ t n
    unfolding many_at
    many_laid p m o t z e zero h = sym z
    many_laid p m o t z e (suc n) h =
        let q : g.place + p + g.width * n ≡ g.place + g.width * n + p = omega arith in
        ap₂ (λ (x : ℕ) (y : Bool). cond (ltb m x) true y) (ap (word_at u) q ∙ stands_one n p (omega arith) o) (many_laid p m o t z e n (omega arith))
        ∙ sym (e n (omega arith))

-- ---- while a section is read: n groups, of which the first 8 stand in w, which was w₀

pub record Kept {A : Type 0} (g : Section A) (w₀ w : List ℕ) (names : Names) (items : List A) (n : ℕ) : Type 0 where
  pub room : g.place + g.width * 8 ≤ length w₀
  pub words : w ≡ sets w₀ g.place (groups_words g items)
  pub eight : length items ≡ 8
  pub eight_names : length names.items ≡ 8
  pub count : n ≡ names.count
  pub few : n ≤ 9
  pub named : (k : ℕ) → k < n → k < 8 → get_or names.items k no_span ≡ g.name_of (item g items k)

module _ {A : Type 0} (g : Section A) where
  pub kept_none : (w : List ℕ) (d : A) → groups_words g (replicate 8 d) ≡ replicate (g.width * 8) 0 → Zeros w g.place (g.width * 8)
      → g.place + g.width * 8 ≤ length w → Kept g w w no_names (replicate 8 d) 0
  unfolding no_names
  kept_none w d e z h =
      record {
        room = h;
        words =
            sym (ap (λ (l : List ℕ). sets w g.place l) e
            ∙ zeros-laid w g.place (replicate (g.width * 8) 0) (rw (length-replicate {A = ℕ} (g.width * 8) 0) z)
            (λ k l. get_or-replicate (g.width * 8) k 0 0 (omega (arith, length-replicate {A = ℕ} (g.width * 8) 0))));
        eight = refl;
        eight_names = refl;
        count = refl;
        few = omega arith;
        named = λ k l m. absurd (omega arith);
      }

  module _ {w₀ w : List ℕ} {names : Names} {items : List A} {n : ℕ} (x : Kept g w₀ w names items n) where
    pub kept_long : length w ≡ length w₀
    kept_long = ap length x.words ∙ length-sets w₀ g.place (groups_words g items)

    -- one more, as one of the first 8 and as one past them
    pub kept_more : (u : List ℕ) (d : A) → n < 8 → u ≡ sets w (g.place + g.width * n) (g.words_of d)
        → Kept g w₀ u (names_with names (g.name_of d)) (cond (ltb names.count 8) (set items names.count d) items) (n + 1)
    unfolding names_with
    kept_more u d h e =
        rw (← x.count, lt-ltb n 8 h)
        (record {
          room = x.room;
          words = e ∙ ap (λ (l : List ℕ). sets l (g.place + g.width * n) (g.words_of d)) x.words ∙ laid_one g w₀ items n d h (omega (arith, x.eight));
          eight = length-set items n d ∙ x.eight;
          eight_names = length-set names.items n (g.name_of d) ∙ x.eight_names;
          count = refl;
          few = omega arith;
          named = λ k l m. one k (dec_lt k n) l m;
        })
      where
        one : (k : ℕ) → Dec (k < n) → k < n + 1 → k < 8 → get_or (set names.items n (g.name_of d)) k no_span ≡ g.name_of (item g (set items n d) k)
        one k (yes p) l m =
            get_or-set_other names.items n k (g.name_of d) no_span (λ q. omega arith)
            ∙ x.named k p m
            ∙ ap g.name_of (sym (get_or-set_other items n k d g.none (λ q. omega arith)))
        one k (no p) l m =
            let q : k ≡ n = omega (arith, p) in
            rw q
            (get_or-set_same names.items n (g.name_of d) no_span (omega (arith, x.eight_names))
            ∙ ap g.name_of (sym (get_or-set_same items n d g.none (omega (arith, x.eight)))))

    pub kept_ninth : (d : A) → 8 ≤ n → Kept g w₀ w (names_with names (g.name_of d)) (cond (ltb names.count 8) (set items names.count d) items) 9
    unfolding names_with
    kept_ninth d h =
        rw (← x.count, le-ltb n 8 h)
        (record {
          room = x.room;
          words = x.words;
          eight = x.eight;
          eight_names = x.eight_names;
          count = refl;
          few = omega arith;
          named = λ k l m. x.named k (omega arith) m;
        })

    stands : Stands w g.place (groups_words g items)
    stands = rw x.words (stands-laid w₀ g.place (groups_words g items) (omega (arith, long_words g items, x.room)))

    pub kept_known : (s v : List ℕ) → known_in s (names_at w g.place g.width) n v ≡ known_in s names.items names.count v
    kept_known s v = known_laid g w items stands s names.items n v x.named ∙ ap (λ (k : ℕ). known_in s names.items k v) x.count

    -- the limits, where words behind the groups were stored
    pub kept_judged : (u : List ℕ) (j : ℕ) (ws : List ℕ) → u ≡ sets w j ws → g.place + g.width * 8 ≤ j
        → (p m : ℕ) → p < g.width → (t : ℕ → Bool) → t 0 ≡ false → ((k : ℕ) → k < 8 → t (suc k) ≡ cond (ltb m (get_or (g.words_of (item g items k)) p 0)) true (t k))
        → judged_in u (g.place + p) g.width m n ≡ cond (ltb 8 names.count) (Err refusal.Limit) (cond (t 8) (Err refusal.Limit) (Ok tt))
    unfolding judged_in
    kept_judged u j ws e h p m o t z q =
        ap₂ (λ (k : ℕ) (b : Bool). cond (ltb 8 k) (Err refusal.Limit) (cond b (Err refusal.Limit) (Ok tt))) x.count
        (many_laid g u items (rw e (stands_under w g.place (groups_words g items) j ws (omega (arith, long_words g items)) stands)) p m o t z q 8 (omega arith))
