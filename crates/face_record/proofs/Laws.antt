-- Each way through the calls on a record.
use mathlib.Core.Path.{◌≡◌, refl, sym, ap, ◌∙◌}
use mathlib.Core.Bool.{Bool, true, false, cond}
use mathlib.Core.List.{List}
use Prim.Native.Nat.{ℕ, ◌+◌, ◌-◌, ◌≤◌, ◌<◌}
use native.Mathlib.Omega.{arith}
use borrow.Author.Tests.{lt-ltb, le-ltb, eq-eqb, ne_eqb, ltb-false}
use lib.Dec.{ltb, eqb}
use lib.ListN.{length}
use Rattle.head_words.specs.Words.{word_at, flags_fit}
use Rattle.face_record.specs.declared.Part.{Part}
use Rattle.face_record.specs.Answers.{said, judged_of, part_of, comment_in, comment_said, pair_of, get_said, pair_said}

-- ---- words

module _ (w : List ℕ) where
  pub judged_few : length w < 647 → 20 ≡ judged_of w
  unfolding judged_of
  judged_few h = sym (ap (λ (b : Bool). cond b 20 (cond (flags_fit w) 0 16)) (lt-ltb (length w) 647 h))

  judged_by : 647 ≤ length w → judged_of w ≡ cond (flags_fit w) 0 16
  unfolding judged_of
  judged_by h = ap (λ (b : Bool). cond b 20 (cond (flags_fit w) 0 16)) (le-ltb (length w) 647 h)

  pub judged_fit : 647 ≤ length w → flags_fit w ≡ true → 0 ≡ judged_of w
  judged_fit h e = sym (judged_by h ∙ ap (λ (b : Bool). cond b 0 16) e)

  pub judged_bad : 647 ≤ length w → flags_fit w ≡ false → 16 ≡ judged_of w
  judged_bad h e = sym (judged_by h ∙ ap (λ (b : Bool). cond b 0 16) e)

  -- words that are a record are enough
  pub judged_room : 0 ≡ judged_of w → 647 ≤ length w
  unfolding judged_of
  judged_room e = go (ltb (length w) 647) refl (sym e)
    where
      go : (b : Bool) → ltb (length w) 647 ≡ b → ◌≡◌ {A = ℕ} (cond b 20 (cond (flags_fit w) 0 16)) 0 → 647 ≤ length w
      go true q e = absurd (omega arith)
      go false q e = ltb-false (length w) 647 q

-- ---- COMMENT

module _ (n f i l : ℕ) where
  pub in_none : {b : Bool} → b ≡ false → part_of 0 1 0 f ≡ comment_in n f b i l
  unfolding comment_in
  in_none e = sym (ap (λ (b : Bool). cond b (cond (ltb n i) (part_of 0 1 0 f) (cond (ltb (n - i) l) (part_of 0 1 0 f) (part_of 0 0 i l))) (part_of 0 1 0 f)) e)

  module _ {b : Bool} (e : b ≡ true) where
    there : comment_in n f b i l ≡ cond (ltb n i) (part_of 0 1 0 f) (cond (ltb (n - i) l) (part_of 0 1 0 f) (part_of 0 0 i l))
    unfolding comment_in
    there = ap (λ (b : Bool). cond b (cond (ltb n i) (part_of 0 1 0 f) (cond (ltb (n - i) l) (part_of 0 1 0 f) (part_of 0 0 i l))) (part_of 0 1 0 f)) e

    pub in_past : n < i → part_of 0 1 0 f ≡ comment_in n f b i l
    in_past h = sym (there ∙ ap (λ (b : Bool). cond b (part_of 0 1 0 f) (cond (ltb (n - i) l) (part_of 0 1 0 f) (part_of 0 0 i l))) (lt-ltb n i h))

    started : i ≤ n → comment_in n f b i l ≡ cond (ltb (n - i) l) (part_of 0 1 0 f) (part_of 0 0 i l)
    started h = there ∙ ap (λ (b : Bool). cond b (part_of 0 1 0 f) (cond (ltb (n - i) l) (part_of 0 1 0 f) (part_of 0 0 i l))) (le-ltb n i h)

    pub in_long : i ≤ n → n - i < l → part_of 0 1 0 f ≡ comment_in n f b i l
    in_long h k = sym (started h ∙ ap (λ (b : Bool). cond b (part_of 0 1 0 f) (part_of 0 0 i l)) (lt-ltb (n - i) l k))

    pub in_file : i ≤ n → l ≤ n - i → part_of 0 0 i l ≡ comment_in n f b i l
    in_file h k = sym (started h ∙ ap (λ (b : Bool). cond b (part_of 0 1 0 f) (part_of 0 0 i l)) (le-ltb (n - i) l k))

-- ---- answers by how the words are judged

module _ (w : List ℕ) {j : ℕ} (e : j ≡ judged_of w) where
  module _ (z : j ≡ 0) where
    -- the test of `number == 0`
    pub fit : eqb (judged_of w) 0 ≡ true
    fit = eq-eqb (judged_of w) 0 (sym e ∙ z)

    pub comment_fit : (n f : ℕ) {p : Part} → p ≡ comment_in n f (eqb (word_at w 94) 1) (word_at w 92) (word_at w 93) → p ≡ comment_said n w f
    unfolding comment_said
    comment_fit n f q =
        q ∙ sym (ap (λ (b : Bool). cond b (comment_in n f (eqb (word_at w 94) 1) (word_at w 92) (word_at w 93)) (part_of (judged_of w) 0 0 0)) fit)

    pub get_there : (i : ℕ) → i < 647 → said 0 (word_at w i) ≡ get_said w i
    unfolding get_said
    get_there i h =
        sym (ap (λ (b : Bool). cond b (cond (ltb i 647) (said 0 (word_at w i)) (said 16 0)) (said (judged_of w) 0)) fit ∙ ap (λ (b : Bool). cond b (said 0 (word_at w i)) (said 16 0)) (lt-ltb i 647 h))

    pub get_past : (i : ℕ) → 647 ≤ i → said 16 0 ≡ get_said w i
    unfolding get_said
    get_past i h =
        sym (ap (λ (b : Bool). cond b (cond (ltb i 647) (said 0 (word_at w i)) (said 16 0)) (said (judged_of w) 0)) fit ∙ ap (λ (b : Bool). cond b (said 0 (word_at w i)) (said 16 0)) (le-ltb i 647 h))

    pub pair_there : (i : ℕ) → i < 646 → pair_of 0 (word_at w i) (word_at w (i + 1)) ≡ pair_said w i
    unfolding pair_said
    pair_there i h =
        sym (ap (λ (b : Bool). cond b (cond (ltb i 646) (pair_of 0 (word_at w i) (word_at w (i + 1))) (pair_of 16 0 0)) (pair_of (judged_of w) 0 0)) fit
        ∙ ap (λ (b : Bool). cond b (pair_of 0 (word_at w i) (word_at w (i + 1))) (pair_of 16 0 0)) (lt-ltb i 646 h))

    pub pair_past : (i : ℕ) → 646 ≤ i → pair_of 16 0 0 ≡ pair_said w i
    unfolding pair_said
    pair_past i h =
        sym (ap (λ (b : Bool). cond b (cond (ltb i 646) (pair_of 0 (word_at w i) (word_at w (i + 1))) (pair_of 16 0 0)) (pair_of (judged_of w) 0 0)) fit
        ∙ ap (λ (b : Bool). cond b (pair_of 0 (word_at w i) (word_at w (i + 1))) (pair_of 16 0 0)) (le-ltb i 646 h))

  module _ (z : j ≡ 0 → ⊥) where
    pub unfit : eqb (judged_of w) 0 ≡ false
    unfit = ne_eqb (judged_of w) 0 (λ q. z (e ∙ q))

    pub comment_unfit : (n f : ℕ) → part_of j 0 0 0 ≡ comment_said n w f
    unfolding comment_said
    comment_unfit n f =
        ap (λ (k : ℕ). part_of k 0 0 0) e ∙ sym (ap (λ (b : Bool). cond b (comment_in n f (eqb (word_at w 94) 1) (word_at w 92) (word_at w 93)) (part_of (judged_of w) 0 0 0)) unfit)

    pub get-unfit : (i : ℕ) → said j 0 ≡ get_said w i
    unfolding get_said
    get-unfit i = ap (λ (k : ℕ). said k 0) e ∙ sym (ap (λ (b : Bool). cond b (cond (ltb i 647) (said 0 (word_at w i)) (said 16 0)) (said (judged_of w) 0)) unfit)

    pub pair_unfit : (i : ℕ) → pair_of j 0 0 ≡ pair_said w i
    unfolding pair_said
    pair_unfit i =
        ap (λ (k : ℕ). pair_of k 0 0) e ∙ sym (ap (λ (b : Bool). cond b (cond (ltb i 646) (pair_of 0 (word_at w i) (word_at w (i + 1))) (pair_of 16 0 0)) (pair_of (judged_of w) 0 0)) unfit)
