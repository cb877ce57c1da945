-- Each way through the calls on a trailer.
use mathlib.Core.Path.{◌≡◌, sym, ap, ap₂, ◌∙◌}
use mathlib.Core.Bool.{Bool, true, false, cond, ◌&&◌}
use mathlib.Core.List.{List, [], ◌∷◌, ◌++◌, append_assoc}
use Prim.Native.Nat.{ℕ, ◌+◌, ◌-◌, ◌*◌, ◌≤◌, ◌<◌}
use native.Mathlib.Omega.{arith}
use borrow.Author.Tests.{le-ltb, lt-ltb, eq-eqb, ne_eqb}
use lib.Dec.{ltb, eqb}
use lib.ListN.{length, take, drop, length-take, length-drop}
use lib.Seq.{sets, length-sets, take_at}
use Rattle.written.specs.Blocks.{little_endian}
use Rattle.written.specs.Trailer.{sum32, unsummed}
use Rattle.written_trailer.proofs.Trailing.{little-append, little-length}
use Rattle.laws.proofs.Tables.{sets-append, sets-front}
use Rattle.error.specs.Numbers.{number_of, place_of}
use Rattle.error.specs.declared.Refusal.{Refusal}
use Rattle.head_record.specs.declared.Header.{Header}
use Rattle.head_words.specs.Words.{header_at}
use Rattle.pdf_blocks.specs.Values.{word_at}
use Rattle.load_plan.specs.Plans.{data_of}
use Rattle.load_voice.specs.Voice.{models_of}
use Rattle.trail_bytes.specs.Numbers.{same_words}
use Rattle.trail_voice.specs.Voice.{voice_rows, voice_trees}
use Rattle.trail_voice.proofs.Laws.{counted}
use Rattle.face_open.specs.Answers.{open_said, open_words}
use Rattle.face_record.specs.declared.Said.{Said}
use Rattle.trail_last.specs.Last.{has_room, summed_of}
use Rattle.trail_last.proofs.Laws.{room_fits}
use Rattle.face_trail.specs.Answers.{wrote, all_rows, trailer_bytes, written_by, written_of, left_by, written_left, trailer_by, trailer_said, trailer_left, found, rows_stand, rows_found, found_by, found_of, trailed_by, trailed_said}
use Rattle.face_trail.specs.declared.Written.{Written}
use Rattle.face_trail.specs.declared.Found.{Found}
use Rattle.std.specs.Prelude.{Err, Ok, Result}

-- ---- a file that opened

module _ (s : List ℕ) (h : Header) where
  abbrev all : Result ℕ Refusal
  all = voice_trees s h (models_of s h) 0

  module _ {z : Refusal} (q : Err z ≡ voice_trees s h (models_of s h) 0) where
    pub written_refused : (t : List ℕ) → (wrote (number_of z) (place_of z) 0 ≡ written_of s h (length t)) × (t ≡ written_left s h t)
    unfolding written_of written_left
    written_refused t = (ap (written_by (length s) (length t)) q, ap (left_by s h t) q)

  module _ {n : ℕ} (q : Ok n ≡ voice_trees s h (models_of s h) 0) where
    pub small : 12 * n + 12 ≤ 4000000000
    small = omega (arith, (counted s h q).few)

    pub rows_size : 4 * length (voice_rows s h (models_of s h)) ≡ 12 * n
    rows_size = omega (arith, (counted s h q).threes)

    module _ (t : List ℕ) {b : Bool} (r : b ≡ has_room (12 * n + 12) (length t) (length s)) where
      pub written_none : b ≡ false → (wrote 26 0 (12 * n + 12) ≡ written_of s h (length t)) × (t ≡ written_left s h t)
      unfolding written_of written_left
      written_none y = (
        sym (ap (λ (x : Bool). cond x (wrote 0 0 (12 * n + 12)) (wrote 26 0 (12 * n + 12))) (sym r ∙ y)) ∙ ap (written_by (length s) (length t)) q,
        sym (ap (λ (x : Bool). cond x (sets t 0 (trailer_bytes s h n)) t) (sym r ∙ y)) ∙ ap (left_by s h t) q,
      )

      module _ (y : b ≡ true) where
        pub fits : 12 * n + 12 ≤ length t
        fits = (room_fits (12 * n + 12) (length t) (length s) (sym r ∙ y)).0

        pub fits_after : {t₁ : List ℕ} → t₁ ≡ sets t 0 (little_endian (voice_rows s h (models_of s h))) → 12 * n + 12 ≤ length t₁
        fits_after e = omega (arith, fits, ap length e, length-sets t 0 (little_endian (voice_rows s h (models_of s h))))

        -- the rows, and behind them the three numbers
        stored : {t₁ t₂ : List ℕ} → t₁ ≡ sets t 0 (little_endian (voice_rows s h (models_of s h)))
            → t₂ ≡ sets t₁ (12 * n) (little_endian (n ∷ length s ∷ sum32 (s ++ (take (12 * n) t₁ ++ little_endian (n ∷ length s ∷ []))) ∷ []))
            → t₂ ≡ sets t 0 (trailer_bytes s h n)
        unfolding trailer_bytes little_endian
        stored {t₁} {t₂} e f =
            let R : List ℕ = voice_rows s h (models_of s h) in
            let A : List ℕ = little_endian (n ∷ length s ∷ []) in
            let size : length (little_endian R) ≡ 12 * n = little-length R ∙ rows_size in
            let long : length (little_endian R) ≤ length t = omega (arith, size, fits) in
            let front : take (12 * n) t₁ ≡ little_endian R = ap (take (12 * n)) (e ∙ sets-front t (little_endian R) long) ∙ take_at (little_endian R) (drop (length (little_endian R)) t) (12 * n) size in
            let U : little_endian R ++ A ≡ unsummed s R n = sym (little-append R (n ∷ length s ∷ [])) in
            let S : ℕ = sum32 (s ++ unsummed s R n) in
            let sum : sum32 (s ++ (take (12 * n) t₁ ++ A)) ≡ S = ap (λ (l : List ℕ). sum32 (s ++ (l ++ A))) front ∙ ap (λ (l : List ℕ). sum32 (s ++ l)) U in
            let at : 12 * n ≡ 0 + length (little_endian R) = omega (arith, size) in
            f
            ∙ ap₂ (λ (l : List ℕ) (x : ℕ). sets l (12 * n) (little_endian (n ∷ length s ∷ x ∷ []))) e sum
            ∙ ap (λ (k : ℕ). sets (sets t 0 (little_endian R)) k (little_endian (n ∷ length s ∷ S ∷ []))) at
            ∙ sets-append t 0 (little_endian R) (A ++ little_endian (S ∷ []))
            ∙ ap (sets t 0) (sym (append_assoc (little_endian R) A (little_endian (S ∷ []))) ∙ ap (λ (l : List ℕ). l ++ little_endian (S ∷ [])) U)

        pub written_done : {t₁ t₂ : List ℕ} → t₁ ≡ sets t 0 (little_endian (voice_rows s h (models_of s h)))
            → t₂ ≡ sets t₁ (12 * n) (little_endian (n ∷ length s ∷ sum32 (s ++ (take (12 * n) t₁ ++ little_endian (n ∷ length s ∷ []))) ∷ []))
            → (wrote 0 0 (12 * n + 12) ≡ written_of s h (length t)) × (t₂ ≡ written_left s h t)
        unfolding written_of written_left
        written_done e f = (
          sym (ap (λ (x : Bool). cond x (wrote 0 0 (12 * n + 12)) (wrote 26 0 (12 * n + 12))) (sym r ∙ y)) ∙ ap (written_by (length s) (length t)) q,
          stored e f ∙ sym (ap (λ (x : Bool). cond x (sets t 0 (trailer_bytes s h n)) t) (sym r ∙ y)) ∙ ap (left_by s h t) q,
        )

  -- ---- read

  pub data_short : {d : List ℕ} → d ≡ data_of s h → length d ≤ length s
  data_short {d} e = omega (arith, ap length e, length-take h.data_len (drop h.data_start s), length-drop h.data_start s)

  module _ (n : ℕ) where
    abbrev end : ℕ
    end = length s - 12

    miss : rows_stand s h n ≡ false → found 28 0 0 0 ≡ rows_found s h n
    unfolding rows_found
    miss e = sym (ap (λ (b : Bool). cond b (found 0 0 n (word_at s (length s - 12 + 4))) (found 28 0 0 0)) e)

    pub count_other : {x : ℕ} → x ≡ word_at s (length s - 12) → (x ≡ n → ⊥) → found 28 0 0 0 ≡ rows_found s h n
    unfolding rows_stand
    count_other e d = miss (ap (λ (b : Bool). b && (eqb (word_at s (length s - 12 + 4) + 12 * n) (length s - 12) && same_words s (word_at s (length s - 12 + 4)) (all_rows s h))) (ne_eqb (word_at s (length s - 12)) n (λ q. d (e ∙ q))))

    module _ {x y : ℕ} (e : x ≡ word_at s (length s - 12)) (c : x ≡ n) (f : y ≡ word_at s (length s - 12 + 4)) where
      stand : rows_stand s h n ≡ eqb (y + 12 * n) (length s - 12) && same_words s y (all_rows s h)
      unfolding rows_stand
      stand =
          ap (λ (b : Bool). b && (eqb (word_at s (length s - 12 + 4) + 12 * n) (length s - 12) && same_words s (word_at s (length s - 12 + 4)) (all_rows s h))) (eq-eqb (word_at s (length s - 12)) n (sym e ∙ c))
          ∙ ap (λ (j : ℕ). eqb (j + 12 * n) (length s - 12) && same_words s j (all_rows s h)) (sym f)

      pub begin_other : (y + 12 * n ≡ length s - 12 → ⊥) → found 28 0 0 0 ≡ rows_found s h n
      begin_other d = miss (stand ∙ ap (λ (b : Bool). b && same_words s y (all_rows s h)) (ne_eqb (y + 12 * n) (length s - 12) d))

      module _ (g : y + 12 * n ≡ length s - 12) {b : Bool} (k : b ≡ same_words s y (voice_rows s h (models_of s h))) where
        all_stand : rows_stand s h n ≡ b
        all_stand = stand ∙ ap (λ (a : Bool). a && same_words s y (all_rows s h)) (eq-eqb (y + 12 * n) (length s - 12) g) ∙ sym k

        pub rows_other : b ≡ false → found 28 0 0 0 ≡ rows_found s h n
        rows_other z = miss (all_stand ∙ z)

        pub rows_same : b ≡ true → found 0 0 n y ≡ rows_found s h n
        unfolding rows_found
        rows_same z = ap (found 0 0 n) f ∙ sym (ap (λ (a : Bool). cond a (found 0 0 n (word_at s (length s - 12 + 4))) (found 28 0 0 0)) (all_stand ∙ z))

  module _ {d : List ℕ} (e : d ≡ data_of s h) where
    pub found_short : length d < 12 → found 26 0 0 0 ≡ found_of s h
    unfolding found_of
    found_short l =
        sym (ap (λ (b : Bool). cond b (found 26 0 0 0) (cond (summed_of s) (found_by s h (voice_trees s h (models_of s h) 0)) (found 27 0 0 0))) (ap (λ (x : List ℕ). ltb (length x) 12) (sym e) ∙ lt-ltb (length d) 12 l))

    module _ (l : 12 ≤ length d) where
      long : found_of s h ≡ cond (summed_of s) (found_by s h (voice_trees s h (models_of s h) 0)) (found 27 0 0 0)
      unfolding found_of
      long = ap (λ (b : Bool). cond b (found 26 0 0 0) (cond (summed_of s) (found_by s h (voice_trees s h (models_of s h) 0)) (found 27 0 0 0))) (ap (λ (x : List ℕ). ltb (length x) 12) (sym e) ∙ le-ltb (length d) 12 l)

      module _ {b : Bool} (k : b ≡ summed_of s) where
        pub found-sum : b ≡ false → found 27 0 0 0 ≡ found_of s h
        found-sum z = sym (long ∙ ap (λ (a : Bool). cond a (found_by s h (voice_trees s h (models_of s h) 0)) (found 27 0 0 0)) (sym k ∙ z))

        pub found_by_lem : b ≡ true → {v : Result ℕ Refusal} → v ≡ voice_trees s h (models_of s h) 0 → found_by s h v ≡ found_of s h
        found_by_lem z q = ap (found_by s h) q ∙ sym (long ∙ ap (λ (a : Bool). cond a (found_by s h (voice_trees s h (models_of s h) 0)) (found 27 0 0 0)) (sym k ∙ z))

-- ---- by how it opened

module _ (s w : List ℕ) {x : Said} {w' : List ℕ} (e : x ≡ open_said s (length w)) (f : w' ≡ open_words s w) where
  number : x.number ≡ (open_said s (length w)).number
  number = ap (λ (y : Said). y.number) e

  pub trailer_unopened : (t : List ℕ) → (x.number ≡ 0 → ⊥) → (wrote x.number x.place 0 ≡ trailer_said s w (length t)) × (t ≡ trailer_left s w t)
  unfolding trailer_said trailer_left
  trailer_unopened t d = (
    sym (ap (λ (b : Bool). cond b (written_of s (header_at (open_words s w)) (length t)) (wrote x.number x.place 0)) (ne_eqb x.number 0 d))
        ∙ ap (trailer_by s (open_words s w) (length t)) e,
    sym (ap (λ (b : Bool). cond b (written_left s (header_at (open_words s w)) t) t) (ne_eqb (open_said s (length w)).number 0 (λ q. d (number ∙ q)))),
  )

  pub trailer_opened : (t : List ℕ) {r : Written} {t' : List ℕ} → x.number ≡ 0 → (r ≡ written_of s (header_at w') (length t)) × (t' ≡ written_left s (header_at w') t)
      → (r ≡ trailer_said s w (length t)) × (t' ≡ trailer_left s w t)
  unfolding trailer_said trailer_left
  trailer_opened t z p = (
    p.0 ∙ ap (λ (u : List ℕ). written_of s (header_at u) (length t)) f
        ∙ sym (ap (λ (b : Bool). cond b (written_of s (header_at (open_words s w)) (length t)) (wrote x.number x.place 0)) (eq-eqb x.number 0 z))
        ∙ ap (trailer_by s (open_words s w) (length t)) e,
    p.1 ∙ ap (λ (u : List ℕ). written_left s (header_at u) t) f
        ∙ sym (ap (λ (b : Bool). cond b (written_left s (header_at (open_words s w)) t) t) (eq-eqb (open_said s (length w)).number 0 (sym number ∙ z))),
  )

  pub trailed_unopened : (x.number ≡ 0 → ⊥) → found x.number x.place 0 0 ≡ trailed_said s w
  unfolding trailed_said
  trailed_unopened d =
      sym (ap (λ (b : Bool). cond b (found_of s (header_at (open_words s w))) (found x.number x.place 0 0)) (ne_eqb x.number 0 d)) ∙ ap (trailed_by s (open_words s w)) e

  pub trailed_opened : x.number ≡ 0 → {r : Found} → r ≡ found_of s (header_at w') → r ≡ trailed_said s w
  unfolding trailed_said
  trailed_opened z p =
      p ∙ ap (λ (u : List ℕ). found_of s (header_at u)) f
      ∙ sym (ap (λ (b : Bool). cond b (found_of s (header_at (open_words s w))) (found x.number x.place 0 0)) (eq-eqb x.number 0 z)) ∙ ap (trailed_by s (open_words s w)) e
