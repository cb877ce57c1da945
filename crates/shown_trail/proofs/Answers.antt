-- What the calls on a trailer answer is `written`'s `Writes` and `Finds`, of any bytes.
use mathlib.Core.Path.{◌≡◌, refl, sym, ap, ◌∙◌, subst}
use mathlib.Core.Bool.{Bool, true, false, cond, ◌&&◌}
use mathlib.Core.Logic.{◌⊎◌, inl, inr}
use mathlib.Core.List.{List, [], ◌∷◌, map}
use Prim.Native.Nat.{ℕ, ◌+◌, ◌-◌, ◌*◌, ◌≤◌, ◌<◌}
use native.Mathlib.Omega.{arith}
use borrow.Author.Tests.{ltb-true, ltb-false, leb-false, ne_eqb}
use lib.Dec.{leb, ltb, eqb}
use lib.ListN.{length, drop, length-drop}
use lib.Seq.{sets, length-take-le}
use Rattle.written.specs.Record.{Header, Says, file_limit}
use Rattle.written.specs.Faults.{Refused}
use Rattle.written.specs.Models.{Model, Models}
use Rattle.written.specs.Blocks.{Below32}
use Rattle.written.specs.Trailer.{VoiceRows, Trailer, Summed, WritesOf, FindsOf, Writes, Finds}
use Rattle.written_apart.proofs.ApartFile.{says_never}
use Rattle.written_models.proofs.Longer.{data_ends}
use Rattle.written_trailer.proofs.Trailing.{trailer_size}
use Rattle.error.specs.Numbers.{number_of, place_of}
use Rattle.head_record.specs.Record.{header_record}
use Rattle.head_record.specs.declared.Header as code
use Rattle.head_words.specs.Words.{header_at, header_words}
use Rattle.head_de.proofs.Sound.{Bytes}
use Rattle.head_open.specs.Open.{refused_with}
use Rattle.head_open.specs.declared.Opened.{Opened}
use Rattle.pdf_blocks.specs.Values.{word_at}
use Rattle.load_plan.specs.Plans.{data_of}
use Rattle.load_voice.specs.Voice.{models_of}
use Rattle.trail_voice.specs.Voice.{voice_rows, voice_trees}
use Rattle.trail_voice.proofs.Laws.{counted}
use Rattle.face_open.specs.Answers.{open_said_by, open_said, open_words_by, open_words}
use Rattle.face_record.specs.Answers.{said}
use Rattle.face_trail.specs.Answers.{wrote, all_rows, trailer_bytes, written_by, written_of, left_by, written_left, trailer_by, trailer_said, trailer_left, found, rows_stand, rows_found, found_by, found_of, trailed_by, trailed_said}
use Rattle.trail_last.specs.Last.{has_room, summed_of}
use Rattle.face_trail.specs.declared.Written.{Written}
use Rattle.face_trail.specs.declared.Found.{Found}
use Rattle.face_trail.proofs.Above.{above_zero}
use Rattle.trail_last.proofs.Laws.{room_fits}
use Rattle.shown_open.proofs.Opened.{OpenAnswer, open_sound}
use Rattle.shown_open.proofs.Opened as answer
use Rattle.shown_words.proofs.Shaped.{record_back}
use Rattle.shown_models.proofs.Chosen.{data_is, which_of}
use Rattle.shown_voice.proofs.Order.{models_so}
use Rattle.shown_trail.proofs.Ends.{below_front, summed_so, so_summed, stand_ends, ends_stand}
use Rattle.shown_trail.proofs.Rows.{Counts, counts, all_are, the_trailer}
use Rattle.shown_trail.proofs.Rows as rows
use Rattle.error.specs.declared.Refusal.{Refusal}
use Rattle.std.specs.Prelude.{Result}

-- where the file opens, the words have room for its record
abbrev pub Roomy : List ℕ → List ℕ → Type 0
Roomy s w = (h : Header) → Says s h → 647 ≤ length w

-- number, place and bytes that writing answers, and the buffer after it
pub data WritesSaid (s w t : List ℕ) : Written → List ℕ → Type 0 where
  few_words : {h : Header} → Says s h → length w < 647 → WritesSaid s w t (wrote 20 0 0) t
  told : {n p z : ℕ} {trailer : List ℕ} → Roomy s w → Writes s (length t) n p z trailer → WritesSaid s w t (wrote n p z) (sets t 0 trailer)

-- number, place, how many rows, and where they begin
pub data FindsSaid (s w : List ℕ) : Found → Type 0 where
  few_words : {h : Header} → Says s h → length w < 647 → FindsSaid s w (found 20 0 0 0)
  told : {n p k b : ℕ} {numbers : List ℕ} → Roomy s w → Finds s n p numbers b → length numbers ≡ 3 * k → FindsSaid s w (found n p k b)

no_room : (bytes buffer file : ℕ) → has_room bytes buffer file ≡ false → (buffer < bytes) ⊎ (16777216 < file + bytes)
unfolding has_room
no_room bytes buffer file h = go (leb bytes buffer) refl h
  where
    go : (x : Bool) → leb bytes buffer ≡ x → x && leb (file + bytes) 16777216 ≡ false → (buffer < bytes) ⊎ (16777216 < file + bytes)
    go true e h = inr (leb-false (file + bytes) 16777216 h)
    go false e h = inl (leb-false bytes buffer e)

-- ---- a file that says h

module _ (s : List ℕ) (bytes : Bytes s) (h : Header) (o : Says s h) (w : List ℕ) (long : 647 ≤ length w) where
  roomy : Roomy s w
  roomy k p = long

  the_models : (ms : List Model) × Models s h ms × (models_of s (header_record h) ≡ map which_of ms)
  the_models = models_so s h o

  the_counts : Counts s h o the_models.0 (voice_trees s (header_record h) (models_of s (header_record h)) 0)
  the_counts =
      let m = the_models in
      subst (λ l. Counts s h o m.0 (voice_trees s (header_record h) l 0)) (sym m.2) (counts s h o m.0 0)

  of_all : VoiceRows s h the_models.0 (voice_rows s (header_record h) (map which_of the_models.0)) → VoiceRows s h the_models.0 (all_rows s (header_record h))
  of_all v = subst (VoiceRows s h the_models.0) (sym (all_are s h o the_models.1 the_models.2)) v

  writes_opened : (t : List ℕ) → WritesSaid s w t (written_of s (header_record h) (length t)) (written_left s (header_record h) t)
  unfolding written_of written_left
  writes_opened t = go (voice_trees s (header_record h) (models_of s (header_record h)) 0) refl the_counts
    where
      go : (v : Result ℕ Refusal) → v ≡ voice_trees s (header_record h) (models_of s (header_record h)) 0 → Counts s h o the_models.0 v
          → WritesSaid s w t (written_by (length s) (length t) v) (left_by s (header_record h) t v)
      go v q (rows.none y) = told roomy (Writes.opened o the_models.1 (WritesOf.no_text y))
      go v q (rows.rows {n = n} y) = room (has_room (12 * n + 12) (length t) (length s)) refl
        where
          T : Trailer s (all_rows s (header_record h)) (trailer_bytes s (header_record h) n)
          T = the_trailer s h o the_models.1 the_models.2 q (of_all y)

          size : length (trailer_bytes s (header_record h) n) ≡ 12 * n + 12
          size = omega (arith, trailer_size T, T.threes, (counted s (header_record h) q).threes)

          room : (b : Bool) → has_room (12 * n + 12) (length t) (length s) ≡ b
              → WritesSaid s w t (cond b (wrote 0 0 (12 * n + 12)) (wrote 26 0 (12 * n + 12))) (cond b (sets t 0 (trailer_bytes s (header_record h) n)) t)
          room true e =
              let f = room_fits (12 * n + 12) (length t) (length s) e in
              subst (λ (z : ℕ). WritesSaid s w t (wrote 0 0 z) (sets t 0 (trailer_bytes s (header_record h) n))) size
              (told roomy (Writes.opened o the_models.1 (WritesOf.written (of_all y) T (omega (arith, size, f.0)) (omega (arith, size, f.1)))))
          room false e =
              subst (λ (z : ℕ). WritesSaid s w t (wrote 26 0 z) t) size
              (told roomy (Writes.opened o the_models.1 (WritesOf.no_room (of_all y) T (subst (λ (z : ℕ). (length t < z) ⊎ (file_limit < length s + z)) (sym size) (no_room (12 * n + 12) (length t) (length s) e)))))

  data_length : length (data_of s (header_record h)) ≡ h.datum.len
  data_length =
      ap length (data_is s h)
      ∙ length-take-le h.datum.len (drop h.datum.start s) (omega (arith, data_ends o, length-drop h.datum.start s))

  finds_by : 12 ≤ h.datum.len → summed_of s ≡ true → (v : Result ℕ Refusal) → v ≡ voice_trees s (header_record h) (models_of s (header_record h)) 0 → Counts s h o the_models.0 v
      → FindsSaid s w (found_by s (header_record h) v)
  unfolding rows_found rows_stand
  finds_by l e v q (rows.none y) = told roomy (Finds.opened o the_models.1 (FindsOf.no_text l (summed_so s bytes.below (omega (arith, data_ends o)) e) y)) refl
  finds_by l e v q (rows.rows {n = n} y) = go (rows_stand s (header_record h) n) refl
    where
      R : List ℕ
      R = all_rows s (header_record h)

      T : Trailer s (all_rows s (header_record h)) (trailer_bytes s (header_record h) n)
      T = the_trailer s h o the_models.1 the_models.2 q (of_all y)

      threes : length (all_rows s (header_record h)) ≡ 3 * n
      threes = (counted s (header_record h) q).threes

      low : Below32 (all_rows s (header_record h))
      low = below_front (all_rows s (header_record h)) (T.count ∷ length s ∷ []) T.below

      summed : Summed s
      summed = summed_so s bytes.below (omega (arith, data_ends o)) e

      go : (b : Bool) → rows_stand s (header_record h) n ≡ b → FindsSaid s w (cond b (found 0 0 n (word_at s (length s - 12 + 4))) (found 28 0 0 0))
      go true z =
          told roomy (Finds.opened o the_models.1 (FindsOf.found l summed (of_all y) (stand_ends s bytes.below (all_rows s (header_record h)) n threes low (omega (arith, data_ends o)) e z))) threes
      go false z =
          told roomy
          (Finds.opened o the_models.1
          (FindsOf.other l summed (of_all y)
          (λ b p. let u : ◌≡◌ {A = Bool} true false = sym (ends_stand s bytes.below (all_rows s (header_record h)) n threes low p).0 ∙ z in let x : ◌≡◌ {A = ℕ} 0 1 = cc in omega arith)))
          refl

  finds_opened : FindsSaid s w (found_of s (header_record h))
  unfolding found_of
  finds_opened = start (ltb (length (data_of s (header_record h))) 12) refl
    where
      tell : {n p k b : ℕ} {numbers : List ℕ} → FindsOf s h the_models.0 n p numbers b → length numbers ≡ 3 * k → FindsSaid s w (found n p k b)
      tell f e = told roomy (Finds.opened o the_models.1 f) e

      sum : 12 ≤ h.datum.len → (b : Bool) → summed_of s ≡ b → FindsSaid s w (cond b (found_by s (header_record h) (voice_trees s (header_record h) (models_of s (header_record h)) 0)) (found 27 0 0 0))
      sum l false e = tell (FindsOf.sum l (λ p. let u : ◌≡◌ {A = Bool} true false = sym (so_summed s bytes.below p) ∙ e in let x : ◌≡◌ {A = ℕ} 0 1 = cc in omega arith)) refl
      sum l true e = go (voice_trees s (header_record h) (models_of s (header_record h)) 0) refl the_counts
        where
          go : (v : Result ℕ Refusal) → v ≡ voice_trees s (header_record h) (models_of s (header_record h)) 0 → Counts s h o the_models.0 v → FindsSaid s w (found_by s (header_record h) v)
          go v q c = finds_by l e v q c

      start : (b : Bool) → ltb (length (data_of s (header_record h))) 12 ≡ b
          → FindsSaid s w (cond b (found 26 0 0 0) (cond (summed_of s) (found_by s (header_record h) (voice_trees s (header_record h) (models_of s (header_record h)) 0)) (found 27 0 0 0)))
      start true e = tell (FindsOf.short (omega (arith, data_length, ltb-true (length (data_of s (header_record h))) 12 e))) refl
      start false e = sum (omega (arith, data_length, ltb-false (length (data_of s (header_record h))) 12 e)) (summed_of s) refl

-- ---- any file

module _ (s : List ℕ) (bytes : Bytes s) (w : List ℕ) where
  refused_roomy : {n p : ℕ} → Refused s n p → Roomy s w
  refused_roomy x h y = absurd (says_never y x)

  opened_writes : (t : List ℕ) {x : Opened} → OpenAnswer s x
      → WritesSaid s w t (trailer_by s (open_words_by w x.header x.verdict) (length t) (open_said_by (length w) x.verdict))
      (cond (eqb (open_said_by (length w) x.verdict).number 0) (written_left s (header_at (open_words_by w x.header x.verdict)) t) t)
  unfolding refused_with
  opened_writes t (answer.refused r x) =
      let e : eqb (number_of r) 0 ≡ false = ne_eqb (number_of r) 0 (λ z. omega (arith, above_zero r, z)) in
      subst (λ (b : Bool). WritesSaid s w t (cond b (written_of s (header_at w) (length t)) (wrote (number_of r) (place_of r) 0)) (cond b (written_left s (header_at w) t) t)) (sym e)
      (told (refused_roomy x) (Writes.unopened x))
  opened_writes t (answer.says h x) = go (ltb (length w) 647) refl
    where
      u : List ℕ
      u = sets w 0 (header_words (header_record h))

      go : (c : Bool) → ltb (length w) 647 ≡ c
          → WritesSaid s w t (trailer_by s (cond c w (sets w 0 (header_words (header_record h)))) (length t) (cond c (said 20 0) (said 0 0)))
          (cond (eqb (cond c (said 20 0) (said 0 0)).number 0) (written_left s (header_at (cond c w (sets w 0 (header_words (header_record h))))) t) t)
      go true e = few_words x (ltb-true (length w) 647 e)
      go false e =
          let l = ltb-false (length w) 647 e in
          subst (λ (k : code.Header). WritesSaid s w t (written_of s k (length t)) (written_left s k t)) (sym (record_back w h l)) (writes_opened s bytes h x w l t)

  opened_finds : {x : Opened} → OpenAnswer s x → FindsSaid s w (trailed_by s (open_words_by w x.header x.verdict) (open_said_by (length w) x.verdict))
  unfolding refused_with
  opened_finds (answer.refused r x) =
      let e : eqb (number_of r) 0 ≡ false = ne_eqb (number_of r) 0 (λ z. omega (arith, above_zero r, z)) in
      subst (λ (b : Bool). FindsSaid s w (cond b (found_of s (header_at w)) (found (number_of r) (place_of r) 0 0))) (sym e) (told (refused_roomy x) (Finds.unopened x) refl)
  opened_finds (answer.says h x) = go (ltb (length w) 647) refl
    where
      go : (c : Bool) → ltb (length w) 647 ≡ c → FindsSaid s w (trailed_by s (cond c w (sets w 0 (header_words (header_record h)))) (cond c (said 20 0) (said 0 0)))
      go true e = few_words x (ltb-true (length w) 647 e)
      go false e =
          let l = ltb-false (length w) 647 e in
          subst (λ (k : code.Header). FindsSaid s w (found_of s k)) (sym (record_back w h l)) (finds_opened s bytes h x w l)

  pub writes_sound : (t : List ℕ) → WritesSaid s w t (trailer_said s w (length t)) (trailer_left s w t)
  unfolding trailer_said trailer_left open_said open_words
  writes_sound t = go (open_sound bytes)
    where
      go : {x : Opened} → OpenAnswer s x
          → WritesSaid s w t (trailer_by s (open_words_by w x.header x.verdict) (length t) (open_said_by (length w) x.verdict))
          (cond (eqb (open_said_by (length w) x.verdict).number 0) (written_left s (header_at (open_words_by w x.header x.verdict)) t) t)
      go x = opened_writes t x

  pub finds_sound : FindsSaid s w (trailed_said s w)
  unfolding trailed_said open_said open_words
  finds_sound = go (open_sound bytes)
    where
      go : {x : Opened} → OpenAnswer s x → FindsSaid s w (trailed_by s (open_words_by w x.header x.verdict) (open_said_by (length w) x.verdict))
      go x = opened_finds x
