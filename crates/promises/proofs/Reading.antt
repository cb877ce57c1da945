-- `larsavim_comment`, `larsavim_get` and `larsavim_pair` keep their promises, of words that an opening of the file wrote; nothing but `out` is written.
use mathlib.Core.Path.{◌≡◌, refl, sym, ap, ◌∙◌, subst}
use mathlib.Core.Bool.{Bool, true, false, cond, not}
use mathlib.Core.List.{List, [], ◌∷◌}
use mathlib.Core.Option.{Option, some, none}
use Prim.Native.Nat.{ℕ, zero, suc, ◌+◌, ◌-◌, ◌≤◌, ◌<◌}
use native.Mathlib.Omega.{arith}
use borrow.Author.Tests.{ltb-true, ltb-false, le-ltb, leb-true}
use lib.Dec.{ltb, eqb}
use lib.ListN.{length, get_or}
use lib.Seq.{sets}
use Rattle.written.specs.Bytes.{Span}
use Rattle.written.specs.Record as record_of
use Rattle.written_models.proofs.Named.{names_inside}
use Rattle.laws.proofs.Every.{first_of}
use Rattle.laws.proofs.Tables.{sets_at}
use Rattle.head_record.specs.Record.{there, span_or, global_record, header_record}
use Rattle.head_record.specs.declared.Header.{Header}
use Rattle.head_words.specs.Words.{word_at, is_flag, flags_fit, header_at, global_at}
use Rattle.head_words.proofs.Lengths.{length_header}
use Rattle.face_record.specs.declared.Part.{Part}
use Rattle.face_record.specs.declared.Said.{Said}
use Rattle.face_record.specs.declared.Pair.{Pair}
use Rattle.face_record.specs.Answers.{comment_said, comment_by, comment_in, part_of, get_said, get_by, pair_said, pair_by, said, pair_of}
use Rattle.larsavim.specs.Face.{answered, written, part_numbers, said_numbers, pair_numbers, Comments, Gets, Pairs}
use Rattle.shown_words.proofs.Shaped.{record_back}
use Rattle.shown_words.proofs.Back.{written_flags}
use Rattle.promises.specs.Opening.{record_words}
use Rattle.promises.specs.Reading.{AfterComment, AfterGet, AfterPair}
use Rattle.promises.proofs.Moved.{moved₂}
use Rattle.promises.proofs.Asked.{record_judged}

module _ (w : List ℕ) (h : record_of.Header) (enough : 647 ≤ length w) where
  -- the words after an opening
  abbrev u : List ℕ
  u = sets w 0 (record_words h)

  word_of : (i : ℕ) → i < 647 → word_at u i ≡ get_or (record_words h) i 0
  word_of i l =
      let e : i ≡ 0 + i = omega arith in
      ap (word_at u) e ∙ sets_at (record_words h) w 0 i 0 (omega (arith, length_header (header_record h))) (omega (arith, length_header (header_record h)))

  -- ---- larsavim_get

  pub get_kept : (i : ℕ) (out : List ℕ) {r : ℕ} {o : List ℕ} → Gets u i out r o → AfterGet h i out r o
  unfolding answered written get_said
  get_kept i out (a, b) =
      moved₂ (AfterGet h i out) (a ∙ ap (λ (j : ℕ). cond (ltb (length out) 2) 20 (get_by u i j).number) (record_judged w h enough))
      (b ∙ ap (λ (j : ℕ). cond (ltb (length out) 2) out (sets out 0 (said_numbers (get_by u i j)))) (record_judged w h enough)) (go (ltb (length out) 2) refl (ltb i 647) refl)
    where
      answer : Bool → Said
      answer d = cond d (said 0 (word_at u i)) (said 16 0)

      go : (c : Bool) → ltb (length out) 2 ≡ c → (d : Bool) → ltb i 647 ≡ d → AfterGet h i out (cond c 20 (answer d).number) (cond c out (sets out 0 (said_numbers (answer d))))
      go true e d f = AfterGet.short_out (ltb-true (length out) 2 e)
      go false e true f =
          let l = ltb-true i 647 f in
          subst (λ (x : ℕ). AfterGet h i out 0 (sets out 0 (0 ∷ x ∷ []))) (sym (word_of i l)) (AfterGet.there (ltb-false (length out) 2 e) l)
      go false e false f = AfterGet.no_field (ltb-false (length out) 2 e) (ltb-false i 647 f)

  -- ---- larsavim_pair

  pub pair_kept : (i : ℕ) (out : List ℕ) {r : ℕ} {o : List ℕ} → Pairs u i out r o → AfterPair h i out r o
  unfolding answered written pair_said
  pair_kept i out (a, b) =
      moved₂ (AfterPair h i out) (a ∙ ap (λ (j : ℕ). cond (ltb (length out) 3) 20 (pair_by u i j).number) (record_judged w h enough))
      (b ∙ ap (λ (j : ℕ). cond (ltb (length out) 3) out (sets out 0 (pair_numbers (pair_by u i j)))) (record_judged w h enough)) (go (ltb (length out) 3) refl (ltb i 646) refl)
    where
      answer : Bool → Pair
      answer d = cond d (pair_of 0 (word_at u i) (word_at u (i + 1))) (pair_of 16 0 0)

      go : (c : Bool) → ltb (length out) 3 ≡ c → (d : Bool) → ltb i 646 ≡ d → AfterPair h i out (cond c 20 (answer d).number) (cond c out (sets out 0 (pair_numbers (answer d))))
      go true e d f = AfterPair.short_out (ltb-true (length out) 3 e)
      go false e true f =
          let l = ltb-true i 646 f in
          moved₂ (λ (x y : ℕ). AfterPair h i out 0 (sets out 0 (0 ∷ x ∷ y ∷ []))) (word_of i (omega arith)) (word_of (i + 1) (omega arith)) (AfterPair.there (ltb-false (length out) 3 e) l)
      go false e false f = AfterPair.no_field (ltb-false (length out) 3 e) (ltb-false i 646 f)

  -- ---- larsavim_comment

  -- a word that is 0 or 1
  flag_one : (n : ℕ) (b : Bool) → is_flag n ≡ true → not (eqb n 0) ≡ b → eqb n 1 ≡ b
  flag_one zero b f e = e
  flag_one (suc zero) b f e = e
  flag_one (suc (suc n)) b f e = absurd (omega (arith, leb-true (suc (suc n)) 1 f))

  comment_word : eqb (word_at u 94) 1 ≡ there h.global.comment
  unfolding flags_fit header_at global_at header_record global_record
  comment_word = flag_one (word_at u 94) _ (first_of _ _ (written_flags w (header_record h) enough)) (ap (λ (x : Header). x.global.has_comment) (record_back w h enough))

  comment_start : word_at u 92 ≡ (span_or h.global.comment).start
  unfolding header_at global_at header_record global_record
  comment_start = ap (λ (x : Header). x.global.comment.start) (record_back w h enough)

  comment_len : word_at u 93 ≡ (span_or h.global.comment).len
  unfolding header_at global_at header_record global_record
  comment_len = ap (λ (x : Header). x.global.comment.len) (record_back w h enough)

  module _ {s : List ℕ} (says : record_of.Says s h) (f : ℕ) (out : List ℕ) where
    -- what is told of a COMMENT, there or not
    told : Option Span → Part
    told c = comment_in (length s) f (there c) (span_or c).start (span_or c).len

    comment_said_lem : comment_said (length s) u f ≡ told h.global.comment
    unfolding comment_said told
    comment_said_lem = ap (comment_by (length s) u f) (record_judged w h enough) ∙ (λ i. comment_in (length s) f (comment_word i) (comment_start i) (comment_len i))

    told_there : (x : Span) → x.start + x.len ≤ length s → told (some x) ≡ part_of 0 0 x.start x.len
    unfolding told comment_in
    told_there x l =
        ap (λ (b : Bool). cond b (part_of 0 1 0 f) (cond (ltb (length s - x.start) x.len) (part_of 0 1 0 f) (part_of 0 0 x.start x.len))) (le-ltb (length s) x.start (omega arith))
        ∙ ap (λ (b : Bool). cond b (part_of 0 1 0 f) (part_of 0 0 x.start x.len)) (le-ltb (length s - x.start) x.len (omega arith))

    told_none : told none ≡ part_of 0 1 0 f
    unfolding told comment_in
    told_none = refl

    pub comment_kept : {r : ℕ} {o : List ℕ} → Comments (length s) u f out r o → AfterComment h f out r o
    unfolding answered written
    comment_kept (a, b) =
        moved₂ (AfterComment h f out) (a ∙ ap (λ (x : Part). cond (ltb (length out) 4) 20 x.number) comment_said_lem)
        (b ∙ ap (λ (x : Part). cond (ltb (length out) 4) out (sets out 0 (part_numbers x))) comment_said_lem) (go (ltb (length out) 4) refl h.global.comment refl)
      where
        go : (c : Bool) → ltb (length out) 4 ≡ c → (x : Option Span) → h.global.comment ≡ x
            → AfterComment h f out (cond c 20 (told h.global.comment).number) (cond c out (sets out 0 (part_numbers (told h.global.comment))))
        go true e x g = AfterComment.short_out (ltb-true (length out) 4 e)
        go false e none g =
            let z = ap told g ∙ told_none in
            moved₂ (AfterComment h f out) (ap (λ (p : Part). p.number) z) (ap (λ (p : Part). sets out 0 (part_numbers p)) z) (AfterComment.absent (ltb-false (length out) 4 e) g)
        go false e (some x) g =
            let z = ap told g ∙ told_there x ((names_inside says).comment x g) in
            moved₂ (AfterComment h f out) (ap (λ (p : Part). p.number) z) (ap (λ (p : Part). sets out 0 (part_numbers p)) z) (AfterComment.there (ltb-false (length out) 4 e) g)
