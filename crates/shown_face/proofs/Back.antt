-- The words that an opening wrote are judged to be a record, and are the record that it opened; and the part that COMMENT's numbers name is the text that `comment`
-- returns.
use mathlib.Core.Path.{◌≡◌, refl, sym, ap, ◌∙◌}
use mathlib.Core.Bool.{Bool, true, false, cond, not}
use mathlib.Core.List.{List}
use Prim.Native.Nat.{ℕ, zero, suc, ◌-◌, ◌≤◌}
use native.Mathlib.Omega.{arith}
use borrow.Author.Tests.{le-ltb, leb-true}
use lib.Dec.{ltb, eqb}
use lib.ListN.{length}
use lib.Seq.{sets, length-sets, take_all}
use Rattle.std.specs.Prelude.{Ok}
use Rattle.written.specs.Bytes.{part}
use Rattle.laws.proofs.Every.{first_of}
use Rattle.laws.specs.Every.{all}
use Rattle.head_words.specs.Words.{word_at, is_flag, group_flags, flags_fit, header_words, global_at, header_at}
use Rattle.shown_words.proofs.Back.{Shaped, read_written, written_flags}
use Rattle.head_open.specs.Open.{open_of, comment_part, comment_of}
use Rattle.face_record.specs.declared.Part.{Part}
use Rattle.face_open.specs.Answers.{open_words_by, open_words}
use Rattle.face_record.specs.Answers.{judged_of, part_of, comment_in, comment_said}
use Rattle.face_record.proofs.Laws.{judged_fit}

-- ---- opening

module _ (s w : List ℕ) (v : (open_of s).verdict ≡ Ok tt) (l : 647 ≤ length w) where
  written : open_words s w ≡ sets w 0 (header_words (open_of s).header)
  unfolding open_words
  written =
      ap (open_words_by w (open_of s).header) v ∙ ap (λ (b : Bool). cond b w (sets w 0 (header_words (open_of s).header))) (le-ltb (length w) 647 l)

  -- no later call refuses its words for their number or their flags
  pub opened-judged : judged_of (open_words s w) ≡ 0
  opened-judged =
      ap judged_of written
      ∙ sym (judged_fit (sets w 0 (header_words (open_of s).header)) (omega (arith, length-sets w 0 (header_words (open_of s).header))) (written_flags w (open_of s).header l))

  -- and takes them for the record that was opened
  pub opened_back : Shaped (open_of s).header → header_at (open_words s w) ≡ (open_of s).header
  opened_back f = ap header_at written ∙ read_written w (open_of s).header l f

-- ---- COMMENT

-- the slice of a number
abbrev pub slice_of : ℕ → List ℕ → List ℕ → List ℕ
slice_of zero s f = s
slice_of (suc n) s f = f

-- the part that an answer names
abbrev pub part_in : List ℕ → List ℕ → Part → List ℕ
part_in s f p = part (slice_of p.slice s f) p.start p.len

whole : (f : List ℕ) → part f 0 (length f) ≡ f
whole f = take_all (length f) f (omega arith)

comment_in_lem : (s f : List ℕ) (b : Bool) (i l : ℕ) → part_in s f (comment_in (length s) (length f) b i l) ≡ comment_part s f b i l
unfolding comment_in comment_part
comment_in_lem s f b i l = go b (ltb (length s) i) (ltb (length s - i) l)
  where
    go : (b x y : Bool) → part_in s f (cond b (cond x (part_of 0 1 0 (length f)) (cond y (part_of 0 1 0 (length f)) (part_of 0 0 i l))) (part_of 0 1 0 (length f)))
        ≡ cond b (cond x f (cond y f (part s i l))) f
    go false x y = whole f
    go true true y = whole f
    go true false true = whole f
    go true false false = refl

module _ (w : List ℕ) (j : judged_of w ≡ 0) where
  fits : flags_fit w ≡ true
  unfolding judged_of
  fits = go (ltb (length w) 647) (flags_fit w) j
    where
      go : (x y : Bool) → ◌≡◌ {A = ℕ} (cond x 20 (cond y 0 16)) 0 → y ≡ true
      go true y e = absurd (omega arith)
      go false true e = refl
      go false false e = absurd (omega arith)

  flag : eqb (word_at w 94) 1 ≡ not (eqb (word_at w 94) 0)
  unfolding flags_fit
  flag = go (word_at w 94) (leb-true (word_at w 94) 1 (first_of (is_flag (word_at w 94)) (all (group_flags w) 0 8) fits))
    where
      go : (x : ℕ) → x ≤ 1 → eqb x 1 ≡ not (eqb x 0)
      go zero h = refl
      go (suc zero) h = refl
      go (suc (suc x)) h = absurd (omega arith)

  -- the part that the numbers name is COMMENT of the record, or the fallback
  pub comment_is : (s f : List ℕ) → part_in s f (comment_said (length s) w (length f)) ≡ comment_of s (header_at w) f
  unfolding comment_said header_at global_at
  comment_is s f =
      ap (λ (k : ℕ). part_in s f (cond (eqb k 0) (comment_in (length s) (length f) (eqb (word_at w 94) 1) (word_at w 92) (word_at w 93)) (part_of k 0 0 0))) j
      ∙ comment_in_lem s f (eqb (word_at w 94) 1) (word_at w 92) (word_at w 93)
      ∙ ap (λ (b : Bool). comment_part s f b (word_at w 92) (word_at w 93)) flag
