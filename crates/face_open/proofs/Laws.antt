-- Each way through an opening.
use mathlib.Core.Path.{◌≡◌, sym, ap, ◌∙◌}
use mathlib.Core.Bool.{Bool, true, false, cond}
use mathlib.Core.List.{List}
use Prim.Native.Nat.{ℕ, ◌≤◌, ◌<◌}
use borrow.Author.Tests.{lt-ltb, le-ltb}
use lib.Dec.{ltb}
use lib.ListN.{length, replicate}
use lib.Seq.{sets}
use Rattle.std.specs.Prelude.{Ok, Err}
use Rattle.error.specs.Numbers.{number_of, place_of}
use Rattle.error.specs.declared.Refusal.{Refusal}
use Rattle.head_words.specs.Words.{header_words}
use Rattle.head_open.specs.Open.{open_of}
use Rattle.head_open.specs.Left.{open_left}
use Rattle.head_open.proofs.Left.{open_words_lem}
use Rattle.face_record.specs.declared.Said.{Said}
use Rattle.face_open.specs.Answers.{open_said_by, open_said, open_words_by, open_words}
use Rattle.face_record.specs.Answers.{said}

-- ---- opening

module _ (s w : List ℕ) where
  -- what is said, and the words after it
  abbrev pub Says : Said → List ℕ → Type 0
  Says x w' = (x ≡ open_said s (length w)) × (w' ≡ open_words s w)

  pub says_refused : (r : Refusal) {x : Said} → (open_of s).verdict ≡ Err r → x ≡ said (number_of r) (place_of r) → Says x w
  unfolding open_said open_words
  says_refused r v q = (q ∙ sym (ap (open_said_by (length w)) v), sym (ap (open_words_by w (open_of s).header) v))

  module _ (v : (open_of s).verdict ≡ Ok tt) where
    pub says_few : length w < 647 → Says (said 20 0) w
    unfolding open_said open_words
    says_few n =
        let t : ltb (length w) 647 ≡ true = lt-ltb (length w) 647 n in (
          sym (ap (open_said_by (length w)) v ∙ ap (λ (b : Bool). cond b (said 20 0) (said 0 0)) t),
          sym (ap (open_words_by w (open_of s).header) v ∙ ap (λ (b : Bool). cond b w (sets w 0 (header_words (open_of s).header))) t),
        )

    -- u is what opening left in words of its own
    pub says_done : {u w' : List ℕ} → 647 ≤ length w → u ≡ open_left s (replicate 647 0) → w' ≡ sets w 0 u → Says (said 0 0) w'
    unfolding open_said open_words
    says_done n e q =
        let t : ltb (length w) 647 ≡ false = le-ltb (length w) 647 n in (
          sym (ap (open_said_by (length w)) v ∙ ap (λ (b : Bool). cond b (said 20 0) (said 0 0)) t),
          q ∙ ap (sets w 0) (e ∙ open_words_lem s v)
              ∙ sym (ap (open_words_by w (open_of s).header) v ∙ ap (λ (b : Bool). cond b w (sets w 0 (header_words (open_of s).header))) t),
        )
