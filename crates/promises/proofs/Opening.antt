-- `larsavim_open` keeps its promise; the promise allows one outcome; every number but 0 leaves the words as they were.
use mathlib.Core.Path.{◌≡◌, refl, ap}
use mathlib.Core.Bool.{Bool, true, false, cond}
use mathlib.Core.List.{List, [], ◌∷◌}
use Prim.Native.Nat.{ℕ, ◌≤◌, ◌<◌}
use native.Mathlib.Omega.{arith}
use borrow.Author.Tests.{ltb-true, ltb-false}
use lib.Dec.{ltb}
use lib.ListN.{length}
use lib.Seq.{sets}
use Rattle.written.specs.Record.{Header}
use Rattle.written.specs.Faults.{Refused}
use Rattle.written.proofs.OneFile.{says_one}
use Rattle.written_apart.proofs.ApartFile.{refused_one, says_never}
use Rattle.head_de.proofs.Sound.{Bytes}
use Rattle.head_open.specs.Open.{open_of, refused_with}
use Rattle.head_open.specs.declared.Opened.{Opened}
use Rattle.shown_open.proofs.Opened.{OpenAnswer, open_sound}
use Rattle.shown_open.proofs.Opened as answer
use Rattle.face_record.specs.declared.Said.{Said}
use Rattle.face_open.specs.Answers.{open_said_by, open_said, open_words_by, open_words}
use Rattle.face_record.specs.Answers.{said}
use Rattle.larsavim.specs.Face.{answered, written, left, said_numbers, Opens}
use Rattle.face_trail.proofs.Above.{above_zero}
use Rattle.promises.proofs.Moved.{moved₃}
use Rattle.promises.specs.Opening.{record_words, AfterOpen, short_out, opened, few_words, refused}

-- where there is room for the answer
module _ (s w out : List ℕ) (room : 2 ≤ length out) where
  abbrev After : Opened → Type 0
  After o = AfterOpen s w out (open_said_by (length w) o.verdict).number (open_words_by w o.header o.verdict) (sets out 0 (said_numbers (open_said_by (length w) o.verdict)))

  of_answer : {o : Opened} → OpenAnswer s o → After o
  unfolding refused_with
  of_answer (answer.says h x) = go (ltb (length w) 647) refl
    where
      in_room : Bool → Said
      in_room c = cond c (said 20 0) (said 0 0)

      go : (c : Bool) → ltb (length w) 647 ≡ c → AfterOpen s w out (in_room c).number (cond c w (sets w 0 (record_words h))) (sets out 0 (said_numbers (in_room c)))
      go true e = few_words room x (ltb-true (length w) 647 e)
      go false e = opened room x (ltb-false (length w) 647 e)
  of_answer (answer.refused r x) = refused room x

-- the contract keeps the promise
pub open_kept : {s : List ℕ} (w out : List ℕ) {r : ℕ} {w' o : List ℕ} → Opens s w out r w' o → AfterOpen s w out r w' o
unfolding answered written left open_said open_words
open_kept {s} w out (a, b, c, below) = moved₃ (AfterOpen s w out) a b c (go (ltb (length out) 2) refl)
  where
    go : (d : Bool) → ltb (length out) 2 ≡ d
        → AfterOpen s w out (cond d 20 (open_said_by (length w) (open_of s).verdict).number) (cond d w (open_words_by w (open_of s).header (open_of s).verdict))
        (cond d out (sets out 0 (said_numbers (open_said_by (length w) (open_of s).verdict))))
    go true e = short_out (ltb-true (length out) 2 e)
    go false e = of_answer s w out (ltb-false (length out) 2 e) (open_sound (record { below = below }))

-- the promise allows one outcome
pub after_open_once : {s w out : List ℕ} {r r' : ℕ} {u u' o o' : List ℕ} → AfterOpen s w out r u o → AfterOpen s w out r' u' o' → (r ≡ r') × (u ≡ u') × (o ≡ o')
after_open_once (short_out a) (short_out b) = (refl, refl, refl)
after_open_once (short_out a) (opened b x l) = absurd (omega arith)
after_open_once (short_out a) (few_words b x l) = absurd (omega arith)
after_open_once (short_out a) (refused b x) = absurd (omega arith)
after_open_once (opened a x l) (short_out b) = absurd (omega arith)
after_open_once {w = w} (opened a x l) (opened b y k) = (refl, ap (λ (h : Header). sets w 0 (record_words h)) (says_one x y), refl)
after_open_once (opened a x l) (few_words b y k) = absurd (omega arith)
after_open_once (opened a x l) (refused b y) = absurd (says_never x y)
after_open_once (few_words a x l) (short_out b) = absurd (omega arith)
after_open_once (few_words a x l) (opened b y k) = absurd (omega arith)
after_open_once (few_words a x l) (few_words b y k) = (refl, refl, refl)
after_open_once (few_words a x l) (refused b y) = absurd (says_never x y)
after_open_once (refused a x) (short_out b) = absurd (omega arith)
after_open_once (refused a x) (opened b y k) = absurd (says_never y x)
after_open_once (refused a x) (few_words b y k) = absurd (says_never y x)
after_open_once {out = out} (refused a x) (refused b y) = let z = refused_one x y in (z.0, refl, λ i. sets out 0 (z.0 i ∷ z.1 i ∷ []))

-- demand 1: another number than 0 leaves the words as they were; a short `out` is 20, and nothing is written
pub open_leaves : {s w out : List ℕ} {r : ℕ} {u o : List ℕ} → AfterOpen s w out r u o → ¬ (r ≡ 0) → u ≡ w
open_leaves (short_out a) n = refl
open_leaves (opened a x l) n = absurd (n refl)
open_leaves (few_words a x l) n = refl
open_leaves (refused a x) n = refl

pub open_short : {s w out : List ℕ} {r : ℕ} {u o : List ℕ} → AfterOpen s w out r u o → length out < 2 → (r ≡ 20) × (u ≡ w) × (o ≡ out)
open_short (short_out a) h = (refl, refl, refl)
open_short (opened a x l) h = absurd (omega arith)
open_short (few_words a x l) h = absurd (omega arith)
open_short (refused a x) h = absurd (omega arith)

-- ---- no refusal is 0

pub never_zero : {s : List ℕ} → Bytes s → {n p : ℕ} → Refused s n p → ¬ (n ≡ 0)
never_zero {s} bytes {n} {p} x e = go (open_sound bytes)
  where
    go : {o : Opened} → OpenAnswer s o → ⊥
    go (answer.says h y) = says_never y x
    go (answer.refused r y) = let k = above_zero r in let z = refused_one y x in omega (arith, k, z.0, e)
