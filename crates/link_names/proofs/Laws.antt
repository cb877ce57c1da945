-- The laws of names by their keys: keys in a slice, marks, and what is left once the questions were read.
use mathlib.Core.Path.{◌≡◌, refl, sym, ap, ◌∙◌, subst}
use mathlib.Core.Bool.{Bool, true, false, cond, ◌||◌}
use mathlib.Core.List.{List, []}
use Prim.Native.Nat.{ℕ, zero, suc, ◌+◌, ◌-◌, ◌*◌, ◌%◌, ◌≤◌, ◌<◌}
use native.Mathlib.Omega.{arith}
use borrow.Author.Tests.{eq-eqb, ne_eqb}
use lib.Dec.{eqb}
use lib.ListN.{length, get_or}
use Rattle.std.specs.declared.option.Option.{Option}
use Rattle.std.specs.Prelude.{Some, None}
use Rattle.written.specs.Bytes.{same}
use Rattle.written.specs.Said.{QuestionPlace}
use Rattle.tree_question.proofs.Filling.{questions_from_here}
use Rattle.text_parts.specs.Parts.{part_inside}
use Rattle.link_search.proofs.Ids.{true_same}
use Rattle.link_find.proofs.Finding.{Named, hit}
use Rattle.link_names.specs.Names.{FirstOf, off, none, name_from, name_in, key_of, Keys, KeyIn, gone, left, Keyed, Gone, is_gone, heard, Marked}

-- ---- what is gone

-- what is gone by the one or the other
gone_or : (a b : Bool) (x : ℕ) → cond b 0 (cond a 0 x) ≡ cond (a || b) 0 x
gone_or true true x = refl
gone_or true false x = refl
gone_or false b x = refl

-- ---- the first number of which a test is false

module _ {p : ℕ → Bool} where
  pub first_as : {q : ℕ → Bool} {n : ℕ} {r : Option ℕ} → ((j : ℕ) → j < n → p j ≡ q j) → FirstOf p n r → FirstOf q n r
  first_as f (off {j = j} h e g) = off h (sym (f j h) ∙ e) (λ i l. sym (f i (omega arith)) ∙ g i l)
  first_as f (none g) = none (λ i h. sym (f i h) ∙ g i h)

-- ---- keys

pub key_some : (w : List ℕ) → ¬ (key_of w ≡ 0)
unfolding key_of
key_some w = go (eqb (length w) 0)
  where
    go : (b : Bool) → ¬ (cond b 1 (1 + length w % 16 * 15 + get_or w (length w - 1) 0 % 15) ≡ 0)
    go true e = omega (arith, e)
    go false e = omega (arith, e)

pub key_none : (w : List ℕ) → length w ≡ 0 → 1 ≡ key_of w
unfolding key_of
key_none w e = sym (ap (λ (b : Bool). cond b 1 (1 + length w % 16 * 15 + get_or w (length w - 1) 0 % 15)) (eq-eqb (length w) 0 e))

pub key_is : (w : List ℕ) → ¬ (length w ≡ 0) → 1 + length w % 16 * 15 + get_or w (length w - 1) 0 % 15 ≡ key_of w
unfolding key_of
key_is w e = sym (ap (λ (b : Bool). cond b 1 (1 + length w % 16 * 15 + get_or w (length w - 1) 0 % 15)) (ne_eqb (length w) 0 e))

-- the keys below j are set
pub record Keying (s names m e : List ℕ) (j : ℕ) : Type 0 where
  pub long : length e ≡ length m
  pub done : (i : ℕ) → i < j → get_or e i 0 ≡ key_of (name_in s names i)

pub keys_keyed : {s names m e : List ℕ} {n : ℕ} → Keys s names m n e → Keyed s names n e
keys_keyed w = record { each = λ j h. left (w.each j h) }

-- names of two keys are two names
pub key_other : (s : List ℕ) (b : ℕ) (w : List ℕ) {x k : ℕ} → k ≡ key_of w → KeyIn s b x → ¬ (x ≡ k) → x ≡ cond (same w (name_from s b)) 0 x
key_other s b w {x} {k} q (gone e) h = go (same w (name_from s b))
  where
    go : (c : Bool) → x ≡ cond c 0 x
    go true = e
    go false = refl
key_other s b w {x} {k} q (left e) h = go (same w (name_from s b)) refl
  where
    go : (c : Bool) → same w (name_from s b) ≡ c → x ≡ cond c 0 x
    go true z = absurd (h (e ∙ ap key_of (sym (true_same w (name_from s b) z)) ∙ sym q))
    go false z = refl

-- ---- marks

-- those below j are gone as they have to be, the others are as they were
pub record Marking (m : List ℕ) (p : ℕ → Bool) (e : List ℕ) (j : ℕ) : Type 0 where
  pub long : length e ≡ length m
  pub done : (i : ℕ) → i < j → get_or e i 0 ≡ cond (p i) 0 (get_or m i 0)
  pub left : (i : ℕ) → j ≤ i → get_or e i 0 ≡ get_or m i 0

gone_stays : (b : Bool) (x : ℕ) → x ≡ 0 → cond b 0 x ≡ 0
gone_stays true x e = refl
gone_stays false x e = e

-- none is gone yet; one more is; those that are gone stay so
pub gone_none : {m : List ℕ} → Gone 0 m
gone_none = record { each = λ j h. absurd (omega arith) }

pub gone_fewer : {low n : ℕ} {m : List ℕ} → Gone low m → n ≤ low → Gone n m
gone_fewer g h = record { each = λ j l. g.each j (omega arith) }

pub marked_gone : {m : List ℕ} {n low : ℕ} {p : ℕ → Bool} {e : List ℕ} → Gone low m → Marked m n p e → low ≤ n → Gone low e
marked_gone {m} {n} {low} {p} g w h = record { each = λ j l. w.each j (omega arith) ∙ gone_stays (p j) (get_or m j 0) (g.each j l) }

marked_keyed : {s names m : List ℕ} {n : ℕ} {p : ℕ → Bool} {e : List ℕ} → Keyed s names n m → Marked m n p e → Keyed s names n e
marked_keyed {s} {names} {m} {n} {p} {e} k w = record { each = λ j h. subst (KeyIn s (get_or names j 0)) (sym (w.each j h)) (go j (p j) (k.each j h)) }
  where
    go : (j : ℕ) (b : Bool) → KeyIn s (get_or names j 0) (get_or m j 0) → KeyIn s (get_or names j 0) (cond b 0 (get_or m j 0))
    go j true x = gone refl
    go j false x = x

-- all questions: what is gone and what is still heard come to the same
pub record Hearing (s names m : List ℕ) (n : ℕ) (first : ℕ) (e : List ℕ) (i : ℕ) : Type 0 where
  pub long : length e ≡ length m
  pub keyed : Keyed s names n e
  pub each : (j : ℕ) → j < n → cond (heard s (name_in s names j) (questions_from_here s i).items) 0 (get_or e j 0) ≡ cond (heard s (name_in s names j) (questions_from_here s first).items) 0 (get_or m j 0)

module _ {s names m : List ℕ} {n first : ℕ} {e : List ℕ} {i : ℕ} (w : Hearing s names m n first e i) where
  module _ {b k : ℕ} {rest : List QuestionPlace} (q : Named s i b k rest) {name : List ℕ} (a : name ≡ part_inside s b k) {e' : List ℕ} (h : Marked e n (λ (j : ℕ). same name (name_in s names j)) e') where
    heard_step : (j : ℕ) → j < n → cond (heard s (name_in s names j) rest) 0 (get_or e' j 0) ≡ cond (heard s (name_in s names j) (questions_from_here s first).items) 0 (get_or m j 0)
    unfolding heard
    heard_step j l =
        ap (λ (x : ℕ). cond (heard s (name_in s names j) rest) 0 x) (h.each j l)
        ∙ gone_or (same name (name_in s names j)) (heard s (name_in s names j) rest) (get_or e j 0)
        ∙ ap (λ (x : Bool). cond (x || heard s (name_in s names j) rest) 0 (get_or e j 0)) (hit s (name_in s names j) q a refl)
        ∙ sym (ap (λ (x : List QuestionPlace). cond (heard s (name_in s names j) x) 0 (get_or e j 0)) q.items) ∙ w.each j l

    pub hearing_last : rest ≡ [] → Marked m n (λ (j : ℕ). heard s (name_in s names j) (questions_from_here s first).items) e'
    unfolding heard
    hearing_last z =
        record {
          long = h.long ∙ w.long;
          each = λ j l. sym (ap (λ (x : List QuestionPlace). cond (heard s (name_in s names j) x) 0 (get_or e' j 0)) z) ∙ heard_step j l;
        }

  pub hearing_on : {b k i' : ℕ} → Named s i b k (questions_from_here s i').items → {name : List ℕ} → name ≡ part_inside s b k → {e' : List ℕ} → Marked e n (λ (j : ℕ). same name (name_in s names j)) e' → Hearing s names m n first e' i'
  hearing_on q a h = record { long = h.long ∙ w.long; keyed = marked_keyed w.keyed h; each = heard_step q a h }

  -- where all are gone, no question is left to hear
  pub hearing_over : Gone n e → Marked m n (λ (j : ℕ). heard s (name_in s names j) (questions_from_here s first).items) e
  hearing_over g =
      record {
        long = w.long;
        each = λ j l. g.each j l ∙ sym (gone_stays (heard s (name_in s names j) (questions_from_here s i).items) (get_or e j 0) (g.each j l)) ∙ w.each j l;
      }

  pub hearing_none : (questions_from_here s i).items ≡ [] → Marked m n (λ (j : ℕ). heard s (name_in s names j) (questions_from_here s first).items) e
  unfolding heard
  hearing_none z =
      record {
        long = w.long;
        each = λ j l. sym (ap (λ (x : List QuestionPlace). cond (heard s (name_in s names j) x) 0 (get_or e j 0)) z) ∙ w.each j l;
      }

pub gone_not : (n : ℕ) → ¬ (n ≡ 0) → is_gone n ≡ false
gone_not zero h = absurd (h refl)
gone_not (suc n) h = refl

-- from the keys on
pub from_keys : {s names k m : List ℕ} {n : ℕ} {p : ℕ → Bool} {e : List ℕ} {r : Option ℕ} → Keys s names k n m → Marked m n p e → FirstOf (λ (j : ℕ). is_gone (get_or e j 0)) n r → FirstOf p n r
from_keys {s} {names} {k} {m} {n} {p} {e} q w f = first_as (λ j l. ap is_gone (w.each j l) ∙ go j l (p j)) f
  where
    go : (j : ℕ) → j < n → (b : Bool) → is_gone (cond b 0 (get_or m j 0)) ≡ b
    go j l true = refl
    go j l false = gone_not (get_or m j 0) (λ z. key_some (name_in s names j) (sym (q.each j l) ∙ z))

pub heard_in : (s names : List ℕ) {n : ℕ} {qs ps : List QuestionPlace} {r : Option ℕ} → ps ≡ qs → FirstOf (λ (j : ℕ). heard s (name_in s names j) qs) n r → FirstOf (λ (j : ℕ). heard s (name_in s names j) ps) n r
heard_in s names {n} {r = r} e f = subst (λ (x : List QuestionPlace). FirstOf (λ (j : ℕ). heard s (name_in s names j) x) n r) (sym e) f

-- where there is no question
pub silent_none : (s names : List ℕ) {n : ℕ} {qs : List QuestionPlace} → qs ≡ [] → n ≡ 0 → FirstOf (λ (j : ℕ). heard s (name_in s names j) qs) n None
silent_none s names e z = none (λ i h. absurd (omega arith))

pub silent_some : (s names : List ℕ) {n : ℕ} {qs : List QuestionPlace} → qs ≡ [] → ¬ (n ≡ 0) → FirstOf (λ (j : ℕ). heard s (name_in s names j) qs) n (Some 0)
unfolding heard
silent_some s names e z = off {j = 0} (omega (arith, z)) (ap (heard s (name_in s names 0)) e) (λ i h. absurd (omega arith))
