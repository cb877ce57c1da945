-- Each way through the calls on a model and on loaded tables.
use mathlib.Core.Path.{◌≡◌, sym, ap, ◌∙◌}
use mathlib.Core.Bool.{Bool, cond}
use mathlib.Core.List.{List}
use Prim.Native.Nat.{ℕ, ◌-◌, ◌*◌, ◌/◌, ◌%◌, ◌≤◌, ◌<◌}
use native.Mathlib.Omega.{arith}
use borrow.Author.Tests.{lt-ltb, le-ltb, eq-eqb, ne_eqb}
use lib.Dec.{eqb}
use lib.ListN.{length}
use Rattle.error.specs.Numbers.{number_of, place_of, line_of}
use Rattle.error.specs.declared.Refusal.{Refusal}
use Rattle.head_record.specs.declared.Header.{Header}
use Rattle.head_words.specs.Words.{header_at}
use Rattle.face_record.specs.Answers.{judged_of}
use Rattle.face_record.proofs.Laws.{fit, unfit}
use Rattle.load_choose.specs.declared.Which.{Which}
use Rattle.load_choose.specs.declared.Which.TheVariants.{Duration, Stream, Gv}
use Rattle.load_plan.specs.Plans.{data_of, planned}
use Rattle.load_plan.specs.declared.Plan.{Plan}
use Rattle.load_plan.proofs.Laws.{needs_sound}
use Rattle.load_model.proofs.Laws.{part_short, small_values}
use Rattle.face_model.specs.declared.Needed.{Needed}
use Rattle.face_model.specs.Answers.{which_of, work_for, not_needed, needed_for, needed_by, needed_of}
use Rattle.std.specs.Prelude.{Err, Ok, Result}

-- ---- which model

module _ (n : ℕ) where
  pub which_duration : n ≡ 0 → Duration ≡ which_of n
  unfolding which_of
  which_duration e = sym (ap (λ (b : Bool). cond b Duration (cond (eqb (n % 2) 1) (Stream (n / 2)) (Gv (n / 2 - 1)))) (eq-eqb n 0 e))

  module _ (z : n ≡ 0 → ⊥) where
    of_stream : which_of n ≡ cond (eqb (n % 2) 1) (Stream (n / 2)) (Gv (n / 2 - 1))
    unfolding which_of
    of_stream = ap (λ (b : Bool). cond b Duration (cond (eqb (n % 2) 1) (Stream (n / 2)) (Gv (n / 2 - 1)))) (ne_eqb n 0 z)

    pub which_stream : n % 2 ≡ 1 → Stream (n / 2) ≡ which_of n
    which_stream e = sym (of_stream ∙ ap (λ (b : Bool). cond b (Stream (n / 2)) (Gv (n / 2 - 1))) (eq-eqb (n % 2) 1 e))

    pub which_gv : (n % 2 ≡ 1 → ⊥) → Gv (n / 2 - 1) ≡ which_of n
    which_gv e = sym (of_stream ∙ ap (λ (b : Bool). cond b (Stream (n / 2)) (Gv (n / 2 - 1))) (ne_eqb (n % 2) 1 e))

-- ---- the work

module _ (l : ℕ) where
  pub work_most : 3074457345618258602 < l → 18446744073709551615 ≡ work_for l
  unfolding work_for
  work_most h = sym (ap (λ (b : Bool). cond b 18446744073709551615 (6 * l)) (lt-ltb 3074457345618258602 l h))

  pub work_all : l ≤ 3074457345618258602 → 6 * l ≡ work_for l
  unfolding work_for
  work_all h = sym (ap (λ (b : Bool). cond b 18446744073709551615 (6 * l)) (le-ltb 3074457345618258602 l h))

-- ---- what a model needs

-- the values of a plan are a number of 64 bits
pub values_small : (s : List ℕ) (h : Header) (k : Which) (p : Plan) → Ok p ≡ planned s h k → length s < 18446744073709551616 → p.entries * p.width < 9223372036854775808
values_small s h k p e l =
    small_values (data_of s h) p (needs_sound s h k p e) (omega (arith, part_short s h.data_start h.data_len, l))

module _ (s w : List ℕ) (n : ℕ) {j : ℕ} (e : j ≡ judged_of w) where
  module _ (z : j ≡ 0) {k : Which} {q : Result Plan Refusal} (b : k ≡ which_of n) (c : q ≡ planned s (header_at w) k) where
    by_plan : needed_by q ≡ needed_of s w n
    unfolding needed_of
    by_plan =
        ap needed_by (c ∙ ap (planned s (header_at w)) b)
        ∙ sym (ap (λ (t : Bool). cond t (needed_by (planned s (header_at w) (which_of n))) (not_needed (judged_of w) 0 0)) (fit w e z))

    pub needs_model : {p : Plan} {x : Needed} → q ≡ Ok p → x ≡ needed_for p → x ≡ needed_of s w n
    needs_model d y = y ∙ sym (ap needed_by d) ∙ by_plan

    pub needs_refused : {r : Refusal} {x : Needed} → q ≡ Err r → x ≡ not_needed (number_of r) (place_of r) (line_of r) → x ≡ needed_of s w n
    needs_refused d y = y ∙ sym (ap needed_by d) ∙ by_plan

  pub needs_unfit : (j ≡ 0 → ⊥) → not_needed j 0 0 ≡ needed_of s w n
  unfolding needed_of
  needs_unfit z =
      ap (λ (i : ℕ). not_needed i 0 0) e
      ∙ sym (ap (λ (t : Bool). cond t (needed_by (planned s (header_at w) (which_of n))) (not_needed (judged_of w) 0 0)) (unfit w e z))
