-- `head_position::store` meets its contract: each arm by what it stores; a list and its count, a range and its flag are one run.
use mathlib.Core.Path.{ap, ◌∙◌}
use mathlib.Core.List.{List, [], ◌∷◌}
use Prim.Native.Nat.{ℕ}
use native.Mathlib.Omega.{arith}
use borrow.Author.Tests.{ne_eqb}
use lib.Seq.{sets}
use Rattle.head_words.specs.Words.{flag_word, ranges_words}
use Rattle.head_words.proofs.Items.{laid_before}
use Rattle.head_words.proofs.Lengths.{length_ranges}
use Rattle.head_position.specs.Group.{stored_in}
use Rattle.head_position.proofs.store.Goals as goal

pub returns-in-0 : goal.returns-in-0
unfolding stored_in
returns-in-0 c =
    rw c.in-0.is
    (c.put1.ensures ∙ laid_before _ _ 2 18 (ranges_words 8 c.args.v.ranges.items) _ c.put_ranges.ensures (omega (arith, length_ranges 8 c.args.v.ranges.items)))

pub returns-in-1 : goal.returns-in-1
unfolding stored_in
returns-in-1 c = rw c.in-1.is c.put_range.ensures

pub returns-in-2 : goal.returns-in-2
unfolding stored_in
returns-in-2 c = rw c.in-2.is c.put_range-in-2.ensures

pub returns-in-3 : goal.returns-in-3
unfolding stored_in
returns-in-3 c =
    rw c.in-3.is (c.put1-in-3.ensures ∙ ap (λ (l : List ℕ). sets l 25 (flag_word c.args.v.flag ∷ [])) c.put_range-in-3.ensures)

pub returns-in-4 : goal.returns-in-4
unfolding stored_in
returns-in-4 c =
    rw c.in-4.is (c.put1-in-4.ensures ∙ ap (λ (l : List ℕ). sets l 28 (flag_word c.args.v.flag ∷ [])) c.put_range-in-4.ensures)

pub returns-in_default : goal.returns-in_default
unfolding stored_in
returns-in_default c =
    rw (
      ne_eqb _ _ c.in_default.in_default-own.rest.0.0.0.0.1,
      ne_eqb _ _ c.in_default.in_default-own.rest.0.0.0.1,
      ne_eqb _ _ c.in_default.in_default-own.rest.0.0.1,
      ne_eqb _ _ c.in_default.in_default-own.rest.0.1,
      ne_eqb _ _ c.in_default.in_default-own.rest.1,
    )
