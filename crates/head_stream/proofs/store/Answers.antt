-- `head_stream::store` meets its contract: each arm by what it stores; a list and its count are one run.
use mathlib.Core.Path.{◌∙◌}
use native.Mathlib.Omega.{arith}
use borrow.Author.Tests.{ne_eqb}
use Rattle.head_words.specs.Words.{spans_words}
use Rattle.head_words.proofs.Items.{laid_before}
use Rattle.head_words.proofs.Lengths.{length_spans}
use Rattle.head_stream.specs.Group.{stored_in}
use Rattle.head_stream.proofs.store.Goals as goal

pub returns-in-0 : goal.returns-in-0
unfolding stored_in
returns-in-0 c = rw c.in-0.is c.put1.ensures

pub returns-in-1 : goal.returns-in-1
unfolding stored_in
returns-in-1 c = rw c.in-1.is c.put1-in-1.ensures

pub returns-in-2 : goal.returns-in-2
unfolding stored_in
returns-in-2 c = rw c.in-2.is c.put1-in-2.ensures

pub returns-in-3 : goal.returns-in-3
unfolding stored_in
returns-in-3 c = rw c.in-3.is c.put1-in-3.ensures

pub returns-in-4 : goal.returns-in-4
unfolding stored_in
returns-in-4 c =
    rw c.in-4.is
    (c.put1-in-4.ensures ∙ laid_before _ _ 6 38 (spans_words 16 c.args.v.spans.items) _ c.put_spans.ensures (omega (arith, length_spans 16 c.args.v.spans.items)))

pub returns-in_default : goal.returns-in_default
unfolding stored_in
returns-in_default c =
    rw (
      ne_eqb _ _ c.in_default.in_default-own.rest.0.0.0.0.1,
      ne_eqb _ _ c.in_default.in_default-own.rest.0.0.0.1,
      ne_eqb _ _ c.in_default.in_default-own.rest.0.0.1,
      ne_eqb _ _ c.in_default.in_default-own.rest.0.1,
      ne_eqb _ _ c.in_default.in_default-own.rest.1,
    )
