-- `head_global::store` meets its contract.
use mathlib.Core.Path.{refl, sym, ap, ◌∙◌}
use mathlib.Core.List.{[], ◌∷◌}
use Prim.Native.Nat.{ℕ, ◌+◌}
use borrow.Author.Tests.{ne_eqb}
use Rattle.head_words.specs.Words.{span_words, spans_words}
use Rattle.head_words.proofs.Items.{laid_before}
use Rattle.head_words.proofs.Lengths.{length_spans}
use Rattle.head_global.specs.Global.{stored_in}
use Rattle.head_global.proofs.store.Goals as goal

pub returns-in-0 : goal.returns-in-0
unfolding stored_in
returns-in-0 c = rw c.in-0.is c.put_span.ensures

pub returns-in-1 : goal.returns-in-1
unfolding stored_in
returns-in-1 c = rw c.in-1.is c.put1.ensures

pub returns-in-2 : goal.returns-in-2
unfolding stored_in
returns-in-2 c = rw c.in-2.is c.put1-in-2.ensures

pub returns-in-3 : goal.returns-in-3
unfolding stored_in
returns-in-3 c = rw c.in-3.is c.put1-in-3.ensures

pub returns-in-4 : goal.returns-in-4
unfolding stored_in
returns-in-4 c = rw c.in-4.is c.put1-in-4.ensures

pub returns-in-5 : goal.returns-in-5
unfolding stored_in
returns-in-5 c =
    rw c.in-5.is
    (c.put1-in-5.ensures
    ∙ laid_before c.args.words.now _ 6 22 (spans_words 8 c.args.v.spans.items) (c.args.v.spans.count ∷ []) c.put_spans.ensures (ap (λ (n : ℕ). 6 + n) (sym (length_spans 8 c.args.v.spans.items))))

pub returns-in-6 : goal.returns-in-6
unfolding stored_in
returns-in-6 c = rw c.in-6.is c.put_span-in-6.ensures

pub returns-in-7 : goal.returns-in-7
unfolding stored_in
returns-in-7 c = rw c.in-7.is c.put_span-in-7.ensures

pub returns-in-8 : goal.returns-in-8
unfolding stored_in
returns-in-8 c =
    rw c.in-8.is
    (c.put1-in-8.ensures
    ∙ laid_before c.args.words.now _ 27 91 (spans_words 32 c.args.v.spans.items) (c.args.v.spans.count ∷ []) c.put_spans-in-8.ensures (ap (λ (n : ℕ). 27 + n) (sym (length_spans 32 c.args.v.spans.items))))

pub returns-in-9 : goal.returns-in-9
unfolding stored_in
returns-in-9 c =
    rw c.in-9.is
    (c.put1-in-9.ensures
    ∙ laid_before c.args.words.now _ 92 94 (span_words c.args.v.span) (1 ∷ []) c.put_span-in-9.ensures refl)

pub returns-in_default : goal.returns-in_default
unfolding stored_in
returns-in_default c = rw (ne_eqb _ _ c.in_default.in_default-own.rest.0.0.0.0.0.0.0.0.0.1, ne_eqb _ _ c.in_default.in_default-own.rest.0.0.0.0.0.0.0.0.1, ne_eqb _ _ c.in_default.in_default-own.rest.0.0.0.0.0.0.0.1, ne_eqb _ _ c.in_default.in_default-own.rest.0.0.0.0.0.0.1, ne_eqb _ _ c.in_default.in_default-own.rest.0.0.0.0.0.1, ne_eqb _ _ c.in_default.in_default-own.rest.0.0.0.0.1, ne_eqb _ _ c.in_default.in_default-own.rest.0.0.0.1, ne_eqb _ _ c.in_default.in_default-own.rest.0.0.1, ne_eqb _ _ c.in_default.in_default-own.rest.0.1, ne_eqb _ _ c.in_default.in_default-own.rest.1)
