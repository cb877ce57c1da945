-- `head_de_lists::pairs_from` meets its contract. The invariant: what is left gives the answer.
use Rattle.written.specs.HeaderText.{Range}
use Rattle.head_record.specs.declared.Range as bytes
use mathlib.Core.List.{[], ◌∷◌, ◌++◌}
use Prim.Native.Nat.{◌-◌, ◌<◌}
use lib.ListN.{length}
use Rattle.std.proofs.lemmas.Result.{err_from_is_err_and}
use Rattle.head_de_lists.specs.declared.Ranges.{Ranges}
use Rattle.head_de.proofs.Moves.{read_moves, pair_moves}
use Rattle.head_de.specs.Readings.{read, of_pair}
use Rattle.head_de.specs.Values.{delimiters_of, pair_at}
use Rattle.head_de_lists.proofs.Going.{Going, going_first, item_refused, item_last, item_unsplit, item_passed, ranges_with_lem}
use Rattle.head_de_lists.specs.Lists.{ranges_of, ranges_with, pairs_in}
use native.Mathlib.Omega.{arith}
use mathlib.Core.Path.{◌≡◌, sym, ap, ◌∙◌}
use Rattle.head_de_lists.proofs.pairs_from.Goals.{After-push-list, In-Passed, In_ok-item}
use Rattle.head_de_lists.proofs.pairs_from.Goals as goal

-- an item as the text says it
abbrev said : bytes.Range → Range
said x = record { from = x.from; to = x.to }

was_read : (c : In_ok-item) → of_pair (pair_at (delimiters_of c.args.inner) c.args.s.now c.loop-item.at.at) ≡ read (said c.in_ok-item.item.value) c.in_ok-item.item.next.at
was_read c = ap of_pair (sym c.pair.ensures ∙ c.in_ok-item.was)

-- the list with it
pushed : (c : After-push-list) → c.push-list.result ≡ ranges_of (c.loop-item.invariant.0 ++ (said c.in_ok-item.item.value ∷ []))
pushed c = c.push-list.ensures ∙ ap (λ (x : Ranges). ranges_with x c.in_ok-item.item.value) c.loop-item.invariant.1 ∙ ranges_with_lem _ (said c.in_ok-item.item.value)

passed : (c : In-Passed) → of_pair (pair_at (delimiters_of c.args.inner) c.args.s.now c.loop-item.at.at) ≡ read (said c.in_ok-item.item.value) c.in_ok-item.item.next.at → (Going (λ i. of_pair (pair_at (delimiters_of c.args.inner) c.args.s.now i)) (delimiters_of c.args.outer) c.args.s.now c.args.c.at c.in-Passed.after.at (c.loop-item.invariant.0 ++ (said c.in_ok-item.item.value ∷ []))) × (length c.args.s.now - c.in-Passed.after.at < length c.args.s.now - c.loop-item.at.at)
passed c r = item_passed _ _ _ _ c.loop-item.invariant.2 r (read_moves (pair_moves _ _ _) r) (sym c.delimiter.ensures ∙ c.in-Passed.is)

pub loop-item-init : goal.loop-item-init
loop-item-init c = ([], c.none-list.ensures, going_first _ _ _ _)

pub returns-in_err-item : goal.returns-in_err-item
returns-in_err-item c =
    let p = err_from_is_err_and c.from_residual.result c.from_residual.ensures.1 in
    rw (p.1, p.2) (ap pairs_in (sym (item_refused _ _ _ _ c.loop-item.invariant.2 (ap of_pair (sym c.pair.ensures ∙ c.in_err-item.was)))))

pub push-list-requires : goal.push-list-requires
unfolding ranges_of
push-list-requires c =
    let i = c.loop-item.invariant in
    let e : c.loop-item.list.count ≡ length i.0 = ap (λ (x : Ranges). x.count) i.1 in
    omega (arith, e, i.2.fits, c.well_formed)

pub loop-item-smaller : goal.loop-item-smaller
loop-item-smaller c = (passed (goal.at.loop-item-smaller c).In-Passed (was_read (goal.at.loop-item-smaller c).In_ok-item)).1

pub loop-item-preserved : goal.loop-item-preserved
loop-item-preserved c = (_, pushed (goal.at.loop-item-preserved c).After-push-list, (passed (goal.at.loop-item-preserved c).In-Passed (was_read (goal.at.loop-item-preserved c).In_ok-item)).0)

pub returns-in-Closed : goal.returns-in-Closed
returns-in-Closed c = rw (pushed (goal.at.returns-in-Closed c).After-push-list) (ap pairs_in (sym (item_last _ _ _ _ c.loop-item.invariant.2 (was_read (goal.at.returns-in-Closed c).In_ok-item) (sym c.delimiter.ensures ∙ c.in-Closed.is))))

pub returns-in-Missing : goal.returns-in-Missing
returns-in-Missing c = ap pairs_in (sym (item_unsplit _ _ _ _ c.loop-item.invariant.2 (was_read (goal.at.returns-in-Missing c).In_ok-item) (sym c.delimiter.ensures ∙ c.in-Missing.is)))
