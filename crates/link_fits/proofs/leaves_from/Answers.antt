-- `link_fits::leaves_from`: what the library's `all` says of the range.
use Prim.Native.Nat.{ℕ, ◌-◌}
use Rattle.laws.proofs.Ranged.{all_ranged}
use Rattle.laws.specs.Every.{all}
use Rattle.link_fits.specs.Fits.{is_leaf, leaves_from}
use Rattle.std.proofs.Common.{rules}
use borrow.Author.Tests.{tests}
use mathlib.Core.Path.{ap, ◌∙◌}
use native.Mathlib.Omega.{arith}
use Rattle.link_fits.proofs.leaves_from.Goals as goal

pub returns : goal.returns
unfolding leaves_from
returns c =
    let a = c.args in
    all_ranged (is_leaf a.records.now) a.n c.record_rows-rows.result (c.record_rows-rows.result - a.n) (omega arith) _ _ _ c.all.ensures.ran (λ x y q k. search (rules, tests)) ∙ ap (λ (m : ℕ). all (is_leaf a.records.now) a.n (m - a.n)) c.record_rows-rows.ensures
