-- `head_open::open_positions` meets its contract.
use mathlib.Core.Path.{refl, sym, ◌∙◌}
use native.Mathlib.Omega.{arith}
use Rattle.std.proofs.lemmas.Result.{err_from_is_err_and}
use Rattle.head_open.specs.Open.{positions_of, no_positions_for}
use Rattle.head_open.specs.Left.{positions_left}
use Rattle.head_open.proofs.Left.{position_verdict, zeros_durations}
use Rattle.head_open.proofs.open_positions.Goals as goal

pub read_groups-requires : goal.read_groups-requires
read_groups-requires c = (omega (arith, c.requires.1.0), zeros_durations _ _ _ _ _ c.put4.ensures c.requires.1.1)

pub returns-in_err-check_utf8 : goal.returns-in_err-check_utf8
unfolding positions_of positions_left no_positions_for
returns-in_err-check_utf8 c =
    let p = err_from_is_err_and c.from_residual.result c.from_residual.ensures.1 in
    rw (p.1, p.2, sym c.check_utf8.ensures ∙ c.in_err-check_utf8.was) (refl, refl)

pub returns-in_err-durations : goal.returns-in_err-durations
unfolding positions_of positions_left no_positions_for
returns-in_err-durations c =
    let p = err_from_is_err_and c.from_residual-in_err-durations.result c.from_residual-in_err-durations.ensures.1 in
    rw (p.1, p.2, sym c.check_utf8.ensures ∙ c.in_ok-check_utf8.was, sym c.up_to-s.ensures, sym c.read_durations.ensures ∙ c.in_err-durations.was) (refl, refl)

pub returns : goal.returns
unfolding positions_of positions_left
returns c = rw (sym c.check_utf8.ensures ∙ c.in_ok-check_utf8.was, sym c.up_to-s.ensures, sym c.read_durations.ensures ∙ c.in_ok-durations.was) (c.read_groups.ensures.0 ∙ position_verdict _ _ _, c.read_groups.ensures.1 ∙ rw c.put4.ensures)
