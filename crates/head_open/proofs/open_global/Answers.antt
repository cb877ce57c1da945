-- `head_open::open_global` meets its contract.
use mathlib.Core.Path.{refl, sym, ◌∙◌}
use Rattle.std.proofs.lemmas.Result.{err_from_is_err_and}
use Rattle.head_open.specs.Open.{global_of}
use Rattle.head_open.specs.Left.{global_left}
use Rattle.head_open.proofs.open_global.Goals as goal

pub returns-in_err-check_utf8 : goal.returns-in_err-check_utf8
unfolding global_of global_left
returns-in_err-check_utf8 c =
    let p = err_from_is_err_and c.from_residual.result c.from_residual.ensures.1 in
    rw (p.1, p.2, sym c.check_utf8.ensures ∙ c.in_err-check_utf8.was) (refl, refl)

pub returns : goal.returns
unfolding global_of global_left
returns c = rw (sym c.check_utf8.ensures ∙ c.in_ok-check_utf8.was, sym c.up_to.ensures) c.read_global.ensures
