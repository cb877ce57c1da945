-- `head_open::open_streams` meets its contract.
use mathlib.Core.Path.{refl, sym, ◌∙◌}
use Rattle.std.proofs.lemmas.Result.{err_from_is_err_and}
use Rattle.head_open.specs.Open.{streams_of}
use Rattle.head_open.specs.Left.{streams_left}
use Rattle.head_open.proofs.open_streams.Goals as goal

pub returns-in_err-check_utf8 : goal.returns-in_err-check_utf8
unfolding streams_of streams_left
returns-in_err-check_utf8 c =
    let p = err_from_is_err_and c.from_residual.result c.from_residual.ensures.1 in
    rw (p.1, p.2, sym c.check_utf8.ensures ∙ c.in_err-check_utf8.was) (refl, refl)

pub returns-in_err-check_lines : goal.returns-in_err-check_lines
unfolding streams_of streams_left
returns-in_err-check_lines c =
    let p = err_from_is_err_and c.from_residual-in_err-check_lines.result c.from_residual-in_err-check_lines.ensures.1 in
    rw (p.1, p.2, sym c.check_utf8.ensures ∙ c.in_ok-check_utf8.was, sym c.up_to-s.ensures, sym c.check_lines.ensures ∙ c.in_err-check_lines.was) (refl, refl)

pub returns : goal.returns
unfolding streams_of streams_left
returns c = rw (sym c.check_utf8.ensures ∙ c.in_ok-check_utf8.was, sym c.up_to-s.ensures, sym c.check_lines.ensures ∙ c.in_ok-check_lines.was) c.read_groups.ensures
