-- `head_open::check_utf8` meets its contract.
use lib.ListN.{drop, length-take}
use Rattle.text_utf8.proofs.Valid.{bad}
use Rattle.text_utf8.specs.Check.{check_of}
use Rattle.head_open.specs.Open.{utf8_of}
use native.Mathlib.Omega.{arith}
use mathlib.Core.Path.{sym, ap, ◌∙◌}
use Rattle.head_open.proofs.check_utf8.Goals as goal

pub overflow_add-result : goal.overflow_add-result
overflow_add-result c =
    let a = c.args in
    let f = (bad _ _).0 (ap check_of (sym c.part_of.ensures) ∙ sym c.check.ensures ∙ c.in-Err.is) in
    omega (arith, f.inside, length-take a.x.len (drop a.x.start a.file.now), c.requires, c.well_formed)

pub returns-in-Ok : goal.returns-in-Ok
unfolding utf8_of
returns-in-Ok c = rw (ap check_of (sym c.part_of.ensures) ∙ sym c.check.ensures ∙ c.in-Ok.is)

pub returns-in-Err : goal.returns-in-Err
unfolding utf8_of
returns-in-Err c = rw (ap check_of (sym c.part_of.ensures) ∙ sym c.check.ensures ∙ c.in-Err.is)
