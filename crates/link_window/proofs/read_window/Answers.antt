-- `link_window::read_window`: the names, then the questions.
use native.Mathlib.Omega.{arith}
use Rattle.link_window.proofs.Laws.{taken_few, window_missing, window_clear}
use Rattle.link_window.proofs.read_window.Goals as goal

pub look_up-requires : goal.look_up-requires
look_up-requires c = (taken_few c.fill-filled.ensures.taken c.taken.ensures, omega (arith, taken_few c.fill-filled.ensures.taken c.taken.ensures, c.fill-filled.ensures.long))

pub returns-in-Some : goal.returns-in-Some
returns-in-Some c = window_missing _ _ _ _ c.fill-filled.ensures.taken c.taken.ensures c.look_up.ensures c.in-Some.is

pub returns-in-None : goal.returns-in-None
returns-in-None c = window_clear _ _ _ _ c.fill-filled.ensures.taken c.taken.ensures c.look_up.ensures c.in-None.is c.behind.ensures
