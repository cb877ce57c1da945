-- `load_unload::clear`: the part comes back zero.
use native.Mathlib.Omega.{arith}
use Rattle.load_unload.proofs.Laws.{cleared-part}
use Rattle.load_unload.proofs.clear.Goals as goal

pub offset_bounds-t-a : goal.offset_bounds-t-a
offset_bounds-t-a c = omega (arith, c.well_formed, c.requires.0, c.requires.1)

pub returns : goal.returns
returns c = let a = c.args in let h = c.requires in cleared-part a.t.now a.a a.e h.0 h.1 c.zero.ensures
