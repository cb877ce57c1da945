-- `load_bounds::own_part`: the rows end with the table at the latest, so nothing overflows.
use native.Mathlib.Omega.{arith}
use Rattle.load_bounds.specs.Bounds.{side_of}
use Rattle.load_bounds.proofs.Laws.{own_within, own_cut}
use Rattle.load_bounds.proofs.own_part.Goals as goal

pub overflow_mul-from : goal.overflow_mul-from
overflow_mul-from c = let a = c.args in omega (arith, own_within (side_of a.top) a.width a.len a.n c.first_row.ensures.0 c.requires.1, c.well_formed)

pub overflow_mul-to : goal.overflow_mul-to
overflow_mul-to c = let a = c.args in omega (arith, own_within (side_of a.top) a.width a.len a.n c.first_row.ensures.0 c.requires.1, c.well_formed)

pub overflow_add-to : goal.overflow_add-to
overflow_add-to c = let a = c.args in omega (arith, own_within (side_of a.top) a.width a.len a.n c.first_row.ensures.0 c.requires.1, c.well_formed)

pub returns : goal.returns
returns c = let a = c.args in own_cut (side_of a.top) a.width a.len a.n c.first_row.ensures.0 c.requires.1
