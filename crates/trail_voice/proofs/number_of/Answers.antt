-- `trail_voice::number_of` meets its contract.
use mathlib.Core.Path.{sym, ap}
use native.Mathlib.Omega.{arith}
use Rattle.trail_voice.specs.Voice.{which_number}
use Rattle.trail_voice.proofs.number_of.Goals as goal

pub overflow_mul-result : goal.overflow_mul-result
overflow_mul-result c = omega (arith, c.requires, ap which_number c.in-Stream.is)

pub overflow_add-result : goal.overflow_add-result
overflow_add-result c = omega (arith, c.requires, ap which_number c.in-Stream.is)

pub overflow_mul-result-in-Gv : goal.overflow_mul-result-in-Gv
overflow_mul-result-in-Gv c = omega (arith, c.requires, ap which_number c.in-Gv.is)

pub overflow_add-result-in-Gv : goal.overflow_add-result-in-Gv
overflow_add-result-in-Gv c = omega (arith, c.requires, ap which_number c.in-Gv.is)

pub returns-in-Stream : goal.returns-in-Stream
returns-in-Stream c = sym (ap which_number c.in-Stream.is)

pub returns-in-Gv : goal.returns-in-Gv
returns-in-Gv c = sym (ap which_number c.in-Gv.is)
