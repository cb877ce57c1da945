-- `text_utf8::width_at` meets its contract: each arm is a row of the table.
use mathlib.Core.Path.{refl, sym, ◌∙◌}
use mathlib.Core.List.{[], ◌∷◌}
use native.Mathlib.Omega.{arith}
use Rattle.written.specs.Rfc3629.{◌⋯◌, tail, table}
use Rattle.text_utf8.specs.Widths.{starts}
use Rattle.text_utf8.proofs.Rows.{arm, nowhere}
use Rattle.text_utf8.proofs.width_at.Goals as goal

pub returns-in-224 : goal.returns-in-224
unfolding table
returns-in-224 c =
    let a = c.args in
    c.three.ensures ∙ sym (arm a.s.now a.i 2 0xE0 0xE0 (0xA0 ⋯ 0xBF ∷ tail ∷ []) (omega arith) tt refl (omega arith) (omega arith))

pub returns-in-237 : goal.returns-in-237
unfolding table
returns-in-237 c =
    let a = c.args in
    c.three-in-237.ensures ∙ sym (arm a.s.now a.i 4 0xED 0xED (0x80 ⋯ 0x9F ∷ tail ∷ []) (omega arith) tt refl (omega arith) (omega arith))

pub returns-in-240 : goal.returns-in-240
unfolding table
returns-in-240 c =
    let a = c.args in
    c.four.ensures ∙ sym (arm a.s.now a.i 6 0xF0 0xF0 (0x90 ⋯ 0xBF ∷ tail ∷ tail ∷ []) (omega arith) tt refl (omega arith) (omega arith))

pub returns-in-244 : goal.returns-in-244
unfolding table
returns-in-244 c =
    let a = c.args in
    c.four-in-244.ensures ∙ sym (arm a.s.now a.i 8 0xF4 0xF4 (0x80 ⋯ 0x8F ∷ tail ∷ tail ∷ []) (omega arith) tt refl (omega arith) (omega arith))

pub returns-in-0-to-127 : goal.returns-in-0-to-127
unfolding table starts
returns-in-0-to-127 c =
    let a = c.args in
    sym (arm a.s.now a.i 0 0x00 0x7F ([]) (omega arith) tt refl (omega arith) (omega arith))

pub returns-in-194-to-223 : goal.returns-in-194-to-223
unfolding table
returns-in-194-to-223 c =
    let a = c.args in
    c.two.ensures ∙ sym (arm a.s.now a.i 1 0xC2 0xDF (tail ∷ []) (omega arith) tt refl (omega arith) (omega arith))

pub returns-in-225-to-236 : goal.returns-in-225-to-236
unfolding table
returns-in-225-to-236 c =
    let a = c.args in
    c.three-in-225-to-236.ensures ∙ sym (arm a.s.now a.i 3 0xE1 0xEC (tail ∷ tail ∷ []) (omega arith) tt refl (omega arith) (omega arith))

pub returns-in-238-to-239 : goal.returns-in-238-to-239
unfolding table
returns-in-238-to-239 c =
    let a = c.args in
    c.three-in-238-to-239.ensures ∙ sym (arm a.s.now a.i 5 0xEE 0xEF (tail ∷ tail ∷ []) (omega arith) tt refl (omega arith) (omega arith))

pub returns-in-241-to-243 : goal.returns-in-241-to-243
unfolding table
returns-in-241-to-243 c =
    let a = c.args in
    c.four-in-241-to-243.ensures ∙ sym (arm a.s.now a.i 7 0xF1 0xF3 (tail ∷ tail ∷ tail ∷ []) (omega arith) tt refl (omega arith) (omega arith))

pub returns-in_default : goal.returns-in_default
unfolding table
returns-in_default c =
    let a = c.args in
    sym (nowhere a.s.now a.i 0x80 0xC1 (omega arith) tt (omega arith) (omega arith))

pub returns-in_default-2 : goal.returns-in_default-2
unfolding table
returns-in_default-2 c =
    let a = c.args in
    sym (nowhere a.s.now a.i 0xF5 0xFF (omega arith) tt (omega arith) (omega (arith, c.shared_slice_known-1.given a.i)))
