-- `load_choose::gv_model` meets its contract.
use Rattle.load_choose.specs.Chosen.{model_of, gv_by}
use Rattle.head_words.specs.Words.{word_at, range_at, stream_at, position_at}
use mathlib.Core.Bool.{cond}
use mathlib.Core.Path.{◌≡◌, sym, ap, ◌∙◌}
use native.Mathlib.Omega.{arith}
use Prim.Native.Nat.{ℕ, ◌+◌, ◌*◌}
use borrow.Author.Tests.{not-true, not-false}
use Rattle.load_choose.proofs.gv_model.Goals as goal

pub returns-then-not-has_gv : goal.returns-then-not-has_gv
unfolding gv_by
returns-then-not-has_gv c = rw (sym c.has_gv.ensures ∙ not-true _ c.if-not-has_gv.true-raw)

pub returns : goal.returns
unfolding gv_by stream_at position_at
returns c =
    let x = c.args in
    let w = x.words.now in
    let v : ℕ = cond x.measured (word_at w (x.stream + 2)) 0 in
    let e : 2 * (c.counted.result * 1) + 0 ≡ 2 * v = omega (arith, c.counted.ensures) in
    rw (sym c.has_gv.ensures ∙ not-false _ c.if-not-has_gv.false-raw) (c.model.ensures ∙ ap (model_of (range_at w (x.position + 26)) (range_at w (x.position + 23))) e)
