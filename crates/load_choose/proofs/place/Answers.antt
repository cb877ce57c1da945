-- `load_choose::place` meets its contract.
use Rattle.load_choose.specs.Chosen.{model_of, asked_by}
use Rattle.head_words.specs.Words.{word_at, range_at, global_at, header_at}
use mathlib.Core.Bool.{cond}
use mathlib.Core.Path.{◌≡◌, sym, ap, ◌∙◌}
use native.Mathlib.Omega.{arith}
use Prim.Native.Nat.{ℕ, ◌+◌, ◌*◌}
use borrow.Author.Tests.{not-true, not-false}
use Rattle.load_choose.proofs.place.Goals as goal

pub returns-then-not-record_fits : goal.returns-then-not-record_fits
returns-then-not-record_fits c = rw (sym c.record_fits.ensures ∙ not-true _ c.if-not-record_fits.true-raw)

pub choose_stream-requires : goal.choose_stream-requires
choose_stream-requires c = record { in_bounds = c.requires; words_value = sym c.record_fits.ensures ∙ not-false _ c.if-not-record_fits.false-raw }

pub choose_stream-requires-in-Gv : goal.choose_stream-requires-in-Gv
choose_stream-requires-in-Gv c = record { in_bounds = c.requires; words_value = sym c.record_fits.ensures ∙ not-false _ c.if-not-record_fits.false-raw }

pub returns-in-Duration : goal.returns-in-Duration
unfolding header_at global_at
returns-in-Duration c =
    let x = c.args in
    let w = x.words.now in
    let v : ℕ = cond x.measured (word_at w 4) 0 in
    let e : 2 * (c.counted.result * 1) + 0 ≡ 2 * v = omega (arith, c.counted.ensures) in
    rw (sym c.record_fits.ensures ∙ not-false _ c.if-not-record_fits.false-raw)
    (c.model.ensures ∙ ap (model_of (range_at w 410) (range_at w 408)) e ∙ ap (asked_by x.measured x.file.now (header_at w)) (sym c.in-Duration.is))

pub returns-in-Stream : goal.returns-in-Stream
returns-in-Stream c =
    let x = c.args in
    rw (sym c.record_fits.ensures ∙ not-false _ c.if-not-record_fits.false-raw)
    (c.choose_stream.ensures ∙ ap (asked_by x.measured x.file.now (header_at x.words.now)) (sym c.in-Stream.is))

pub returns-in-Gv : goal.returns-in-Gv
returns-in-Gv c =
    let x = c.args in
    rw (sym c.record_fits.ensures ∙ not-false _ c.if-not-record_fits.false-raw)
    (c.choose_stream-in-Gv.ensures ∙ ap (asked_by x.measured x.file.now (header_at x.words.now)) (sym c.in-Gv.is))
