-- `head_open::open_parts` meets its contract: each section finds its words still 0.
use mathlib.Core.Path.{refl, sym, ap, ◌∙◌}
use native.Mathlib.Omega.{arith}
use lib.Seq.{sets}
use Rattle.std.proofs.lemmas.Result.{err_from_is_err_and}
use Rattle.head_words.specs.Words.{span_words}
use Rattle.head_open.specs.Open.{refused_with, parts_of}
use Rattle.head_open.specs.Left.{streams_left, positions_left, parts_left}
use Rattle.head_open.proofs.Left.{zeros_all, long_all, zeros_global, zeros_streams}
use Rattle.head_open.proofs.open_parts.Goals as goal

pub open_global-requires : goal.open_global-requires
open_global-requires c = (c.requires.0.global, (omega (arith, long_all c.requires.1), zeros_all c.requires.1 0 95 (omega arith)))

pub open_streams-requires : goal.open_streams-requires
open_streams-requires c = (c.requires.0.stream, (omega (arith, long_all c.requires.1), rw c.open_global.ensures.1 (zeros_global _ _ _ 95 312 (zeros_all c.requires.1 95 312 (omega arith)) (omega arith))))

pub open_positions-requires : goal.open_positions-requires
open_positions-requires c = (c.requires.0.position, (omega (arith, long_all c.requires.1), rw (c.open_streams.ensures.1, c.open_global.ensures.1) (zeros_streams _ _ _ 412 232 (zeros_global _ _ _ 412 232 (zeros_all c.requires.1 412 232 (omega arith)) (omega arith)) (omega arith))))

pub put_span-requires : goal.put_span-requires
put_span-requires c = omega (arith, long_all c.requires.1)

pub returns-in_err-open_global : goal.returns-in_err-open_global
unfolding parts_of parts_left refused_with
returns-in_err-open_global c =
    let p = err_from_is_err_and c.from_residual.result c.from_residual.ensures.1 in
    rw (p.1, p.2, sym c.open_global.ensures.0 ∙ c.in_err-open_global.was) (refl, c.open_global.ensures.1)

pub returns-in_err-open_streams : goal.returns-in_err-open_streams
unfolding parts_of parts_left refused_with
returns-in_err-open_streams c =
    let p = err_from_is_err_and c.from_residual-in_err-open_streams.result c.from_residual-in_err-open_streams.ensures.1 in
    rw (p.1, p.2, sym c.open_global.ensures.0 ∙ c.in_ok-open_global.was, sym c.open_streams.ensures.0 ∙ c.in_err-open_streams.was) (refl, c.open_streams.ensures.1 ∙ ap (streams_left _ _) c.open_global.ensures.1)

pub returns-in_err-open_positions : goal.returns-in_err-open_positions
unfolding parts_of parts_left refused_with
returns-in_err-open_positions c =
    let p = err_from_is_err_and c.from_residual-in_err-open_positions.result c.from_residual-in_err-open_positions.ensures.1 in
    rw (p.1, p.2, sym c.open_global.ensures.0 ∙ c.in_ok-open_global.was, sym c.open_streams.ensures.0 ∙ c.in_ok-open_streams.was, sym c.open_positions.ensures.0 ∙ c.in_err-open_positions.was) (refl, c.open_positions.ensures.1 ∙ ap (positions_left _ _) (c.open_streams.ensures.1 ∙ ap (streams_left _ _) c.open_global.ensures.1))

pub returns : goal.returns
unfolding parts_of parts_left refused_with
returns c = rw (sym c.open_global.ensures.0 ∙ c.in_ok-open_global.was, sym c.open_streams.ensures.0 ∙ c.in_ok-open_streams.was, sym c.open_positions.ensures.0 ∙ c.in_ok-open_positions.was) (refl, c.put_span.ensures ∙ ap (λ w. sets w 645 (span_words c.args.parts.rest)) (c.open_positions.ensures.1 ∙ ap (positions_left _ _) (c.open_streams.ensures.1 ∙ ap (streams_left _ _) c.open_global.ensures.1)))
