-- `load_voice::text_in` meets its contract.
use mathlib.Core.Path.{refl, sym}
use Rattle.std.proofs.lemmas.Result.{err_from_is_err_and}
use Rattle.load_range.proofs.Asked.{there, missing}
use Rattle.load_voice.specs.Voice.{text_in}
use Rattle.load_voice.proofs.text_in.Goals as goal

pub returns-in_err-range : goal.returns-in_err-range
unfolding text_in
returns-in_err-range c =
    let p = err_from_is_err_and c.from_residual.result c.from_residual.ensures.1 in
    let o = missing _ _ c.ok_or.ensures.value c.in_err-range.was in
    rw (p.1, p.2, sym c.within.ensures, o.0, o.1) refl

pub returns-in_err-text : goal.returns-in_err-text
unfolding text_in
returns-in_err-text c =
    let p = err_from_is_err_and c.from_residual-in_err-text.result c.from_residual-in_err-text.ensures.1 in
    let o = there _ _ c.ok_or.ensures.value c.in_ok-range.was in
    rw (p.1, p.2, sym c.within.ensures, o, sym c.up_to.ensures, sym c.read_text.ensures, c.in_err-text.was) refl

pub returns : goal.returns
unfolding text_in
returns c =
    let o = there _ _ c.ok_or.ensures.value c.in_ok-range.was in
    rw (sym c.within.ensures, o, sym c.up_to.ensures, sym c.read_text.ensures, c.in_ok-text.was) refl
