-- `load_voice::model_text` meets its contract.
use mathlib.Core.Path.{refl, sym}
use Rattle.std.proofs.lemmas.Result.{err_from_is_err_and}
use Rattle.load_voice.specs.Voice.{voice_text}
use Rattle.load_voice.proofs.model_text.Goals as goal

pub returns-in_err-chosen : goal.returns-in_err-chosen
unfolding voice_text
returns-in_err-chosen c =
    let p = err_from_is_err_and c.from_residual.result c.from_residual.ensures.1 in
    rw (p.1, p.2, sym c.choose_text.ensures, c.in_err-chosen.was) refl

pub returns : goal.returns
unfolding voice_text
returns c = rw (sym c.choose_text.ensures, c.in_ok-chosen.was, sym c.data_of.ensures) c.text_in.ensures
