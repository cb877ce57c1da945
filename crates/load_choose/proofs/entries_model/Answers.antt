-- `load_choose::entries_model` meets its contract.
use Rattle.load_choose.specs.Chosen.{made_by}
use Rattle.head_words.specs.Words.{stream_at, position_at}
use mathlib.Core.Bool.{Bool}
use mathlib.Core.Path.{ap, sym, ◌∙◌}
use Rattle.load_choose.proofs.entries_model.Goals as goal

pub returns-then-gv : goal.returns-then-gv
returns-then-gv c =
    let x = c.args in
    c.gv_model.ensures ∙ ap (λ (b : Bool). made_by x.measured b (stream_at x.words.now x.stream) (position_at x.words.now x.position)) (sym c.if-gv.true)

pub returns : goal.returns
returns c =
    let x = c.args in
    c.stream_model.ensures ∙ ap (λ (b : Bool). made_by x.measured b (stream_at x.words.now x.stream) (position_at x.words.now x.position)) (sym c.if-gv.false)
