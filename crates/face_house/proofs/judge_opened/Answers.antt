-- `face_house::judge_opened`: a load that is refused, or the rules.
use mathlib.Core.Path.{sym, ◌∙◌}
use Rattle.load_model.specs.Load.{lent}
use Rattle.load_bounds.specs.Bounds.{side_of, held_of}
use Rattle.face_house.proofs.Laws.{opened_refused, few_types, opened-judged}
use Rattle.face_house.proofs.judge_opened.Goals as goal

pub put_bounds-requires : goal.put_bounds-requires
put_bounds-requires c = c.requires.1

pub ruled-requires : goal.ruled-requires
ruled-requires c =
    let a = c.args in
    (c.requires.0, few_types (side_of a.top) a.file.now a.words.now a.held.now (held_of a.other) (lent a.questions.now a.patterns.now a.trees.now a.records.now a.values.now a.work.now) c.judge_voice.ensures.1 (sym c.in-Ok.is ∙ c.judge_voice.ensures.0))

pub returns-in-Err : goal.returns-in-Err
returns-in-Err c =
    let a = c.args in
    opened_refused (side_of a.top) a.file.now a.words.now a.held.now (held_of a.other) (lent a.questions.now a.patterns.now a.trees.now a.records.now a.values.now a.work.now) c.judge_voice.ensures.1 (sym c.in-Err.is ∙ c.judge_voice.ensures.0) c.refused_as.ensures

pub returns-in-Ok : goal.returns-in-Ok
returns-in-Ok c =
    let a = c.args in
    opened-judged (side_of a.top) a.file.now a.words.now a.held.now (held_of a.other) (lent a.questions.now a.patterns.now a.trees.now a.records.now a.values.now a.work.now) c.judge_voice.ensures.1 (sym c.in-Ok.is ∙ c.judge_voice.ensures.0) c.put_bounds.ensures c.ruled.ensures
