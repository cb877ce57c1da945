-- `face_shared::shared_said`: 29, 24, or the load.
use mathlib.Core.Path.{sym, ap, ◌∙◌}
use borrow.Author.Tests.{not-true, not-false}
use Rattle.written.specs.Sharing.{holds}
use Rattle.load_model.specs.Load.{lent}
use Rattle.face_shared.specs.Answers.{held_at}
use Rattle.face_shared.proofs.Laws.{shared_held, shared_overlap, shared_loads, judged-standing}
use Rattle.face_shared.proofs.shared_said.Goals as goal

pub returns-then-holding : goal.returns-then-holding
returns-then-holding c =
    let a = c.args in
    let q = shared_held a.file.now a.words.now a.which a.side (held_at a.held.now) (held_at a.other.now) (lent a.questions.now a.patterns.now a.trees.now a.records.now a.values.now a.work.now) (sym (ap holds c.bounds-mine.ensures) ∙ sym c.holding.ensures ∙ c.if-holding.true) in
    (c.rows_of.ensures ∙ q.0, q.1)

pub returns-then-not-standing : goal.returns-then-not-standing
returns-then-not-standing c =
    let a = c.args in
    let q = shared_overlap a.file.now a.words.now a.which a.side (held_at a.held.now) (held_at a.other.now) (lent a.questions.now a.patterns.now a.trees.now a.records.now a.values.now a.work.now) (sym (ap holds c.bounds-mine.ensures) ∙ sym c.holding.ensures ∙ c.if-holding.false) (judged-standing a.file.now a.words.now a.which a.side (held_at a.held.now) (held_at a.other.now) (lent a.questions.now a.patterns.now a.trees.now a.records.now a.values.now a.work.now) c.bounds-mine.ensures c.bounds-theirs.ensures c.standing.ensures ∙ not-true _ c.if-not-standing.true-raw) in
    (c.rows_of-then-not-standing.ensures ∙ q.0, q.1)

pub returns : goal.returns
returns c =
    let a = c.args in
    shared_loads a.file.now a.words.now a.which a.side (held_at a.held.now) (held_at a.other.now) (lent a.questions.now a.patterns.now a.trees.now a.records.now a.values.now a.work.now) (sym (ap holds c.bounds-mine.ensures) ∙ sym c.holding.ensures ∙ c.if-holding.false) (judged-standing a.file.now a.words.now a.which a.side (held_at a.held.now) (held_at a.other.now) (lent a.questions.now a.patterns.now a.trees.now a.records.now a.values.now a.work.now) c.bounds-mine.ensures c.bounds-theirs.ensures c.standing.ensures ∙ not-false _ c.if-not-standing.false-raw) c.bounds-theirs.ensures c.load_said.ensures
