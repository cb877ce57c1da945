-- `face_tree::tree_load_said`: by how the words are judged.
use mathlib.Core.Path.{sym, ◌∙◌}
use Rattle.load_model.specs.Load.{lent}
use Rattle.load_bounds.specs.Bounds.{side_of, held_of}
use Rattle.face_record.proofs.Laws.{judged_room}
use Rattle.face_tree.proofs.Laws.{load_fit, load_unfit}
use Rattle.face_tree.proofs.tree_load_said.Goals as goal

pub load_tree-loaded-requires : goal.load_tree-loaded-requires
load_tree-loaded-requires c = judged_room _ (sym c.if-number-eq0.true ∙ c.judged-number.ensures)

pub returns-then-number-eq0 : goal.returns-then-number-eq0
returns-then-number-eq0 c =
    let a = c.args in
    load_fit a.file.now a.words.now a.which a.tree (side_of a.top) (held_of a.other) (lent a.questions.now a.patterns.now a.trees.now a.records.now a.values.now a.work.now) c.judged-number.ensures c.if-number-eq0.true c.which_of.ensures c.load_tree-loaded.ensures c.rows_of.ensures

pub returns : goal.returns
returns c =
    let a = c.args in
    load_unfit a.file.now a.words.now a.which a.tree (side_of a.top) (held_of a.other) (lent a.questions.now a.patterns.now a.trees.now a.records.now a.values.now a.work.now) c.judged-number.ensures c.if-number-eq0.false c.no_rows.ensures
