-- `face_house::judge_file`: 29, 24, opening that is refused, or the opened file.
use mathlib.Core.Path.{sym, ap, subst, ◌∙◌}
use mathlib.Core.List.{List}
use Prim.Native.Nat.{ℕ, ◌≤◌}
use lib.ListN.{length}
use Rattle.load_model.specs.Load.{lent}
use Rattle.face_record.specs.declared.Said.{Said}
use Rattle.face_trail.proofs.Above.{opened_long}
use Rattle.face_house.proofs.Laws.{house_first, house_unopened, house-opened}
use Rattle.face_house.proofs.judge_file.Goals as goal

pub returns-then-number-ne0 : goal.returns-then-number-ne0
returns-then-number-ne0 c =
    let a = c.args in
    house_first a.file.now a.words.now a.side a.held.now a.other.now (lent a.questions.now a.patterns.now a.trees.now a.records.now a.values.now a.work.now) c.bounds.ensures c.bounds-theirs.ensures c.before-number.ensures c.if-number-ne0.true c.told.ensures

pub returns-then-said-ne0 : goal.returns-then-said-ne0
returns-then-said-ne0 c =
    let a = c.args in
    house_unopened a.file.now a.words.now a.side a.held.now a.other.now (lent a.questions.now a.patterns.now a.trees.now a.records.now a.values.now a.work.now) c.bounds.ensures c.bounds-theirs.ensures c.before-number.ensures c.if-number-ne0.false c.open_words-said.ensures.0 c.open_words-said.ensures.1 c.if-said-ne0.true c.told-then-said-ne0.ensures

pub judge_opened-requires : goal.judge_opened-requires
judge_opened-requires c =
    let a = c.args in
    let o = c.open_words-said.ensures in
    (subst (λ (l : List ℕ). 647 ≤ length l) (sym o.1) (opened_long a.file.now a.words.now (sym (ap (λ (x : Said). x.number) o.0) ∙ c.if-said-ne0.false)), c.requires.0)

pub returns : goal.returns
returns c =
    let a = c.args in
    house-opened a.file.now a.words.now a.side a.held.now a.other.now (lent a.questions.now a.patterns.now a.trees.now a.records.now a.values.now a.work.now) c.bounds.ensures c.bounds-theirs.ensures c.before-number.ensures c.if-number-ne0.false c.open_words-said.ensures.0 c.open_words-said.ensures.1 c.if-said-ne0.false c.judge_opened.ensures
