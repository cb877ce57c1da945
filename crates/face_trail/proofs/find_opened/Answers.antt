-- `face_trail::find_opened`: 26, 27, then by what was counted.
use mathlib.Core.Path.{sym, ap₂, ◌∙◌}
use native.Mathlib.Omega.{arith}
use borrow.Author.Tests.{not-true, not-false}
use Rattle.head_words.specs.Words.{header_at}
use Rattle.face_trail.specs.Answers.{found}
use Rattle.face_trail.proofs.Laws.{data_short, found_short, found-sum, found_by_lem}
use Rattle.face_trail.proofs.find_opened.Goals as goal

pub returns-then-data_of-lt-LAST : goal.returns-then-data_of-lt-LAST
returns-then-data_of-lt-LAST c = c.not_found.ensures ∙ found_short c.args.file.now (header_at c.args.words.now) c.data_of.ensures c.if-data_of-lt-LAST.true

pub summed-requires : goal.summed-requires
summed-requires c = omega (arith, data_short c.args.file.now (header_at c.args.words.now) c.data_of.ensures, c.if-data_of-lt-LAST.false)

pub returns-then-not-summed : goal.returns-then-not-summed
returns-then-not-summed c = c.not_found-then-not-summed.ensures ∙ found-sum c.args.file.now (header_at c.args.words.now) c.data_of.ensures c.if-data_of-lt-LAST.false c.summed.ensures (not-true _ c.if-not-summed.true-raw)

pub find_rows-requires : goal.find_rows-requires
find_rows-requires c = record { in_bounds = (c.requires, omega (arith, data_short c.args.file.now (header_at c.args.words.now) c.data_of.ensures, c.if-data_of-lt-LAST.false)); n_value = (sym c.in-Ok.is ∙ c.count_trees.ensures) }

pub returns-in-Err : goal.returns-in-Err
returns-in-Err c =
    c.not_found-in-Err.ensures ∙ ap₂ (λ n p. found n p 0 0) c.number.ensures c.place.ensures
    ∙ found_by_lem c.args.file.now (header_at c.args.words.now) c.data_of.ensures c.if-data_of-lt-LAST.false c.summed.ensures (not-false _ c.if-not-summed.false-raw) (sym c.in-Err.is ∙ c.count_trees.ensures)

pub returns-in-Ok : goal.returns-in-Ok
returns-in-Ok c = c.find_rows.ensures ∙ found_by_lem c.args.file.now (header_at c.args.words.now) c.data_of.ensures c.if-data_of-lt-LAST.false c.summed.ensures (not-false _ c.if-not-summed.false-raw) (sym c.in-Ok.is ∙ c.count_trees.ensures)
