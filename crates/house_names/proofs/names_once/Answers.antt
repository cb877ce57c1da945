-- `house_names::names_once` meets its contract.
use mathlib.Core.Path.{refl, ap, ◌∙◌}
use Prim.Native.Nat.{◌*◌}
use lib.ListN.{length}
use native.Mathlib.Omega.{arith}
use Rattle.load_text.proofs.Laws.{Asked, index_room, index_count, is_index, patterns_over}
use Rattle.house_names.specs.Names.{all_last}
use Rattle.house_names.proofs.names_once.Goals as goal

pub index_names-requires : goal.index_names-requires
index_names-requires c =
    let k : Asked c.args.s.now c.args.at c.args.n (4 * c.args.n) (length c.args.patterns.now) = record { asked = c.requires.asked; question_room = omega arith; pattern_room = c.requires.room } in
    index_room _ _ _ k

pub slice_bounds-all_last-end : goal.slice_bounds-all_last-end
slice_bounds-all_last-end c =
    let k : Asked c.args.s.now c.args.at c.args.n (4 * c.args.n) (length c.args.patterns.now) = record { asked = c.requires.asked; question_room = omega arith; pattern_room = c.requires.room } in
    omega (arith, index_room _ _ _ k, c.index_names.auto.patterns)

pub all_last-once-requires : goal.all_last-once-requires
all_last-once-requires c =
    let k : Asked c.args.s.now c.args.at c.args.n (4 * c.args.n) (length c.args.patterns.now) = record { asked = c.requires.asked; question_room = omega arith; pattern_room = c.requires.room } in
    let a = c.args in is_index a.s.now a.at a.n k _ _ _ refl c.index_names.ensures

pub returns : goal.returns
returns c =
    let k : Asked c.args.s.now c.args.at c.args.n (4 * c.args.n) (length c.args.patterns.now) = record { asked = c.requires.asked; question_room = omega arith; pattern_room = c.requires.room } in
    let a = c.args in
    (c.all_last-once.ensures ∙ ap (all_last a.s.now a.questions.now) (index_count a.s.now a.at a.n k _ _ _ refl c.index_names.ensures), patterns_over a.s.now a.at a.n k a.patterns.now _ c.index_names.ensures c.fill_all_patterns.ensures)
