-- `load_choose::choose_stream` meets its contract.
use Rattle.load_choose.proofs.Words.{counts, not_numbered, without_position, without_stream, p_inside, k_inside, with_both}
use Rattle.load_choose.specs.Chosen.{made_by}
use mathlib.Core.Path.{sym, ◌∙◌}
use Prim.Native.Nat.{◌<◌}
use native.Mathlib.Omega.{arith}
use Rattle.load_choose.proofs.choose_stream.Goals.{In-Some, In-Some-find_stream}
use Rattle.load_choose.proofs.choose_stream.Goals as goal

-- the groups found are among the eight
found_p : (c : In-Some) → c.in-Some.p < 8
found_p c = p_inside c.args.file.now c.args.words.now c.args.i (counts _ _ c.requires.words_value) (sym c.find_position.ensures ∙ c.in-Some.is)

found_k : (c : In-Some-find_stream) → c.in-Some-find_stream.k < 8
found_k c = k_inside c.args.file.now c.args.words.now c.args.i (counts _ _ c.requires.words_value) (sym c.find_stream.ensures ∙ c.in-Some-find_stream.is)

pub returns-then-words-i : goal.returns-then-words-i
returns-then-words-i c =
    let x = c.args in
    not_numbered (made_by x.measured x.gv) x.file.now x.words.now x.i c.if-words-i.true

pub overflow_mul-position : goal.overflow_mul-position
overflow_mul-position c = omega (arith, found_p (goal.at.overflow_mul-position c).In-Some)

pub overflow_add-position : goal.overflow_add-position
overflow_add-position c = omega (arith, found_p (goal.at.overflow_add-position c).In-Some)

pub overflow_mul-stream : goal.overflow_mul-stream
overflow_mul-stream c = omega (arith, found_k (goal.at.overflow_mul-stream c).In-Some-find_stream)

pub overflow_add-stream : goal.overflow_add-stream
overflow_add-stream c = omega (arith, found_k (goal.at.overflow_add-stream c).In-Some-find_stream)

pub entries_model-requires : goal.entries_model-requires
entries_model-requires c = (omega (arith, found_k (goal.at.entries_model-requires c).In-Some-find_stream, c.requires.in_bounds), omega (arith, found_p (goal.at.entries_model-requires c).In-Some, c.requires.in_bounds))

pub returns-in-None : goal.returns-in-None
returns-in-None c =
    let x = c.args in
    without_position (made_by x.measured x.gv) x.file.now x.words.now x.i c.if-words-i.false (sym c.find_position.ensures ∙ c.in-None.is)

pub returns-in-None-find_stream : goal.returns-in-None-find_stream
returns-in-None-find_stream c =
    let x = c.args in
    without_stream (made_by x.measured x.gv) x.file.now x.words.now x.i c.if-words-i.false (sym c.find_position.ensures ∙ c.in-Some.is) (sym c.find_stream.ensures ∙ c.in-None-find_stream.is)

pub returns-in-Some-find_stream : goal.returns-in-Some-find_stream
returns-in-Some-find_stream c =
    let x = c.args in
    c.entries_model.ensures
    ∙ with_both (made_by x.measured x.gv) x.file.now x.words.now x.i (counts _ _ c.requires.words_value) c.if-words-i.false (sym c.find_position.ensures ∙ c.in-Some.is) (sym c.find_stream.ensures ∙ c.in-Some-find_stream.is)
