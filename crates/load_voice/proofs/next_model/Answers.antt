-- `load_voice::next_model` meets its contract.
use Rattle.load_voice.specs.Voice.{InTypes, next_model}
use Rattle.load_choose.proofs.Words.{counts}
use Rattle.head_words.specs.Words.{word_at, global_at, header_at}
use Prim.Native.Nat.{◌<◌}
use mathlib.Core.Path.{sym, ap, ◌∙◌, subst}
use native.Mathlib.Omega.{arith}
use Rattle.load_voice.proofs.Laws.{uses, uses_none}
use Rattle.load_voice.proofs.next_model.Goals.{In-Gv, In-Stream}
use Rattle.load_voice.proofs.next_model.Goals as goal

-- the name of the model that is asked about is one of STREAM_TYPE's
of_stream : (c : In-Stream) → c.in-Stream.i < word_at c.args.words.now 22
unfolding header_at global_at
of_stream c = subst (InTypes (header_at c.args.words.now)) c.in-Stream.is c.requires.in_bounds.1

of_gv : (c : In-Gv) → c.in-Gv.i < word_at c.args.words.now 22
unfolding header_at global_at
of_gv c = subst (InTypes (header_at c.args.words.now)) c.in-Gv.is c.requires.in_bounds.1

pub uses_gv-requires : goal.uses_gv-requires
uses_gv-requires c = record { in_bounds = (c.requires.in_bounds.0, of_stream (goal.at.uses_gv-requires c).In-Stream); words_value = c.requires.words_value }

pub returns-then-uses_gv : goal.returns-then-uses_gv
returns-then-uses_gv c =
    let a = c.args in
    uses a.file.now (header_at a.words.now) _ (sym c.uses_gv.ensures ∙ c.if-uses_gv.true) ∙ ap (next_model a.file.now (header_at a.words.now)) (sym c.in-Stream.is)

pub overflow_add-i : goal.overflow_add-i
overflow_add-i c = omega (arith, of_stream (goal.at.overflow_add-i c).In-Stream, (counts _ _ c.requires.words_value).types)

pub overflow_add-i-in-Gv : goal.overflow_add-i-in-Gv
overflow_add-i-in-Gv c = omega (arith, of_gv (goal.at.overflow_add-i-in-Gv c).In-Gv, (counts _ _ c.requires.words_value).types)

pub returns-in-Duration : goal.returns-in-Duration
returns-in-Duration c =
    let a = c.args in
    c.stream_or_end.ensures ∙ ap (next_model a.file.now (header_at a.words.now)) (sym c.in-Duration.is)

pub returns-else-uses_gv : goal.returns-else-uses_gv
returns-else-uses_gv c =
    let a = c.args in
    c.stream_or_end-in-Stream.ensures ∙ uses_none a.file.now (header_at a.words.now) _ (sym c.uses_gv.ensures ∙ c.if-uses_gv.false) ∙ ap (next_model a.file.now (header_at a.words.now)) (sym c.in-Stream.is)

pub returns-in-Gv : goal.returns-in-Gv
returns-in-Gv c =
    let a = c.args in
    c.stream_or_end-in-Gv.ensures ∙ ap (next_model a.file.now (header_at a.words.now)) (sym c.in-Gv.is)
