-- `face_trail::find_rows`: the last three numbers, then the rows.
use mathlib.Core.Path.{◌∙◌}
use native.Mathlib.Omega.{arith}
use Rattle.head_words.specs.Words.{header_at}
use Rattle.trail_voice.proofs.Laws.{counted}
use Rattle.face_trail.proofs.Laws.{rows_size, count_other, begin_other, rows_other, rows_same}
use Rattle.face_trail.proofs.find_rows.Goals as goal

pub returns-then-word-n : goal.returns-then-word-n
returns-then-word-n c = c.not_found.ensures ∙ count_other c.args.file.now (header_at c.args.words.now) c.args.n c.word.ensures c.if-word-n.true

pub returns-then-begin-n : goal.returns-then-begin-n
returns-then-begin-n c = c.not_found-then-begin-n.ensures ∙ begin_other c.args.file.now (header_at c.args.words.now) c.args.n c.word.ensures c.if-word-n.false c.word-begin.ensures c.if-begin-n.true

pub same_voice-requires : goal.same_voice-requires
same_voice-requires c = record { in_bounds = c.requires.in_bounds.0; words_value = (counted c.args.file.now (header_at c.args.words.now) c.requires.n_value).fitting; words_in_bounds = omega (arith, rows_size c.args.file.now (header_at c.args.words.now) c.requires.n_value, c.if-begin-n.false) }

pub returns-then-same_voice : goal.returns-then-same_voice
returns-then-same_voice c = rows_same c.args.file.now (header_at c.args.words.now) c.args.n c.word.ensures c.if-word-n.false c.word-begin.ensures c.if-begin-n.false c.same_voice.ensures c.if-same_voice.true

pub returns : goal.returns
returns c = c.not_found-2.ensures ∙ rows_other c.args.file.now (header_at c.args.words.now) c.args.n c.word.ensures c.if-word-n.false c.word-begin.ensures c.if-begin-n.false c.same_voice.ensures c.if-same_voice.false
