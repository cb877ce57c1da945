-- `trail_bytes::same_words`: each number at its place.
use Rattle.trail_bytes.proofs.Numbers.{first_other, second_other, third_as}
use Rattle.trail_bytes.proofs.same_words.Goals as goal

pub returns-then-word-a : goal.returns-then-word-a
returns-then-word-a c = first_other c.args.s.now c.args.k c.args.a _ _ c.word.ensures c.if-word-a.true

pub returns-then-word-b : goal.returns-then-word-b
returns-then-word-b c = second_other c.args.s.now c.args.k c.args.a c.args.b _ c.word.ensures c.if-word-a.false c.word-2.ensures c.if-word-b.true

pub returns : goal.returns
returns c = third_as c.args.s.now c.args.k c.args.a c.args.b c.args.c c.word.ensures c.if-word-a.false c.word-2.ensures c.if-word-b.false c.word-3.ensures
