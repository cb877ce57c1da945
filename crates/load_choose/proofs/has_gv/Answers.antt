-- `load_choose::has_gv` meets its contract.
use Rattle.head_words.specs.Words.{word_at, stream_at, position_at}
use Prim.Native.Nat.{◌+◌}
use borrow.Author.Tests.{eq-eqb, ne_eqb}
use Rattle.load_choose.proofs.has_gv.Goals as goal

pub returns-then-words-stream-eq0 : goal.returns-then-words-stream-eq0
unfolding stream_at position_at
returns-then-words-stream-eq0 c = rw (eq-eqb (word_at c.args.words.now (c.args.stream + 5)) 0 c.if-words-stream-eq0.true)

pub returns-then-words-position-eq0 : goal.returns-then-words-position-eq0
unfolding stream_at position_at
returns-then-words-position-eq0 c =
    let x = c.args in
    rw (ne_eqb (word_at x.words.now (x.stream + 5)) 0 c.if-words-stream-eq0.false, eq-eqb (word_at x.words.now (x.position + 28)) 0 c.if-words-position-eq0.true)

pub returns : goal.returns
unfolding stream_at position_at
returns c =
    let x = c.args in
    rw (ne_eqb (word_at x.words.now (x.stream + 5)) 0 c.if-words-stream-eq0.false, ne_eqb (word_at x.words.now (x.position + 28)) 0 c.if-words-position-eq0.false)
