-- `load_voice::stream_or_end` meets its contract.
use Rattle.load_voice.specs.Voice.{next_stream}
use Rattle.head_words.specs.Words.{word_at, global_at, header_at}
use borrow.Author.Tests.{lt-ltb, le-ltb}
use Rattle.load_voice.proofs.stream_or_end.Goals as goal

pub returns-then-i-words : goal.returns-then-i-words
unfolding next_stream header_at global_at
returns-then-i-words c = rw (lt-ltb c.args.i (word_at c.args.words.now 22) c.if-i-words.true)

pub returns : goal.returns
unfolding next_stream header_at global_at
returns c = rw (le-ltb c.args.i (word_at c.args.words.now 22) c.if-i-words.false)
