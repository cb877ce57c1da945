-- `head_words_fit::streams_fit`: k groups are left, and the answer is theirs.
use Rattle.head_record_fits.specs.Fits.{stream_fits}
use Rattle.head_record_fits.proofs.Each.{Left}
use Rattle.head_words.specs.Words.{word_at, streams_at}
use Rattle.head_words_fit.proofs.streams_fit.Given as goal

abbrev pub invariant-loop-k : goal.invariant-loop-k
invariant-loop-k l = Left 8 (stream_fits l.n) (word_at l.words 407) (streams_at l.words 95) l.k
