-- `head_words_fit::spans_fit`: k strings are left, and the answer is theirs.
use Rattle.head_record_fits.specs.Fits.{span_fits}
use Rattle.head_record_fits.proofs.Each.{Left}
use Rattle.head_words.specs.Words.{spans_at}
use Rattle.head_words_fit.proofs.spans_fit.Given as goal

abbrev pub invariant-loop-k : goal.invariant-loop-k
invariant-loop-k l = Left l.limit (span_fits l.n) l.count (spans_at l.limit l.words l.at) l.k
