-- `head_words_fit::positions_fit`: k groups are left, and the answer is theirs.
use Rattle.head_record_fits.specs.Fits.{position_fits}
use Rattle.head_record_fits.proofs.Each.{Left}
use Rattle.head_words.specs.Words.{word_at, positions_at}
use Rattle.head_words_fit.proofs.positions_fit.Given as goal

abbrev pub invariant-loop-k : goal.invariant-loop-k
invariant-loop-k l = Left 8 (position_fits l.n) (word_at l.words 644) (positions_at l.words 412) l.k
