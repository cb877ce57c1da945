-- `head_put::put_ranges`: what is left to write gives the whole.
use lib.ListN.{get_or}
use Rattle.head_record.specs.Empty.{no_range}
use Rattle.head_words.specs.Words.{range_words}
use Rattle.head_words.proofs.Items.{Laying}
use Rattle.head_put.proofs.put_ranges.Given as goal

abbrev pub invariant-loop-k : goal.invariant-loop-k
invariant-loop-k l = Laying (λ j. range_words (get_or l.items j no_range)) 2 8 l.at l.initial.words l.words l.k
