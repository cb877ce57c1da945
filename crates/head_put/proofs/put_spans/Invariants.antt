-- `head_put::put_spans`: what is left to write gives the whole.
use lib.ListN.{get_or}
use Rattle.head_record.specs.Empty.{no_span}
use Rattle.head_words.specs.Words.{span_words}
use Rattle.head_words.proofs.Items.{Laying}
use Rattle.head_put.proofs.put_spans.Given as goal

abbrev pub invariant-loop-k : goal.invariant-loop-k
invariant-loop-k l = Laying (λ j. span_words (get_or l.items j no_span)) 2 l.n l.at l.initial.words l.words l.k
