-- `trail_voice::count_trees`: the trees so far, and those of the models that are left, are all.
use Prim.Native.Nat.{◌-◌}
use Rattle.head_words.specs.Words.{header_at}
use Rattle.trail_voice.specs.Voice.{which_number}
use Rattle.trail_voice.proofs.Laws.{Counting}
use Rattle.trail_voice.proofs.count_trees.Given as goal

abbrev pub invariant-loop-text : goal.invariant-loop-text
invariant-loop-text l = Counting l.file (header_at l.words) l.which l.n

abbrev pub decreases-loop-text : goal.decreases-loop-text
decreases-loop-text l = 17 - which_number l.which
