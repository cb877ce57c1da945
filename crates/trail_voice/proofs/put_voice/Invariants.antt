-- `trail_voice::put_voice`: the rows of the models that are left, stored where the loop is, are all of them.
use Prim.Native.Nat.{◌-◌}
use Rattle.head_words.specs.Words.{header_at}
use Rattle.trail_voice.specs.Voice.{which_number}
use Rattle.trail_voice.proofs.Laws.{Storing}
use Rattle.trail_voice.proofs.put_voice.Given as goal

abbrev pub invariant-loop-next : goal.invariant-loop-next
invariant-loop-next l = Storing l.file (header_at l.words) l.initial.t l.t l.which l.k

abbrev pub decreases-loop-next : goal.decreases-loop-next
decreases-loop-next l = 17 - which_number l.which
