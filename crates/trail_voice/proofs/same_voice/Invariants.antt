-- `trail_voice::same_voice`: the models that are left decide.
use Prim.Native.Nat.{◌-◌}
use Rattle.head_words.specs.Words.{header_at}
use Rattle.trail_voice.specs.Voice.{which_number}
use Rattle.trail_voice.proofs.Laws.{Comparing}
use Rattle.trail_voice.proofs.same_voice.Given as goal

abbrev pub invariant-loop-next : goal.invariant-loop-next
invariant-loop-next l = Comparing l.file (header_at l.words) l.from l.which l.k

abbrev pub decreases-loop-next : goal.decreases-loop-next
decreases-loop-next l = 17 - which_number l.which
