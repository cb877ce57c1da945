-- `head_words::flags_fit`: the groups up to i have flags.
use Rattle.laws.proofs.Every.{Passing}
use Rattle.head_words.specs.Words.{group_flags}
use Rattle.head_words.proofs.flags_fit.Given as goal

abbrev pub invariant-loop-i : goal.invariant-loop-i
invariant-loop-i l = Passing (group_flags l.words) 8 l.i
