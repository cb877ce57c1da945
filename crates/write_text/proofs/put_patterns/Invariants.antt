-- `write_text::put_patterns`: the patterns that are left, put where the loop is, are all of them.
use Prim.Native.Nat.{◌-◌}
use Rattle.write_put.proofs.Puts.{Leads}
use Rattle.write_parts.specs.Parts.{each, pattern_of}
use Rattle.written.specs.Writing.{spelled_patterns}
use Rattle.write_text.proofs.put_patterns.Given as goal

abbrev pub invariant-loop-k : goal.invariant-loop-k
invariant-loop-k l = Leads l.initial.b l.at (spelled_patterns (each (pattern_of l.s l.patterns l.first) 0 l.n)) l.b l.i (spelled_patterns (each (pattern_of l.s l.patterns l.first) l.k (l.n - l.k)))
