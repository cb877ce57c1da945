-- `write_text::put_lines`: the lines that are left, put where the loop is, are all of them.
use Prim.Native.Nat.{◌-◌}
use Rattle.write_put.proofs.Puts.{Leads}
use Rattle.write_parts.specs.Parts.{each, line_of}
use Rattle.written.specs.Writing.{spelled_line}
use mathlib.Core.List.{map, flatten}
use Rattle.write_text.proofs.put_lines.Given as goal

abbrev pub invariant-loop-k : goal.invariant-loop-k
invariant-loop-k l =
    Leads l.initial.b l.at (flatten (map spelled_line (each (line_of l.s l.questions l.records l.first l.lines) 0 l.lines))) l.b l.i (flatten (map spelled_line (each (line_of l.s l.questions l.records l.first l.lines) l.k (l.lines - l.k))))
