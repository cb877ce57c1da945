-- `head_fields::missing` meets its contract.
use Prim.Native.Nat.{◌≤◌}
use Rattle.head_fields.specs.Fields.{any_missing}
use mathlib.Core.Path.{◌≡◌}
use Rattle.head_fields.proofs.missing.Given as goal

abbrev pub invariant-loop-k : goal.invariant-loop-k
invariant-loop-k l = (any_missing l.seen l.n ≡ any_missing l.seen l.k) × (l.k ≤ l.n)
