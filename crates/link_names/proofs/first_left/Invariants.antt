-- `link_names::first_left`: those before are gone.
use mathlib.Core.Path.{◌≡◌}
use Prim.Native.Nat.{ℕ, ◌<◌}
use mathlib.Core.Bool.{true}
use lib.ListN.{get_or}
use Rattle.link_names.specs.Names.{is_gone}
use Rattle.link_names.proofs.first_left.Given as goal

abbrev pub invariant-loop-j : goal.invariant-loop-j
invariant-loop-j l = (i : ℕ) → i < l.j → is_gone (get_or l.keys i 0) ≡ true
