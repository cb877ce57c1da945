-- `write_parts::put_leaf`: the number between "p_ and a quote.
use Prim.Native.Nat.{ℕ}
use Rattle.write_put.proofs.Puts.{put_then, put_as}
use Rattle.written.specs.Writing.{spelled_ref}
use Rattle.written.specs.Said.{pdf}
use mathlib.Core.Path.{ap}
use Rattle.write_parts.proofs.put_leaf.Goals as goal

pub returns : goal.returns
returns c = put_as (ap (λ (n : ℕ). spelled_ref (pdf n)) c.number-n.ensures) (put_then c.put3-digits.ensures (put_then c.put_figures-end.ensures c.put1.ensures))
