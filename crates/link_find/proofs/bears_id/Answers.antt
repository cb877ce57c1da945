-- `link_find::bears_id`: by the key of the line's id.
use mathlib.Core.Path.{ap, ◌∙◌}
use Prim.Native.Nat.{ℕ}
use lib.Dec.{eqb}
use Rattle.laws.proofs.Signed.{back}
use Rattle.link_order.specs.Keys.{id_key}
use Rattle.link_find.proofs.bears_id.Goals as goal

pub returns : goal.returns
returns c = ap (λ (x : ℕ). eqb x c.args.key) (c.id_key.ensures ∙ ap id_key (back c.args.line.id c.struct_told-1.given.0.1))
