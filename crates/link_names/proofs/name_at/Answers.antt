-- `link_names::name_at`: up to the end of the name.
use mathlib.Core.Path.{ap, ◌∙◌}
use native.Mathlib.Omega.{arith}
use Rattle.written.specs.Bytes.{in_name}
use Rattle.laws.proofs.Runs.{stop_from}
use Rattle.text_parts.specs.Parts.{part_inside}
use Prim.Native.Nat.{ℕ, ◌-◌}
use Rattle.link_names.proofs.name_at.Goals as goal

pub overflow_sub-name_end : goal.overflow_sub-name_end
overflow_sub-name_end c = omega (arith, c.name_end.ensures, stop_from in_name c.args.s.now c.args.start)

pub returns : goal.returns
returns c = c.part_inside.ensures ∙ ap (λ (e : ℕ). part_inside c.args.s.now c.args.start (e - c.args.start)) c.name_end.ensures
