-- `walk_bare::meter_tree`: linked, or the fault.
use mathlib.Core.Path.{◌≡◌, sym, ap, ◌∙◌}
use Prim.Native.Nat.{ℕ}
use Rattle.walk_bare.specs.Bare.{metered_of, refused_by}
use Rattle.walk_bare.specs.declared.Meter.{Meter}
use Rattle.walk_bare.proofs.Laws.{meter_so}
use Rattle.walk_bare.proofs.meter_tree.Goals as goal

-- the number is that of the fault
by_number : {m : Meter} {n f i k : ℕ} → m ≡ refused_by n i k → n ≡ f → m ≡ refused_by f i k
by_number {i = i} {k = k} e h = e ∙ ap (λ (n : ℕ). refused_by n i k) h

pub returns-in-Ok : goal.returns-in-Ok
returns-in-Ok c = meter_so c.args.s.now c.args.tree c.args.answers.now c.args.limit c.args.star (sym c.in-Ok.is ∙ c.link_tree.ensures) (c.metered.ensures ∙ ap metered_of c.walk_tree.ensures)

pub returns-in-Err : goal.returns-in-Err
returns-in-Err c = meter_so c.args.s.now c.args.tree c.args.answers.now c.args.limit c.args.star (sym c.in-Err.is ∙ c.link_tree.ensures) (by_number c.refused_by.ensures c.number.ensures)
