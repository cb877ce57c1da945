-- `larsavim::larsavim_accepts`: too short, or told.
use mathlib.Core.Path.{refl, ap, ◌∙◌}
use mathlib.Core.List.{[], ◌∷◌}
use lib.Seq.{sets}
use Rattle.error.specs.declared.Told.{Told}
use Rattle.larsavim.specs.Accepts.{AcceptTells}
use Rattle.larsavim.proofs.larsavim_accepts.Goals as goal

pub returns-then-out-lt-ACCEPTS_OUT : goal.returns-then-out-lt-ACCEPTS_OUT
returns-then-out-lt-ACCEPTS_OUT c = AcceptTells.no_room c.if-out-lt-ACCEPTS_OUT.true refl refl

pub returns : goal.returns
returns c = AcceptTells.told c.if-out-lt-ACCEPTS_OUT.false (ap (λ (x : Told). x.number) c.accepts_said-said.ensures) (c.put3.ensures ∙ ap (λ (x : Told). sets c.args.out.now 0 (x.number ∷ x.place ∷ x.line ∷ [])) c.accepts_said-said.ensures)
