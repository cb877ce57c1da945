-- `walk_bare::refused_as`: by what it tells.
use mathlib.Core.Path.{ap, ◌∙◌}
use Rattle.error.specs.declared.Told.{Told}
use Rattle.walk_bare.specs.Bare.{refused_by}
use Rattle.walk_bare.proofs.refused_as.Goals as goal

pub returns : goal.returns
returns c = c.refused_by.ensures ∙ ap (λ (x : Told). refused_by x.number x.place x.line) c.told-told.ensures
