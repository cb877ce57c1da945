-- `tree_survey::is_negative`: below 0, as the machine tests it.
use mathlib.Core.Path.{◌≡◌, refl, ap, ◌∙◌}
use native.Mathlib.Omega.{arith}
use borrow.Author.Tests.{le-ltb}
use lib.IntN.{ℤ, pos, negsuc}
use lib.Signed.{lt_z}
use Rattle.laws.proofs.Signed.{back}
use Rattle.tree_survey.specs.Survey.{negative}
use Rattle.tree_survey.proofs.is_negative.Goals as goal

below : (z : ℤ) → lt_z z (pos 0) ≡ negative z
below (pos n) = le-ltb n 0 (omega arith)
below (negsuc n) = refl

pub returns : goal.returns
returns c = ap (λ (z : ℤ). lt_z z (pos 0)) (back c.args.state c.ranges.state.sfits) ∙ below c.args.state
