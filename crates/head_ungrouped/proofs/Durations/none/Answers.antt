-- `head_ungrouped::Durations::none` meets its contract.
use Rattle.head_ungrouped.specs.Ungrouped.{no_durations}
use mathlib.Core.Path.{refl}
use Rattle.head_ungrouped.proofs.Durations.none.Goals as goal

pub returns : goal.returns
unfolding no_durations
returns c = refl
