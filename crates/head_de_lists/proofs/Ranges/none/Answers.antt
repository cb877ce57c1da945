-- `head_de_lists::Ranges::none` meets its contract.
use Rattle.head_record.specs.Lists.{filled}
use Rattle.head_de_lists.specs.Lists.{ranges_of}
use mathlib.Core.Path.{refl}
use Rattle.head_de_lists.proofs.Ranges.none.Goals as goal

pub returns : goal.returns
unfolding ranges_of filled
returns c = refl
