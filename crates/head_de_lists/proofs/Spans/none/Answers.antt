-- `head_de_lists::Spans::none` meets its contract.
use Rattle.head_record.specs.Lists.{filled}
use Rattle.head_de_lists.specs.Lists.{spans_of}
use mathlib.Core.Path.{refl}
use Rattle.head_de_lists.proofs.Spans.none.Goals as goal

pub returns : goal.returns
unfolding spans_of filled
returns c = refl
