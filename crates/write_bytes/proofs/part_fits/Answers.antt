-- `write_bytes::part_fits`: what the library's `all` says of the part.
use Rattle.std.proofs.Common.{rules}
use Rattle.std.proofs.lemmas.Iterator.{YieldsList-from_slice}
use Rattle.std.proofs.lemmas.Iterator.Search.{all_from_yields_List}
use Rattle.write_bytes.proofs.Odd.{every_list}
use Rattle.write_bytes.specs.Tests.{fits, every}
use borrow.Author.Tests.{tests}
use mathlib.Core.Path.{ap, ◌∙◌}
use Rattle.write_bytes.proofs.part_fits.Goals as goal

pub returns : goal.returns
returns c =
    all_from_yields_List (fits c.args.name) _ _ _ c.all.ensures.ran (YieldsList-from_slice c.part_of.result.now cc) (λ x b q k. search (rules, tests)) ∙ every_list (fits c.args.name) c.part_of.result.now ∙ ap (every (fits c.args.name)) c.part_of.ensures
