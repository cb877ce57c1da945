-- `house_types::types_once`: what the library's `all` says of the range.
use Rattle.head_words.specs.Words.{word_at, header_at, global_at}
use Rattle.house_types.specs.Types.{new_name, types_once}
use Rattle.laws.proofs.Ranged.{all_ranged}
use Rattle.std.proofs.Common.{rules}
use borrow.Author.Tests.{tests}
use native.Mathlib.Omega.{arith}
use Rattle.house_types.proofs.types_once.Goals as goal

pub returns : goal.returns
unfolding types_once header_at global_at
returns c =
    let a = c.args in
    all_ranged (new_name a.file.now (header_at a.words.now)) 0 (word_at a.words.now 22) (word_at a.words.now 22) (omega arith) _ _ _ c.all.ensures.ran (λ x y q k. search (rules, tests))
