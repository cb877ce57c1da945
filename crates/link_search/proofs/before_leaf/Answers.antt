-- `link_search::before_leaf`: where the library's search parts the leaves.
use lib.Dec.{ltb}
use Rattle.std.proofs.Common.{ℕ, rules}
use Rattle.std.proofs.lemmas.List.Sorted.{IsPartitionPoint-from_clause}
use Rattle.link_search.proofs.Halves.{falls_parts, parted_at}
use Rattle.link_search.proofs.before_leaf.Goals as goal

pub returns : goal.returns
returns c =
    let a = c.args in
    let p = λ (e : ℕ). ltb e a.number in
    let found = c.partition_point.ensures in
    parted_at p a.leaves.now _ found.bound (IsPartitionPoint-from_clause p a.leaves.now _ found.partitioned (falls_parts p a.leaves.now c.requires) (λ x b f' k. search rules))
