-- `link_search::after_name`: where the library's search parts the questions.
use lib.Dec.{leb}
use Rattle.std.proofs.Common.{ℕ, rules}
use Rattle.std.proofs.lemmas.List.Sorted.{IsPartitionPoint-from_clause}
use Rattle.link_order.specs.Keys.{name_key, name_at}
use Rattle.link_search.proofs.Halves.{falls_parts, parted_at}
use Rattle.link_search.proofs.after_name.Goals as goal

pub returns : goal.returns
returns c =
    let a = c.args in
    let p = λ (e : ℕ). leb (name_key (name_at a.s.now a.questions.now e)) (name_key a.name.now) in
    let found = c.partition_point.ensures in
    parted_at p a.index.now _ found.bound (IsPartitionPoint-from_clause p a.index.now _ found.partitioned (falls_parts p a.index.now c.requires) (λ x b f' k. search rules))
