-- `link_search::after_id`: where the library's search parts the lines.
use lib.Dec.{leb}
use Rattle.std.proofs.Common.{ℕ, rules}
use Rattle.std.proofs.lemmas.List.Sorted.{IsPartitionPoint-from_clause}
use Rattle.link_order.specs.Keys.{id_key, id_at}
use Rattle.link_search.proofs.Halves.{falls_parts, parted_at}
use Rattle.link_search.proofs.after_id.Goals as goal

pub returns : goal.returns
returns c =
    let a = c.args in
    let p = λ (e : ℕ). leb (id_key (id_at a.work.now e)) a.key in
    let found = c.partition_point.ensures in
    parted_at p a.index.now _ found.bound (IsPartitionPoint-from_clause p a.index.now _ found.partitioned (falls_parts p a.index.now c.requires) (λ x b f' k. search rules))
