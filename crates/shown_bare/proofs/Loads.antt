-- Over tables in which a tree's linked rows stand, the walk over the text ends as the walk over the tables, whatever answers there are and whatever the limit is.
use mathlib.Core.Path.{◌≡◌, sym, ap, ◌∙◌, subst}
use mathlib.Core.List.{List}
use Prim.Native.Nat.{ℕ}
use lib.ListN.{take, drop}
use Rattle.written.specs.Said.{Body, Question}
use Rattle.written.specs.Linking.{Row, Linked}
use Rattle.written.specs.Walks.{Loaded, LoadedTree}
use Rattle.written.specs.Meter.{Metered, Over}
use Rattle.written_alone.proofs.Metering.{outcome_of, over_loaded}
use Rattle.table_rows.specs.Rows.{tree_first, tree_records, record_table, HasTree}
use Rattle.table_rows.proofs.Stand.{tree_there_lem, standing_cut}
use Rattle.walk.specs.Walking.{walk_of}
use Rattle.walk.specs.Answer as answer
use Rattle.walk.proofs.Loaded.{loaded_walk}

pub over_tables : {qs : List Question} {bytes T R : List ℕ} {t : ℕ} {body : Body} {rows : List Row} {m : ℕ} {e : Metered} → HasTree T R t rows → Linked qs body rows → Over qs bytes body m e
    → outcome_of e ≡ answer.outcome_of (walk_of T R t bytes m)
over_tables {bytes = bytes} {T = T} {R = R} {t = t} {rows = rows} {m = m} {e = e} h l o =
    let q : rows ≡ take (tree_records T t) (drop (tree_first T t) (record_table R)) = sym (ap (λ (n : ℕ). take n (drop (tree_first T t) (record_table R))) h.count ∙ standing_cut R h.stands) in
    loaded_walk T R t bytes m (LoadedTree.there (tree_there_lem T t h.there) (subst (λ (rs : List Row). Loaded bytes rs 0 m (outcome_of e)) q (over_loaded l o)))
