-- Where references lead, among n lines in the work and leaves that ascend.
use Rattle.std.specs.declared.option.Option.{Option}
use Rattle.std.specs.Prelude.{◌≡◌, Bool, true, false, cond, List, ℕ, zero, suc, ◌+◌, ◌*◌, ◌≤◌, eqb, ℤ, length, take, drop, Some, None}
use Rattle.written.specs.Said.{Ref, node, pdf}
use Rattle.link_order.specs.Keys.{id_key, id_at}
use Rattle.link_search.specs.Found.{last_below, first_from}
use Rattle.link_search.specs.Index.{Index, Ascends}

-- n further
abbrev pub moved : ℕ → Option ℕ → Option ℕ
moved n (Some k) = Some (n + k)
moved n None = None

-- an id leads to the last line that bears it, a PDF behind the lines to the first leaf of its number
unfoldable pub target_of : List ℤ → ℕ → List ℕ → Ref → Option ℕ
target_of w n leaves (node x) = last_below (λ e. eqb (id_key (id_at w e)) (id_key x)) n
target_of w n leaves (pdf p) = moved n (first_from (λ e. eqb e p) 0 leaves)

-- from line k on, n ids run -k, -(k + 1), ..: moved up, they run down from 2^63 - k
unfoldable pub order_from : List ℤ → ℕ → ℕ → Bool
order_from w k zero = true
order_from w k (suc n) = cond (eqb (id_key (id_at w k) + k) 9223372036854775808) (order_from w (suc k) n) false

-- what looking up lines needs: the ids in order, or an index of the lines
pub data Ready (w : List ℤ) (n : ℕ) (index : List ℕ) : Bool → Type 0 where
  in_order : order_from w 0 n ≡ true → Ready w n index true
  by_index : Index (λ e. id_key (id_at w e)) index → length index ≡ n → Ready w n index false

-- what looking up references needs of the rows: the index in front, the leaves behind four numbers a line
pub record Rows (w : List ℤ) (n leaves : ℕ) (ordered : Bool) (rows : List ℕ) : Type 0 where
  pub room : 4 * n + leaves ≤ length rows
  pub ready : Ready w n (take n rows) ordered
  pub ascends : Ascends (take leaves (drop (4 * n) rows))
