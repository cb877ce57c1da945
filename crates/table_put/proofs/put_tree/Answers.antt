-- `table_put::put_tree`: four numbers, and the other two behind them.
use mathlib.Core.Path.{ap, ◌∙◌}
use mathlib.Core.List.{List, [], ◌∷◌}
use Prim.Native.Nat.{ℕ, ◌+◌, ◌*◌}
use lib.Seq.{sets}
use Rattle.laws.proofs.Tables.{sets-append}
use Rattle.table_put.proofs.put_tree.Goals as goal

pub returns : goal.returns
returns c =
    let a = c.args in
    c.put2.ensures ∙ ap (λ (t : List ℕ). sets t (6 * a.k + 4) (0 ∷ 0 ∷ [])) c.put4.ensures
    ∙ sets-append a.trees.now (6 * a.k) (a.state ∷ a.first ∷ a.records ∷ a.lines ∷ []) (0 ∷ 0 ∷ [])
