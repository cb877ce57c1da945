-- `link_targets::target`: a line or a leaf.
use mathlib.Core.Path.{◌≡◌, sym, ap, ◌∙◌, subst}
use Prim.Native.Nat.{ℕ, ◌+◌, ◌-◌, ◌*◌}
use native.Mathlib.Omega.{arith}
use lib.Dec.{eqb}
use lib.IntN.{pos}
use lib.ListN.{get_or, take, drop, length-take}
use Rattle.laws.proofs.Signed.{back}
use Rattle.link_order.specs.Keys.{id_key, id_at}
use Rattle.link_search.specs.Found.{last_below, first_from}
use Rattle.link_search.specs.Index.{Ascends}
use Rattle.text_parts.specs.Parts.{nat_of}
use Rattle.link_targets.specs.Targets.{moved}
use Rattle.link_targets.proofs.Refs.{is_node, is_pdf}
use Rattle.link_targets.proofs.Find.{first_inside, target_line, target_leaf}
use Rattle.link_targets.proofs.target.Goals as goal

pub find_line-requires : goal.find_line-requires
find_line-requires c = (omega (arith, c.requires.1.room), c.requires.1.ready)

pub returns-then-natural-eq0 : goal.returns-then-natural-eq0
returns-then-natural-eq0 c =
    let a = c.args in
    let v = get_or a.work.now (a.kind + 1) (pos 0) in
    target_line _ _ _ (is_node (get_or a.work.now a.kind (pos 0)) v (sym (c.natural.ensures ∙ ap nat_of (back (get_or a.work.now a.kind (pos 0)) c.k-1.given)) ∙ c.if-natural-eq0.true))
    (c.find_line.ensures ∙ ap (λ z. last_below (λ e. eqb (id_key (id_at a.work.now e)) (id_key z)) a.n) (back v c.v-1.given))

pub first_leaf-requires : goal.first_leaf-requires
first_leaf-requires c =
    let a = c.args in
    subst Ascends (sym (let e : 4 * a.n + a.leaves - 4 * a.n ≡ a.leaves = omega arith in ap (λ (m : ℕ). take m (drop (4 * a.n) a.rows.now)) e)) c.requires.1.ascends

pub overflow_add-result : goal.overflow_add-result
overflow_add-result c =
    let a = c.args in
    omega (arith, first_inside _ _ _ _ (sym c.first_leaf.ensures ∙ c.in_ok-leaf.was), length-take (4 * a.n + a.leaves - 4 * a.n) (drop (4 * a.n) a.rows.now), c.requires.1.room)

pub returns : goal.returns
returns c =
    let a = c.args in
    let v = get_or a.work.now (a.kind + 1) (pos 0) in
    target_leaf _ _ _ (is_pdf (get_or a.work.now a.kind (pos 0)) v (λ q. c.if-natural-eq0.false ((c.natural.ensures ∙ ap nat_of (back (get_or a.work.now a.kind (pos 0)) c.k-1.given)) ∙ q)))
    (c.first_leaf.ensures ∙ ap (λ y. first_from (λ e. eqb e y) 0 (take (4 * a.n + a.leaves - 4 * a.n) (drop (4 * a.n) a.rows.now))) (c.natural-2.ensures ∙ ap nat_of (back v c.v-1.given)) ∙ ap (first_from _ 0) (let e : 4 * a.n + a.leaves - 4 * a.n ≡ a.leaves = omega arith in ap (λ (m : ℕ). take m (drop (4 * a.n) a.rows.now)) e))
    (ap (moved _) (sym c.in_ok-leaf.was))

pub returns-in_err-leaf : goal.returns-in_err-leaf
returns-in_err-leaf c =
    let a = c.args in
    let v = get_or a.work.now (a.kind + 1) (pos 0) in
    target_leaf _ _ _ (is_pdf (get_or a.work.now a.kind (pos 0)) v (λ q. c.if-natural-eq0.false ((c.natural.ensures ∙ ap nat_of (back (get_or a.work.now a.kind (pos 0)) c.k-1.given)) ∙ q)))
    (c.first_leaf.ensures ∙ ap (λ y. first_from (λ e. eqb e y) 0 (take (4 * a.n + a.leaves - 4 * a.n) (drop (4 * a.n) a.rows.now))) (c.natural-2.ensures ∙ ap nat_of (back v c.v-1.given)) ∙ ap (first_from _ 0) (let e : 4 * a.n + a.leaves - 4 * a.n ≡ a.leaves = omega arith in ap (λ (m : ℕ). take m (drop (4 * a.n) a.rows.now)) e))
    (c.from_residual.ensures ∙ ap (moved _) (sym c.in_err-leaf.was))
