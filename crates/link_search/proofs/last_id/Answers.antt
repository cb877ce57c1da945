-- `link_search::last_id`: what stands where the index is parted.
use mathlib.Core.Path.{◌≡◌, sym, ap, ◌∙◌}
use Prim.Native.Nat.{ℕ}
use native.Mathlib.Omega.{arith}
use lib.Dec.{eqb}
use Rattle.std.specs.declared.option.Option.{Option}
use Rattle.laws.proofs.Signed.{back}
use Rattle.link_order.specs.Keys.{id_key, id_at}
use Rattle.link_search.specs.Found.{last_below}
use Rattle.link_search.proofs.Last.{index_falls, index_empty, index_found, index_other}
use Rattle.link_search.proofs.last_id.Goals as goal

-- the answer for the key of an id
to : (f : ℕ → ℕ) (n : ℕ) {r : Option ℕ} {k : ℕ} {x : ℕ} → last_below (λ e. eqb (f e) k) n ≡ r → k ≡ x → r ≡ last_below (λ e. eqb (f e) x) n
to f n e q = sym e ∙ ap (λ (y : ℕ). last_below (λ e. eqb (f e) y) n) q

pub after_id-after-requires : goal.after_id-after-requires
after_id-after-requires c =
    let a = c.args in
    let i = c.requires in
    index_falls (λ e. id_key (id_at a.work.now e)) a.index.now i (omega arith) _

pub returns-then-after-eq0 : goal.returns-then-after-eq0
returns-then-after-eq0 c =
    let a = c.args in
    let i = c.requires in
    to (λ e. id_key (id_at a.work.now e)) _ (index_empty (λ e. id_key (id_at a.work.now e)) a.index.now i (omega arith) _ _ c.after_id-after.ensures c.if-after-eq0.true) (c.id_key-key.ensures ∙ ap id_key (back a.id c.ranges.id.sfits))

pub returns-then-id_key-key : goal.returns-then-id_key-key
returns-then-id_key-key c =
    let a = c.args in
    let i = c.requires in
    to (λ e. id_key (id_at a.work.now e)) _
    (index_found (λ e. id_key (id_at a.work.now e)) a.index.now i (omega arith) _ _ c.after_id-after.ensures (omega (arith, c.if-after-eq0.false)) (sym (c.id_key.ensures ∙ ap id_key (back _ c.id_of.type_inv ∙ c.id_of.ensures)) ∙ c.if-id_key-key.true))
    (c.id_key-key.ensures ∙ ap id_key (back a.id c.ranges.id.sfits))

pub returns-else-id_key-key : goal.returns-else-id_key-key
returns-else-id_key-key c =
    let a = c.args in
    let i = c.requires in
    to (λ e. id_key (id_at a.work.now e)) _
    (index_other (λ e. id_key (id_at a.work.now e)) a.index.now i (omega arith) _ _ c.after_id-after.ensures (omega (arith, c.if-after-eq0.false)) (λ q. c.if-id_key-key.false ((c.id_key.ensures ∙ ap id_key (back _ c.id_of.type_inv ∙ c.id_of.ensures)) ∙ q)))
    (c.id_key-key.ensures ∙ ap id_key (back a.id c.ranges.id.sfits))
