-- `link_targets::find_line`: by the index, or where the id says.
use mathlib.Core.Path.{◌≡◌, sym, ap, ◌∙◌}
use Prim.Native.Nat.{ℕ}
use borrow.Author.Tests.{not-true, not-false}
use lib.Dec.{eqb}
use lib.Seq.{length-take-le}
use Rattle.std.specs.declared.option.Option.{Option}
use Rattle.laws.proofs.Signed.{back}
use Rattle.link_order.specs.Keys.{id_key, id_at}
use Rattle.link_search.specs.Found.{last_below}
use Rattle.link_targets.proofs.Find.{ready_index, order_above, order_found, order_past}
use Rattle.link_targets.proofs.find_line.Goals as goal

-- the answer for the key of the id
to : (f : ℕ → ℕ) (n : ℕ) {r : Option ℕ} {k x : ℕ} → last_below (λ e. eqb (f e) k) n ≡ r → k ≡ x → r ≡ last_below (λ e. eqb (f e) x) n
to f n e q = sym e ∙ ap (λ (y : ℕ). last_below (λ e. eqb (f e) y) n) q

pub slice_bounds-last_id-end : goal.slice_bounds-last_id-end
slice_bounds-last_id-end c = sym (length-take-le _ _ c.requires.0)

pub last_id-requires : goal.last_id-requires
last_id-requires c = (ready_index c.requires.1 (not-true _ c.if-not-ordered.true-raw)).0

pub returns-then-not-ordered : goal.returns-then-not-ordered
returns-then-not-ordered c =
    let a = c.args in
    c.last_id.ensures
    ∙ ap (last_below _) (ready_index c.requires.1 (not-true _ c.if-not-ordered.true-raw)).1
    ∙ ap (λ z. last_below (λ e. eqb (id_key (id_at a.work.now e)) (id_key z)) a.n) (back a.id c.ranges.id.sfits)

pub returns-then-key-gt9223372036854775808 : goal.returns-then-key-gt9223372036854775808
returns-then-key-gt9223372036854775808 c =
    let a = c.args in
    to (λ e. id_key (id_at a.work.now e)) _ (order_above c.requires.1 (not-false _ c.if-not-ordered.false-raw) _ c.if-key-gt9223372036854775808.true) (c.id_key-key.ensures ∙ ap id_key (back c.args.id c.ranges.id.sfits))

pub returns-then-line-n : goal.returns-then-line-n
returns-then-line-n c =
    let a = c.args in
    to (λ e. id_key (id_at a.work.now e)) _ (order_found c.requires.1 (not-false _ c.if-not-ordered.false-raw) _ c.if-key-gt9223372036854775808.false c.if-line-n.true) (c.id_key-key.ensures ∙ ap id_key (back c.args.id c.ranges.id.sfits))

pub returns-else-line-n : goal.returns-else-line-n
returns-else-line-n c =
    let a = c.args in
    to (λ e. id_key (id_at a.work.now e)) _ (order_past c.requires.1 (not-false _ c.if-not-ordered.false-raw) _ c.if-key-gt9223372036854775808.false c.if-line-n.false) (c.id_key-key.ensures ∙ ap id_key (back c.args.id c.ranges.id.sfits))
