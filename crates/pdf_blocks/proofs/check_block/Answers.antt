-- `pdf_blocks::check_block`: each way out is the answer by the words that are left behind the counts.
use mathlib.Core.Path.{◌≡◌, sym, ap, ◌∙◌}
use mathlib.Core.Bool.{cond}
use mathlib.Core.List.{List}
use Prim.Native.Nat.{ℕ, ◌*◌, ◌<◌}
use native.Mathlib.Nat.{zero-mul}
use native.Mathlib.Omega.{arith}
use native.Mathlib.Decide.{ℕ_discrete}
use borrow.Author.Tests.{eq-eqb, ne_eqb}
use lib.Dec.{eqb}
use lib.ListN.{length}
use Rattle.std.specs.declared.option.Option.{Option}
use Rattle.std.specs.Prelude.{Some, None}
use Rattle.pdf_blocks.specs.Values.{block_at}
use Rattle.pdf_blocks.proofs.Counts.{total_none, block_short, block_other, block_fits, flat-fits, flat_left, flat-counts, not_whole, not_many, just_fits}
use Rattle.pdf_blocks.proofs.check_block.Goals as goal

-- no bytes at all
none : (t w : ℕ) (s : List ℕ) (i : ℕ) → length s < i → {r : Option ℕ} → r ≡ cond (eqb t 0) (Some 0) None → r ≡ block_at t w s i
none t w s i h e = e ∙ go (ℕ_discrete t 0)
  where
    go : Dec (t ≡ 0) → cond (eqb t 0) (Some 0) None ≡ block_at t w s i
    go (yes z) =
        let n = total_none s i t (omega arith) in
        let m = ap (λ (x : ℕ). x * w) n in
        rw (eq-eqb t 0 z) (ap Some (sym n) ∙ block_fits t w s i (omega arith) (omega (arith, m, zero-mul w)) (λ x. n))
    go (no d) = rw (ne_eqb t 0 d) (block_short t w s i (omega (arith, d)))

pub returns-then-s-at : goal.returns-then-s-at
returns-then-s-at c = none _ _ _ _ c.if-s-at.true c.if_empty.ensures

pub returns-then-room-trees : goal.returns-then-room-trees
returns-then-room-trees c = block_short _ _ _ _ (omega (arith, c.if-room-trees.true))

pub returns-then-rest-ne0 : goal.returns-then-rest-ne0
returns-then-rest-ne0 c = block_other _ _ _ _ (λ e. c.if-rest-ne0.true (omega (arith, e)))

pub returns-then-words-eq0 : goal.returns-then-words-eq0
returns-then-words-eq0 c =
    let a = c.args in
    flat-fits a.trees a.width a.s.now a.at _ (omega (arith, c.if-s-at.false, c.if-room-trees.false, c.if-rest-ne0.false)) c.count_entries-entries.ensures c.if-width-eq0.true c.if-entries-eq0.true c.if-words-eq0.true

pub returns-else-words-eq0 : goal.returns-else-words-eq0
returns-else-words-eq0 c =
    let a = c.args in
    flat_left a.trees a.width a.s.now a.at _ (omega (arith, c.if-s-at.false, c.if-room-trees.false, c.if-rest-ne0.false)) c.count_entries-entries.ensures c.if-width-eq0.true c.if-words-eq0.false

pub returns-else-entries-eq0 : goal.returns-else-entries-eq0
returns-else-entries-eq0 c =
    let a = c.args in
    flat-counts a.trees a.width a.s.now a.at _ (omega (arith, c.if-s-at.false, c.if-room-trees.false, c.if-rest-ne0.false)) c.count_entries-entries.ensures c.if-width-eq0.true c.if-entries-eq0.false

pub returns-then-words-width-ne0 : goal.returns-then-words-width-ne0
returns-then-words-width-ne0 c =
    let a = c.args in
    not_whole a.trees a.width a.s.now a.at _ (omega (arith, c.if-s-at.false, c.if-room-trees.false, c.if-rest-ne0.false)) c.count_entries-entries.ensures c.if-words-width-ne0.true

pub returns-then-words-width : goal.returns-then-words-width
returns-then-words-width c =
    let a = c.args in
    not_many a.trees a.width a.s.now a.at _ (omega (arith, c.if-s-at.false, c.if-room-trees.false, c.if-rest-ne0.false)) c.count_entries-entries.ensures c.if-width-eq0.false c.if-words-width.true

pub returns : goal.returns
returns c =
    let a = c.args in
    just_fits a.trees a.width a.s.now a.at _ (omega (arith, c.if-s-at.false, c.if-room-trees.false, c.if-rest-ne0.false)) c.count_entries-entries.ensures c.if-width-eq0.false c.if-words-width-ne0.false c.if-words-width.false
