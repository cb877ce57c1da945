-- `head_brackets::split_key` meets its contract.
use mathlib.Core.List.{[], ◌∷◌}
use Rattle.written.specs.Bytes.{bracket, none_of}
use Rattle.laws.proofs.Cursor.{stop_each}
use Rattle.laws.proofs.Runs.{byte_out}
use Rattle.head_brackets.specs.Rows.{split_of}
use lib.ListN.{length}
use Prim.Native.Nat.{◌-◌}
use borrow.Author.Tests.{ne_eqb, le-leb, lt-leb}
use native.Mathlib.Omega.{arith}
use mathlib.Core.Path.{sym, ◌∙◌}
use Rattle.head_brackets.proofs.split_key.Goals as goal

pub returns-then-n-eq0 : goal.returns-then-n-eq0
unfolding split_of
returns-then-n-eq0 c = let a = c.args.key.now in rw (byte_out a (length a - 1) (omega arith))

pub returns-then-byte_at-ne93 : goal.returns-then-byte_at-ne93
unfolding split_of
returns-then-byte_at-ne93 c = rw (ne_eqb _ _ (λ e. c.if-byte_at-ne93.true (c.byte_at.ensures ∙ e)))

pub overflow_add-field : goal.overflow_add-field
overflow_add-field c =
    let a = c.args.key.now in
    let h = stop_each (none_of (bracket ∷ [])) a 0 (omega arith) in
    rw c.until-bracket.ensures (omega (arith, h.inside, c.well_formed))

pub returns-then-n-field : goal.returns-then-n-field
unfolding split_of
returns-then-n-field c = rw (sym c.byte_at.ensures ∙ c.if-byte_at-ne93.false, le-leb _ _ (rw c.until-bracket.ensures at c.if-n-field.true))

pub returns : goal.returns
unfolding split_of
returns c = rw (sym c.byte_at.ensures ∙ c.if-byte_at-ne93.false, c.until-bracket.ensures) (simp (lt-leb _ _ (rw c.until-bracket.ensures at c.if-n-field.false)))
