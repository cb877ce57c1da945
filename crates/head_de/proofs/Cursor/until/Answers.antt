-- `head_de::Cursor::until` meets its contract. The place where the run stops is the same from each place that the loop passes.
use Rattle.laws.proofs.Runs.{byte_is, stop_on, stop_here, stop_end}
use mathlib.Core.Bool.{not}
use Rattle.written.specs.Bytes.{one_of}
use Rattle.head_de.specs.Values.{cursor}
use mathlib.Core.Path.{sym, ap, ◌∙◌}
use Rattle.head_de.proofs.Cursor.until.Goals as goal

pub returns-then-is_delimiter : goal.returns-then-is_delimiter
returns-then-is_delimiter c =
    let e = sym (c.is_delimiter.ensures ∙ ap (one_of _) (c.byte_at.ensures ∙ byte_is _ _ c.loop-i-test.true)) ∙ c.if-is_delimiter.true in
    ap cursor (sym (stop_here _ _ _ c.loop-i-test.true (ap not e)) ∙ c.loop-i.invariant)

pub loop-i-preserved : goal.loop-i-preserved
loop-i-preserved c =
    let e = sym (c.is_delimiter.ensures ∙ ap (one_of _) (c.byte_at.ensures ∙ byte_is _ _ c.loop-i-test.true)) ∙ c.if-is_delimiter.false in
    sym (stop_on _ _ _ c.loop-i-test.true (ap not e)) ∙ c.loop-i.invariant

pub returns : goal.returns
returns c = ap cursor (sym (stop_end _ _ _ c.loop-i-test.false) ∙ c.loop-i.invariant)
