-- `text_base::byte_at` meets its contract.
use Rattle.std.proofs.Common.{sym, ◌∙◌}
use Rattle.laws.proofs.Runs.{byte_is, byte_out}
use Rattle.text_base.proofs.byte_at.Goals as goal

pub returns-then-at-s : goal.returns-then-at-s
returns-then-at-s c = c.wide.ensures ∙ sym (byte_is _ _ c.if-at-s.true)

pub returns-else-at-s : goal.returns-else-at-s
returns-else-at-s c = sym (byte_out _ _ c.if-at-s.false)
