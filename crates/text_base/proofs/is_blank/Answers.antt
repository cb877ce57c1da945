-- `text_base::is_blank` meets its contract.
use Rattle.std.proofs.Common.{eq-eqb, ne_eqb}
use Rattle.written.specs.Bytes.{blank}
use Rattle.text_base.proofs.is_blank.Goals as goal

pub returns-then-b-eq32 : goal.returns-then-b-eq32
unfolding blank
returns-then-b-eq32 c = simp (eq-eqb _ _ c.if-b-eq32.true)

pub returns-else-b-eq32 : goal.returns-else-b-eq32
unfolding blank
returns-else-b-eq32 c = simp (ne_eqb _ _ c.if-b-eq32.false)
