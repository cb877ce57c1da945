-- `link_find::found_after`: by the test.

use Rattle.link_find.proofs.found_after.Goals as goal

pub returns-then-hit : goal.returns-then-hit
returns-then-hit c = rw c.if-hit.true

pub returns-else-hit : goal.returns-else-hit
returns-else-hit c = rw c.if-hit.false
