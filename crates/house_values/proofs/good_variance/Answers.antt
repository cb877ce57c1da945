-- `house_values::good_variance` meets its contract.
use borrow.Author.Tests.{lt-ltb, le-ltb}
use Rattle.house_values.proofs.good_variance.Goals as goal

pub returns-then-v-gt0 : goal.returns-then-v-gt0
returns-then-v-gt0 c = simp (lt-ltb _ _ c.if-v-gt0.true)

pub returns-else-v-gt0 : goal.returns-else-v-gt0
returns-else-v-gt0 c = simp (le-ltb _ _ c.if-v-gt0.false)
