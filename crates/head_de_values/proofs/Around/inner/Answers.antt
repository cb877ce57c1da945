-- `head_de_values::Around::inner` meets its contract.
use Rattle.head_de_values.proofs.Around.inner.Goals as goal

pub returns-in-Line : goal.returns-in-Line
returns-in-Line c = rw c.in-Line.is

pub returns-in-Alone : goal.returns-in-Alone
returns-in-Alone c = rw c.in-Alone.is
