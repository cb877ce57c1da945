-- `link_names::key_of`: by length and last byte.
use Rattle.link_names.proofs.Laws.{key_none, key_is}
use Rattle.link_names.proofs.key_of.Goals as goal

pub returns-then-n-eq0 : goal.returns-then-n-eq0
returns-then-n-eq0 c = key_none _ c.if-n-eq0.true

pub returns : goal.returns
returns c = key_is _ c.if-n-eq0.false
