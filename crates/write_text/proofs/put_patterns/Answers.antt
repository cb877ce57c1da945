-- `write_text::put_patterns`: the patterns that are left, put where the loop is, are all of them.
use Rattle.write_put.proofs.Puts.{leads_more, leads_done}
use Rattle.write_parts.specs.Parts.{pattern_of}
use Rattle.write_text.proofs.Laws.{patterns_more, patterns_done}
use Rattle.write_text.proofs.put_patterns.Goals as goal

pub loop-k-preserved : goal.loop-k-preserved
loop-k-preserved c = leads_more c.loop-k.invariant _ _ (patterns_more (pattern_of c.args.s.now c.args.patterns.now c.args.first) c.loop-k.k c.args.n c.loop-k-test.true) c.put_quoted-i.ensures

pub returns : goal.returns
returns c = leads_done c.loop-k.invariant (patterns_done (pattern_of c.args.s.now c.args.patterns.now c.args.first) c.loop-k.k c.args.n c.loop-k-test.false)
