-- `write_parts::put_quoted`: quote, pattern, quote, and a comma before the next.
use Rattle.write_put.proofs.Puts.{put_then, put_as}
use Rattle.write_parts.specs.Parts.{quoted, pattern_of}
use mathlib.Core.Path.{sym, ap}
use Rattle.write_parts.proofs.put_quoted.Goals as goal

pub returns-then-more : goal.returns-then-more
returns-then-more c = put_as (ap (quoted (pattern_of c.args.s.now c.args.patterns.now c.args.first c.args.k)) (sym c.if-more.true)) (put_then c.put1-open.ensures (put_then c.put_pattern-end.ensures c.put3.ensures))

pub returns-else-more : goal.returns-else-more
returns-else-more c = put_as (ap (quoted (pattern_of c.args.s.now c.args.patterns.now c.args.first c.args.k)) (sym c.if-more.false)) (put_then c.put1-open.ensures (put_then c.put_pattern-end.ensures c.put1.ensures))
