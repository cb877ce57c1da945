-- `label_answers::pattern_matches`: an empty pattern, or the match of its bytes.
use native.Mathlib.Omega.{arith}
use Rattle.label_answers.proofs.Laws.{in_table, in_data, matches_empty, matches_part}
use Rattle.label_answers.proofs.pattern_matches.Goals as goal

pub pattern_len-len-requires : goal.pattern_len-len-requires
pattern_len-len-requires c = in_table _ _ _ c.requires

pub returns-then-len-eq0 : goal.returns-then-len-eq0
returns-then-len-eq0 c = matches_empty _ _ _ _ c.pattern_len-len.ensures c.if-len-eq0.true

pub pattern_start-start-requires : goal.pattern_start-start-requires
pattern_start-start-requires c = in_table _ _ _ c.requires

pub overflow_add-end : goal.overflow_add-end
overflow_add-end c = let h = in_data _ _ _ c.requires c.pattern_start-start.ensures c.pattern_len-len.ensures c.if-len-eq0.false in omega (arith, h)

pub slice_bounds-matches-end : goal.slice_bounds-matches-end
slice_bounds-matches-end c = in_data _ _ _ c.requires c.pattern_start-start.ensures c.pattern_len-len.ensures c.if-len-eq0.false

pub returns : goal.returns
returns c = matches_part _ _ _ _ c.pattern_len-len.ensures c.pattern_start-start.ensures c.matches.ensures
