-- `write_rows::pattern_in`: by its row.
use Prim.Native.Nat.{ℕ}
use Rattle.write_rows.specs.Tests.{among, pattern_in}
use lib.ListN.{length}
use mathlib.Core.Path.{ap₂, ◌∙◌}
use Rattle.write_rows.proofs.pattern_in.Goals as goal

pub returns : goal.returns
unfolding pattern_in
returns c = c.among_them.ensures ∙ ap₂ (λ (a n : ℕ). among a n (length c.args.s.now)) c.pattern_start-start.ensures c.pattern_len-len.ensures
