-- `write_bytes::pattern_fits`: by its row.
use Prim.Native.Nat.{ℕ}
use Rattle.write_bytes.specs.Tests.{fits, every, pattern_fits}
use Rattle.written.specs.Bytes.{part}
use mathlib.Core.Bool.{false}
use mathlib.Core.Path.{ap₂, ◌∙◌}
use Rattle.write_bytes.proofs.pattern_fits.Goals as goal

pub returns : goal.returns
unfolding pattern_fits
returns c = c.part_fits.ensures ∙ ap₂ (λ (a n : ℕ). every (fits false) (part c.args.s.now a n)) c.pattern_start-start.ensures c.pattern_len-len.ensures
