-- `write_bytes::name_fits`: by its row.
use Prim.Native.Nat.{ℕ}
use Rattle.write_bytes.specs.Tests.{fits, every, name_fits}
use Rattle.written.specs.Bytes.{part}
use mathlib.Core.Bool.{true}
use mathlib.Core.Path.{ap₂, ◌∙◌}
use Rattle.write_bytes.proofs.name_fits.Goals as goal

pub returns : goal.returns
unfolding name_fits
returns c = c.part_fits.ensures ∙ ap₂ (λ (a n : ℕ). every (fits true) (part c.args.s.now a n)) c.question_start-start.ensures c.question_len-len.ensures
