-- `text_base::is_usual`: the bits are those of the bytes, at each of the 256.
use Rattle.std.proofs.Common.{◌≡◌, ℕ, ◌<◌, refl, ◌∙◌, arith}
use Rattle.written.specs.Bytes.{letter, digit, one_of}
use Rattle.text_base.specs.Classes.{in_set, usual}
use Rattle.text_base.proofs.Keys.{same_at}
use Rattle.text_base.proofs.is_usual.Goals as goal

usuals : (b : ℕ) → b < 256 → in_set 2882211402540384256 1729382251675779071 b ≡ usual b
unfolding in_set usual letter digit one_of
usuals b h = same_at (in_set 2882211402540384256 1729382251675779071) usual 256 0 refl b (omega arith) (omega arith)

pub returns : goal.returns
returns c = c.in_set.ensures ∙ usuals c.args.b (omega arith)
