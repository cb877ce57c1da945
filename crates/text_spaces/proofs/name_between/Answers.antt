-- `text_spaces::name_between`: three runs, one after the other.
use mathlib.Core.Path.{◌≡◌, ◌∙◌}
use mathlib.Core.List.{List}
use Prim.Native.Nat.{ℕ}
use Rattle.written.specs.Bytes.{blank, in_name}
use Rattle.laws.specs.Runs.{stop}
use Rattle.text_spaces.specs.Spaces.{name_of, name_at}
use Rattle.text_spaces.proofs.name_between.Goals as goal

runs : (s : List ℕ) (i : ℕ) {b c d : ℕ} → b ≡ stop blank s i → c ≡ stop in_name s b → d ≡ stop blank s c → name_of i b c d ≡ name_at s i
unfolding name_at
runs s i p q r = rw (r, q, p)

pub returns : goal.returns
returns c = c.some_name.ensures ∙ runs _ _ c.blank_end-start.ensures c.name_end-end.ensures c.blank_end-next.ensures
