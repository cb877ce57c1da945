-- `head_group_words::known` meets its contract: the names from k on give the answer.
use mathlib.Core.Path.{◌≡◌}
use Prim.Native.Nat.{◌-◌}
use Rattle.head_brackets.specs.Rows.{known_from, known_in}
use Rattle.text_parts.specs.Parts.{bytes_of}
use Rattle.head_group_words.specs.Groups.{names_at}
use Rattle.head_group_words.proofs.known.Given as goal

abbrev pub invariant-loop-k : goal.invariant-loop-k
invariant-loop-k l = known_in l.s (names_at l.words l.at l.width) l.n (bytes_of l.s l.x) ≡ known_from (l.n - l.k) l.s (names_at l.words l.at l.width) l.k (bytes_of l.s l.x)
