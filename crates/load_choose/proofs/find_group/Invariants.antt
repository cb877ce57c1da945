-- `load_choose::find_group` meets its contract.
use Prim.Native.Nat.{◌+◌, ◌*◌}
use Rattle.written.specs.Bytes.{same}
use Rattle.head_words.specs.Words.{span_at}
use Rattle.text_parts.specs.Parts.{bytes_of}
use Rattle.load_choose.proofs.Search.{Down}
use Rattle.load_choose.proofs.find_group.Given as goal

abbrev pub invariant-loop-k : goal.invariant-loop-k
invariant-loop-k l = Down (λ j. same (bytes_of l.file (span_at l.words (l.at + l.step * j))) (bytes_of l.file l.x)) l.n l.k
