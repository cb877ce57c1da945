-- the example of 02, Wish 6, by computation
use mathlib.Core.Path.{◌≡◌, refl}
use mathlib.Core.List.{[], ◌∷◌, flatten}
use lib.IntN.{pos, negsuc}
use Rattle.written.specs.Bytes.{bytes}
use Rattle.written.specs.Said.{node, pdf, lone, braces, Text}
use Rattle.written.specs.Writing.{figures_in, spelled_line, spelled_tree, spelled_patterns, spelled_question, spelled}

abbrev pub t : Text
t = record {
  questions = record { name = bytes "A"; patterns = bytes "x*" ∷ bytes "y" ∷ [] } ∷ [];
  trees = record { state = pos 2; body = braces (record { id = pos 0; question = bytes "A"; no = node (negsuc 0); yes = pdf 3 } ∷ []) } ∷ record { state = pos 10; body = lone (pdf 9223372036854775807) } ∷ record { state = pos 0; body = braces [] } ∷ [];
}

pub example : spelled t ≡ 81 ∷ 83 ∷ 32 ∷ 65 ∷ 32 ∷ 123 ∷ 32 ∷ 34 ∷ 120 ∷ 42 ∷ 34 ∷ 44 ∷ 32 ∷ 34 ∷ 121 ∷ 34 ∷ 32 ∷ 125 ∷ 10
    ∷ 123 ∷ 42 ∷ 125 ∷ 32 ∷ 91 ∷ 50 ∷ 93 ∷ 32 ∷ 123 ∷ 10 ∷ 48 ∷ 32 ∷ 65 ∷ 32 ∷ 45 ∷ 49 ∷ 32 ∷ 34 ∷ 112 ∷ 95 ∷ 51 ∷ 34 ∷ 10 ∷ 125 ∷ 10
    ∷ 123 ∷ 42 ∷ 125 ∷ 32 ∷ 91 ∷ 49 ∷ 48 ∷ 93 ∷ 32 ∷ 34 ∷ 112 ∷ 95 ∷ 57 ∷ 50 ∷ 50 ∷ 51 ∷ 51 ∷ 55 ∷ 50 ∷ 48 ∷ 51 ∷ 54 ∷ 56 ∷ 53 ∷ 52 ∷ 55 ∷ 55 ∷ 53 ∷ 56 ∷ 48 ∷ 55 ∷ 34 ∷ 10
    ∷ 123 ∷ 42 ∷ 125 ∷ 32 ∷ 91 ∷ 48 ∷ 93 ∷ 32 ∷ 123 ∷ 10 ∷ 125 ∷ 10 ∷ []
unfolding spelled spelled_question spelled_patterns spelled_tree spelled_line figures_in flatten bytes
example = refl
