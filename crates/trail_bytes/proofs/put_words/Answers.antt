-- `trail_bytes::put_words`: one behind the other.
use Rattle.std.proofs.Common.{ℕ, ◌+◌, List, [], ◌∷◌, ap, ◌∙◌}
use lib.Seq.{sets}
use Rattle.written.specs.Blocks.{little_endian}
use Rattle.trail_bytes.proofs.Numbers.{three_stored}
use Rattle.trail_bytes.proofs.put_words.Goals as goal

pub returns : goal.returns
returns c =
    let a = c.args in
    c.put_word-3.ensures
    ∙ ap (λ (t : List ℕ). sets t (a.k + 8) (little_endian (a.c ∷ [])))
    (c.put_word-2.ensures
    ∙ ap (λ (t : List ℕ). sets t (a.k + 4) (little_endian (a.b ∷ []))) c.put_word.ensures)
    ∙ three_stored a.t.now a.k a.a a.b a.c
