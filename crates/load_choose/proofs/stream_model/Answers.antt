-- `load_choose::stream_model` meets its contract.
use Rattle.load_choose.specs.Chosen.{bit, model_of, stream_by}
use Rattle.head_words.specs.Words.{word_at, range_at, stream_at, position_at}
use lib.Dec.{eqb}
use mathlib.Core.Bool.{Bool, true, false, not, cond, ◌&&◌}
use mathlib.Core.Path.{◌≡◌, refl, ap, ◌∙◌}
use Prim.Native.Nat.{ℕ, ◌+◌, ◌*◌}
use Rattle.load_choose.proofs.stream_model.Goals as goal

-- a flag that counts only where the width is asked for
flagged : (m : Bool) (n : ℕ) → not (eqb (cond m n 0) 0) ≡ (m && not (eqb n 0))
flagged true n = refl
flagged false n = refl

pub returns : goal.returns
unfolding stream_by stream_at position_at
returns c =
    let x = c.args in
    let w = x.words.now in
    c.model.ensures
    ∙ ap (λ (a : ℕ). model_of (range_at w (x.position + 21)) (range_at w (x.position + 19)) (2 * (a * word_at w (x.stream + 3)) + bit (not (eqb c.counted-msd.result 0)))) c.counted.ensures
    ∙ ap (λ (b : Bool). model_of (range_at w (x.position + 21)) (range_at w (x.position + 19)) (2 * (cond x.measured (word_at w (x.stream + 2)) 0 * word_at w (x.stream + 3)) + bit b)) (ap (λ (n : ℕ). not (eqb n 0)) c.counted-msd.ensures ∙ flagged x.measured (word_at w (x.stream + 4)))
