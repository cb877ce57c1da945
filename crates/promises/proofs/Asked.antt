-- What a caller hands to the calls on models: the number of a model names that model, and words that an opening wrote are the record.
use mathlib.Core.Path.{◌≡◌, refl, sym, ap, ◌∙◌}
use mathlib.Core.Bool.{Bool, cond}
use mathlib.Core.List.{List}
use Prim.Native.Nat.{ℕ, ◌+◌, ◌*◌, ◌-◌, ◌/◌, ◌%◌, ◌≤◌}
use native.Mathlib.Omega.{arith}
use borrow.Author.Tests.{eq-eqb, ne_eqb}
use lib.Dec.{eqb}
use lib.ListN.{length}
use lib.Seq.{sets, length-sets}
use Rattle.written.specs.Record.{Header}
use Rattle.head_record.specs.Record.{header_record}
use Rattle.shown_words.proofs.Back.{written_flags}
use Rattle.face_record.specs.Answers.{judged_of}
use Rattle.face_record.proofs.Laws.{judged_fit}
use Rattle.face_model.specs.Answers as face
use Rattle.load_choose.specs.declared.Which.TheVariants.{Duration, Stream, Gv}
use Rattle.written.specs.Models as models
use Rattle.written.specs.Models.{Model, model_number}
use Rattle.shown_models.proofs.Chosen.{which_of}
use Rattle.promises.specs.Opening.{record_words}

-- 0 duration, 2i + 1 stream i, 2i + 2 its GV
pub which_number : (m : Model) → face.which_of (model_number m) ≡ which_of m
unfolding face.which_of
which_number models.duration = refl
which_number (models.stream i) =
    let n = 2 * i + 1 in
    let e : n / 2 ≡ i = omega arith in
    ap (λ (b : Bool). cond b Duration (cond (eqb (n % 2) 1) (Stream (n / 2)) (Gv (n / 2 - 1)))) (ne_eqb n 0 (λ h. omega arith))
    ∙ ap (λ (b : Bool). cond b (Stream (n / 2)) (Gv (n / 2 - 1))) (eq-eqb (n % 2) 1 (omega arith))
    ∙ ap Stream e
which_number (models.gv i) =
    let n = 2 * i + 2 in
    let e : n / 2 - 1 ≡ i = omega arith in
    ap (λ (b : Bool). cond b Duration (cond (eqb (n % 2) 1) (Stream (n / 2)) (Gv (n / 2 - 1)))) (ne_eqb n 0 (λ h. omega arith))
    ∙ ap (λ (b : Bool). cond b (Stream (n / 2)) (Gv (n / 2 - 1))) (ne_eqb (n % 2) 1 (λ h. let k : n % 2 ≡ 0 = omega arith in omega arith))
    ∙ ap Gv e

-- no call refuses the words of a record that a file says for their number or their flags
pub record_judged : (w : List ℕ) (h : Header) → 647 ≤ length w → judged_of (sets w 0 (record_words h)) ≡ 0
record_judged w h l =
    sym (judged_fit (sets w 0 (record_words h)) (omega (arith, length-sets w 0 (record_words h))) (written_flags w (header_record h) l))
