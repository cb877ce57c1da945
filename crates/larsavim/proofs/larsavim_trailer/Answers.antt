-- `larsavim::larsavim_trailer`: too short, or written.
use mathlib.Core.Path.{ap, ◌∙◌}
use lib.Seq.{sets}
use Rattle.larsavim.specs.Trails.{written_numbers}
use Rattle.larsavim.proofs.Laws.{answer_short, answer_full, out_short, out_full, left_short, left_full}
use Rattle.larsavim.proofs.larsavim_trailer.Goals as goal

pub returns-then-out-lt-TRAILER_OUT : goal.returns-then-out-lt-TRAILER_OUT
returns-then-out-lt-TRAILER_OUT c = record { number = answer_short _ _ _ c.if-out-lt-TRAILER_OUT.true; words = left_short _ _ _ _ c.if-out-lt-TRAILER_OUT.true; buffer = left_short _ _ _ _ c.if-out-lt-TRAILER_OUT.true; answer = out_short _ _ _ c.if-out-lt-TRAILER_OUT.true; bytes = λ k. (c.shared_slice_known-1.given k).fits }

pub returns : goal.returns
returns c =
    let room = c.if-out-lt-TRAILER_OUT.false in
    let e = c.trailer_said-said.ensures in
    record {
      number = answer_full _ _ _ _ room (ap (λ x. x.number) e.0);
      words = left_full _ _ _ _ _ room e.1;
      buffer = left_full _ _ _ _ _ room e.2;
      answer = out_full _ _ _ _ room (c.put3.ensures ∙ ap (λ x. sets c.args.out.now 0 (written_numbers x)) e.0);
      bytes = λ k. (c.shared_slice_known-1.given k).fits;
    }
