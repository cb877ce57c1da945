-- `larsavim::larsavim_write`: too short, or written.
use Rattle.larsavim.proofs.Laws.{answer_short, answer_full, out_short, out_full, left_short, left_full}
use Rattle.larsavim.specs.Write.{wrote_numbers}
use lib.Seq.{sets}
use mathlib.Core.Path.{ap, ◌∙◌}
use Rattle.larsavim.proofs.larsavim_write.Goals as goal

pub returns-then-out-lt-WRITE_OUT : goal.returns-then-out-lt-WRITE_OUT
returns-then-out-lt-WRITE_OUT c = record { number = answer_short _ _ _ c.if-out-lt-WRITE_OUT.true; buffer = left_short _ _ _ _ c.if-out-lt-WRITE_OUT.true; answer = out_short _ _ _ c.if-out-lt-WRITE_OUT.true; short = c.well_formed.1.1.1.1.0.1 }

pub returns : goal.returns
returns c = record { number = answer_full _ _ _ _ c.if-out-lt-WRITE_OUT.false (ap (λ x. x.number) c.write_said-wrote.ensures.said); buffer = left_full _ _ _ _ _ c.if-out-lt-WRITE_OUT.false c.write_said-wrote.ensures.left; answer = out_full _ _ _ _ c.if-out-lt-WRITE_OUT.false (c.put2.ensures ∙ ap (λ x. sets c.args.out.now 0 (wrote_numbers x)) c.write_said-wrote.ensures.said); short = c.well_formed.1.1.1.1.0.1 }
