-- `larsavim::larsavim_open`: too short, or written.
use mathlib.Core.Path.{ap, ◌∙◌}
use lib.Seq.{sets}
use Rattle.larsavim.specs.Face.{said_numbers}
use Rattle.larsavim.proofs.Laws.{answer_short, answer_full, out_short, out_full, left_short, left_full}
use Rattle.larsavim.proofs.larsavim_open.Goals as goal

pub returns-then-out-lt-OPEN_OUT : goal.returns-then-out-lt-OPEN_OUT
returns-then-out-lt-OPEN_OUT c = (answer_short _ _ _ c.if-out-lt-OPEN_OUT.true, left_short _ _ _ _ c.if-out-lt-OPEN_OUT.true, out_short _ _ _ c.if-out-lt-OPEN_OUT.true, λ k. (c.shared_slice_known-1.given k).fits)

pub returns : goal.returns
returns c = (answer_full _ _ _ _ c.if-out-lt-OPEN_OUT.false (ap (λ x. x.number) c.open_words-said.ensures.0), left_full _ _ _ _ _ c.if-out-lt-OPEN_OUT.false c.open_words-said.ensures.1, out_full _ _ _ _ c.if-out-lt-OPEN_OUT.false (c.put2.ensures ∙ ap (λ x. sets c.args.out.now 0 (said_numbers x)) c.open_words-said.ensures.0), λ k. (c.shared_slice_known-1.given k).fits)
