-- `write_text::put_question`: its parts one behind the other.
use Rattle.write_put.proofs.Puts.{put_then, put_as}
use Rattle.write_text.proofs.Laws.{question_bytes}
use mathlib.Core.Path.{◌∙◌}
use Rattle.write_text.proofs.put_question.Goals as goal

pub shape_of-b : goal.shape_of-b
shape_of-b c = c.put3.auto.b ∙ c.put_patterns-end.auto.b ∙ c.put3-list.auto.b ∙ c.put_name-brace.auto.b ∙ c.put3-name.auto.b

pub returns : goal.returns
returns c = put_as (question_bytes c.args.s.now c.args.questions.now c.args.patterns.now c.args.q c.question_first-first.ensures c.question_patterns-n.ensures)
    (put_then c.put3-name.ensures (put_then c.put_name-brace.ensures (put_then c.put3-list.ensures (put_then c.put_patterns-end.ensures c.put3.ensures))))
