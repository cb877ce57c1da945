-- `write_text::put_tree`: its parts one behind the other.
use Rattle.write_put.proofs.Puts.{put_then, put_as}
use Rattle.write_text.proofs.Laws.{tree_bytes_lem}
use mathlib.Core.Path.{◌∙◌}
use Rattle.write_text.proofs.put_tree.Goals as goal

pub shape_of-b : goal.shape_of-b
shape_of-b c = c.put1.auto.b ∙ c.put_body-end.auto.b ∙ c.put2-body.auto.b ∙ c.put_figures-bracket.auto.b ∙ c.put5-digits.auto.b

pub returns : goal.returns
returns c = put_as (tree_bytes_lem c.args.s.now c.args.questions.now c.args.trees.now c.args.records.now c.args.t c.tree_state-state.ensures c.tree_first-first.ensures c.tree_records-count.ensures c.tree_lines-lines.ensures)
    (put_then c.put5-digits.ensures (put_then c.put_figures-bracket.ensures (put_then c.put2-body.ensures (put_then c.put_body-end.ensures c.put1.ensures))))
