-- `write_text::put_text`: the questions, then the trees.
use Rattle.write_put.proofs.Puts.{put_then}
use Rattle.write_text.specs.Text.{text_of}
use Rattle.written.specs.Writing.{spelled}
use Rattle.write_text.proofs.put_text.Goals as goal

pub returns : goal.returns
unfolding spelled text_of
returns c = put_then c.put_questions-first_tree.ensures c.put_trees.ensures
