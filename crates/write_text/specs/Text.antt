-- The text of all rows of lent tables.
use Rattle.std.specs.Prelude.{List, ℕ}
use Rattle.written.specs.Said.{Text}
use Rattle.table_rows.specs.Rows.{question_rows, tree_rows}
use Rattle.write_parts.specs.Parts.{each, question_of, tree_of}

-- d: the data that string starts count in; then the question, pattern, tree and record tables
unfoldable pub text_of : List ℕ → List ℕ → List ℕ → List ℕ → List ℕ → Text
text_of d Q P T R = record { questions = each (question_of d Q P) 0 (question_rows Q); trees = each (tree_of d Q T R) 0 (tree_rows T) }
