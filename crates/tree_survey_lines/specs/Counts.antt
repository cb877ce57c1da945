-- What the surveys of this crate answer, of the lines that are read.
use Rattle.tree_survey_lines.specs.declared.LineSurvey.{LineSurvey}
use Rattle.tree_survey_lines.specs.declared.LineCount.{LineCount}
use Rattle.text_parts.specs.declared.Read.{Read}
use Rattle.text_parts.specs.Parts.{read_to}
use Rattle.std.specs.declared.option.Option.{Option}
use Rattle.std.specs.Prelude.{cond, List, [], ◌∷◌, ℕ, ◌+◌, length, Some, None}
use Rattle.laws.specs.Steps.{Ending, done_at, broken_at, Reading}
use Rattle.laws.specs.Totals.{total}
use Rattle.tree_reference.specs.References.{same_index, pdf_count}
use Rattle.tree_line.specs.declared.Line.{Line}

abbrev pub line_count : ℕ → ℕ → LineCount
line_count l p = record { lines = l; pdfs = p }

abbrev pub line_survey : ℕ → ℕ → LineSurvey
line_survey l r = record { lines = l; records = r }

-- how many of a line's references are PDFs
abbrev pub line_pdfs : Line → ℕ
line_pdfs l = pdf_count l.no + pdf_count l.yes

-- the records of a tree that is one line: 1 where its references are equal
abbrev pub line_records : Line → ℕ
line_records l = cond (same_index l.no l.yes) 1 (1 + line_pdfs l)

-- the records of a tree's lines: otherwise the lines, and their PDF references
unfoldable pub records_of : List Line → ℕ
records_of [] = 0
records_of (l ∷ []) = line_records l
records_of (l ∷ (k ∷ ls)) = length (l ∷ (k ∷ ls)) + total line_pdfs (l ∷ (k ∷ ls))

abbrev pub count_ended : ℕ → ℕ → Ending → Option (Read LineCount)
count_ended n m (done_at e) = Some (read_to (line_count n m) e)
count_ended n m (broken_at e) = None

-- after n lines with m PDF references, those that are read
unfoldable pub lines_counted : ℕ → ℕ → Reading Line → Option (Read LineCount)
lines_counted n m r = count_ended (n + length r.items) (m + total line_pdfs r.items) r.ending

abbrev pub survey_ended : List Line → Ending → Option (Read LineSurvey)
survey_ended ls (done_at e) = Some (read_to (line_survey (length ls) (records_of ls)) e)
survey_ended ls (broken_at e) = None

-- the lines that are read, and their records
unfoldable pub lines_surveyed : Reading Line → Option (Read LineSurvey)
lines_surveyed r = survey_ended r.items r.ending
