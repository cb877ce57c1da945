-- `face_open::open_words`: a file that is refused, too few words, or the record copied.
use mathlib.Core.Path.{sym, ◌∙◌}
use Rattle.face_open.proofs.Laws.{says_refused, says_few, says_done}
use Rattle.face_open.proofs.open_words.Goals.{After-open}
use Rattle.face_open.proofs.open_words.Goals as goal

pub returns-then-words-lt-WORDS : goal.returns-then-words-lt-WORDS
returns-then-words-lt-WORDS c = says_few _ _ (sym (goal.at.returns-then-words-lt-WORDS c).After-open.«open».ensures.0 ∙ c.in-Ok.is) c.if-words-lt-WORDS.true

pub returns-in-Err : goal.returns-in-Err
returns-in-Err c = says_refused _ _ _ (sym (goal.at.returns-in-Err c).After-open.«open».ensures.0 ∙ c.in-Err.is) c.refused.ensures

pub returns-else-words-lt-WORDS : goal.returns-else-words-lt-WORDS
returns-else-words-lt-WORDS c = says_done _ _ (sym (goal.at.returns-else-words-lt-WORDS c).After-open.«open».ensures.0 ∙ c.in-Ok.is) c.if-words-lt-WORDS.false (goal.at.returns-else-words-lt-WORDS c).After-open.«open».ensures.1 c.put_all.ensures
