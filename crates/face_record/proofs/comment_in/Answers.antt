-- `face_record::comment_in`: by where it stands.
use mathlib.Core.Path.{◌∙◌}
use borrow.Author.Tests.{not-true, not-false}
use Rattle.face_record.proofs.Laws.{in_none, in_past, in_long, in_file}
use Rattle.face_record.proofs.comment_in.Goals as goal

pub returns-then-not-there : goal.returns-then-not-there
returns-then-not-there c = c.fallback_of.ensures ∙ in_none _ _ _ _ (not-true _ c.if-not-there.true-raw)

pub returns-then-file-start : goal.returns-then-file-start
returns-then-file-start c = c.fallback_of-then-file-start.ensures ∙ in_past _ _ _ _ (not-false _ c.if-not-there.false-raw) c.if-file-start.true

pub returns-then-file-start-2 : goal.returns-then-file-start-2
returns-then-file-start-2 c = c.fallback_of-then-file-start-2.ensures ∙ in_long _ _ _ _ (not-false _ c.if-not-there.false-raw) c.if-file-start.false c.if-file-start-2.true

pub returns : goal.returns
returns c = in_file _ _ _ _ (not-false _ c.if-not-there.false-raw) c.if-file-start.false c.if-file-start-2.false
