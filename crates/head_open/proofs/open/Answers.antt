-- `head_open::open` meets its contract.
use mathlib.Core.Path.{refl, sym, ◌∙◌}
use borrow.Author.Tests.{lt-ltb, le-ltb}
use Rattle.head_open.specs.Open.{refused_with, open_of}
use Rattle.head_open.specs.Left.{open_left}
use Rattle.head_open.proofs.Inside.{split_inside}
use Rattle.head_open.proofs.open.Goals as goal

pub returns-then-file-gt-FILE_LIMIT : goal.returns-then-file-gt-FILE_LIMIT
unfolding open_of open_left refused_with
returns-then-file-gt-FILE_LIMIT c = rw (lt-ltb _ _ c.if-file-gt-FILE_LIMIT.true) (refl, refl)

pub open_parts-requires : goal.open_parts-requires
open_parts-requires c = (split_inside _ _ (sym c.split_sections.ensures ∙ c.in-Some.is), c.requires)

pub returns-in-None : goal.returns-in-None
unfolding open_of open_left refused_with
returns-in-None c = rw (le-ltb _ _ c.if-file-gt-FILE_LIMIT.false, sym c.split_sections.ensures ∙ c.in-None.is) (refl, refl)

pub returns-in-Some : goal.returns-in-Some
unfolding open_of open_left
returns-in-Some c = rw (le-ltb _ _ c.if-file-gt-FILE_LIMIT.false, sym c.split_sections.ensures ∙ c.in-Some.is) c.open_parts.ensures
