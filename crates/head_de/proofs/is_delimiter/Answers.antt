-- `head_de::is_delimiter` meets its contract.
use Rattle.written.specs.Bytes.{one_of}
use borrow.Author.Tests.{eq-eqb, ne_eqb}
use mathlib.Core.Bool.{Bool, true, false, ◌||◌}
use mathlib.Core.Path.{◌≡◌, refl}
use Rattle.head_de.proofs.is_delimiter.Goals as goal

-- a test with nothing to add
or_none : (b : Bool) → b ≡ (b || false)
or_none true = refl
or_none false = refl

pub returns-in-Nothing : goal.returns-in-Nothing
unfolding one_of
returns-in-Nothing c = rw c.in-Nothing.is

pub returns-in-Newline : goal.returns-in-Newline
unfolding one_of
returns-in-Newline c = rw c.in-Newline.is (or_none _)

pub returns-then-b-eq10 : goal.returns-then-b-eq10
unfolding one_of
returns-then-b-eq10 c = rw (c.in-NewlineColon.is, eq-eqb _ _ c.if-b-eq10.true)

pub returns-else-b-eq10 : goal.returns-else-b-eq10
unfolding one_of
returns-else-b-eq10 c = rw (c.in-NewlineColon.is, ne_eqb _ _ c.if-b-eq10.false) (or_none _)

pub returns-in-Comma : goal.returns-in-Comma
unfolding one_of
returns-in-Comma c = rw c.in-Comma.is (or_none _)

pub returns-then-b-eq44 : goal.returns-then-b-eq44
unfolding one_of
returns-then-b-eq44 c = rw (c.in-CommaNewline.is, eq-eqb _ _ c.if-b-eq44.true)

pub returns-else-b-eq44 : goal.returns-else-b-eq44
unfolding one_of
returns-else-b-eq44 c = rw (c.in-CommaNewline.is, ne_eqb _ _ c.if-b-eq44.false) (or_none _)

pub returns-in-Quote : goal.returns-in-Quote
unfolding one_of
returns-in-Quote c = rw c.in-Quote.is (or_none _)

pub returns-in-Bracket : goal.returns-in-Bracket
unfolding one_of
returns-in-Bracket c = rw c.in-Bracket.is (or_none _)
