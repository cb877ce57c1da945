-- `Refusal::told`: each arm says which case it was.
use mathlib.Core.Path.{◌≡◌, sym, ap, ◌∙◌}
use Prim.Native.Nat.{ℕ}
use Rattle.error.specs.Numbers.{fault_number, told_of}
use Rattle.error.specs.declared.LinkFault.{LinkFault}
use Rattle.error.specs.declared.Refusal.{Refusal}
use Rattle.error.specs.declared.Refusal.TheVariants.{Unlinked}
use Rattle.error.specs.declared.Told.{Told}
use Rattle.error.proofs.Refusal.told.Goals as goal

-- the number is that of the fault
unlinked : {t : Told} {r : Refusal} {f : LinkFault} {n i k : ℕ} → t ≡ (record { number = n; place = i; line = k }) → n ≡ fault_number f → r ≡ Unlinked f i k → t ≡ told_of r
unlinked {i = i} {k = k} e g h = e ∙ ap (λ (n : ℕ). record { number = n; place = i; line = k }) g ∙ ap told_of (sym h)

pub returns-in-Split : goal.returns-in-Split
returns-in-Split c = c.says.ensures ∙ ap told_of (sym c.in-Split.is)

pub returns-in-Utf8 : goal.returns-in-Utf8
returns-in-Utf8 c = c.says-in-Utf8.ensures ∙ ap told_of (sym c.in-Utf8.is)

pub returns-in-Eof : goal.returns-in-Eof
returns-in-Eof c = c.says-in-Eof.ensures ∙ ap told_of (sym c.in-Eof.is)

pub returns-in-ExpectedBool : goal.returns-in-ExpectedBool
returns-in-ExpectedBool c = c.says-in-ExpectedBool.ensures ∙ ap told_of (sym c.in-ExpectedBool.is)

pub returns-in-ExpectedInteger : goal.returns-in-ExpectedInteger
returns-in-ExpectedInteger c = c.says-in-ExpectedInteger.ensures ∙ ap told_of (sym c.in-ExpectedInteger.is)

pub returns-in-ExpectedArrayComma : goal.returns-in-ExpectedArrayComma
returns-in-ExpectedArrayComma c = c.says-in-ExpectedArrayComma.ensures ∙ ap told_of (sym c.in-ExpectedArrayComma.is)

pub returns-in-ExpectedMapColon : goal.returns-in-ExpectedMapColon
returns-in-ExpectedMapColon c = c.says-in-ExpectedMapColon.ensures ∙ ap told_of (sym c.in-ExpectedMapColon.is)

pub returns-in-ExpectedMapNewline : goal.returns-in-ExpectedMapNewline
returns-in-ExpectedMapNewline c = c.says-in-ExpectedMapNewline.ensures ∙ ap told_of (sym c.in-ExpectedMapNewline.is)

pub returns-in-Field : goal.returns-in-Field
returns-in-Field c = c.says-in-Field.ensures ∙ ap told_of (sym c.in-Field.is)

pub returns-in-Number : goal.returns-in-Number
returns-in-Number c = c.says-in-Number.ensures ∙ ap told_of (sym c.in-Number.is)

pub returns-in-Limit : goal.returns-in-Limit
returns-in-Limit c = c.says-in-Limit.ensures ∙ ap told_of (sym c.in-Limit.is)

pub returns-in-NoPosition : goal.returns-in-NoPosition
returns-in-NoPosition c = c.says-in-NoPosition.ensures ∙ ap told_of (sym c.in-NoPosition.is)

pub returns-in-NoStream : goal.returns-in-NoStream
returns-in-NoStream c = c.says-in-NoStream.ensures ∙ ap told_of (sym c.in-NoStream.is)

pub returns-in-UseGv : goal.returns-in-UseGv
returns-in-UseGv c = c.says-in-UseGv.ensures ∙ ap told_of (sym c.in-UseGv.is)

pub returns-in-Range : goal.returns-in-Range
returns-in-Range c = c.says-in-Range.ensures ∙ ap told_of (sym c.in-Range.is)

pub returns-in-Text : goal.returns-in-Text
returns-in-Text c = c.says-in-Text.ensures ∙ ap told_of (sym c.in-Text.is)

pub returns-in-State : goal.returns-in-State
returns-in-State c = c.says-in-State.ensures ∙ ap told_of (sym c.in-State.is)

pub returns-in-Block : goal.returns-in-Block
returns-in-Block c = c.says-in-Block.ensures ∙ ap told_of (sym c.in-Block.is)

pub returns-in-Room : goal.returns-in-Room
returns-in-Room c = c.says-in-Room.ensures ∙ ap told_of (sym c.in-Room.is)

pub returns-in-Unlinked : goal.returns-in-Unlinked
returns-in-Unlinked c = unlinked c.says-in-Unlinked.ensures c.number.ensures c.in-Unlinked.is

pub returns-in-WalkTable : goal.returns-in-WalkTable
returns-in-WalkTable c = c.says-in-WalkTable.ensures ∙ ap told_of (sym c.in-WalkTable.is)

pub returns-in-Steps : goal.returns-in-Steps
returns-in-Steps c = c.says-in-Steps.ensures ∙ ap told_of (sym c.in-Steps.is)

pub returns-in-NoTrailer : goal.returns-in-NoTrailer
returns-in-NoTrailer c = c.says-in-NoTrailer.ensures ∙ ap told_of (sym c.in-NoTrailer.is)

pub returns-in-TrailerSum : goal.returns-in-TrailerSum
returns-in-TrailerSum c = c.says-in-TrailerSum.ensures ∙ ap told_of (sym c.in-TrailerSum.is)

pub returns-in-TrailerRows : goal.returns-in-TrailerRows
returns-in-TrailerRows c = c.says-in-TrailerRows.ensures ∙ ap told_of (sym c.in-TrailerRows.is)

pub returns-in-Held : goal.returns-in-Held
returns-in-Held c = c.says-in-Held.ensures ∙ ap told_of (sym c.in-Held.is)

pub returns-in-OtherRows : goal.returns-in-OtherRows
returns-in-OtherRows c = c.says-in-OtherRows.ensures ∙ ap told_of (sym c.in-OtherRows.is)
