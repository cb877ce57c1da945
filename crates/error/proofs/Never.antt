-- 02, Wish 14: 11 is nobody's number.
use mathlib.Core.Path.{◌≡◌}
use native.Mathlib.Omega.{arith}
use Rattle.error.specs.Numbers.{number_of}
use Rattle.error.specs.declared.LinkFault.TheVariants.{NodeRef, QuestionRef, LoneNode}
use Rattle.error.specs.declared.Refusal.{Refusal}
use Rattle.error.specs.declared.Refusal.TheVariants.{Split, Utf8, Eof, ExpectedBool, ExpectedInteger, ExpectedArrayComma, ExpectedMapColon, ExpectedMapNewline, Field, Number, Limit, NoPosition, NoStream, UseGv, Range, Text, State, Block, Room, Unlinked, WalkTable, Steps, NoTrailer, TrailerSum, TrailerRows, Held, OtherRows}

pub never_11 : (r : Refusal) → ¬ (number_of r ≡ 11)
never_11 Split e = omega (arith, e)
never_11 (Utf8 p) e = omega (arith, e)
never_11 (Eof p) e = omega (arith, e)
never_11 (ExpectedBool p) e = omega (arith, e)
never_11 (ExpectedInteger p) e = omega (arith, e)
never_11 (ExpectedArrayComma p) e = omega (arith, e)
never_11 (ExpectedMapColon p) e = omega (arith, e)
never_11 (ExpectedMapNewline p) e = omega (arith, e)
never_11 Field e = omega (arith, e)
never_11 (Number p) e = omega (arith, e)
never_11 Limit e = omega (arith, e)
never_11 NoPosition e = omega (arith, e)
never_11 NoStream e = omega (arith, e)
never_11 UseGv e = omega (arith, e)
never_11 Range e = omega (arith, e)
never_11 (Text p) e = omega (arith, e)
never_11 State e = omega (arith, e)
never_11 Block e = omega (arith, e)
never_11 Room e = omega (arith, e)
never_11 (Unlinked NodeRef t k) e = omega (arith, e)
never_11 (Unlinked QuestionRef t k) e = omega (arith, e)
never_11 (Unlinked LoneNode t k) e = omega (arith, e)
never_11 WalkTable e = omega (arith, e)
never_11 Steps e = omega (arith, e)
never_11 NoTrailer e = omega (arith, e)
never_11 TrailerSum e = omega (arith, e)
never_11 TrailerRows e = omega (arith, e)
never_11 Held e = omega (arith, e)
never_11 OtherRows e = omega (arith, e)
