-- 01's 'Numbers the loader gives': the number, the place and the line of each refusal. Where 01 says 0, 0. 11 is retired (02, Wish 14). 26 to 29 and 37 are 02's.
use Rattle.std.specs.Prelude.{ℕ}
use Rattle.error.specs.declared.LinkFault.{LinkFault}
use Rattle.error.specs.declared.LinkFault.TheVariants.{NodeRef, QuestionRef, LoneNode}
use Rattle.error.specs.declared.Refusal.{Refusal}
use Rattle.error.specs.declared.Told.{Told}
use Rattle.error.specs.declared.Refusal.TheVariants.{Split, Utf8, Eof, ExpectedBool, ExpectedInteger, ExpectedArrayComma, ExpectedMapColon, ExpectedMapNewline, Field, Number, Limit, NoPosition, NoStream, UseGv, Range, Text, State, Block, Room, Unlinked, WalkTable, Steps, NoTrailer, TrailerSum, TrailerRows, Held, OtherRows}
use Rattle.error.specs.declared.LineFault.{LineFault}

abbrev pub line_fault : LinkFault → ℕ → LineFault
line_fault f l = record { fault = f; line = l }

abbrev pub fault_number : LinkFault → ℕ
fault_number NodeRef = 21
fault_number QuestionRef = 22
fault_number LoneNode = 23

abbrev pub number_of : Refusal → ℕ
number_of Split = 1
number_of (Utf8 p) = 2
number_of (Eof p) = 3
number_of (ExpectedBool p) = 4
number_of (ExpectedInteger p) = 5
number_of (ExpectedArrayComma p) = 6
number_of (ExpectedMapColon p) = 7
number_of (ExpectedMapNewline p) = 8
number_of Field = 9
number_of (Number p) = 10
number_of Limit = 12
number_of NoPosition = 13
number_of NoStream = 14
number_of UseGv = 15
number_of Range = 16
number_of (Text p) = 17
number_of State = 18
number_of Block = 19
number_of Room = 20
number_of (Unlinked f t k) = fault_number f
number_of WalkTable = 24
number_of Steps = 25
number_of NoTrailer = 26
number_of TrailerSum = 27
number_of TrailerRows = 28
number_of Held = 29
number_of OtherRows = 37

-- 2 to 8 and 10: a file offset; 17: an offset into the data (02, Wish 2); 21 to 23: the tree
abbrev pub place_of : Refusal → ℕ
place_of Split = 0
place_of (Utf8 p) = p
place_of (Eof p) = p
place_of (ExpectedBool p) = p
place_of (ExpectedInteger p) = p
place_of (ExpectedArrayComma p) = p
place_of (ExpectedMapColon p) = p
place_of (ExpectedMapNewline p) = p
place_of Field = 0
place_of (Number p) = p
place_of Limit = 0
place_of NoPosition = 0
place_of NoStream = 0
place_of UseGv = 0
place_of Range = 0
place_of (Text p) = p
place_of State = 0
place_of Block = 0
place_of Room = 0
place_of (Unlinked f t k) = t
place_of WalkTable = 0
place_of Steps = 0
place_of NoTrailer = 0
place_of TrailerSum = 0
place_of TrailerRows = 0
place_of Held = 0
place_of OtherRows = 0

-- 21 to 23: the line
abbrev pub line_of : Refusal → ℕ
line_of Split = 0
line_of (Utf8 p) = 0
line_of (Eof p) = 0
line_of (ExpectedBool p) = 0
line_of (ExpectedInteger p) = 0
line_of (ExpectedArrayComma p) = 0
line_of (ExpectedMapColon p) = 0
line_of (ExpectedMapNewline p) = 0
line_of Field = 0
line_of (Number p) = 0
line_of Limit = 0
line_of NoPosition = 0
line_of NoStream = 0
line_of UseGv = 0
line_of Range = 0
line_of (Text p) = 0
line_of State = 0
line_of Block = 0
line_of Room = 0
line_of (Unlinked f t k) = k
line_of WalkTable = 0
line_of Steps = 0
line_of NoTrailer = 0
line_of TrailerSum = 0
line_of TrailerRows = 0
line_of Held = 0
line_of OtherRows = 0

-- all three
abbrev pub told_of : Refusal → Told
told_of r = record { number = number_of r; place = place_of r; line = line_of r }
