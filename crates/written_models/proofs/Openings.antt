-- Opening is refused with a number from 1 to 12: so no other number of a call is opening's, and 0 is none.
use mathlib.Core.List.{List}
use Prim.Native.Nat.{ℕ, ◌≤◌, ◌<◌}
use native.Mathlib.Omega.{arith}
use Rattle.written.specs.Bytes.{Span}
use Rattle.written.specs.Sections.{Parts}
use Rattle.written.specs.HeaderText.{Kind, Field, Entry}
use Rattle.written.specs.Groups.{Row, Group}
use Rattle.written.specs.Faults.{NoText, NoNumber, NoFlag, NoSecond, NoPair, NoList, Unreadable, NoValue, NoLine, NoSection, NoRow, NoGroup, NoGroups, Wrong, NoGlobal, NoStreams, NoPositions, NoHeader, Refused}

abbrev pub Low : ℕ → Type 0
Low n = (0 < n) × (n ≤ 12)

text_low : {s : List ℕ} {i n p : ℕ} → NoText s i n p → Low n
text_low (NoText.unclosed a e) = (omega arith, omega arith)

number_low : {s : List ℕ} {i n p : ℕ} → NoNumber s i n p → Low n
number_low (NoNumber.over e) = (omega arith, omega arith)
number_low (NoNumber.no_digit l e) = (omega arith, omega arith)
number_low (NoNumber.too_large d l) = (omega arith, omega arith)

flag_low : {s : List ℕ} {i n p : ℕ} → NoFlag s i n p → Low n
flag_low (NoFlag.over e) = (omega arith, omega arith)
flag_low (NoFlag.other l e) = (omega arith, omega arith)

second_low : {D s : List ℕ} {i n p : ℕ} → NoSecond D s i n p → Low n
second_low (NoSecond.single e) = (omega arith, omega arith)
second_low (NoSecond.unsplit a e) = (omega arith, omega arith)
second_low (NoSecond.second a e) = number_low e

pair_low : {D s : List ℕ} {i n p : ℕ} → NoPair D s i n p → Low n
pair_low (NoPair.empty e) = (omega arith, omega arith)
pair_low (NoPair.first a l e) = number_low e
pair_low (NoPair.behind l a e) = second_low e

list_low : {A : Type 0} {Item : ℕ → A → ℕ → Type 0} {NoItem : ℕ → ℕ → ℕ → Type 0} {D s : List ℕ} {i n p : ℕ}
    → ((m n p : ℕ) → NoItem m n p → Low n) → NoList Item NoItem D s i n p → Low n
list_low f (NoList.item {m = m} {n = n} {p = p} a l b e) = f m n p e
list_low f (NoList.unsplit a l b e c d) = (omega arith, omega arith)

value_low : {D s : List ℕ} {i n p : ℕ} {t : Kind} → Unreadable D s i t n p → Low n
value_low (Unreadable.no_string e) = text_low e
value_low (Unreadable.no_number e) = number_low e
value_low (Unreadable.no_bool e) = flag_low e
value_low (Unreadable.no_strings e) = list_low (λ m n p x. text_low x) e
value_low (Unreadable.no_pair e) = pair_low e
value_low (Unreadable.no_pairs e) = list_low (λ m n p x. pair_low x) e
value_low (Unreadable.no_present a e) = pair_low e

behind_low : {T : List Field} {s w : List ℕ} {k n p : ℕ} → NoValue T s w k n p → Low n
behind_low (NoValue.over e) = (omega arith, omega arith)
behind_low (NoValue.unsplit l a) = (omega arith, omega arith)
behind_low (NoValue.value a e) = value_low e
behind_low (NoValue.unended a r e) = (omega arith, omega arith)

line_low : {T : List Field} {xs : List Entry} {s : List ℕ} {i n p : ℕ} → NoLine T xs s i n p → Low n
line_low (NoLine.key e) = text_low e
line_low (NoLine.repeated k r) = (omega arith, omega arith)
line_low (NoLine.behind k r e) = behind_low e

section_low : {T : List Field} {s : List ℕ} {i n p : ℕ} → NoSection T s i n p → Low n
section_low x = line_low x.wrong

row_low : {T : List Field} {s : List ℕ} {before : List Row} {r : Row} {n p : ℕ} → NoRow T s before r n p → Low n
row_low (NoRow.repeated e r) = (omega arith, omega arith)
row_low (NoRow.value e r u) = value_low u

group_low : {T : List Field} {s : List ℕ} {rows : List Row} {n p : ℕ} → NoGroup T s rows n p → Low n
group_low (NoGroup.bad_row before after r e x) = row_low x
group_low (NoGroup.missing e m) = (omega arith, omega arith)

groups_low : {T : List Field} {s : List ℕ} {gs : List Group} {n p : ℕ} → NoGroups T s gs n p → Low n
groups_low (NoGroups.here x) = group_low x
groups_low (NoGroups.later s x) = groups_low x

wrong_low : {T G : List Field} {file : List ℕ} {x : Span} {n p : ℕ} → Wrong T G file x n p → Low n
wrong_low (Wrong.utf8 b) = (omega arith, omega arith)
wrong_low (Wrong.lines o s) = section_low s
wrong_low (Wrong.missing o s m) = (omega arith, omega arith)
wrong_low (Wrong.groups o s m g e) = groups_low e

header_low : {file : List ℕ} {x : Parts} {n p : ℕ} → NoHeader file x n p → Low n
header_low (NoHeader.no_global (NoGlobal.wrong w)) = wrong_low w
header_low (NoHeader.no_global (NoGlobal.too_many g f)) = (omega arith, omega arith)
header_low (NoHeader.no_streams g f (NoStreams.wrong w)) = wrong_low w
header_low (NoHeader.no_streams g f (NoStreams.too_many s e)) = (omega arith, omega arith)
header_low (NoHeader.no_positions g f s e (NoPositions.wrong w)) = wrong_low w
header_low (NoHeader.no_positions g f s e (NoPositions.too_many t u)) = (omega arith, omega arith)

-- every refusal of opening
pub refused_low : {file : List ℕ} {n p : ℕ} → Refused file n p → Low n
refused_low (Refused.too_long l) = (omega arith, omega arith)
refused_low (Refused.unsplit l s) = (omega arith, omega arith)
refused_low (Refused.sections l s e) = header_low e
