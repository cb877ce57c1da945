-- 02, Wish 14: no file is refused with 11. A header section is read to its last byte (`Section` ends in newlines up to the end of its text) or refused with another number.
use mathlib.Core.Path.{◌≡◌}
use mathlib.Core.List.{List}
use mathlib.Core.Logic.{◌⊎◌, inl, inr}
use Prim.Native.Nat.{ℕ, ◌≤◌}
use lib.ListN.{length}
use native.Mathlib.Omega.{arith}
use Rattle.written.specs.Bytes.{Span}
use Rattle.written.specs.Sections.{Parts}
use Rattle.written.specs.HeaderText.{Kind, Field, Entry, Section}
use Rattle.written.specs.Groups.{Row, Group}
use Rattle.written.specs.Faults.{NoText, NoNumber, NoFlag, NoSecond, NoPair, NoList, Unreadable, NoValue, NoLine, NoSection, NoRow, NoGroup, NoGroups, Wrong, NoGlobal, NoStreams, NoPositions, NoHeader, Refused}
use Rattle.written_total.proofs.Total.{SectionAt, section, refused, section_total}

abbrev pub Other : ℕ → Type 0
Other n = ¬ (n ≡ 11)

text_other : {s : List ℕ} {i n p : ℕ} → NoText s i n p → Other n
text_other (NoText.unclosed a e) h = omega (arith, h)

number_other : {s : List ℕ} {i n p : ℕ} → NoNumber s i n p → Other n
number_other (NoNumber.over e) h = omega (arith, h)
number_other (NoNumber.no_digit l e) h = omega (arith, h)
number_other (NoNumber.too_large d l) h = omega (arith, h)

flag_other : {s : List ℕ} {i n p : ℕ} → NoFlag s i n p → Other n
flag_other (NoFlag.over e) h = omega (arith, h)
flag_other (NoFlag.other l e) h = omega (arith, h)

second_other : {D s : List ℕ} {i n p : ℕ} → NoSecond D s i n p → Other n
second_other (NoSecond.single e) h = omega (arith, h)
second_other (NoSecond.unsplit a e) h = omega (arith, h)
second_other (NoSecond.second a e) h = number_other e h

pair_other : {D s : List ℕ} {i n p : ℕ} → NoPair D s i n p → Other n
pair_other (NoPair.empty e) h = omega (arith, h)
pair_other (NoPair.first a l e) h = number_other e h
pair_other (NoPair.behind l a e) h = second_other e h

list_other : {A : Type 0} {Item : ℕ → A → ℕ → Type 0} {NoItem : ℕ → ℕ → ℕ → Type 0} {D s : List ℕ} {i n p : ℕ}
    → ((m n p : ℕ) → NoItem m n p → Other n) → NoList Item NoItem D s i n p → Other n
list_other f (NoList.item {m = m} {n = n} {p = p} a l b e) h = f m n p e h
list_other f (NoList.unsplit a l b e c d) h = omega (arith, h)

value_other : {D s : List ℕ} {i n p : ℕ} {t : Kind} → Unreadable D s i t n p → Other n
value_other (Unreadable.no_string e) h = text_other e h
value_other (Unreadable.no_number e) h = number_other e h
value_other (Unreadable.no_bool e) h = flag_other e h
value_other (Unreadable.no_strings e) h = list_other (λ m n p x. text_other x) e h
value_other (Unreadable.no_pair e) h = pair_other e h
value_other (Unreadable.no_pairs e) h = list_other (λ m n p x. pair_other x) e h
value_other (Unreadable.no_present a e) h = pair_other e h

behind_other : {T : List Field} {s w : List ℕ} {k n p : ℕ} → NoValue T s w k n p → Other n
behind_other (NoValue.over e) h = omega (arith, h)
behind_other (NoValue.unsplit l a) h = omega (arith, h)
behind_other (NoValue.value a e) h = value_other e h
behind_other (NoValue.unended a r e) h = omega (arith, h)

line_other : {T : List Field} {xs : List Entry} {s : List ℕ} {i n p : ℕ} → NoLine T xs s i n p → Other n
line_other (NoLine.key e) h = text_other e h
line_other (NoLine.repeated k r) h = omega (arith, h)
line_other (NoLine.behind k r e) h = behind_other e h

pub section_other : {T : List Field} {s : List ℕ} {i n p : ℕ} → NoSection T s i n p → Other n
section_other x = line_other x.wrong

row_other : {T : List Field} {s : List ℕ} {before : List Row} {r : Row} {n p : ℕ} → NoRow T s before r n p → Other n
row_other (NoRow.repeated e r) h = omega (arith, h)
row_other (NoRow.value e r u) h = value_other u h

group_other : {T : List Field} {s : List ℕ} {rows : List Row} {n p : ℕ} → NoGroup T s rows n p → Other n
group_other (NoGroup.bad_row before after r e x) h = row_other x h
group_other (NoGroup.missing e m) h = omega (arith, h)

groups_other : {T : List Field} {s : List ℕ} {gs : List Group} {n p : ℕ} → NoGroups T s gs n p → Other n
groups_other (NoGroups.here x) h = group_other x h
groups_other (NoGroups.later s x) h = groups_other x h

wrong_other : {T G : List Field} {file : List ℕ} {x : Span} {n p : ℕ} → Wrong T G file x n p → Other n
wrong_other (Wrong.utf8 b) h = omega (arith, h)
wrong_other (Wrong.lines o s) h = section_other s h
wrong_other (Wrong.missing o s m) h = omega (arith, h)
wrong_other (Wrong.groups o s m g e) h = groups_other e h

header_other : {file : List ℕ} {x : Parts} {n p : ℕ} → NoHeader file x n p → Other n
header_other (NoHeader.no_global (NoGlobal.wrong w)) h = wrong_other w h
header_other (NoHeader.no_global (NoGlobal.too_many g f)) h = omega (arith, h)
header_other (NoHeader.no_streams g f (NoStreams.wrong w)) h = wrong_other w h
header_other (NoHeader.no_streams g f (NoStreams.too_many s e)) h = omega (arith, h)
header_other (NoHeader.no_positions g f s e (NoPositions.wrong w)) h = wrong_other w h
header_other (NoHeader.no_positions g f s e (NoPositions.too_many t u)) h = omega (arith, h)

-- no file is refused with 11
pub refused_other : {file : List ℕ} {n p : ℕ} → Refused file n p → Other n
refused_other (Refused.too_long l) h = omega (arith, h)
refused_other (Refused.unsplit l s) h = omega (arith, h)
refused_other (Refused.sections l s e) h = header_other e h

-- a header section is read to its last byte (`Section` ends in newlines up to the end of its text), or refused with another number
pub section_read_or_other : (T : List Field) (s : List ℕ) (i : ℕ) → i ≤ length s → ((xs : List Entry) × Section T s i xs) ⊎ ((n : ℕ) × (p : ℕ) × NoSection T s i n p × Other n)
section_read_or_other T s i h = go (section_total T s i h)
  where
    go : SectionAt T s i → ((xs : List Entry) × Section T s i xs) ⊎ ((n : ℕ) × (p : ℕ) × NoSection T s i n p × Other n)
    go (section xs x) = inl (xs, x)
    go (refused n p x) = inr (n, p, x, section_other x)
