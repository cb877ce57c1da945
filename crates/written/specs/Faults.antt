-- What is wrong with a file: for each refusal of opening, 1 to 10 and 12, when it is the answer and at which place. From 01's 'Numbers the loader gives'.
-- A fault of reading is: the longest good beginning (of items, lines, rows, groups), and what stands after it. Which of two things wrong at one place counts
-- first (a repeated key before its missing colon, 2 before all else, 9 for missing fields before the groups, 12 last) is 01's order and is written as such.
use Rattle.std.specs.Prelude.{◌≡◌, true, false, ℕ, ◌+◌, ◌-◌, ◌^◌, ◌≤◌, ◌<◌, length, get_or}
use mathlib.Core.List.{List, [], ◌∷◌, ◌++◌, Memᴰ}
use Rattle.written.specs.Bytes.{newline, quote, comma, dash, colon, digit, is_newline, one_of, none_of, At, Each, Ends, part, Span, decimal}
use Rattle.written.specs.Rfc3629.{Octets, FirstBad}
use Rattle.written.specs.Sections.{Parts, Sections}
use Rattle.written.specs.HeaderText.{Text, Digits, Number, Led, Range, Pair, Many, Passed, Kind, a_string, a_number, a_bool, strings, a_pair, pairs, perhaps_a_pair, Field, kind_of, Entry, values_of, Distinct, Key, NextLine, Value, Reads, Section}
use Rattle.written.specs.Groups.{Row, Group, alone, Entries}
use Rattle.written.specs.Record.{Global, Stream, Position, global_fields, stream_fields, stream_group, position_fields, position_group, up_to, GroupsOf, GlobalText, StreamText, PositionText, file_limit, GlobalFits, StreamsFit, PositionsFit}

-- ---- 3 to 6, 9 and 10 in values; the two numbers are the refusal and its place

-- 3: a quote that is not closed, at the end
pub data NoText (s : List ℕ) (i : ℕ) : ℕ → ℕ → Type 0 where
  unclosed : At s i quote → Each (none_of (quote ∷ [])) s (i + 1) (length s) → NoText s i 3 (length s)

-- 3: the end; 5: another byte than a digit; 10: a number of 2^64 or more, at its first digit
pub data NoNumber (s : List ℕ) (i : ℕ) : ℕ → ℕ → Type 0 where
  over : i ≡ length s → NoNumber s i 3 (length s)
  no_digit : i < length s → digit (get_or s i 0) ≡ false → NoNumber s i 5 i
  too_large : {j : ℕ} → Digits s i j → 2 ^ 64 ≤ decimal 0 (part s i (j - i)) → NoNumber s i 10 i

-- 3: the end; 4: neither 0 nor 1
pub data NoFlag (s : List ℕ) (i : ℕ) : ℕ → ℕ → Type 0 where
  over : i ≡ length s → NoFlag s i 3 (length s)
  other : i < length s → one_of (48 ∷ 49 ∷ []) (get_or s i 0) ≡ false → NoFlag s i 4 i

-- behind the first number of a pair: an open delimiter or the end (9), another byte than "-" (6), or "-" and then no number
pub data NoSecond (D s : List ℕ) (i : ℕ) : ℕ → ℕ → Type 0 where
  single : Ends (one_of D) s i → NoSecond D s i 9 0
  unsplit : ¬ At s i dash → ¬ Ends (one_of D) s i → NoSecond D s i 6 i
  second : {n p : ℕ} → At s i dash → NoNumber s (i + 1) n p → NoSecond D s i n p

-- no pair: an open delimiter or the end (9), no first number, or what stands behind it
pub data NoPair (D s : List ℕ) (i : ℕ) : ℕ → ℕ → Type 0 where
  empty : Ends (one_of D) s i → NoPair D s i 9 0
  first : {k n p : ℕ} → ¬ Ends (one_of D) s i → Led dash s i k → NoNumber s k n p → NoPair D s i n p
  behind : {k a m n p : ℕ} → Led dash s i k → Number s k a m → NoSecond D s m n p → NoPair D s i n p

-- after the items that have a comma behind them: an item with a fault; or 6: an item, and behind it neither a comma nor an open delimiter nor the end
pub data NoList {A : Type 0} (Item : ℕ → A → ℕ → Type 0) (NoItem : ℕ → ℕ → ℕ → Type 0) (D s : List ℕ) (i : ℕ) : ℕ → ℕ → Type 0 where
  item :
      {k m n p : ℕ} {before : List A} → ¬ Ends (one_of D) s i → Led comma s i k → Many (Passed Item s) k before m → NoItem m n p → NoList Item NoItem D s i n p
  unsplit :
      {k m j : ℕ} {before : List A} {a : A} → ¬ Ends (one_of D) s i → Led comma s i k → Many (Passed Item s) k before m → Item m a j → ¬ At s j comma
      → ¬ Ends (one_of D) s j → NoList Item NoItem D s i 6 j

pub data Unreadable (D s : List ℕ) (i : ℕ) : Kind → ℕ → ℕ → Type 0 where
  no_string : {n p : ℕ} → NoText s i n p → Unreadable D s i a_string n p
  no_number : {n p : ℕ} → NoNumber s i n p → Unreadable D s i a_number n p
  no_bool : {n p : ℕ} → NoFlag s i n p → Unreadable D s i a_bool n p
  no_strings : {n p : ℕ} → NoList (Text (comma ∷ D) s) (NoText s) D s i n p → Unreadable D s i strings n p
  no_pair : {n p : ℕ} → NoPair D s i n p → Unreadable D s i a_pair n p
  no_pairs : {n p : ℕ} → NoList (Pair s) (NoPair (comma ∷ D) s) D s i n p → Unreadable D s i pairs n p
  no_present : {n p : ℕ} → ¬ Ends is_newline s i → NoPair D s i n p → Unreadable D s i perhaps_a_pair n p

-- ---- 3 and 7 to 9 in lines

-- the key w is a field that stands in xs
pub record Repeats (T : List Field) (xs : List Entry) (w : List ℕ) : Type 0 where
  pub field : Field
  pub of_table : Memᴰ field T
  pub same_name : field.name ≡ w
  pub before : 0 < length (values_of w xs)

-- behind the key w: the end (3); another byte than ":" (7); a value with a fault; or a value, and behind it neither a newline nor the end (8)
pub data NoValue (T : List Field) (s : List ℕ) (w : List ℕ) (k : ℕ) : ℕ → ℕ → Type 0 where
  over : k ≡ length s → NoValue T s w k 3 (length s)
  unsplit : k < length s → ¬ At s k colon → NoValue T s w k 7 k
  value : {n p : ℕ} → At s k colon → Unreadable (newline ∷ []) s (k + 1) (kind_of T w) n p → NoValue T s w k n p
  unended : {v : Value} {j : ℕ} → At s k colon → Reads (newline ∷ []) s (k + 1) (kind_of T w) v j → ¬ Ends is_newline s j → NoValue T s w k 8 j

-- what stands at i is no line after the lines xs: its key's quote is not closed (3); its key repeats a field (9, refused at its key); or what stands behind its key
pub data NoLine (T : List Field) (xs : List Entry) (s : List ℕ) (i : ℕ) : ℕ → ℕ → Type 0 where
  key : {n p : ℕ} → NoText s i n p → NoLine T xs s i n p
  repeated : {at k : ℕ} {w : List ℕ} → Key s i at w k → Repeats T xs w → NoLine T xs s i 9 0
  behind : {at k n p : ℕ} {w : List ℕ} → Key s i at w k → ¬ Repeats T xs w → NoValue T s w k n p → NoLine T xs s i n p

-- good lines up to k, blank ones up to m, and what stands there, which is not blank, is no line
pub record NoSection (T : List Field) (s : List ℕ) (i n p : ℕ) : Type 0 where
  pub k : ℕ
  pub m : ℕ
  pub xs : List Entry
  pub lines : Many (NextLine T s) i xs k
  pub distinct : Distinct T xs
  pub blank : Each is_newline s k m
  pub here : ¬ Ends is_newline s m
  pub wrong : NoLine T xs s m n p

-- ---- 9: a required field has no entry

pub record Missing (T : List Field) (xs : List Entry) : Type 0 where
  pub field : Field
  pub of_table : Memᴰ field T
  pub required : field.required ≡ true
  pub nowhere : values_of field.name xs ≡ []

-- ---- groups

-- after the rows `before`, which are good, a row that repeats a field, or whose value has a fault
pub data NoRow (T : List Field) (s : List ℕ) (before : List Row) (r : Row) : ℕ → ℕ → Type 0 where
  repeated : {xs : List Entry} → Entries T s before xs → Repeats T xs r.field → NoRow T s before r 9 0
  value :
      {xs : List Entry} {n p : ℕ} → Entries T s before xs → ¬ Repeats T xs r.field → Unreadable [] (alone s r) r.value.start (kind_of T r.field) n p
      → NoRow T s before r n p

-- good rows and then a bad one; or all rows are good, and a field is missing (9)
pub data NoGroup (T : List Field) (s : List ℕ) (rows : List Row) : ℕ → ℕ → Type 0 where
  bad_row : {n p : ℕ} (before after : List Row) (r : Row) → rows ≡ before ++ (r ∷ after) → NoRow T s before r n p → NoGroup T s rows n p
  missing : {xs : List Entry} → Entries T s rows xs → Missing T xs → NoGroup T s rows 9 0

-- a group without fault
pub record Sound (T : List Field) (s : List ℕ) (g : Group) : Type 0 where
  pub xs : List Entry
  pub entries : Entries T s g.rows xs
  pub whole : ¬ Missing T xs

-- by first appearance: groups without fault, then one with
pub data NoGroups (T : List Field) (s : List ℕ) : List Group → ℕ → ℕ → Type 0 where
  here : {g : Group} {gs : List Group} {n p : ℕ} → NoGroup T s g.rows n p → NoGroups T s (g ∷ gs) n p
  later : {g : Group} {gs : List Group} {n p : ℕ} → Sound T s g → NoGroups T s gs n p → NoGroups T s (g ∷ gs) n p

-- ---- a section: 2 first, then reading order, then 9 for missing fields, then the groups

-- T: the section's fields; G: those of its groups
pub data Wrong (T G : List Field) (file : List ℕ) (x : Span) : ℕ → ℕ → Type 0 where
  utf8 : {q : ℕ} → FirstBad (part file x.start x.len) q → Wrong T G file x 2 (x.start + q)
  lines : {n p : ℕ} → Octets (part file x.start x.len) → NoSection T (up_to file x) x.start n p → Wrong T G file x n p
  missing : {xs : List Entry} → Octets (part file x.start x.len) → Section T (up_to file x) x.start xs → Missing T xs → Wrong T G file x 9 0
  groups :
      {xs : List Entry} {gs : List Group} {n p : ℕ} → Octets (part file x.start x.len) → Section T (up_to file x) x.start xs → ¬ Missing T xs
      → GroupsOf xs gs → NoGroups G (up_to file x) gs n p → Wrong T G file x n p

-- ---- opening: the file limit; 1; then Global, Stream, Position in turn, each with its limits on counts (12) last

-- [GLOBAL] has no groups: a bracketed key is an unknown one
pub data NoGlobal (file : List ℕ) (x : Span) : ℕ → ℕ → Type 0 where
  wrong : {n p : ℕ} → Wrong global_fields [] file x n p → NoGlobal file x n p
  too_many : {g : Global} → GlobalText file x g → ¬ GlobalFits g → NoGlobal file x 12 0

pub data NoStreams (file : List ℕ) (x : Span) : ℕ → ℕ → Type 0 where
  wrong : {n p : ℕ} → Wrong stream_fields stream_group file x n p → NoStreams file x n p
  too_many : {ds : List Stream} → StreamText file x ds → ¬ StreamsFit ds → NoStreams file x 12 0

pub data NoPositions (file : List ℕ) (x : Span) : ℕ → ℕ → Type 0 where
  wrong : {n p : ℕ} → Wrong position_fields position_group file x n p → NoPositions file x n p
  too_many : {pdf tree : Range} {ds : List Position} → PositionText file x pdf tree ds → ¬ PositionsFit ds → NoPositions file x 12 0

-- the first of the three sections that is refused
pub data NoHeader (file : List ℕ) (x : Parts) : ℕ → ℕ → Type 0 where
  no_global : {n p : ℕ} → NoGlobal file x.global n p → NoHeader file x n p
  no_streams : {g : Global} {n p : ℕ} → GlobalText file x.global g → GlobalFits g → NoStreams file x.stream n p → NoHeader file x n p
  no_positions :
      {g : Global} {ds : List Stream} {n p : ℕ} → GlobalText file x.global g → GlobalFits g → StreamText file x.stream ds → StreamsFit ds
      → NoPositions file x.position n p → NoHeader file x n p

pub data Refused (file : List ℕ) : ℕ → ℕ → Type 0 where
  too_long : file_limit < length file → Refused file 12 0
  unsplit : length file ≤ file_limit → ((x : Parts) → ¬ Sections file x) → Refused file 1 0
  sections : {x : Parts} {n p : ℕ} → length file ≤ file_limit → Sections file x → NoHeader file x n p → Refused file n p
