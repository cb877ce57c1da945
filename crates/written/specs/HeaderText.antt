-- Which header text is a string, a number, a bool, a list, a pair, a line, a section, and what it says. From 01's 'Header text'.
-- A text is read at a place i of s, with the delimiters D open (at most two), up to a place j; s ends where the section or the group value ends.
use Rattle.std.specs.Prelude.{◌≡◌, Bool, true, false, not, cond, ℕ, ◌+◌, ◌-◌, ◌^◌, ◌≤◌, ◌<◌, length}
use Rattle.std.proofs.Math.Option.{Option, some, none as nothing}
use mathlib.Core.List.{List, [], ◌∷◌, ◌++◌, Memᴰ}
use Rattle.written.specs.Bytes.{newline, quote, comma, dash, colon, digit, is_newline, one_of, none_of, same, At, Each, Ends, part, Span, decimal}

-- ---- strings, numbers, bools

-- A string opening with a quote runs to the next quote, newlines included; otherwise to an open delimiter or the end.
pub data Text (D s : List ℕ) (i : ℕ) (x : Span) (j : ℕ) : Type 0 where
  quoted :
      At s i quote → x.start ≡ i + 1 → Each (none_of (quote ∷ [])) s x.start (x.start + x.len) → At s (x.start + x.len) quote
      → j ≡ x.start + x.len + 1 → Text D s i x j
  bare : ¬ At s i quote → x.start ≡ i → Each (none_of D) s i j → Ends (one_of D) s j → j ≡ x.start + x.len → Text D s i x j

-- one digit or more, as far as they go
pub record Digits (s : List ℕ) (i j : ℕ) : Type 0 where
  pub some_digit : i < j
  pub digits : Each digit s i j
  pub far : Ends (λ b. not (digit b)) s j

-- a header number is below 2^64
pub record Number (s : List ℕ) (i n j : ℕ) : Type 0 where
  pub digits : Digits s i j
  pub says : decimal 0 (part s i (j - i)) ≡ n
  pub fits : n < 2 ^ 64

pub data Flag (s : List ℕ) (i : ℕ) (v : Bool) (j : ℕ) : Type 0 where
  zero : At s i 48 → v ≡ false → j ≡ i + 1 → Flag s i v j
  one : At s i 49 → v ≡ true → j ≡ i + 1 → Flag s i v j

-- an unknown key's value runs to the newline, quotes ignored
pub record Unknown (D s : List ℕ) (i : ℕ) (x : Span) (j : ℕ) : Type 0 where
  pub start : x.start ≡ i
  pub len : j ≡ x.start + x.len
  pub run : Each (none_of D) s i j
  pub ends : Ends (one_of D) s j

-- ---- pairs and lists

-- one leading delimiter d is swallowed
pub data Led (d : ℕ) (s : List ℕ) (i j : ℕ) : Type 0 where
  swallowed : At s i d → j ≡ i + 1 → Led d s i j
  plain : ¬ At s i d → j ≡ i → Led d s i j

-- a pair of numbers, split at "-"
pub record Range : Type 0 where
  pub from : ℕ
  pub to : ℕ

pub record Pair (s : List ℕ) (i : ℕ) (r : Range) (j : ℕ) : Type 0 where
  pub k : ℕ
  pub m : ℕ
  pub led : Led dash s i k
  pub first : Number s k r.from m
  pub split : At s m dash
  pub second : Number s (m + 1) r.to j

-- steps one after the other: from i up to k stand the things of a list
pub data Many {A : Type 0} (Step : ℕ → A → ℕ → Type 0) : ℕ → List A → ℕ → Type 0 where
  none : {i : ℕ} → Many Step i [] i
  more : {i j k : ℕ} {a : A} {l : List A} → Step i a j → Many Step j l k → Many Step i (a ∷ l) k

-- an item with a comma behind it
pub record Passed {A : Type 0} (Item : ℕ → A → ℕ → Type 0) (s : List ℕ) (i : ℕ) (a : A) (j : ℕ) : Type 0 where
  pub k : ℕ
  pub item : Item i a k
  pub behind : At s k comma
  pub next : j ≡ k + 1

-- Lists split at ",", and one leading comma is swallowed; empty text is no item. The last item has no comma behind it.
pub data Listed {A : Type 0} (Item : ℕ → A → ℕ → Type 0) (D s : List ℕ) (i : ℕ) : List A → ℕ → Type 0 where
  empty : Ends (one_of D) s i → Listed Item D s i [] i
  full :
      {k m j : ℕ} {before : List A} {a : A} → ¬ Ends (one_of D) s i → Led comma s i k → Many (Passed Item s) k before m → Item m a j → Ends (one_of D) s j
      → Listed Item D s i (before ++ (a ∷ [])) j

-- ---- values, by the kind that a key's field has

pub data Kind : Type 0 where
  a_string a_number a_bool strings a_pair pairs perhaps_a_pair anything : Kind

pub data Value : Type 0 where
  text : Span → Value
  number : ℕ → Value
  flag : Bool → Value
  texts : List Span → Value
  range : Range → Value
  ranges : List Range → Value
  perhaps : Option Range → Value
  unread : Span → Value

pub data Reads (D s : List ℕ) (i : ℕ) : Kind → Value → ℕ → Type 0 where
  is_string : {x : Span} {j : ℕ} → Text D s i x j → Reads D s i a_string (text x) j
  is_number : {n j : ℕ} → Number s i n j → Reads D s i a_number (number n) j
  is_bool : {v : Bool} {j : ℕ} → Flag s i v j → Reads D s i a_bool (flag v) j
  are_strings : {l : List Span} {j : ℕ} → Listed (Text (comma ∷ D) s) D s i l j → Reads D s i strings (texts l) j
  is_pair : {r : Range} {j : ℕ} → Pair s i r j → Reads D s i a_pair (range r) j
  are_pairs : {l : List Range} {j : ℕ} → Listed (Pair s) D s i l j → Reads D s i pairs (ranges l) j
  -- an empty GV_PDF or GV_TREE counts as absent
  is_absent : Ends is_newline s i → Reads D s i perhaps_a_pair (perhaps nothing) i
  is_present : {r : Range} {j : ℕ} → ¬ Ends is_newline s i → Pair s i r j → Reads D s i perhaps_a_pair (perhaps (some r)) j
  is_unknown : {x : Span} {j : ℕ} → Unknown D s i x j → Reads D s i anything (unread x) j

-- ---- fields, lines, sections

-- a field: its key, how its value is read, whether it must be there
pub record Field : Type 0 where
  pub name : List ℕ
  pub kind : Kind
  pub required : Bool

-- how the value of a key is read: as its field says, or as of an unknown key
unfoldable pub kind_of : List Field → List ℕ → Kind
kind_of [] w = anything
kind_of (f ∷ T) w = cond (same f.name w) f.kind (kind_of T w)

-- what a line says: a key, which starts at `at`, and a value
pub record Entry : Type 0 where
  pub at : ℕ
  pub name : List ℕ
  pub value : Value

-- the values of a key, in order
unfoldable pub values_of : List ℕ → List Entry → List Value
values_of w [] = []
values_of w (x ∷ xs) = cond (same w x.name) (x.value ∷ values_of w xs) (values_of w xs)

-- no field stands twice
pub record Distinct (T : List Field) (xs : List Entry) : Type 0 where
  pub once : (f : Field) → Memᴰ f T → length (values_of f.name xs) ≤ 1

-- a key, without its quotes if it has any: a string, with ":" open besides the newline
pub record Key (s : List ℕ) (i at : ℕ) (name : List ℕ) (j : ℕ) : Type 0 where
  pub len : ℕ
  pub string : Text (newline ∷ colon ∷ []) s i (record { start = at; len = len }) j
  pub bytes_of : name ≡ part s at len

-- a line from i up to j: key, ":", value
pub record Line (T : List Field) (s : List ℕ) (i : ℕ) (x : Entry) (j : ℕ) : Type 0 where
  pub k : ℕ
  pub key : Key s i x.at x.name k
  pub split : At s k colon
  pub value : Reads (newline ∷ []) s (k + 1) (kind_of T x.name) x.value j

-- the next line: blank lines are passed over, and behind its value is a newline or the end
pub record NextLine (T : List Field) (s : List ℕ) (i : ℕ) (x : Entry) (j : ℕ) : Type 0 where
  pub k : ℕ
  pub blank : Each is_newline s i k
  pub line : Line T s k x j
  pub ends : Ends is_newline s j

-- a section's text from i to the end: lines, then perhaps blank ones; no field twice
pub record Section (T : List Field) (s : List ℕ) (i : ℕ) (xs : List Entry) : Type 0 where
  pub k : ℕ
  pub lines : Many (NextLine T s) i xs k
  pub blank : Each is_newline s k (length s)
  pub distinct : Distinct T xs
