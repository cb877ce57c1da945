-- Words that the other files share: bytes by name, classes of bytes as tests, a byte at a place, runs, parts of a text, decimal numbers.
-- The classes are document 01's, 'Tree text'. A place counts from 0; a run from i up to j has the bytes at i, i + 1, .., j - 1.
use Rattle.std.specs.Prelude.{◌≡◌, Bool, true, false, not, cond, ◌&&◌, ◌||◌, List, [], ◌∷◌, ℕ, ◌+◌, ◌*◌, ◌-◌, ◌≤◌, ◌<◌, leb, ltb, eqb, length, get_or, take, drop}
use Prim.Native.Char.{code}
use Prim.Native.String.{String, [] as empty, ◌∷◌ as ◌then◌}

-- ---- bytes by name

-- a quoted text as bytes: the code of each character (ASCII)
unfoldable pub bytes : String → List ℕ
bytes empty = []
bytes (c then s) = code c ∷ bytes s

abbrev pub newline : ℕ
newline = 10

abbrev pub quote : ℕ
quote = 34

abbrev pub comma : ℕ
comma = 44

abbrev pub dash : ℕ
dash = 45

abbrev pub colon : ℕ
colon = 58

-- [ ]
abbrev pub bracket : ℕ
bracket = 91

abbrev pub unbracket : ℕ
unbracket = 93

-- { }
abbrev pub brace : ℕ
brace = 123

abbrev pub unbrace : ℕ
unbrace = 125

-- ---- tests

-- b is one of D; b is none of D
unfoldable pub one_of : List ℕ → ℕ → Bool
one_of [] b = false
one_of (d ∷ D) b = eqb b d || one_of D b

abbrev pub none_of : List ℕ → ℕ → Bool
none_of D b = not (one_of D b)

abbrev pub is_newline : ℕ → Bool
is_newline b = eqb b newline

-- two texts are the same, byte by byte
unfoldable pub same : List ℕ → List ℕ → Bool
same [] [] = true
same [] (c ∷ t) = false
same (b ∷ s) [] = false
same (b ∷ s) (c ∷ t) = eqb b c && same s t

-- A to Z, a to z
unfoldable pub letter : ℕ → Bool
letter b = (leb 65 b && leb b 90) || (leb 97 b && leb b 122)

-- 0 to 9
unfoldable pub digit : ℕ → Bool
digit b = leb 48 b && leb b 57

-- * ?
unfoldable pub wildcard : ℕ → Bool
unfolding one_of
wildcard b = one_of (42 ∷ 63 ∷ []) b

-- ! # % & + - / : = @ ^ _ |
unfoldable pub mark : ℕ → Bool
unfolding one_of
mark b = one_of (33 ∷ 35 ∷ 37 ∷ 38 ∷ 43 ∷ 45 ∷ 47 ∷ 58 ∷ 61 ∷ 64 ∷ 94 ∷ 95 ∷ 124 ∷ []) b

-- a byte of the first four classes: those that patterns are made of; the rest are the others
unfoldable pub in_pattern : ℕ → Bool
unfolding letter digit wildcard mark
in_pattern b = letter b || digit b || wildcard b || mark b

-- letters, digits and _: those that a PDF reference is made of
unfoldable pub in_word : ℕ → Bool
unfolding letter digit
in_word b = letter b || digit b || eqb b 95

-- space or newline; a tab is not blank
unfoldable pub blank : ℕ → Bool
blank b = eqb b 32 || eqb b 10

-- space or tab
unfoldable pub space_or_tab : ℕ → Bool
space_or_tab b = eqb b 32 || eqb b 9

-- ASCII without blanks: those that a question's name is made of
unfoldable pub in_name : ℕ → Bool
unfolding blank
in_name b = leb b 127 && not (blank b)

-- ---- places of a text s

-- the byte at i; 256, which is in no class, at the end
unfoldable pub byte_at : List ℕ → ℕ → ℕ
byte_at s i = cond (ltb i (length s)) (get_or s i 0) 256

-- the byte b stands at i
pub record At (s : List ℕ) (i b : ℕ) : Type 0 where
  pub inside : i < length s
  pub byte : get_or s i 0 ≡ b

-- from i up to j every byte passes p
pub record Each (p : ℕ → Bool) (s : List ℕ) (i j : ℕ) : Type 0 where
  pub order : i ≤ j
  pub inside : j ≤ length s
  pub passes : (k : ℕ) → i ≤ k → k < j → p (get_or s k 0) ≡ true

-- at i the text ends, or a byte stands that passes p
pub data Ends (p : ℕ → Bool) (s : List ℕ) (i : ℕ) : Type 0 where
  over : i ≡ length s → Ends p s i
  met : i < length s → p (get_or s i 0) ≡ true → Ends p s i

-- the n bytes from i on
abbrev pub part : List ℕ → ℕ → ℕ → List ℕ
part s i n = take n (drop i s)

-- the bytes from i up to j
unfoldable pub between : List ℕ → ℕ → ℕ → List ℕ
between s i j = part s i (j - i)

-- a part of a text, by its start and length
pub record Span : Type 0 where
  pub start : ℕ
  pub len : ℕ

-- the part from i up to j
abbrev pub spanning : ℕ → ℕ → Span
spanning i j = record { start = i; len = j - i }

-- ---- numbers

-- the number that decimal digits say, after those that said n
unfoldable pub decimal : ℕ → List ℕ → ℕ
decimal n [] = n
decimal n (b ∷ s) = decimal (n * 10 + (b - 48)) s
