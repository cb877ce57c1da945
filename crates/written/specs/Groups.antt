-- Which key belongs to which group, and what a group's lines say. From 01's 'Header text', its third paragraph.
use Rattle.std.specs.Prelude.{◌≡◌, false, cond, List, [], ◌∷◌, ◌++◌, ℕ, ◌+◌, length, take}
use Rattle.written.specs.Bytes.{bracket, unbracket, one_of, same, Span}
use Rattle.written.specs.HeaderText.{Field, kind_of, Entry, unread, Reads, Distinct}

-- A key ending in "]" with a "[": field, "[", name, "]", where the "[" is the first; so the name runs to the last "]".
pub record Bracketed (key field name : List ℕ) : Type 0 where
  pub whole : key ≡ field ++ (bracket ∷ (name ++ (unbracket ∷ [])))
  pub first : one_of field bracket ≡ false

-- a line of a group: where its key starts, the field's name, the group's name, and where the value stands
pub record Row : Type 0 where
  pub at : ℕ
  pub field : List ℕ
  pub group : List ℕ
  pub value : Span

-- the lines of a section that belong to groups, in order; other keys are dropped
pub data Rows : List Entry → List Row → Type 0 where
  end : Rows [] []
  grouped :
      {at : ℕ} {key field name : List ℕ} {v : Span} {xs : List Entry} {rs : List Row} → Bracketed key field name → Rows xs rs
      → Rows (record { at = at; name = key; value = unread v } ∷ xs) (record { at = at; field = field; group = name; value = v } ∷ rs)
  dropped : {x : Entry} {xs : List Entry} {rs : List Row} → ((field name : List ℕ) → ¬ Bracketed x.name field name) → Rows xs rs → Rows (x ∷ xs) rs

-- the rows of the group w, and those of other groups
unfoldable pub of_group : List ℕ → List Row → List Row
of_group w [] = []
of_group w (r ∷ rs) = cond (same w r.group) (r ∷ of_group w rs) (of_group w rs)

unfoldable pub of_others : List ℕ → List Row → List Row
of_others w [] = []
of_others w (r ∷ rs) = cond (same w r.group) (of_others w rs) (r ∷ of_others w rs)

-- a group: its name where it first stands, and its rows in order
pub record Group : Type 0 where
  pub name : Span
  pub rows : List Row

-- where the group's name stands in the key of a row
abbrev pub name_of : Row → Span
name_of r = record { start = r.at + (length r.field + 1); len = length r.group }

-- groups by first appearance: the first row's group, then the groups of the other rows
pub data Grouped : List Row → List Group → Type 0 where
  end : Grouped [] []
  next :
      {r : Row} {rs : List Row} {gs : List Group} → Grouped (of_others r.group rs) gs
      → Grouped (r ∷ rs) (record { name = name_of r; rows = r ∷ of_group r.group rs } ∷ gs)

-- the text that the value of a row is read in: it ends where the value does
abbrev pub alone : List ℕ → Row → List ℕ
alone s r = take (r.value.start + r.value.len) s

-- the row r says the entry x: its value is read alone, with no delimiter open, and what follows a complete value is ignored
pub record Alone (T : List Field) (s : List ℕ) (r : Row) (x : Entry) : Type 0 where
  pub j : ℕ
  pub at : x.at ≡ r.at
  pub name : x.name ≡ r.field
  pub value : Reads [] (alone s r) r.value.start (kind_of T r.field) x.value j

-- two lists, thing by thing
pub data Pointwise {A B : Type 0} (R : A → B → Type 0) : List A → List B → Type 0 where
  none : Pointwise R [] []
  more : {a : A} {b : B} {l : List A} {m : List B} → R a b → Pointwise R l m → Pointwise R (a ∷ l) (b ∷ m)

-- the rows of a group and what they say; no field twice
pub record Entries (T : List Field) (s : List ℕ) (rs : List Row) (xs : List Entry) : Type 0 where
  pub says : Pointwise (Alone T s) rs xs
  pub distinct : Distinct T xs
