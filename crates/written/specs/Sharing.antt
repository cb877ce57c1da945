-- Two tasks in one table: the rows of one stand at its bottom, those of the other end at its last whole row; and five such tables.
-- From 02's Wish 9.
use Rattle.std.specs.Prelude.{◌≡◌, Bool, not, ◌&&◌, List, ℕ, ◌+◌, ◌-◌, ◌*◌, ◌/◌, ◌≤◌, leb, eqb, length, take, drop, replicate}
use Rattle.std.proofs.lemmas.List.Edits.{sets}
use Rattle.written.specs.Bytes.{part}

pub data Side : Type 0 where
  bottom top : Side

abbrev pub opposite : Side → Side
opposite bottom = top
opposite top = bottom

-- ---- one table of `len` numbers, whose rows have w numbers

abbrev pub whole_rows : ℕ → ℕ → ℕ
whole_rows w len = len / w

-- the first of a task's n rows, of so many
abbrev pub first_row : Side → ℕ → ℕ → ℕ
first_row bottom rows n = 0
first_row top rows n = rows - n

-- its first number
abbrev pub start_of : Side → ℕ → ℕ → ℕ → ℕ
start_of x w len n = w * first_row x (whole_rows w len) n

-- a task's n rows, in their order: what its walks and checks take
abbrev pub own : Side → ℕ → List ℕ → ℕ → List ℕ
own x w t n = part t (start_of x w (length t) n) (w * n)

-- the table with these numbers in the task's n rows
abbrev pub put_rows : Side → ℕ → List ℕ → ℕ → List ℕ → List ℕ
put_rows x w t n rows = sets t (start_of x w (length t) n) rows

-- numbers of the whole rows that are left beside the other's n
abbrev pub left_of : ℕ → ℕ → ℕ → ℕ
left_of w len n = w * (whole_rows w len - n)

-- ---- the five tables

pub data Table : Type 0 where
  questions patterns trees records values : Table

-- numbers of a row
abbrev pub width : Table → ℕ
width questions = 4
width patterns = 2
width trees = 6
width records = 4
width values = 1

-- the numbers of each table
abbrev pub Tables : Type 0
Tables = Table → List ℕ

-- bounds: rows of each table
abbrev pub Held : Type 0
Held = Table → ℕ

abbrev pub nothing : Held
nothing k = 0

-- a task's rows, in the five tables
abbrev pub seen : Side → Held → Tables → Tables
seen x h t k = own x (width k) (t k) (h k)

-- each table with its part replaced
abbrev pub placed : Side → Held → Tables → Tables → Tables
placed x h rows t k = put_rows x (width k) (t k) (h k) (rows k)

-- zeros, for each number of such rows
abbrev pub zeros : Held → Tables
zeros h k = replicate (width k * h k) 0

abbrev pub cleared : Side → Held → Tables → Tables
cleared x h = placed x h (zeros h)

-- tables of just these rows
abbrev pub Exactly : Held → Tables → Type 0
Exactly h t = (k : Table) → length (t k) ≡ width k * h k

-- no row is both tasks', none passes its table
abbrev pub Stand : Tables → Held → Held → Type 0
Stand t a b = (k : Table) → a k + b k ≤ whole_rows (width k) (length (t k))

-- nothing but a task's n rows differs
pub record Beyond (x : Side) (w : ℕ) (t : List ℕ) (n : ℕ) (t' : List ℕ) : Type 0 where
  pub long : length t' ≡ length t
  pub before : (i : ℕ) → i ≤ start_of x w (length t) n → take i t' ≡ take i t
  pub behind : (i : ℕ) → start_of x w (length t) n + w * n ≤ i → drop i t' ≡ drop i t

abbrev pub Only : Side → Held → Tables → Tables → Type 0
Only x h t t' = (k : Table) → Beyond x (width k) (t k) (h k) (t' k)

-- ---- as tests

abbrev pub every_table : (Table → Bool) → Bool
every_table p = p questions && (p patterns && (p trees && (p records && p values)))

-- some number is not 0
unfoldable pub holds : Held → Bool
holds h = not (every_table (λ k. eqb (h k) 0))

-- true exactly where `Stand`
unfoldable pub stands : Tables → Held → Held → Bool
stands t a b = every_table (λ k. leb (a k + b k) (whole_rows (width k) (length (t k))))

-- room for n rows of each table beside the other's: length div width of what is left
unfoldable pub room_beside : Held → Held → Tables → Bool
room_beside n other t = every_table (λ k. leb (n k) (whole_rows (width k) (left_of (width k) (length (t k)) (other k))))
