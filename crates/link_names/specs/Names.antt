-- What the functions of this crate answer: names in a slice, by their beginnings; their keys; which of them questions bear.
use Rattle.std.specs.declared.option.Option.{Option}
use Rattle.std.specs.Prelude.{◌≡◌, Bool, true, false, cond, ◌||◌, List, [], ◌∷◌, ℕ, zero, suc, ◌+◌, ◌-◌, ◌*◌, ◌%◌, ◌<◌, eqb, length, get_or, Some, None}
use Rattle.written.specs.Bytes.{in_name}
use Rattle.written.specs.Said.{QuestionPlace}
use Rattle.laws.specs.Runs.{stop}
use Rattle.text_parts.specs.Parts.{part_inside}
use Rattle.link_find.specs.Find.{named}

-- of the numbers below n, the first of which a test is false
pub data FirstOf (p : ℕ → Bool) (n : ℕ) : Option ℕ → Type 0 where
  off : {j : ℕ} → j < n → p j ≡ false → ((i : ℕ) → i < j → p i ≡ true) → FirstOf p n (Some j)
  none : ((i : ℕ) → i < n → p i ≡ true) → FirstOf p n None

-- ---- names in a slice

-- from where it begins up to where no byte of a name follows
abbrev pub name_from : List ℕ → ℕ → List ℕ
name_from s b = part_inside s b (stop in_name s b - b)

abbrev pub name_in : List ℕ → List ℕ → ℕ → List ℕ
name_in s names j = name_from s (get_or names j 0)

-- a name's key, by its length and its last byte
unfoldable pub key_of : List ℕ → ℕ
key_of w = cond (eqb (length w) 0) 1 (1 + length w % 16 * 15 + get_or w (length w - 1) 0 % 15)

-- m became e: the keys of the first n names
pub record Keys (s names m : List ℕ) (n : ℕ) (e : List ℕ) : Type 0 where
  pub long : length e ≡ length m
  pub each : (j : ℕ) → j < n → get_or e j 0 ≡ key_of (name_in s names j)

-- what is kept of the name that begins at b: nothing, or its key
pub data KeyIn (s : List ℕ) (b x : ℕ) : Type 0 where
  gone : x ≡ 0 → KeyIn s b x
  left : x ≡ key_of (name_from s b) → KeyIn s b x

pub record Keyed (s names : List ℕ) (n : ℕ) (e : List ℕ) : Type 0 where
  pub each : (j : ℕ) → j < n → KeyIn s (get_or names j 0) (get_or e j 0)

-- the first of them, so many
pub record Gone (low : ℕ) (e : List ℕ) : Type 0 where
  pub each : (j : ℕ) → j < low → get_or e j 0 ≡ 0

abbrev pub is_gone : ℕ → Bool
is_gone zero = true
is_gone (suc x) = false

-- some question bears a name
unfoldable pub heard : List ℕ → List ℕ → List QuestionPlace → Bool
heard s w [] = false
heard s w (q ∷ qs) = named s w q || heard s w qs

-- m became e: of the first n, those of which p is true are gone
pub record Marked (m : List ℕ) (n : ℕ) (p : ℕ → Bool) (e : List ℕ) : Type 0 where
  pub long : length e ≡ length m
  pub each : (j : ℕ) → j < n → get_or e j 0 ≡ cond (p j) 0 (get_or m j 0)
