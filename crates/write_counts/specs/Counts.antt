-- How often the lines of a tree have to refer to each of its leaves (02, Wish 6: 17): as often as leaves bear its number where it is the first of them, else
-- not at all. f is the row of the tree's first record, m its records, n its lines; leaves are the records from n on.
use Rattle.std.specs.Prelude.{◌≡◌, Bool, not, cond, ◌&&◌, ◌||◌, List, [], ◌∷◌, ℕ, zero, suc, ◌+◌, ◌-◌, ◌<◌, ltb, leb, eqb, length, get_or, set}
use Rattle.written.specs.Linking.{times}
use Rattle.table_rows.specs.Rows.{record_pdf, record_yes, record_no}
use Rattle.write_records.specs.Records.{of_record}

-- leaf k is the first of its number: the one before it bears another
unfoldable pub first_leaf : List ℕ → ℕ → ℕ → ℕ → Bool
first_leaf R f n k = eqb k n || not (eqb (of_record record_pdf R f (k - 1)) (of_record record_pdf R f k))

-- how many of j leaves, from leaf k on, bear the number x one behind the other
unfoldable pub run_of : List ℕ → ℕ → ℕ → ℕ → ℕ → ℕ
run_of R f x k zero = 0
run_of R f x k (suc j) = cond (eqb (of_record record_pdf R f k) x) (suc (run_of R f x (suc k) j)) 0

-- how often lines have to refer to leaf k
unfoldable pub due_of : List ℕ → ℕ → ℕ → ℕ → ℕ → ℕ
due_of R f m n k = cond (first_leaf R f n k) (run_of R f (of_record record_pdf R f k) k (m - k)) 0

-- where j lines go, from line k on: yes, no, yes, no, ..
unfoldable pub goals : List ℕ → ℕ → ℕ → ℕ → List ℕ
goals R f k zero = []
goals R f k (suc j) = of_record record_yes R f k ∷ of_record record_no R f k ∷ goals R f (suc k) j

unfoldable pub counted : List ℕ → ℕ → ℕ → ℕ → ℕ → Bool
counted R f m n k = eqb (times k (goals R f 0 n)) (due_of R f m n k)

-- ---- counts in a slice, the first of them for record `base`

-- one more for record k, if the slice has a count for it
unfoldable pub added : ℕ → ℕ → List ℕ → List ℕ
added base k t = cond (leb base k && ltb (k - base) (length t)) (set t (k - base) (get_or t (k - base) 0 + 1)) t

-- the first n of them say how often each record stands in l
abbrev pub Says : ℕ → List ℕ → List ℕ → ℕ → Type 0
Says base l t n = (j : ℕ) → j < n → get_or t j 0 ≡ times (base + j) l

abbrev pub Zeros : List ℕ → Type 0
Zeros t = (j : ℕ) → get_or t j 0 ≡ 0

-- there is a number above each
abbrev pub Small : List ℕ → Type 0
Small t = (j : ℕ) → get_or t j 0 < 18446744073709551615

-- a slice t became e, which says how often each record stands in l
pub record Tallied (base : ℕ) (l t e : List ℕ) : Type 0 where
  pub long : length e ≡ length t
  pub each : Says base l e (length t)
