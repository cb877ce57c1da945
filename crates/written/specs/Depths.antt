-- How many questions a walk of a tree can ask (document 02, Wish 8): paths of references over the records of a tree, each branch taken freely.
-- A path knows no answers; a record that no path meets is not judged.
use Rattle.std.specs.Prelude.{List, [], ◌∷◌, ℕ, zero, suc, ◌*◌, ◌≤◌, ◌<◌, take, drop}
use Rattle.written.specs.Linking.{Nth, Row, branch}

-- number; 1 for yes; the greatest number of questions
pub record DepthSaid : Type 0 where
  pub number : ℕ
  pub answer : ℕ
  pub questions : ℕ

abbrev pub refused_by : ℕ → DepthSaid
refused_by c = record { number = c; answer = 0; questions = 0 }

abbrev pub goes_round : DepthSaid
goes_round = record { number = 0; answer = 0; questions = 0 }

abbrev pub deep : ℕ → DepthSaid
deep d = record { number = 0; answer = 1; questions = d }

module _ (rows : List Row) where
  -- a line at i refers to j, by yes or by no
  pub data Refers (i : ℕ) : ℕ → Type 0 where
    by_yes : {q y n : ℕ} → Nth rows i (branch q y n) → Refers i y
    by_no : {q y n : ℕ} → Nth rows i (branch q y n) → Refers i n

  -- from i to j by so many references, each of them a question
  pub data Path : ℕ → ℕ → ℕ → Type 0 where
    stay : {i : ℕ} → Path i i zero
    on : {i k j n : ℕ} → Refers i k → Path k j n → Path i j (suc n)

  -- a path from the first record meets j
  abbrev pub Met : ℕ → Type 0
  Met j = (n : ℕ) × Path 0 j n

  -- j is there, and a line or a leaf
  pub data Good (j : ℕ) : Type 0 where
    line : {q y n : ℕ} → Nth rows j (branch q y n) → Good j
    leaf : {n a b : ℕ} → Nth rows j (1 ∷ n ∷ a ∷ b ∷ []) → Good j

  -- some path meets a record twice
  pub data Round : Type 0 where
    twice : {j n : ℕ} → Met j → Path j j (suc n) → Round

  -- what is said of the tree: 24 comes first
  pub data Depth : DepthSaid → Type 0 where
    bad : {j : ℕ} → Met j → ¬ Good j → Depth (refused_by 24)
    round : ((j : ℕ) → Met j → Good j) → Round → Depth goes_round
    deepest : {j d : ℕ} → ((j : ℕ) → Met j → Good j) → ¬ Round → Path 0 j d → ((k n : ℕ) → Path 0 k n → n ≤ d) → Depth (deep d)

-- tree t of the tables, with so many numbers of work: four a record of its row, before its records are looked at
pub data TreeDepth (trees records : List Row) (work : ℕ) : ℕ → DepthSaid → Type 0 where
  missing : {t : ℕ} → ((r : Row) → ¬ Nth trees t r) → TreeDepth trees records work t (refused_by 24)
  short : {t state first count lines value entries : ℕ} → Nth trees t (state ∷ first ∷ count ∷ lines ∷ value ∷ entries ∷ []) → work < 4 * count → TreeDepth trees records work t (refused_by 20)
  there : {t state first count lines value entries : ℕ} {x : DepthSaid}
      → Nth trees t (state ∷ first ∷ count ∷ lines ∷ value ∷ entries ∷ []) → 4 * count ≤ work → Depth (take count (drop first records)) x → TreeDepth trees records work t x
