-- 17 of questions and patterns, by computation (02, Wish 6): each question has a name and a pattern, patterns follow one another and are used up, none is
-- empty; and no record asks a question that a later one of its name hides.
use Rattle.std.specs.Prelude.{Bool, not, ◌&&◌, ◌||◌, List, ℕ, zero, suc, ◌+◌, ◌-◌, ltb, leb, eqb}
use Rattle.written.specs.Bytes.{same}
use Rattle.laws.specs.Every.{all}
use Rattle.link_order.specs.Keys.{name_at}
use Rattle.table_rows.specs.Rows.{question_rows, question_len, question_first, question_patterns, pattern_rows, pattern_len, record_rows, record_kind, record_question}

-- ---- questions and patterns

-- question q has a name and patterns, which begin behind the k of the questions before it
unfoldable pub next_in : List ℕ → List ℕ → ℕ → ℕ → Bool
next_in Q P k q = ltb 0 (question_len Q q) && (ltb 0 (question_patterns Q q) && (eqb (question_first Q q) k && leb (k + question_patterns Q q) (pattern_rows P)))

-- n questions, from question q on; in the end all patterns are used
unfoldable pub chained : List ℕ → List ℕ → ℕ → ℕ → ℕ → Bool
chained Q P k q zero = eqb k (pattern_rows P)
chained Q P k q (suc n) = next_in Q P k q && chained Q P (k + question_patterns Q q) (suc q) n

unfoldable pub some_byte : List ℕ → ℕ → Bool
some_byte P p = ltb 0 (pattern_len P p)

unfoldable pub questions_fit : List ℕ → List ℕ → Bool
questions_fit Q P = chained Q P 0 0 (question_rows Q) && all (some_byte P) 0 (pattern_rows P)

-- ---- the last question of a name

-- question j has another name than q
unfoldable pub unlike_name : List ℕ → List ℕ → ℕ → ℕ → Bool
unlike_name d Q q j = not (same (name_at d Q j) (name_at d Q q))

unfoldable pub last_named : List ℕ → List ℕ → ℕ → Bool
last_named d Q q = all (unlike_name d Q q) (q + 1) (question_rows Q - (q + 1))

-- record i doesn't ask q
unfoldable pub asks_other : List ℕ → ℕ → ℕ → Bool
asks_other R q i = not (eqb (record_kind R i) 0 && eqb (record_question R i) q)

-- q is the last of its name, or nothing asks it
unfoldable pub not_hidden : List ℕ → List ℕ → List ℕ → ℕ → Bool
not_hidden d Q R q = last_named d Q q || all (asks_other R q) 0 (record_rows R)

unfoldable pub none_hidden : List ℕ → List ℕ → List ℕ → Bool
none_hidden d Q R = all (not_hidden d Q R) 0 (question_rows Q)
