-- A model's rows, one behind the other in tables of just these rows, have a text: what a text says, linked, is written.
use mathlib.Core.Path.{◌≡◌, refl, sym, ap, ap₂, ◌∙◌, subst}
use mathlib.Core.List.{List, [], ◌∷◌, ◌++◌, map, flatten, zip_with}
use Prim.Native.Nat.{ℕ, zero, suc, ◌+◌, ◌*◌, ◌/◌, ◌^◌, ◌≤◌}
use native.Mathlib.Omega.{arith}
use lib.ListN.{length, get_or, take, length-append}
use lib.Seq.{take_at}
use Rattle.written.specs.Bytes.{Span}
use Rattle.written.specs.Said.{Question, QuestionPlace, Text, Layout}
use Rattle.written.specs.TreeText.{Says}
use Rattle.written.specs.Linking.{here, there, Row}
use Rattle.written.specs.Blocks as block
use Rattle.written.specs.Tables.{TreeRows, pattern_row, pattern_rows, question_rows, folded}
use Rattle.written.proofs.Folded.{Wide, wide_none, wide_more, wide_rest, wide_text, wide_folded}
use Rattle.written.proofs.Walk.{no_row}
use Rattle.written.specs.Writing.{PatternsSay, QuestionsSay, Written, first_four}
use Rattle.written_back.proofs.Again.{layout_says, filled_writes}
use Rattle.laws.specs.Totals.{total}
use Rattle.table_rows.specs.Rows as table
use Rattle.table_rows.specs.Rows.{rows_from, question_table, pattern_table, tree_table, record_table}
use Rattle.table_rows.proofs.Stand.{Fours}
use Rattle.table_rows.proofs.Fours.{fours_model, record_table_lem, tree_table_lem}
use Rattle.tree_survey.specs.Said.{said_patterns}
use Rattle.shown_write.proofs.Call.{Writes}

-- ---- rows one behind the other

pub fours_questions : (k : ℕ) (qs : List QuestionPlace) → Fours (question_rows k qs)
unfolding question_rows
fours_questions k [] i r h = absurd (no_row h)
fours_questions k (q ∷ qs) zero r here = refl
fours_questions k (q ∷ qs) (suc i) r (there h) = fours_questions (k + length q.patterns) qs i r h

question_table_lem : (rows : List Row) → Fours rows → question_table (flatten rows) ≡ rows
unfolding question_table record_table
question_table_lem rows f = record_table_lem rows f

-- of folded rows the first four numbers are what the text says
four_first : (rows : List Row) (bs : List block.Row) → Wide 4 rows → length rows ≡ length bs → first_four (folded rows bs) ≡ rows
unfolding zip_with
four_first [] [] f e = refl
four_first [] (b ∷ bs) f e = absurd (omega arith)
four_first (r ∷ rows) [] f e = absurd (omega arith)
four_first (r ∷ rows) (b ∷ bs) f e = ap₂ ◌∷◌ (take_at r (b.first ∷ b.entries ∷ []) 4 (f 0 r here)) (four_first rows bs (wide_rest f) (omega arith))

-- two numbers a pattern
data Twos : List Row → Type 0 where
  none : Twos []
  more : {a b : ℕ} {rows : List Row} → Twos rows → Twos ((a ∷ b ∷ []) ∷ rows)

twos_append : {x y : List Row} → Twos x → Twos y → Twos (x ++ y)
twos_append Twos.none g = g
twos_append (Twos.more f) g = Twos.more (twos_append f g)

twos_spans : (ws : List Span) → Twos (map pattern_row ws)
twos_spans [] = Twos.none
twos_spans (w ∷ ws) = Twos.more (twos_spans ws)

twos_patterns : (qs : List QuestionPlace) → Twos (pattern_rows qs)
unfolding pattern_rows
twos_patterns [] = Twos.none
twos_patterns (q ∷ qs) = twos_append (twos_spans q.patterns) (twos_patterns qs)

wide_twos : {rows : List Row} → Twos rows → Wide 2 rows
wide_twos Twos.none = wide_none
wide_twos (Twos.more f) = wide_more refl (wide_twos f)

pub twos_wide : (qs : List QuestionPlace) → Wide 2 (pattern_rows qs)
twos_wide qs = wide_twos (twos_patterns qs)

behind_two : (a b : ℕ) (t : List ℕ) (i n : ℕ) → rows_from (table.pattern_row (a ∷ b ∷ t)) (suc i) n ≡ rows_from (table.pattern_row t) i n
unfolding rows_from
behind_two a b t i zero = refl
behind_two a b t i (suc n) =
    let e : 2 * suc i ≡ suc (suc (2 * i)) = omega arith in
    let f : 2 * suc i + 1 ≡ suc (suc (2 * i + 1)) = omega arith in
    ap₂ ◌∷◌ (ap₂ (λ (j k : ℕ). get_or (a ∷ b ∷ t) j 0 ∷ get_or (a ∷ b ∷ t) k 0 ∷ []) e f) (behind_two a b t (suc i) n)

pattern_table_lem : {rows : List Row} → Twos rows → pattern_table (flatten rows) ≡ rows
unfolding pattern_table flatten rows_from
pattern_table_lem Twos.none = refl
pattern_table_lem (Twos.more {a = a} {b = b} {rows = rows} f) =
    let e : suc (suc (length (flatten rows))) / 2 ≡ suc (length (flatten rows) / 2) = omega arith in
    ap (rows_from (table.pattern_row (a ∷ b ∷ flatten rows)) 0) e ∙ ap (λ (l : List Row). (a ∷ b ∷ []) ∷ l) (behind_two a b (flatten rows) 0 (length (flatten rows) / 2) ∙ pattern_table_lem f)

-- ---- how many patterns

patterns_many : {d : List ℕ} {rows : List Row} {ws : List (List ℕ)} → PatternsSay d rows ws → length rows ≡ length ws
patterns_many PatternsSay.none = refl
patterns_many (PatternsSay.more s r) = ap suc (patterns_many r)

patterns_total : {d : List ℕ} {k : ℕ} {Q P : List Row} {qs : List Question} → QuestionsSay d k Q P qs → length P ≡ total said_patterns qs
unfolding total
patterns_total QuestionsSay.none = refl
patterns_total (QuestionsSay.more {own = own} {rest = rest} s r w) = length-append own rest ∙ ap₂ ◌+◌ (patterns_many r) (patterns_total w)

questions_many : {d : List ℕ} {k : ℕ} {Q P : List Row} {qs : List Question} → QuestionsSay d k Q P qs → length Q ≡ length qs
questions_many QuestionsSay.none = refl
questions_many (QuestionsSay.more s r w) = ap suc (questions_many w)

-- ---- the rows of a text

module _ (d : List ℕ) (e : ℕ) {i : ℕ} {t : Text} {l : Layout} (says : Says (take e d) i t l) where
  said_questions : QuestionsSay d 0 (question_rows 0 l.questions) (pattern_rows l.questions) t.questions
  said_questions = layout_says d e says

  -- how many there are
  pub question_count : length (question_rows 0 l.questions) ≡ length t.questions
  question_count = questions_many said_questions

  pub pattern_count : length (pattern_rows l.questions) ≡ total said_patterns t.questions
  pattern_count = patterns_total said_questions

  module _ {trees records : List Row} (rows : TreeRows t.questions 0 t.trees trees records) (bs : List block.Row) (blocks : length bs ≡ length trees) where
    -- a table of just these rows
    abbrev Q : List ℕ
    Q = flatten (question_rows 0 l.questions)

    abbrev P : List ℕ
    P = flatten (pattern_rows l.questions)

    abbrev T : List ℕ
    T = flatten (folded trees bs)

    abbrev R : List ℕ
    R = flatten records

    -- has them as its rows
    pub question_rows_lem : question_table Q ≡ question_rows 0 l.questions
    question_rows_lem = question_table_lem (question_rows 0 l.questions) (fours_questions 0 l.questions)

    pub pattern_rows_lem : pattern_table P ≡ pattern_rows l.questions
    pattern_rows_lem = pattern_table_lem (twos_patterns l.questions)

    pub tree_rows : first_four (tree_table T) ≡ trees
    tree_rows = ap first_four (tree_table_lem (folded trees bs) (wide_folded trees bs (wide_text rows))) ∙ four_first trees bs (wide_text rows) (sym blocks)

    pub record_rows : record_table R ≡ records
    record_rows = record_table_lem records (fours_model rows)

    -- and they have a text
    pub rows_written : length records ≤ 2 ^ 63 → (w : List ℕ) × Written d (question_rows 0 l.questions) (pattern_rows l.questions) trees records w × Writes d Q P T R w
    rows_written few =
        let y = filled_writes d e says rows few in (
          y.0,
          y.1,
          subst (λ (l : List Row). Written d l (pattern_table P) (first_four (tree_table T)) (record_table R) y.0) (sym question_rows_lem)
              (subst (λ (m : List Row). Written d (question_rows 0 l.questions) m (first_four (tree_table T)) (record_table R) y.0) (sym pattern_rows_lem)
              (subst (λ (m : List Row). Written d (question_rows 0 l.questions) (pattern_rows l.questions) m (record_table R) y.0) (sym tree_rows)
              (subst (λ (m : List Row). Written d (question_rows 0 l.questions) (pattern_rows l.questions) trees m y.0) (sym record_rows) y.1))),
        )
