-- Texts of document 01 that say what it says, the records that it gives, and texts that say nothing.
use mathlib.Core.Path.{◌≡◌, refl}
use mathlib.Core.Bool.{false}
use mathlib.Core.List.Forall₂
use mathlib.Core.List.{List, [], ◌∷◌}
use Prim.Native.Nat.{ℕ, ◌<◌}
use native.Mathlib.Omega.{arith}
use lib.Dec.{lit<, lit≤}
use lib.IntN.{ℤ, pos, negsuc}
use Rattle.written.specs.Bytes.{digit, in_pattern, in_word, blank, space_or_tab, in_name, spanning, byte_at, between, decimal}
use Rattle.written.specs.Said.{Ref, node, pdf, Line, lone, braces, Question, Text, Layout}
use Rattle.written.specs.TreeText.{last, next, end, byte, stop, more, some, parting, digits, Number, plus, minus, number, word, bare, quoted, question, line, one, none, lines, tree, trees, Says, without, with_questions}
use Rattle.written.specs.Linking.{Nth, here, there, LastLine, LastQuestion, Single, row, pdfs, times, Ascending, to_line, to_first, Records, First}
use Rattle.written.specs.Walks.{From, Written, Ending}
use Rattle.written.proofs.Once.{number_not}
use Rattle.written.proofs.Walk.{no_row}
use Rattle.written.proofs.Decide.{silent, silent_none}

-- no number starts with a p or a d
no_number : (s : List ℕ) (i b : ℕ) → byte_at s i ≡ b → digit b ≡ false → (45 ≡ b → ⊥) → (e : ℕ) (x : ℤ) → ¬ Number s i e x
no_number s i b h d n e x y = number_not b d n y refl h

not_45_112 : ◌≡◌ {A = ℕ} 45 112 → ⊥
not_45_112 e = omega arith

not_45_100 : ◌≡◌ {A = ℕ} 45 100 → ⊥
not_45_100 e = omega arith

-- ---- {*}[2]{ 0 A -1 p_3, newline, -1 B p_1 p_3 }

abbrev pub text₁ : List ℕ
text₁ =
    123 ∷ 42 ∷ 125 ∷ 91 ∷ 50 ∷ 93 ∷ 123 ∷ 32
    ∷ 48 ∷ 32 ∷ 65 ∷ 32 ∷ 45 ∷ 49 ∷ 32 ∷ 112 ∷ 95 ∷ 51 ∷ 10
    ∷ 45 ∷ 49 ∷ 32 ∷ 66 ∷ 32 ∷ 112 ∷ 95 ∷ 49 ∷ 32 ∷ 112 ∷ 95 ∷ 51 ∷ 32 ∷ 125 ∷ []

abbrev pub lines₁ : List Line
lines₁ =
    record { id = pos 0; question = 65 ∷ []; no = node (negsuc 0); yes = pdf 3 }
    ∷ record { id = negsuc 0; question = 66 ∷ []; no = pdf 1; yes = pdf 3 }
    ∷ []

pub says₁ : Says text₁ 0 (record { questions = []; trees = record { state = pos 2; body = braces lines₁ } ∷ [] })
    (record { questions = []; trees = record { star = 0; names = spanning 10 11 ∷ spanning 22 23 ∷ [] } ∷ [] })
unfolding byte_at between decimal digit in_word blank space_or_tab in_name
says₁ =
    without (trees (stop refl)
    (last (tree (byte refl (byte refl (byte refl end))) (stop refl) (byte refl end) (plus (digits (some refl (stop refl))) (lit< tt)) (byte refl end) (stop refl)
    (lines (byte refl end) (more refl (stop refl))
    (next
    (line (plus (digits (some refl (stop refl))) (lit< tt)) (some refl (stop refl)) (some refl (stop refl)) (some refl (stop refl))
    (bare (number (minus {n = 1} (byte refl end) (digits (some refl (stop refl))) (lit≤ tt)))) (some refl (stop refl))
    (bare (word {k = 16} (no_number text₁ 15 112 refl refl not_45_112) (some refl (more refl (more refl (stop refl)))) (lit≤ tt) refl (digits (some refl (stop refl))) (lit< tt))))
    (parting (stop refl) (byte refl end) (stop refl) (stop refl))
    (last
    (line (minus {n = 1} (byte refl end) (digits (some refl (stop refl))) (lit≤ tt)) (some refl (stop refl)) (some refl (stop refl)) (some refl (stop refl))
    (bare (word {k = 25} (no_number text₁ 24 112 refl refl not_45_112) (some refl (more refl (more refl (stop refl)))) (lit≤ tt) refl (digits (some refl (stop refl))) (lit< tt)))
    (some refl (stop refl))
    (bare (word {k = 29} (no_number text₁ 28 112 refl refl not_45_112) (some refl (more refl (more refl (stop refl)))) (lit≤ tt) refl (digits (some refl (stop refl))) (lit< tt))))))
    (more refl (stop refl)) (byte refl end))))
    (stop refl))

-- its five records, with A, B as question rows 0, 1

abbrev questions₁ : List Question
questions₁ = record { name = 65 ∷ []; patterns = (120 ∷ []) ∷ [] } ∷ record { name = 66 ∷ []; patterns = (121 ∷ []) ∷ [] } ∷ []

last_A : LastQuestion questions₁ (65 ∷ []) 0
last_A = record { at = _; stands = here; true_of = refl; after = λ m x h n. go n h }
  where
    go : {m : ℕ} {x : Question} → Nth questions₁ m x → 0 < m → ¬ (x.name ≡ 65 ∷ [])
    go here h e = omega arith
    go (there here) h e = let z : ◌≡◌ {A = ℕ} 66 65 = cc in omega arith
    go (there (there n)) h e = no_row n

last_B : LastQuestion questions₁ (66 ∷ []) 1
last_B = record { at = _; stands = there here; true_of = refl; after = λ m x h n. go n h }
  where
    go : {m : ℕ} {x : Question} → Nth questions₁ m x → 1 < m → ¬ (x.name ≡ 66 ∷ [])
    go here h e = omega arith
    go (there here) h e = omega arith
    go (there (there n)) h e = no_row n

last_line : LastLine lines₁ (negsuc 0) 1
last_line = record { at = _; stands = there here; true_of = refl; after = λ m x h n. go n h }
  where
    go : {m : ℕ} {x : Line} → Nth lines₁ m x → 1 < m → ¬ (x.id ≡ negsuc 0)
    go here h e = omega arith
    go (there here) h e = omega arith
    go (there (there n)) h e = no_row n

first_1 : First {A = ℕ} (λ m. m ≡ 1) (1 ∷ 3 ∷ 3 ∷ []) 0
first_1 = record { at = 1; stands = here; true_of = refl; before = λ m x h n. absurd (omega arith) }

first_3 : First {A = ℕ} (λ m. m ≡ 3) (1 ∷ 3 ∷ 3 ∷ []) 1
first_3 = record { at = 3; stands = there here; true_of = refl; before = λ m x h n. go n h }
  where
    go : {m x : ℕ} → Nth (1 ∷ 3 ∷ 3 ∷ []) m x → m < 1 → ¬ (x ≡ 3)
    go here h e = omega arith
    go (there n) h e = omega arith

two : {l m : Line} {ls : List Line} {r : Ref} → Single (braces (l ∷ m ∷ ls)) r → ⊥
two h = elim h [ ]

pub records₁ : Records questions₁ (braces lines₁)
    ((0 ∷ 0 ∷ 3 ∷ 1 ∷ []) ∷ (0 ∷ 1 ∷ 3 ∷ 2 ∷ []) ∷ (1 ∷ 1 ∷ 0 ∷ 0 ∷ []) ∷ (1 ∷ 3 ∷ 0 ∷ 0 ∷ []) ∷ (1 ∷ 3 ∷ 0 ∷ 0 ∷ []) ∷ [])
unfolding pdfs times
records₁ =
    Records.lines {ls = lines₁} (1 ∷ 3 ∷ 3 ∷ []) (λ r h. two h) (Ascending.more (lit≤ tt) (Ascending.more (lit≤ tt) Ascending.one)) (λ n. omega arith)
    (Forall₂.cons (row last_A (to_first first_3) (to_line last_line)) (Forall₂.cons (row last_B (to_first first_3) (to_first first_1)) Forall₂.nil))
    refl

-- every question answered no, at most 2: line 0, no to line 1, no to PDF 1. At most 1: the limit is met
pub walk₁ : Written questions₁ (λ q. false) (braces lines₁) 2 (Ending.at 1 2)
walk₁ = Written.lines (λ r h. two h) (From.goes here last_A refl last_line (From.ends (there here) last_B refl))

pub walk₁_limit : Written questions₁ (λ q. false) (braces lines₁) 1 Ending.limit
walk₁_limit = Written.lines (λ r h. two h) (From.goes here last_A refl last_line (From.met (there here)))

-- ---- {*}[2]"dur_s2_1"

abbrev text₂ : List ℕ
text₂ = 123 ∷ 42 ∷ 125 ∷ 91 ∷ 50 ∷ 93 ∷ 34 ∷ 100 ∷ 117 ∷ 114 ∷ 95 ∷ 115 ∷ 50 ∷ 95 ∷ 49 ∷ 34 ∷ []

pub says₂ : Says text₂ 0 (record { questions = []; trees = record { state = pos 2; body = lone (pdf 1) } ∷ [] })
    (record { questions = []; trees = record { star = 0; names = [] } ∷ [] })
unfolding byte_at between decimal digit in_word blank space_or_tab in_name
says₂ =
    without (trees (stop refl)
    (last (tree (byte refl (byte refl (byte refl end))) (stop refl) (byte refl end) (plus (digits (some refl (stop refl))) (lit< tt)) (byte refl end) (stop refl)
    (one (quoted (byte refl end)
    (word {k = 13} (no_number text₂ 7 100 refl refl not_45_100)
    (some refl (more refl (more refl (more refl (more refl (more refl (more refl (more refl (stop refl))))))))) (lit≤ tt) refl (digits (some refl (stop refl))) (lit< tt))
    (byte refl end)))))
    (stop refl))

-- ---- QS A {"x", y}, tab, newline, QS B { z }, newline, {*}[-0]{ }

abbrev text₃ : List ℕ
text₃ =
    81 ∷ 83 ∷ 32 ∷ 65 ∷ 32 ∷ 123 ∷ 34 ∷ 120 ∷ 34 ∷ 44 ∷ 32 ∷ 121 ∷ 125 ∷ 9 ∷ 10
    ∷ 81 ∷ 83 ∷ 32 ∷ 66 ∷ 32 ∷ 123 ∷ 32 ∷ 122 ∷ 32 ∷ 125 ∷ 10
    ∷ 123 ∷ 42 ∷ 125 ∷ 91 ∷ 45 ∷ 48 ∷ 93 ∷ 123 ∷ 32 ∷ 125 ∷ []

pub says₃ : Says text₃ 0
    (record {
      questions = record { name = 65 ∷ []; patterns = (120 ∷ []) ∷ (121 ∷ []) ∷ [] } ∷ record { name = 66 ∷ []; patterns = (122 ∷ []) ∷ [] } ∷ [];
      trees = record { state = pos 0; body = braces [] } ∷ [];
    })
    (record {
      questions = record { name = spanning 3 4; patterns = spanning 7 8 ∷ spanning 11 12 ∷ [] } ∷ record { name = spanning 18 19; patterns = spanning 22 23 ∷ [] } ∷ [];
      trees = record { star = 26; names = [] } ∷ [];
    })
unfolding byte_at between decimal digit in_word in_pattern blank space_or_tab in_name
says₃ =
    with_questions
    (next
    (question (byte refl (byte refl end)) (some refl (stop refl)) (some refl (stop refl)) (some refl (stop refl)) (byte refl end) (stop refl)
    (next (quoted (byte refl end) (some refl (stop refl)) (byte refl end)) (parting (byte refl end) (more refl (stop refl))) (last (bare (some refl (stop refl)))))
    (stop refl) (byte refl end))
    (parting (more refl (stop refl)) (byte refl end) (stop refl))
    (last
    (question (byte refl (byte refl end)) (some refl (stop refl)) (some refl (stop refl)) (some refl (stop refl)) (byte refl end) (more refl (stop refl))
    (last (bare (some refl (stop refl)))) (more refl (stop refl)) (byte refl end))))
    (trees (more refl (stop refl))
    (last (tree (byte refl (byte refl (byte refl end))) (stop refl) (byte refl end) (minus {n = 0} (byte refl end) (digits (some refl (stop refl))) (lit≤ tt)) (byte refl end) (stop refl)
    (none (byte refl end) (more refl (stop refl)) (byte refl end))))
    (stop refl))

-- ---- texts that say nothing, by computation

-- {*}[2]12_1: 12 is a node, and what follows it fits nowhere
pub no_12_1 : (t : Text) (l : Layout) → ¬ Says (123 ∷ 42 ∷ 125 ∷ 91 ∷ 50 ∷ 93 ∷ 49 ∷ 50 ∷ 95 ∷ 49 ∷ []) 0 t l
unfolding silent
no_12_1 = silent_none _ refl

-- {*}[2]abc
pub no_abc : (t : Text) (l : Layout) → ¬ Says (123 ∷ 42 ∷ 125 ∷ 91 ∷ 50 ∷ 93 ∷ 97 ∷ 98 ∷ 99 ∷ []) 0 t l
unfolding silent
no_abc = silent_none _ refl

-- QS A {x,}{*}[2]1: a comma with no pattern after it
pub no_comma : (t : Text) (l : Layout) → ¬ Says (81 ∷ 83 ∷ 32 ∷ 65 ∷ 32 ∷ 123 ∷ 120 ∷ 44 ∷ 125 ∷ 123 ∷ 42 ∷ 125 ∷ 91 ∷ 50 ∷ 93 ∷ 49 ∷ []) 0 t l
unfolding silent
no_comma = silent_none _ refl

-- {*}[2]{0 A 1 2 0 A 1 2}: two lines with no newline between
pub no_newline : (t : Text) (l : Layout)
    → ¬ Says (123 ∷ 42 ∷ 125 ∷ 91 ∷ 50 ∷ 93 ∷ 123 ∷ 48 ∷ 32 ∷ 65 ∷ 32 ∷ 49 ∷ 32 ∷ 50 ∷ 32 ∷ 48 ∷ 32 ∷ 65 ∷ 32 ∷ 49 ∷ 32 ∷ 50 ∷ 125 ∷ []) 0 t l
unfolding silent
no_newline = silent_none _ refl

-- {*}[2]1, tab: a tab is not blank
pub no_tab : (t : Text) (l : Layout) → ¬ Says (123 ∷ 42 ∷ 125 ∷ 91 ∷ 50 ∷ 93 ∷ 49 ∷ 9 ∷ []) 0 t l
unfolding silent
no_tab = silent_none _ refl

-- no tree
pub no_tree : (t : Text) (l : Layout) → ¬ Says (10 ∷ []) 0 t l
unfolding silent
no_tree = silent_none _ refl
