-- Reading a written text back gives the same question, pattern, tree and record rows but for string starts.
use mathlib.Core.Path.{◌≡◌, refl, sym, subst}
use mathlib.Core.List.{List, ◌++◌, map}
use Prim.Native.Nat.{ℕ}
use lib.ListN.{length}
use lib.Seq.{take-length}
use Rattle.written.specs.Said.{Text, Layout}
use Rattle.written.specs.TreeText.{Says}
use Rattle.written.specs.Linking.{Row}
use Rattle.written.specs.Tables.{TreeRows, question_rows, pattern_rows}
use Rattle.written.specs.Writing.{QuestionsSay, Written}
use Rattle.written.proofs.Once.{says_once}
use Rattle.written.proofs.ModelOnce.{model_rows_once}
use Rattle.written_back.proofs.Again.{layout_says, written_anywhere, without_start, questions_same}

pub written_reads : (before : List ℕ) {d w : List ℕ} {Q P T R trees records : List Row} {t : Text} {l : Layout} → Written d Q P T R w → Says (before ++ w) (length before) t l
    → TreeRows t.questions 0 t.trees trees records
    → (map without_start (question_rows 0 l.questions) ≡ map without_start Q) × (map without_start (pattern_rows l.questions) ≡ map without_start P) × (trees ≡ T) × (records ≡ R)
written_reads before {d} {w} {Q} {P} {T} {R} {trees} {records} {t} {l} x y z =
    let k = written_anywhere x before in
    let e = (says_once y k.1).0 in
    let whole = subst (λ (v : List ℕ). Says v (length before) t l) (sym (take-length (before ++ w))) y in
    let q = subst (λ (u : Text). QuestionsSay (before ++ w) 0 (question_rows 0 l.questions) (pattern_rows l.questions) u.questions) e (layout_says (before ++ w) (length (before ++ w)) whole) in
    let s = questions_same q x.rows.questions refl in
    let r = model_rows_once (subst (λ (u : Text). TreeRows u.questions 0 u.trees trees records) e z) x.rows.trees refl in
    (s.0, s.1, r.0, r.1)
