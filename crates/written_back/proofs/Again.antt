-- What a text says, its rows say, wherever its strings stand: so tables that a load has filled are written, and what was written is written again.
use mathlib.Core.Path.{◌≡◌, refl, sym, ap, ap₂, ◌∙◌, subst}
use mathlib.Core.Bool.{Bool, false}
use mathlib.Core.List.{List, [], ◌∷◌, ◌++◌, map}
use Prim.Native.Nat.{ℕ, zero, suc, ◌+◌, ◌-◌, ◌^◌, ◌≤◌}
use native.Mathlib.Omega.{arith}
use lib.ListN.{length, take, drop, length-drop, length-map}
use lib.Seq.{length-take-le, take-take, take-length}
use Rattle.written.specs.Bytes.{Span, between, digit, in_pattern, in_name, letter, one_of, mark, wildcard, blank}
use Rattle.written.specs.Said.{Question, Text, QuestionPlace, Layout}
use Rattle.written.specs.TreeText.{Parted, Run, Run₁, Parting, Comma, PatternAt, QuestionAt, Says}
use Rattle.written.specs.Linking.{Row}
use Rattle.written.specs.Tables.{TreeRows, pattern_row, pattern_rows, question_rows}
use Rattle.written.specs.Writing.{Spells, PatternsSay, QuestionsSay, Written}
use Rattle.written.proofs.Once.{says_once}
use Rattle.written_back.proofs.Spelled.{spelled_says}
use Rattle.written_back.proofs.Plain.{byte_in, says_fits, written_there}

map-append : {A B : Type 0} (f : A → B) (a b : List A) → map f (a ++ b) ≡ map f a ++ map f b
map-append f [] b = refl
map-append f (x ∷ a) b = ap (λ l. f x ∷ l) (map-append f a b)

-- a part of a text that is the front of d is that part of d
cut : (b n e : ℕ) (d : List ℕ) → b + n ≤ e → take n (drop b (take e d)) ≡ take n (drop b d)
cut zero n e d h = take-take n e d (omega arith)
cut (suc b) n zero d h = absurd (omega arith)
cut (suc b) n (suc e) [] h = refl
cut (suc b) n (suc e) (x ∷ d) h = cut b n e d (omega arith)

module _ {s : List ℕ} where
  run_in : (p : ℕ → Bool) → p 256 ≡ false → {i j : ℕ} → Run s p i j → i ≤ length s → (i ≤ j) × (j ≤ length s)
  run_in p z (Run.stop n) h = (omega arith, h)
  run_in p z {i} (Run.more y r) h = let b = (byte_in p z s i y).0 in let k = run_in p z r (omega arith) in let u = k.0 in (omega arith, k.1)

  run₁_in : (p : ℕ → Bool) → p 256 ≡ false → {i j : ℕ} → Run₁ s p i j → (i ≤ j) × (j ≤ length s)
  run₁_in p z {i} (Run₁.some y r) = let b = (byte_in p z s i y).0 in let k = run_in p z r (omega arith) in let u = k.0 in (omega arith, k.1)

module _ (d : List ℕ) (e : ℕ) where
  front_short : (n : ℕ) (l : List ℕ) → length (take n l) ≤ n
  front_short zero l = omega arith
  front_short (suc n) [] = omega arith
  front_short (suc n) (x ∷ l) = omega (arith, front_short n l)

  span_says : (b c : ℕ) → b ≤ c → c ≤ length (take e d) → Spells d b (c - b) (between (take e d) b c)
  unfolding between
  span_says b c h l =
      let u = front_short e d in
      let v = length-drop b (take e d) in
      record { bytes_of = sym (cut b (c - b) e d (omega arith)); all_there = length-take-le (c - b) (drop b (take e d)) (omega arith) }

  pattern_says : {i j : ℕ} {w : List ℕ} {p : Span} → PatternAt (take e d) i j w p → Spells d p.start p.len w
  unfolding in_pattern letter digit wildcard mark one_of
  pattern_says (PatternAt.bare {i = i} {j = j} r) = let h = run₁_in in_pattern refl r in span_says i j h.0 h.1
  pattern_says (PatternAt.quoted {a = a} {b = b} x r y) = let h = run₁_in in_pattern refl r in span_says a b h.0 h.1

  patterns_say : {i j : ℕ} {ws : List (List ℕ)} {ps : List Span} → Parted (Comma (take e d)) (PatternAt (take e d)) i j ws ps → PatternsSay d (map pattern_row ps) ws
  patterns_say (Parted.last t) = PatternsSay.more (pattern_says t) PatternsSay.none
  patterns_say (Parted.next t p r) = PatternsSay.more (pattern_says t) (patterns_say r)

  -- one question, before others
  question_says : {i j : ℕ} {q : Question} {w : QuestionPlace} → QuestionAt (take e d) i j q w → (k : ℕ) (rows rest : List Row) (qs : List Question)
      → QuestionsSay d (k + length w.patterns) rows rest qs
      → QuestionsSay d k ((w.name.start ∷ w.name.len ∷ k ∷ length w.patterns ∷ []) ∷ rows) (map pattern_row w.patterns ++ rest) (q ∷ qs)
  unfolding in_name blank
  question_says (QuestionAt.question {b = b} {c = c} {ps = strings} {ws = ws} q a n x o y ps f z) k rows rest qs t =
      let h = run₁_in in_name refl n in
      let m = length-map ws pattern_row in
      subst (λ (l : ℕ). QuestionsSay d k ((b ∷ (c - b) ∷ k ∷ l ∷ []) ∷ rows) (map pattern_row ws ++ rest) (record { name = between (take e d) b c; patterns = strings } ∷ qs)) m
      (QuestionsSay.more (span_says b c h.0 h.1) (patterns_say ps) (subst (λ (l : ℕ). QuestionsSay d (k + l) rows rest qs) (sym m) t))

  questions_say : {i j : ℕ} {qs : List Question} {ws : List QuestionPlace} → Parted (Parting (take e d)) (QuestionAt (take e d)) i j qs ws → (k : ℕ)
      → QuestionsSay d k (question_rows k ws) (pattern_rows ws) qs
  unfolding question_rows pattern_rows
  questions_say (Parted.last t) k = question_says t k [] [] [] QuestionsSay.none
  questions_say (Parted.next {ys = ws} t p r) k = question_says t k _ _ _ (questions_say r _)

  -- the rows of a text say what it says
  pub layout_says : {i : ℕ} {t : Text} {l : Layout} → Says (take e d) i t l → QuestionsSay d 0 (question_rows 0 l.questions) (pattern_rows l.questions) t.questions
  unfolding question_rows pattern_rows
  layout_says (Says.without t) = QuestionsSay.none
  layout_says (Says.with_questions p t) = questions_say p 0

  -- tables that a load has filled are written
  pub filled_writes : {i : ℕ} {t : Text} {l : Layout} {T R : List Row} → Says (take e d) i t l → TreeRows t.questions 0 t.trees T R → length R ≤ 2 ^ 63
      → (w : List ℕ) × Written d (question_rows 0 l.questions) (pattern_rows l.questions) T R w
  filled_writes {i} {t} {l} x r h = written_there h (record { s = take e d; i = i; t = t; l = l; says = x; rows = record { questions = layout_says x; trees = r } })

-- ---- what was written

-- a text that is written says the same wherever it stands
pub written_anywhere : {d w : List ℕ} {Q P T R : List Row} (x : Written d Q P T R w) (before : List ℕ) → (l : Layout) × Says (before ++ w) (length before) x.t l
written_anywhere x before =
    let k = spelled_says before x.t (says_fits x.says) in
    (k.0, subst (λ (v : List ℕ). Says (before ++ v) (length before) x.t k.0) (sym x.bytes_of) k.1)

-- writing what was read back gives the same bytes
pub written_again : (before : List ℕ) {d w : List ℕ} {Q P T R : List Row} {t : Text} {l : Layout} → Written d Q P T R w → Says (before ++ w) (length before) t l
    → Written (before ++ w) (question_rows 0 l.questions) (pattern_rows l.questions) T R w
written_again before {d} {w} {Q} {P} {T} {R} {t} {l} x y =
    let k = written_anywhere x before in
    let e = (says_once y k.1).0 in
    let whole = subst (λ (v : List ℕ). Says v (length before) t l) (sym (take-length (before ++ w))) y in
    let q = subst (λ (u : Text). QuestionsSay (before ++ w) 0 (question_rows 0 l.questions) (pattern_rows l.questions) u.questions) e (layout_says (before ++ w) (length (before ++ w)) whole) in
    record { t = x.t; l = x.l; says = x.says; rows = record { questions = q; trees = x.rows.trees }; plain = x.plain; bytes_of = x.bytes_of }

-- ---- the same but for string starts

abbrev pub without_start : Row → Row
without_start [] = []
without_start (a ∷ r) = r

patterns_same : {c d : List ℕ} {P O : List Row} {ws : List (List ℕ)} → PatternsSay c P ws → PatternsSay d O ws → map without_start P ≡ map without_start O
patterns_same PatternsSay.none PatternsSay.none = refl
patterns_same (PatternsSay.more a x) (PatternsSay.more b y) = ap₂ (λ (n : ℕ) (l : List Row). (n ∷ []) ∷ l) (sym a.all_there ∙ b.all_there) (patterns_same x y)

patterns_many : {c : List ℕ} {P : List Row} {ws : List (List ℕ)} → PatternsSay c P ws → length P ≡ length ws
patterns_many PatternsSay.none = refl
patterns_many (PatternsSay.more a x) = ap suc (patterns_many x)

-- rows that say the same questions are the same, string starts aside
pub questions_same : {c d : List ℕ} {k m : ℕ} {Q N P O : List Row} {qs : List Question} → QuestionsSay c k Q P qs → QuestionsSay d m N O qs → k ≡ m
    → (map without_start Q ≡ map without_start N) × (map without_start P ≡ map without_start O)
questions_same QuestionsSay.none QuestionsSay.none e = (refl, refl)
questions_same (QuestionsSay.more {own = own} {rest = rest} a p x) (QuestionsSay.more {own = other} {rest = left} b q y) e =
    let n = patterns_many p ∙ sym (patterns_many q) in
    let r = questions_same x y (ap₂ ◌+◌ e n) in (
      λ i. ((sym a.all_there ∙ b.all_there) i ∷ e i ∷ n i ∷ []) ∷ r.0 i,
      map-append without_start own rest ∙ ap₂ ◌++◌ (patterns_same p q) r.1 ∙ sym (map-append without_start other left),
    )
