-- Rows that have a text point inside their tables and the data (no 24), and every byte of a name or pattern is one that the grammar has (no 22).
use mathlib.Core.Path.{◌≡◌, refl, sym, ap, ap₂, ◌∙◌, subst}
use mathlib.Core.Bool.{Bool, true, false}
use mathlib.Core.Logic.{◌⊎◌, inl, inr, ⊎_elim}
use mathlib.Core.List.{List, [], ◌∷◌, ◌++◌, map, Forall₂}
use Prim.Native.Nat.{ℕ, zero, suc, ◌+◌, ◌≤◌, ◌<◌}
use native.Mathlib.Omega.{arith}
use lib.ListN.{length, get_or, drop, length-take, length-drop, length-append, length-map}
use lib.Seq.{get_or-take, get_or-drop}
use Rattle.written.specs.Bytes.{in_name, in_pattern}
use Rattle.written.specs.Said.{Ref, Line, Body, Tree, Question}
use Rattle.written.specs.Linking.{Nth, LastQuestion, Row, branch, leaf, LineRow, ToFirst, Records}
use Rattle.written.specs.Tables.{TreeRows}
use Rattle.written.specs.Writing.{Spells, PatternsSay, QuestionsSay, Written, Among, Outside, OddByte}
use Rattle.written_back.proofs.Spelled.{Every, All, PatternFits, QuestionFits, TextFits}
use Rattle.written_back.proofs.Plain.{nth_inside, says_fits}
use Rattle.written_back.proofs.OneText.{paired_long}

abbrev at : ℕ → Row → ℕ
at j r = get_or r j 0

-- ---- where something of two lists stands

pub record Behind {A : Type 0} (xs ys : List A) (k : ℕ) (x : A) : Type 0 where
  pub j : ℕ
  pub from : k ≡ length xs + j
  pub stands : Nth ys j x

pub nth_parts : {A : Type 0} (xs : List A) {ys : List A} {k : ℕ} {x : A} → Nth (xs ++ ys) k x → Nth xs k x ⊎ Behind xs ys k x
nth_parts [] {k = k} h = inr (record { j = k; from = omega arith; stands = h })
nth_parts (y ∷ xs) Nth.here = inl Nth.here
nth_parts (y ∷ xs) (Nth.there h) = ⊎_elim (λ a. inl (Nth.there a)) (λ b. inr (record { j = b.j; from = omega (arith, b.from); stands = b.stands })) (nth_parts xs h)

nth-paired : {A B : Type 0} {R : A → B → Type 0} {xs : List A} {ys : List B} {k : ℕ} {y : B} → Forall₂ R xs ys → Nth ys k y → (x : A) × R x y
nth-paired (Forall₂.cons {a = x} r rs) Nth.here = (x, r)
nth-paired (Forall₂.cons r rs) (Nth.there h) = nth-paired rs h
nth-paired {A = A} {B = B} {R = R} {k = k} {y = y} mathlib.Core.List.Forall₂.nil x4 = elim x4 [ ]

nth-map : {A B : Type 0} (f : A → B) (xs : List A) {k : ℕ} {y : B} → Nth (map f xs) k y → (x : A) × (y ≡ f x)
nth-map f [] h = absurd (omega (arith, nth_inside h))
nth-map f (x ∷ xs) Nth.here = (x, refl)
nth-map f (x ∷ xs) (Nth.there h) = nth-map f xs h

-- ---- strings

every_at : {p : ℕ → Bool} {w : List ℕ} → Every p w → (k : ℕ) → k < length w → p (get_or w k 0) ≡ true
every_at Every.none k h = absurd (omega arith)
every_at (Every.more e r) zero h = e
every_at (Every.more e r) (suc k) h = every_at r k (omega arith)

module _ (d : List ℕ) where
  -- what is spelled is all there
  pub spells_among : {a n : ℕ} {w : List ℕ} → Spells d a n w → Among a n (length d)
  spells_among {a} {n} s k h = omega (arith, ap length s.bytes_of ∙ s.all_there, length-take n (drop a d), length-drop a d)

  -- a string of such bytes stands there
  record Spelt (p : ℕ → Bool) (a n : ℕ) : Type 0 where
    w : List ℕ
    spells : Spells d a n w
    every : Every p w

  module _ {p : ℕ → Bool} {a n : ℕ} (s : Spelt p a n) where
    spelt_among : Among a n (length d)
    spelt_among = spells_among s.spells

    spelt_at : (k : ℕ) → k < n → p (get_or d (a + k) 0) ≡ true
    spelt_at k h =
        let e : get_or s.w k 0 ≡ get_or d (a + k) 0 = ap (λ (l : List ℕ). get_or l k 0) (sym s.spells.bytes_of) ∙ get_or-take n (drop a d) k 0 h ∙ get_or-drop a d k 0 in
        ap p (sym e) ∙ every_at s.every k (omega (arith, s.spells.all_there))

  -- ---- question and pattern rows

  patterns_row : {P : List Row} {ws : List (List ℕ)} {i a n : ℕ} {r : Row} → PatternsSay d P ws → All PatternFits ws → Nth P i r → r ≡ a ∷ n ∷ [] → Spelt in_pattern a n
  patterns_row {a = a} {n = n} (PatternsSay.more {a = b} {n = m} {w = w} s p) (All.more f g) Nth.here e =
      let u : b ≡ a = cc in
      let v : m ≡ n = cc in
      record { w = w; spells = subst (λ (x : ℕ). Spells d x n w) u (subst (λ (x : ℕ). Spells d b x w) v s); every = f.bytes_in }
  patterns_row (PatternsSay.more s p) (All.more f g) (Nth.there h) e = patterns_row p g h e
  patterns_row {i = i} {a = a} {n = n} {r = r} PatternsSay.none _ x11 e = elim x11 [ ]

  pattern_row : {k i a n : ℕ} {Q P : List Row} {qs : List Question} {r : Row} → QuestionsSay d k Q P qs → All QuestionFits qs → Nth P i r → r ≡ a ∷ n ∷ [] → Spelt in_pattern a n
  pattern_row QuestionsSay.none All.none h e = absurd (omega (arith, nth_inside h))
  pattern_row (QuestionsSay.more {own = own} s p x) (All.more f g) h e = ⊎_elim (λ l. patterns_row p f.patterns l e) (λ l. pattern_row {i = l.j} x g l.stands e) (nth_parts own h)

  -- a question's name, and that its patterns are among those from k on
  question_row : {k i a n f m : ℕ} {Q P : List Row} {qs : List Question} {r : Row} → QuestionsSay d k Q P qs → All QuestionFits qs → Nth Q i r → r ≡ a ∷ n ∷ f ∷ m ∷ []
      → Spelt in_name a n × (f + m ≤ k + length P)
  question_row {a = a} {n = n} (QuestionsSay.more {a = b} {n = j} {w = w} {own = own} {rest = rest} s p x) (All.more g o) Nth.here e =
      let u : b ≡ a = cc in
      let v : j ≡ n = cc in (
        record { w = w; spells = subst (λ (x : ℕ). Spells d x n w) u (subst (λ (x : ℕ). Spells d b x w) v s); every = g.name },
        omega (arith, ap (at 2) e, ap (at 3) e, length-append own rest),
      )
  question_row (QuestionsSay.more {own = own} {rest = rest} s p x) (All.more g o) (Nth.there h) e =
      let r = question_row x o h e in (r.0, omega (arith, r.1, length-append own rest))
  question_row {i = i} {a = a} {n = n} {f = f} {m = m} {r = r} (QuestionsSay.none {k = k}) _ x17 e = elim x17 [ ]

  questions_many : {k : ℕ} {Q P : List Row} {qs : List Question} → QuestionsSay d k Q P qs → length Q ≡ length qs
  questions_many QuestionsSay.none = refl
  questions_many (QuestionsSay.more s p x) = ap suc (questions_many x)

-- ---- records

goes_below : {ls : List Line} {leaves : List ℕ} {r : Ref} {j : ℕ} → ToFirst ls leaves r j → j < length ls + length leaves
goes_below (ToFirst.to_line s) = omega (arith, nth_inside s.stands)
goes_below (ToFirst.to_first s) = omega (arith, nth_inside s.stands)

-- a line of a tree of m records: its question is one of so many, and where it goes
record LineIn (many m q y n : ℕ) : Type 0 where
  asks : q < many
  yes_below : y < m
  no_below : n < m

module _ {qs : List Question} where
  line_inside : {ls : List Line} {leaves : List ℕ} {l : Line} {r : Row} {m q y n : ℕ} → LineRow qs (ToFirst ls leaves) l r → r ≡ branch q y n → m ≡ length ls + length leaves → LineIn (length qs) m q y n
  line_inside (LineRow.row lq gy gn) e l =
      record {
        asks = omega (arith, nth_inside lq.stands, ap (at 1) e);
        yes_below = omega (arith, goes_below gy, ap (at 2) e);
        no_below = omega (arith, goes_below gn, ap (at 3) e);
      }

  record_inside : {b : Body} {rows : List Row} {k q y n : ℕ} → Records qs b rows → Nth rows k (branch q y n) → LineIn (length qs) (length rows) q y n
  record_inside (Records.single b) h = alone h refl
    where
      alone : {x k m q y n : ℕ} {r : Row} → Nth (leaf x ∷ []) k r → r ≡ branch q y n → LineIn (length qs) m q y n
      alone Nth.here e = absurd (omega (arith, ap (at 0) e))
      alone {m = m} {r = r} (Rattle.written.specs.Linking.there x13) e = elim x13 [ ]
  record_inside {k = k} {q = q} {y = y} {n = n} (Records.lines {ls = ls} {rows = rows} {front = front} leaves ns asc tm f e) h =
      let long : length rows ≡ length ls + length leaves = ap length e ∙ length-append front (map leaf leaves) ∙ ap₂ ◌+◌ (paired_long f) (length-map leaves leaf) in
      ⊎_elim (λ a. line_inside (nth-paired f a).1 refl long) (λ a. absurd (omega (arith, ap (at 0) (nth-map leaf leaves a.stands).1)))
      (nth_parts front (subst (λ (l : List Row). Nth l k (branch q y n)) e h))

  line_asks : {ls : List Line} {leaves : List ℕ} {l : Line} {r : Row} {q y n : ℕ} → LineRow qs (ToFirst ls leaves) l r → r ≡ branch q y n → (w : List ℕ) × LastQuestion qs w q
  line_asks (LineRow.row {l = l} lq gy gn) e = (l.question, subst (LastQuestion qs l.question) (ap (at 1) e) lq)

  record_asks : {b : Body} {rows : List Row} {k q y n : ℕ} → Records qs b rows → Nth rows k (branch q y n) → (w : List ℕ) × LastQuestion qs w q
  record_asks (Records.single b) h = absurd (alone h refl)
    where
      alone : {x k q y n : ℕ} {r : Row} → Nth (leaf x ∷ []) k r → r ≡ branch q y n → ⊥
      alone Nth.here e = omega (arith, ap (at 0) e)
      alone {r = r} (Rattle.written.specs.Linking.there x13) e = elim x13 [ ]
  record_asks {k = k} {q = q} {y = y} {n = n} (Records.lines {front = front} leaves ns asc tm f e) h =
      ⊎_elim (λ a. line_asks (nth-paired f a).1 refl) (λ a. absurd (omega (arith, ap (at 0) (nth-map leaf leaves a.stands).1)))
      (nth_parts front (subst (λ (l : List Row). Nth l k (branch q y n)) e h))

  -- a tree's records are among those from f on
  tree_room : {f i x g m h : ℕ} {ts : List Tree} {T R : List Row} {r : Row} → TreeRows qs f ts T R → Nth T i r → r ≡ x ∷ g ∷ m ∷ h ∷ [] → (f ≤ g) × (g + m ≤ f + length R)
  tree_room (TreeRows.more {rows = rows} {records = records} s r l w) Nth.here e = (omega (arith, ap (at 1) e), omega (arith, ap (at 1) e, ap (at 2) e, length-append rows records))
  tree_room (TreeRows.more {rows = rows} {records = records} s r l w) (Nth.there a) e =
      let t = tree_room w a e in (omega (arith, t.0), omega (arith, t.1, length-append rows records))
  tree_room {i = i} {g = g} {m = m} {h = h} {r = r} (Rattle.written.specs.Tables.none {f = f}) x14 e = elim x14 [ ]

  -- a record of a line asks the last question of its name
  pub asks_last : {f i q y n : ℕ} {ts : List Tree} {T R : List Row} → TreeRows qs f ts T R → Nth R i (branch q y n) → (w : List ℕ) × LastQuestion qs w q
  asks_last TreeRows.none h = absurd (omega (arith, nth_inside h))
  asks_last (TreeRows.more {rows = rows} s r l w) h = ⊎_elim (λ a. record_asks r a) (λ a. asks_last {i = a.j} w a.stands) (nth_parts rows h)

  asks_inside : {f i q y n : ℕ} {ts : List Tree} {T R : List Row} → TreeRows qs f ts T R → Nth R i (branch q y n) → q < length qs
  asks_inside TreeRows.none h = absurd (omega (arith, nth_inside h))
  asks_inside (TreeRows.more {rows = rows} s r l w) h = ⊎_elim (λ a. (record_inside r a).asks) (λ a. asks_inside {i = a.j} w a.stands) (nth_parts rows h)

  -- record k of a tree goes to records of that tree
  tree_goes : {f i x g m h j k q y n : ℕ} {ts : List Tree} {T R : List Row} {r : Row} → TreeRows qs f ts T R → Nth T i r → r ≡ x ∷ g ∷ m ∷ h ∷ [] → k < m → f + j ≡ g + k → Nth R j (branch q y n)
      → LineIn (length qs) m q y n
  tree_goes {m = m} {q = q} {y = y} {n = n} (TreeRows.more {rows = rows} s r l w) Nth.here e c p a =
      ⊎_elim (λ z. let u : length rows ≡ m = ap (at 2) e in subst (λ (m : ℕ). LineIn (length qs) m q y n) u (record_inside r z))
      (λ z. absurd (omega (arith, z.from, ap (at 1) e, ap (at 2) e))) (nth_parts rows a)
  tree_goes (TreeRows.more {rows = rows} s r l w) (Nth.there b) e c p a =
      ⊎_elim (λ z. absurd (omega (arith, nth_inside z, (tree_room w b e).0))) (λ z. tree_goes {j = z.j} w b e c (omega (arith, z.from)) z.stands) (nth_parts rows a)
  tree_goes {i = i} {g = g} {m = m} {h = h} {j = j} {k = k} {q = q} {y = y} {n = n} {r = r} (Rattle.written.specs.Tables.none {f = f}) x29 e c p a = elim x29 [ ]

-- ---- all of them

module _ {d w : List ℕ} {Q P T R : List Row} (x : Written d Q P T R w) where
  fits : TextFits x.t
  fits = says_fits x.says

  -- no row points outside
  pub written_inside : ¬ Outside d Q P T R
  written_inside (Outside.name h u) = u (spelt_among d (question_row d x.rows.questions fits.questions h refl).0)
  written_inside (Outside.patterns h u) = let r = question_row d x.rows.questions fits.questions h refl in u (λ k l. omega (arith, r.1))
  written_inside (Outside.pattern h u) = u (spelt_among d (pattern_row d x.rows.questions fits.questions h refl))
  written_inside (Outside.records h u) = let r = tree_room x.rows.trees h refl in u (λ k l. omega (arith, r.1))
  written_inside (Outside.question h u) = omega (arith, asks_inside x.rows.trees h, questions_many d x.rows.questions)
  written_inside (Outside.goes_yes {f = f} {k = k} h l v u) =
      let r = tree_room x.rows.trees h refl in omega (arith, r.1, (tree_goes x.rows.trees h refl l (let z : 0 + (f + k) ≡ f + k = omega arith in z) v).yes_below)
  written_inside (Outside.goes_no {f = f} {k = k} h l v u) =
      let r = tree_room x.rows.trees h refl in omega (arith, r.1, (tree_goes x.rows.trees h refl l (let z : 0 + (f + k) ≡ f + k = omega arith in z) v).no_below)

  -- no byte is outside the grammar
  pub written_even : ¬ OddByte d Q P T R
  written_even (OddByte.in_a_name {k = k} h l e) = odd (spelt_at d (question_row d x.rows.questions fits.questions h refl).0 k l) e
    where
      odd : {b : Bool} → b ≡ true → b ≡ false → ⊥
      odd p q = let z : ◌≡◌ {A = ℕ} 0 1 = cc in omega arith
  written_even (OddByte.in_a_pattern {k = k} h l e) = odd (spelt_at d (pattern_row d x.rows.questions fits.questions h refl) k l) e
    where
      odd : {b : Bool} → b ≡ true → b ≡ false → ⊥
      odd p q = let z : ◌≡◌ {A = ℕ} 0 1 = cc in omega arith
