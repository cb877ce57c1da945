-- Rows that linking makes of some trees it makes of plain ones too: ids 0, -1, -2 and on, bare leaves alone.
use mathlib.Core.Path.{◌≡◌, refl, sym, ap, ap₂, ◌∙◌, subst}
use mathlib.Core.List.{List, [], ◌∷◌, ◌++◌, map, Forall₂}
use Prim.Native.Nat.{ℕ, zero, suc, ◌+◌, ◌-◌, ◌^◌, ◌≤◌, ◌<◌}
use native.Mathlib.Omega.{arith}
use lib.IntN.{ℤ, pos, negsuc, neg_ℤ}
use mathlib.Core.Bool.{Bool, true, false}
use borrow.Author.Tests.{lt-ltb}
use native.Mathlib.Decide.{dec_lt}
use lib.ListN.{length, get_or, take, drop, length-append}
use lib.Seq.{drop-cons}
use Rattle.written.specs.Bytes.{Span, byte_at, between, digit, in_pattern, in_name, letter, one_of, mark, wildcard, blank}
use Rattle.written.specs.Said.{Ref, node, pdf, Line, Body, lone, braces, Tree, Question, Text, QuestionPlace, TreePlace, Layout}
use Rattle.written.specs.TreeText.{Parted, Run, Run₁, Number, Bare, Reference, PatternAt, QuestionAt, LineAt, BodyAt, TreeAt, TreesAt, Says}
use Rattle.written.specs.Linking as linking
use Rattle.written.specs.Linking.{Nth, LastLine, Single, BareLeaf, NotSingle, Row, LineRow, ToFirst, pdf_of, pdfs, times, Records}
use Rattle.written.specs.Tables.{LinesOf, TreeRows}
use Rattle.written.specs.Writing.{Numbered, Plain, ReadBack, Written, spelled}
use Rattle.written_back.proofs.Spelled.{Every, All, Fits, RefFits, LineFits, BodyFits, TreeFits, PatternFits, QuestionFits, TextFits, past_end, spelled_says}

-- ---- ids

-- the id of line k
abbrev pub id_of : ℕ → ℤ
id_of k = neg_ℤ (pos k)

-- how far below 0 a number is
abbrev depth : ℤ → ℕ
depth (pos n) = 0
depth (negsuc n) = suc n

deep : (k : ℕ) → depth (id_of k) ≡ k
deep zero = refl
deep (suc k) = refl

id_once : (a b : ℕ) → id_of a ≡ id_of b → a ≡ b
id_once a b e = sym (deep a) ∙ ap depth e ∙ deep b

numbered_at : {j k : ℕ} {ls : List Line} {l : Line} → Numbered j ls → Nth ls k l → l.id ≡ id_of (j + k)
numbered_at {j = j} (Numbered.more e n) Nth.here = e ∙ ap id_of (let u : j ≡ j + 0 = omega arith in u)
numbered_at {j = j} (Numbered.more e n) (Nth.there {k = k} s) = numbered_at n s ∙ ap id_of (let u : suc j + k ≡ j + suc k = omega arith in u)
numbered_at {l = l} (Numbered.none {k = k}) x4 = elim x4 [ ]

nth_there : {A : Type 0} (xs : List A) (k : ℕ) → k < length xs → (x : A) × Nth xs k x
nth_there [] k h = absurd (omega arith)
nth_there (x ∷ xs) zero h = (x, Nth.here)
nth_there (x ∷ xs) (suc k) h = let r = nth_there xs k (omega arith) in (r.0, Nth.there r.1)

pub nth_inside : {A : Type 0} {xs : List A} {k : ℕ} {x : A} → Nth xs k x → k < length xs
nth_inside Nth.here = omega arith
nth_inside (Nth.there s) = omega (arith, nth_inside s)

pub numbered_from : {k : ℕ} {ls : List Line} {l : Line} → Numbered 0 ls → Nth ls k l → l.id ≡ id_of k
numbered_from {k = k} n s = numbered_at n s ∙ ap id_of (let u : 0 + k ≡ k = omega arith in u)

-- the last line that bears the id of line k is line k
numbered_last : (ls : List Line) → Numbered 0 ls → (k : ℕ) → k < length ls → LastLine ls (id_of k) k
numbered_last ls n k h =
    let r = nth_there ls k h in
    record {
      at = r.0;
      stands = r.1;
      true_of = numbered_from n r.1;
      after = λ m x l s e. let u = id_once m k (sym (numbered_from n s) ∙ e) in omega arith;
    }

-- ---- lines with new ids

module _ (qs : List Question) (ls : List Line) (leaves : List ℕ) where
  -- a reference by where it goes
  abbrev new : {r : Ref} {j : ℕ} → ToFirst ls leaves r j → Ref
  new (ToFirst.to_line {k = k} s) = node (id_of k)
  new (ToFirst.to_first {n = n} s) = pdf n

  new_pdf : {r : Ref} {j : ℕ} (g : ToFirst ls leaves r j) → pdf_of (new g) ≡ pdf_of r
  new_pdf (ToFirst.to_line s) = refl
  new_pdf (ToFirst.to_first s) = refl

  -- the lines from line k on
  again : (k : ℕ) {xs : List Line} {front : List Row} → Forall₂ (LineRow qs (ToFirst ls leaves)) xs front → List Line
  again k Forall₂.nil = []
  again k (Forall₂.cons (LineRow.row {l = l} q y n) rs) = record { id = id_of k; question = l.question; no = new n; yes = new y } ∷ again (suc k) rs

  again_numbered : (k : ℕ) {xs : List Line} {front : List Row} (f : Forall₂ (LineRow qs (ToFirst ls leaves)) xs front) → Numbered k (again k f)
  unfolding again
  again_numbered k Forall₂.nil = Numbered.none
  again_numbered k (Forall₂.cons (LineRow.row q y n) rs) = Numbered.more refl (again_numbered (suc k) rs)

  again_long : (k : ℕ) {xs : List Line} {front : List Row} (f : Forall₂ (LineRow qs (ToFirst ls leaves)) xs front) → length (again k f) ≡ length xs
  unfolding again
  again_long k Forall₂.nil = refl
  again_long k (Forall₂.cons (LineRow.row q y n) rs) = ap suc (again_long (suc k) rs)

  again_pdfs : (k : ℕ) {xs : List Line} {front : List Row} (f : Forall₂ (LineRow qs (ToFirst ls leaves)) xs front) → pdfs (again k f) ≡ pdfs xs
  unfolding again pdfs
  again_pdfs k Forall₂.nil = refl
  again_pdfs k (Forall₂.cons (LineRow.row q y n) rs) = ap₂ ◌++◌ (new_pdf y) (ap₂ ◌++◌ (new_pdf n) (again_pdfs (suc k) rs))

  module _ (us : List Line) (numbered : Numbered 0 us) (long : length us ≡ length ls) where
    goes : {r : Ref} {j : ℕ} (g : ToFirst ls leaves r j) → ToFirst us leaves (new g) j
    goes (ToFirst.to_line {k = k} s) = ToFirst.to_line (numbered_last us numbered k (let u = nth_inside s.stands in omega arith))
    goes (ToFirst.to_first {n = n} {k = k} s) = subst (λ (m : ℕ). ToFirst us leaves (pdf n) (m + k)) long (ToFirst.to_first s)

    again_rows : (k : ℕ) {xs : List Line} {front : List Row} (f : Forall₂ (LineRow qs (ToFirst ls leaves)) xs front) → Forall₂ (LineRow qs (ToFirst us leaves)) (again k f) front
    unfolding again
    again_rows k Forall₂.nil = Forall₂.nil
    again_rows k (Forall₂.cons (LineRow.row q y n) rs) = Forall₂.cons (LineRow.row q (goes y) (goes n)) (again_rows (suc k) rs)

-- ---- one line with unlike references keeps them unlike

nth_only : {A : Type 0} {l a : A} {k : ℕ} → Nth (l ∷ []) k a → a ≡ l
nth_only Nth.here = refl
nth_only {A = A} {l = l} {a = a} (linking.there {k = k} x7) = elim x7 [ ]

differ : {x : ℤ} {n : ℕ} → node x ≡ pdf n → ⊥
differ e = let u : ◌≡◌ {A = ℕ} 0 1 = cc in omega arith

module _ (qs : List Question) (l : Line) (leaves : List ℕ) where
  borne : {x : ℤ} {k : ℕ} → LastLine (l ∷ []) x k → l.id ≡ x
  borne s = ap (λ (a : Line). a.id) (sym (nth_only s.stands)) ∙ s.true_of

  new_same : {r q : Ref} {i j : ℕ} (g : ToFirst (l ∷ []) leaves r i) (h : ToFirst (l ∷ []) leaves q j) → new qs (l ∷ []) leaves g ≡ new qs (l ∷ []) leaves h → r ≡ q
  new_same (ToFirst.to_line s) (ToFirst.to_line t) e = ap node (sym (borne s) ∙ borne t)
  new_same (ToFirst.to_line s) (ToFirst.to_first t) e = absurd (differ e)
  new_same (ToFirst.to_first s) (ToFirst.to_line t) e = absurd (differ (sym e))
  new_same (ToFirst.to_first s) (ToFirst.to_first t) e = e

few_lines : {t : Body} {r : Ref} → Single t r → (t ≡ braces [] → ⊥) × ((k l : Line) (ls : List Line) → t ≡ braces (k ∷ (l ∷ ls)) → ⊥)
few_lines Single.alone = (λ e. let u : ◌≡◌ {A = ℕ} 0 1 = cc in omega arith, λ k l ls e. let u : ◌≡◌ {A = ℕ} 0 1 = cc in omega arith)
few_lines (Single.alike a b) = (λ e. let u : ◌≡◌ {A = ℕ} 0 1 = cc in omega arith, λ k l ls e. let u : ◌≡◌ {A = ℕ} 0 1 = cc in omega arith)

again_unlike : (qs : List Question) (ls : List Line) (leaves : List ℕ) {front : List Row} (f : Forall₂ (LineRow qs (ToFirst ls leaves)) ls front)
    → NotSingle ls → NotSingle (again qs ls leaves 0 f)
unfolding again
again_unlike qs [] leaves Forall₂.nil ns r s = (few_lines s).0 refl
again_unlike qs (l ∷ (k ∷ ls)) leaves (Forall₂.cons (LineRow.row q y n) (Forall₂.cons (LineRow.row q' y' n') rs)) ns r s = (few_lines s).1 _ _ _ refl
again_unlike qs (l ∷ []) leaves (Forall₂.cons (LineRow.row q y n) Forall₂.nil) ns r (Single.alike a b) =
    ns l.yes (Single.alike (new_same qs l leaves n y (a ∙ sym b)) refl)

-- ---- a tree

pub data PlainBody : Body → Type 0 where
  leaf : {n : ℕ} → PlainBody (lone (pdf n))
  lines : {ls : List Line} → NotSingle ls → Numbered 0 ls → PlainBody (braces ls)

pub plain_body : {qs : List Question} {t : Body} {rows : List Row} {m : ℕ} → Records qs t rows → LinesOf t m → (u : Body) × PlainBody u × Records qs u rows × LinesOf u m
plain_body (Records.single b) (LinesOf.single s) = (lone (pdf _), PlainBody.leaf, Records.single Single.alone, LinesOf.single Single.alone)
plain_body (Records.single b) (LinesOf.lines ns) = absurd (ns _ b)
plain_body (Records.lines leaves ns asc tm f e) (LinesOf.single s) = absurd (ns _ s)
plain_body {qs} (Records.lines {ls = ls} leaves ns asc tm f e) (LinesOf.lines _) =
    let us = again qs ls leaves 0 f in
    let numbered = again_numbered qs ls leaves 0 f in
    let long = again_long qs ls leaves 0 f in
    let unlike = again_unlike qs ls leaves f ns in (
      braces us,
      PlainBody.lines unlike numbered,
      Records.lines leaves unlike asc (λ n. tm n ∙ ap (times n) (sym (again_pdfs qs ls leaves 0 f))) (again_rows qs ls leaves us numbered long 0 f) e,
      subst (LinesOf (braces us)) long (LinesOf.lines unlike),
    )

-- ---- what a text says fits

byte_is : (s : List ℕ) (i : ℕ) → i < length s → byte_at s i ≡ get_or s i 0
unfolding byte_at
byte_is s i h = rw (lt-ltb i (length s) h)

-- a byte of a class that the end isn't in
pub byte_in : (p : ℕ → Bool) → p 256 ≡ false → (s : List ℕ) (i : ℕ) → p (byte_at s i) ≡ true → (i < length s) × (p (get_or s i 0) ≡ true)
byte_in p z s i y = go (dec_lt i (length s))
  where
    go : Dec (i < length s) → (i < length s) × (p (get_or s i 0) ≡ true)
    go (yes h) = (h, ap p (sym (byte_is s i h)) ∙ y)
    go (no h) = let u : true ≡ false = sym y ∙ ap p (past_end s i (omega arith)) ∙ z in let v : ◌≡◌ {A = ℕ} 0 1 = cc in absurd (omega arith)

module _ {s : List ℕ} where
  run_every : (p : ℕ → Bool) → p 256 ≡ false → {i j : ℕ} → Run s p i j → (i ≤ j) × Every p (between s i j)
  unfolding between
  run_every p z {i} (Run.stop n) = (omega arith, let u : i - i ≡ 0 = omega arith in subst (λ (m : ℕ). Every p (take m (drop i s))) (sym u) Every.none)
  run_every p z {i} {j} (Run.more y r) =
      let h = run_every p z r in
      let g = h.0 in
      let b = byte_in p z s i y in
      let u : j - i ≡ suc (j - suc i) = omega arith in
      (omega arith, subst (λ (m : ℕ). Every p (take m (drop i s))) (sym u) (subst (λ (l : List ℕ). Every p (take (suc (j - suc i)) l)) (sym (drop-cons s i 0 b.0)) (Every.more b.1 h.1)))

  run₁_every : (p : ℕ → Bool) → p 256 ≡ false → {i j : ℕ} → Run₁ s p i j → Every p (between s i j) × (0 < length (between s i j))
  unfolding between
  run₁_every p z {i} {j} (Run₁.some y r) =
      let h = run_every p z (Run.more y r) in
      let g = (run_every p z r).0 in
      let b = byte_in p z s i y in
      let u : j - i ≡ suc (j - suc i) = omega arith in
      (h.1, subst (λ (m : ℕ). 0 < length (take m (drop i s))) (sym u) (subst (λ (l : List ℕ). 0 < length (take (suc (j - suc i)) l)) (sym (drop-cons s i 0 b.0)) (omega arith)))

  number_fits : {i j : ℕ} {x : ℤ} → Number s i j x → Fits x
  number_fits (Number.plus d l) = l
  number_fits (Number.minus {n = zero} w d l) = omega arith
  number_fits (Number.minus {n = suc n} w d l) = l

  bare_fits : {i j : ℕ} {r : Ref} → Bare s i j r → RefFits r
  bare_fits (Bare.number n) = number_fits n
  bare_fits (Bare.word never r k d e l) = l

  ref_fits : {i j : ℕ} {r : Ref} → Reference s i j r → RefFits r
  ref_fits (Reference.bare b) = bare_fits b
  ref_fits (Reference.quoted a b c) = bare_fits b

  line_fits : {i j : ℕ} {l : Line} {w : Span} → LineAt s i j l w → LineFits l
  unfolding in_name blank
  line_fits (LineAt.line x a n b r c t) =
      let h = run₁_every in_name refl n in record { id = number_fits x; question = h.0; named = h.1; no_ref = ref_fits r; yes_ref = ref_fits t }

  pattern_fits : {i j : ℕ} {w : List ℕ} {p : Span} → PatternAt s i j w p → PatternFits w
  unfolding in_pattern letter digit wildcard mark one_of
  pattern_fits (PatternAt.bare r) = let h = run₁_every in_pattern refl r in record { bytes_in = h.0; some_byte = h.1 }
  pattern_fits (PatternAt.quoted a r b) = let h = run₁_every in_pattern refl r in record { bytes_in = h.0; some_byte = h.1 }

parted_all : {A B : Type 0} {Part : ℕ → ℕ → Type 0} {Item : ℕ → ℕ → A → B → Type 0} {P : A → Type 0} → ((i j : ℕ) (x : A) (y : B) → Item i j x y → P x)
    → {i j : ℕ} {xs : List A} {ys : List B} → Parted Part Item i j xs ys → All P xs × (0 < length xs)
parted_all f (Parted.last {i = i} {j = j} {x = x} {y = y} t) = (All.more (f i j x y t) All.none, omega arith)
parted_all f (Parted.next {i = i} {a = a} {x = x} {y = y} t p r) = (All.more (f i a x y t) (parted_all f r).0, omega arith)

module _ {s : List ℕ} where
  body_fits : {i j : ℕ} {t : Body} {ws : List Span} → BodyAt s i j t ws → BodyFits t
  body_fits (BodyAt.one r) = ref_fits r
  body_fits (BodyAt.none a b c) = All.none
  body_fits (BodyAt.lines a b ls c d) = (parted_all (λ i j x y t. line_fits t) ls).0

  tree_fits : {i j : ℕ} {t : Tree} {u : TreePlace} → TreeAt s i j t u → TreeFits t
  tree_fits (TreeAt.tree w a o x c b t) = record { state = number_fits x; body = body_fits t }

  question_fits : {i j : ℕ} {q : Question} {w : QuestionPlace} → QuestionAt s i j q w → QuestionFits q
  unfolding in_name blank
  question_fits (QuestionAt.question q a n b o c ps d z) =
      let h = run₁_every in_name refl n in
      let k = parted_all (λ i j x y t. pattern_fits t) ps in
      record { name = h.0; named = h.1; patterns = k.0; asked = k.1 }

  -- what a text says is such as a text can have
  pub says_fits : {i : ℕ} {t : Text} {l : Layout} → Says s i t l → TextFits t
  says_fits (Says.without (TreesAt.trees a ts b)) = let k = parted_all (λ i j x y t. tree_fits t) ts in record { questions = All.none; trees = k.0; some_tree = k.1 }
  says_fits (Says.with_questions qs (TreesAt.trees a ts b)) =
      let k = parted_all (λ i j x y t. tree_fits t) ts in
      record { questions = (parted_all (λ i j x y t. question_fits t) qs).0; trees = k.0; some_tree = k.1 }

-- ---- plain trees fit

id_fits : (k : ℕ) → k ≤ 2 ^ 63 → Fits (id_of k)
id_fits zero h = omega arith
id_fits (suc k) h = h

module _ (qs : List Question) (ls : List Line) (leaves : List ℕ) (few : length ls ≤ 2 ^ 63) where
  new_fits : {r : Ref} {j : ℕ} (g : ToFirst ls leaves r j) → RefFits r → RefFits (new qs ls leaves g)
  new_fits (ToFirst.to_line {k = k} s) f = id_fits k (let u = nth_inside s.stands in omega arith)
  new_fits (ToFirst.to_first s) f = f

  again_fits : (k : ℕ) {xs : List Line} {front : List Row} (f : Forall₂ (LineRow qs (ToFirst ls leaves)) xs front) → k + length xs ≤ 2 ^ 63 → All LineFits xs
      → All LineFits (again qs ls leaves k f)
  unfolding again
  again_fits k Forall₂.nil h All.none = All.none
  again_fits k (Forall₂.cons (LineRow.row q y n) rs) h (All.more a rest) =
      All.more
      (record { id = id_fits k (omega arith); question = a.question; named = a.named; no_ref = new_fits n a.no_ref; yes_ref = new_fits y a.yes_ref })
      (again_fits (suc k) rs (omega arith) rest)

front_long : {A B : Type 0} {R : A → B → Type 0} {xs : List A} {ys : List B} → Forall₂ R xs ys → length ys ≡ length xs
front_long Forall₂.nil = refl
front_long (Forall₂.cons r rs) = ap suc (front_long rs)

pub leaf-fits : {t : Body} {n : ℕ} → BareLeaf t n → BodyFits t → n < 2 ^ 63
leaf-fits b f = go b refl f
  where
    go : {t : Body} {n : ℕ} {r : Ref} → Single t r → r ≡ pdf n → BodyFits t → n < 2 ^ 63
    go Single.alone e f = subst RefFits e f
    go (Single.alike a b) e (All.more l ls) = subst RefFits (b ∙ e) l.yes_ref

plain_fits : {qs : List Question} {t : Body} {rows : List Row} {m : ℕ} (r : Records qs t rows) (l : LinesOf t m) → length rows ≤ 2 ^ 63 → BodyFits t → BodyFits (plain_body r l).0
unfolding plain_body
plain_fits (Records.single b) (LinesOf.single s) h f = leaf-fits b f
plain_fits (Records.single b) (LinesOf.lines ns) h f = absurd (ns _ b)
plain_fits (Records.lines leaves ns asc tm f e) (LinesOf.single s) h g = absurd (ns _ s)
plain_fits {qs} (Records.lines {ls = ls} {front = front} leaves ns asc tm f e) (LinesOf.lines _) h g =
    let u : length ls ≤ 2 ^ 63 = let a = ap length e ∙ length-append front (map linking.leaf leaves) in let b = front_long f in omega arith in
    again_fits qs ls leaves u 0 f (omega arith) g

-- ---- all trees

pub plain_there : {qs : List Question} {f : ℕ} {ts : List Tree} {T R : List Row} → TreeRows qs f ts T R → length R ≤ 2 ^ 63 → All TreeFits ts
    → (us : List Tree) × Plain us × TreeRows qs f us T R × All TreeFits us × (length us ≡ length ts)
plain_there TreeRows.none h All.none = ([], Plain.none, TreeRows.none, All.none, refl)
plain_there (TreeRows.more {t = t} {rows = rows} {records = records} e r l x) h (All.more a rest) =
    let b = length-append rows records in
    let k = plain_there x (omega arith) rest in
    let p = plain_body r l in
    let u : Tree = record { state = t.state; body = p.0 } in
    (u ∷ k.0, add u p.1 refl k.1, TreeRows.more e p.2 p.3 k.2, All.more (record { state = a.state; body = plain_fits r l (omega arith) a.body }) k.3, ap suc k.4)
  where
    add : (u : Tree) {b : Body} {us : List Tree} → PlainBody b → u.body ≡ b → Plain us → Plain (u ∷ us)
    add u PlainBody.leaf e p = Plain.leaf e p
    add u (PlainBody.lines ns n) e p = Plain.lines e ns n p

-- rows that some text reads back to have a text
pub written_there : {d : List ℕ} {Q P T R : List Row} → length R ≤ 2 ^ 63 → ReadBack d Q P T R → (w : List ℕ) × Written d Q P T R w
written_there h x =
    let f = says_fits x.says in
    let k = plain_there x.rows.trees h f.trees in
    let t : Text = record { questions = x.t.questions; trees = k.0 } in
    let c = f.some_tree in
    let e = k.4 in
    let s = spelled_says [] t (record { questions = f.questions; trees = k.3; some_tree = omega arith }) in
    (spelled t, record { t = t; l = s.0; says = s.1; rows = record { questions = x.rows.questions; trees = k.2 }; plain = k.1; bytes_of = refl })
