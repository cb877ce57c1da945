-- Rows have one text: what they say, with ids 0, -1, -2 and on and bare leaves alone, is one thing, and so are its bytes.
use mathlib.Core.Path.{◌≡◌, refl, sym, ap, ap₂, ◌∙◌, subst}
use mathlib.Core.List.{List, [], ◌∷◌, ◌++◌, map, Forall₂}
use Prim.Native.Nat.{ℕ, suc}
use native.Mathlib.Omega.{arith}
use lib.Dec.{eqb}
use borrow.Author.Tests.{eq-eqb}
use lib.IntN.{pos}
use lib.ListN.{length, get_or}
use mathlib.Core.Bool.{Bool, cond}
use Rattle.written.specs.Bytes.{part}
use Rattle.written.specs.Said.{Ref, node, pdf, Line, Body, lone, braces, Tree, Question}
use Rattle.written.specs.Linking.{Nth, LastQuestion, Single, NotSingle, Row, leaf, LineRow, ToFirst, pdfs, times, Records}
use Rattle.written.specs.Tables.{LinesOf, TreeRows}
use Rattle.written.specs.Writing.{Spells, PatternsSay, QuestionsSay, Numbered, Plain, Written, spelled}
use Rattle.written.proofs.Walk.{nth_once, single_once}
use Rattle.written.proofs.ModelOnce.{lines_once}
use Rattle.written_back.proofs.Plain.{id_of, numbered_from, nth_inside, PlainBody}

-- ---- lists

-- two lists that are put together alike, with fronts of one length, are alike part by part
pub append_cut : {A : Type 0} (a b : List A) {c d : List A} → length a ≡ length b → a ++ c ≡ b ++ d → (a ≡ b) × (c ≡ d)
append_cut [] [] l e = (refl, e)
append_cut [] (y ∷ b) l e = absurd (omega arith)
append_cut (x ∷ a) [] l e = absurd (omega arith)
append_cut (x ∷ a) (y ∷ b) {c} {d} l e = let h : a ++ c ≡ b ++ d = cc in let r = append_cut a b (omega arith) h in let u : x ≡ y = cc in (ap₂ ◌∷◌ u r.0, r.1)

pub paired_long : {A B : Type 0} {R : A → B → Type 0} {xs : List A} {ys : List B} → Forall₂ R xs ys → length ys ≡ length xs
paired_long Forall₂.nil = refl
paired_long (Forall₂.cons r rs) = ap suc (paired_long rs)

leaves_same : (xs ys : List ℕ) → map leaf xs ≡ map leaf ys → xs ≡ ys
leaves_same [] [] e = refl
leaves_same [] (y ∷ ys) e = let u : ◌≡◌ {A = ℕ} 0 1 = cc in absurd (omega arith)
leaves_same (x ∷ xs) [] e = let u : ◌≡◌ {A = ℕ} 0 1 = cc in absurd (omega arith)
leaves_same (x ∷ xs) (y ∷ ys) e = let h : map leaf xs ≡ map leaf ys = cc in let u : leaf x ≡ leaf y = cc in ap₂ ◌∷◌ (ap (λ (r : Row). get_or r 1 0) u) (leaves_same xs ys h)

-- ---- questions

module _ (d : List ℕ) where
  spells_once : {a b n m : ℕ} {w v : List ℕ} → Spells d a n w → Spells d b m v → a ≡ b → n ≡ m → w ≡ v
  spells_once s t e f = sym s.bytes_of ∙ ap₂ (λ (a n : ℕ). part d a n) e f ∙ t.bytes_of

  patterns_once : {A B : List Row} {ws vs : List (List ℕ)} → PatternsSay d A ws → PatternsSay d B vs → A ≡ B → ws ≡ vs
  patterns_once PatternsSay.none PatternsSay.none e = refl
  patterns_once PatternsSay.none (PatternsSay.more t q) e = let u : ◌≡◌ {A = ℕ} 0 1 = cc in absurd (omega arith)
  patterns_once (PatternsSay.more s p) PatternsSay.none e = let u : ◌≡◌ {A = ℕ} 0 1 = cc in absurd (omega arith)
  patterns_once (PatternsSay.more {a = a} {n = n} {rows = A} s p) (PatternsSay.more {a = b} {n = m} {rows = B} t q) e =
      let f : a ≡ b = cc in
      let g : n ≡ m = cc in
      let h : A ≡ B = cc in
      ap₂ ◌∷◌ (spells_once s t f g) (patterns_once p q h)

  -- rows say one list of questions
  pub questions_once : {k j : ℕ} {Q N P O : List Row} {qs us : List Question} → QuestionsSay d k Q P qs → QuestionsSay d j N O us → Q ≡ N → P ≡ O → qs ≡ us
  questions_once QuestionsSay.none QuestionsSay.none e g = refl
  questions_once QuestionsSay.none (QuestionsSay.more t q y) e g = let u : ◌≡◌ {A = ℕ} 0 1 = cc in absurd (omega arith)
  questions_once (QuestionsSay.more s p x) QuestionsSay.none e g = let u : ◌≡◌ {A = ℕ} 0 1 = cc in absurd (omega arith)
  questions_once (QuestionsSay.more {a = a} {n = n} {own = own} {rows = A} s p x) (QuestionsSay.more {a = b} {n = m} {own = other} {rows = B} t q y) e g =
      let u : a ≡ b = cc in
      let v : n ≡ m = cc in
      let l : length own ≡ length other = cc in
      let h : A ≡ B = cc in
      let c = append_cut own other l g in
      ap₂ ◌∷◌ (ap₂ (λ (w : List ℕ) (ws : List (List ℕ)). record { name = w; patterns = ws }) (spells_once s t u v) (patterns_once p q c.0)) (questions_once x y h c.1)

-- ---- a tree

-- a reference by where it goes, from numbered lines
to_once : (ls us : List Line) (leaves others : List ℕ) → Numbered 0 ls → Numbered 0 us → length ls ≡ length us → leaves ≡ others
    → {r q : Ref} {i j : ℕ} → ToFirst ls leaves r i → ToFirst us others q j → i ≡ j → r ≡ q
to_once ls us leaves others n m l e (ToFirst.to_line {k = k} s) (ToFirst.to_line {k = j} t) h =
    ap node (sym s.true_of ∙ numbered_from n s.stands ∙ ap id_of h ∙ sym (numbered_from m t.stands) ∙ t.true_of)
to_once ls us leaves others n m l e (ToFirst.to_line s) (ToFirst.to_first t) h = absurd (omega (arith, nth_inside s.stands))
to_once ls us leaves others n m l e (ToFirst.to_first s) (ToFirst.to_line t) h = absurd (omega (arith, nth_inside t.stands))
to_once ls us leaves others n m l e (ToFirst.to_first {k = k} s) (ToFirst.to_first {k = j} t) h =
    let i : k ≡ j = omega arith in
    ap pdf (sym s.true_of ∙ nth_once (subst (λ (x : List ℕ). Nth x k s.at) e s.stands) (subst (λ (x : ℕ). Nth others x t.at) (sym i) t.stands) ∙ t.true_of)

some_leaf : (x : ℕ) (leaves : List ℕ) → times x (x ∷ leaves) ≡ times x (pdfs []) → ⊥
unfolding times pdfs
some_leaf x leaves t = let u : ◌≡◌ {A = ℕ} (cond (eqb x x) 1 0) 1 = ap (λ (b : Bool). cond b 1 0) (eq-eqb x x refl) in omega arith

module _ {qs : List Question} where
  -- the last question of its name says the name
  named_once : {w v : List ℕ} {i j : ℕ} → LastQuestion qs w i → LastQuestion qs v j → i ≡ j → w ≡ v
  named_once {j = j} s t e =
      sym s.true_of ∙ ap (λ (q : Question). q.name) (nth_once (subst (λ (k : ℕ). Nth qs k s.at) e s.stands) t.stands) ∙ t.true_of

  module _ (ls us : List Line) (leaves others : List ℕ) (n : Numbered 0 ls) (m : Numbered 0 us) (l : length ls ≡ length us) (e : leaves ≡ others) where
    lines_same : {k : ℕ} {xs ys : List Line} {A B : List Row} → Numbered k xs → Numbered k ys
        → Forall₂ (LineRow qs (ToFirst ls leaves)) xs A → Forall₂ (LineRow qs (ToFirst us others)) ys B → A ≡ B → xs ≡ ys
    lines_same Numbered.none Numbered.none Forall₂.nil Forall₂.nil g = refl
    lines_same Numbered.none (Numbered.more v b) Forall₂.nil (Forall₂.cons y ys) g = let u : ◌≡◌ {A = ℕ} 0 1 = cc in absurd (omega arith)
    lines_same (Numbered.more u a) Numbered.none (Forall₂.cons x xs) Forall₂.nil g = let u : ◌≡◌ {A = ℕ} 0 1 = cc in absurd (omega arith)
    lines_same (Numbered.more u a) (Numbered.more v b) (Forall₂.cons (LineRow.row {q = q} {y = y} {n = i} lq gy gn) xs) (Forall₂.cons (LineRow.row {q = p} {y = z} {n = j} lp hz hj) ys) g =
        let c : q ≡ p = cc in
        let f : y ≡ z = cc in
        let h : i ≡ j = cc in
        let rest = lines_same a b xs ys (cc) in
        let w = named_once lq lp c in
        let o = to_once ls us leaves others n m l e gn hj h in
        let t = to_once ls us leaves others n m l e gy hz f in
        λ i. record { id = (u ∙ sym v) i; question = w i; no = o i; yes = t i } ∷ rest i

  -- lines without any have no records
  pub no_lines : {ls : List Line} {rows : List Row} → NotSingle ls → Records qs (braces ls) rows → length ls ≡ 0 → length rows ≡ 0
  no_lines ns (Records.single b) z = absurd (ns _ b)
  no_lines ns (Records.lines {ls = []} [] o asc tm Forall₂.nil e) z = ap length e
  no_lines ns (Records.lines {ls = []} (x ∷ leaves) o asc tm f e) z = absurd (some_leaf x leaves (tm x))
  no_lines ns (Records.lines {ls = l ∷ ls} leaves o asc tm f e) z = absurd (omega arith)

  -- a leaf alone has its record
  pub lone_row : {n : ℕ} {rows : List Row} → Records qs (lone (pdf n)) rows → rows ≡ leaf n ∷ []
  lone_row {n} (Records.single {n = k} b) = let e : pdf k ≡ pdf n = single_once b Single.alone in let u : k ≡ n = cc in ap (λ (i : ℕ). leaf i ∷ []) u

  -- numbered lines by their records
  lines_body_once : {ls us : List Line} {A B : List Row} → NotSingle ls → NotSingle us → Numbered 0 ls → Numbered 0 us → Records qs (braces ls) A → Records qs (braces us) B
      → length ls ≡ length us → A ≡ B → ls ≡ us
  lines_body_once ns os n m (Records.single b) s l e = absurd (ns _ b)
  lines_body_once ns os n m (Records.lines leaves o asc tm f g) (Records.single b) l e = absurd (os _ b)
  lines_body_once ns os n m (Records.lines {ls = ls} {front = A} leaves o asc tm f g) (Records.lines {ls = us} {front = B} others o' asc' tm' f' g') l e =
      let c = append_cut A B (paired_long f ∙ l ∙ sym (paired_long f')) (sym g ∙ e ∙ g') in
      lines_same ls us leaves others n m l (leaves_same leaves others c.1) n m f f' c.0

  -- a plain body by its records and lines
  body_once : {b c : Body} {A B : List Row} {m k : ℕ} → PlainBody b → PlainBody c → Records qs b A → Records qs c B → LinesOf b m → LinesOf c k → A ≡ B → m ≡ k → b ≡ c
  body_once {A = A} {B = B} (PlainBody.leaf {n = n}) (PlainBody.leaf {n = m}) r s x y e g =
      let h : leaf n ∷ [] ≡ leaf m ∷ [] = sym (lone_row r) ∙ e ∙ lone_row s in let u : n ≡ m = cc in ap (λ (i : ℕ). lone (pdf i)) u
  body_once PlainBody.leaf (PlainBody.lines ns nm) r s x y e g =
      let z = lines_once x (LinesOf.single Single.alone) in
      let w = no_lines ns s (sym (lines_once y (LinesOf.lines ns)) ∙ sym g ∙ z) in
      let v = ap length (sym (lone_row r) ∙ e) in
      absurd (omega arith)
  body_once (PlainBody.lines ns nm) PlainBody.leaf r s x y e g =
      let z = lines_once y (LinesOf.single Single.alone) in
      let w = no_lines ns r (sym (lines_once x (LinesOf.lines ns)) ∙ g ∙ z) in
      let v = ap length (sym (lone_row s) ∙ sym e) in
      absurd (omega arith)
  body_once (PlainBody.lines ns nm) (PlainBody.lines os om) r s x y e g =
      ap braces (lines_body_once ns os nm om r s (sym (lines_once x (LinesOf.lines ns)) ∙ g ∙ lines_once y (LinesOf.lines os)) e)

-- ---- all trees

plain_first : {t : Tree} {ts : List Tree} → Plain (t ∷ ts) → PlainBody t.body × Plain ts
plain_first (Plain.leaf e p) = (subst PlainBody (sym e) PlainBody.leaf, p)
plain_first (Plain.lines e ns nm p) = (subst PlainBody (sym e) (PlainBody.lines ns nm), p)

pub trees_once : {qs : List Question} {f g : ℕ} {ts us : List Tree} {T M R N : List Row} → TreeRows qs f ts T R → TreeRows qs g us M N → Plain ts → Plain us → T ≡ M → R ≡ N → ts ≡ us
trees_once TreeRows.none TreeRows.none p q e h = refl
trees_once TreeRows.none (TreeRows.more u s y v) p q e h = let z : ◌≡◌ {A = ℕ} 0 1 = cc in absurd (omega arith)
trees_once (TreeRows.more a r x w) TreeRows.none p q e h = let z : ◌≡◌ {A = ℕ} 0 1 = cc in absurd (omega arith)
trees_once (TreeRows.more {n = n} {m = m} {rows = A} {trees = T} a r x w) (TreeRows.more {n = k} {m = j} {rows = B} {trees = M} u s y v) p q e h =
    let b : n ≡ k = cc in
    let c : m ≡ j = cc in
    let l : length A ≡ length B = cc in
    let d : T ≡ M = cc in
    let i = append_cut A B l h in
    let o = plain_first p in
    let z = plain_first q in
    let st = a ∙ ap pos b ∙ sym u in
    let bo = body_once o.0 z.0 r s x y i.0 c in
    let rest = trees_once w v o.1 z.1 d i.1 in
    λ i. record { state = st i; body = bo i } ∷ rest i

-- rows have one text
pub written_once : {d v w : List ℕ} {Q P T R : List Row} → Written d Q P T R v → Written d Q P T R w → v ≡ w
written_once {d} {T = T} {R = R} x y =
    let q = questions_once d x.rows.questions y.rows.questions refl refl in
    let t = trees_once (subst (λ (l : List Question). TreeRows l 0 x.t.trees T R) q x.rows.trees) y.rows.trees x.plain y.plain refl refl in
    x.bytes_of ∙ ap₂ (λ (l : List Question) (ts : List Tree). spelled (record { questions = l; trees = ts })) q t ∙ sym y.bytes_of
