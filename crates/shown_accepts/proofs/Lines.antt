-- Lines and questions as they are read are those that the text says; where a line's references lead and what it asks, or its fault.
use mathlib.Core.Path.{◌≡◌, refl, sym, ap, ap₂, ◌∙◌, subst}
use mathlib.Core.Bool.{Bool, true, false, cond}
use mathlib.Core.List.{List, zip_with, Forall₂}
use Prim.Native.Nat.{ℕ, zero, suc, ◌+◌, ◌^◌, ◌≤◌, ◌<◌}
use native.Mathlib.Omega.{arith}
use borrow.Author.Tests.{eq-eqb}
use lib.IntN.{ℤ, pos, neg_ℤ}
use lib.Signed.{mag}
use lib.Dec.{eqb}
use Rattle.link_alone.specs.declared.LineLink.{LineLink}
use Rattle.std.specs.declared.result.Result.{Result}
use Rattle.std.specs.declared.option.Option.{Option}
use Rattle.std.specs.Prelude.{Some, None, Ok, Err}
use Rattle.written.specs.Bytes.{Span, same}
use Rattle.written.specs.Said as said
use Rattle.written.specs.Said.{Ref, node, pdf, Question, QuestionPlace}
use Rattle.written.specs.TreeText.{Parted, last, next, Number, plus, minus, Bare, number, word, Reference, bare, quoted, Parting, LineParting, LineAt, line, QuestionAt, question}
use Rattle.written.specs.Linking.{Nth, LastLine, LastQuestion, Declared, borne, a_pdf, Asked, asked, Fault, yes_undeclared, no_undeclared, not_asked}
use Rattle.laws.proofs.Wholes.{eq_z-true}
use Rattle.tree_reference.specs.References.{index_of}
use Rattle.tree_line.specs.Lines.{line_of}
use Rattle.tree_line.specs.declared.Line as code
use Rattle.link_order.specs.Keys.{id_key}
use Rattle.text_parts.specs.Parts.{part_inside}
use Rattle.link_search.proofs.Ids.{same_id, same_true, true_same}
use Rattle.link_find.specs.Find as find
use Rattle.error.specs.Numbers.{fault_number}
use Rattle.error.specs.declared.LinkFault.{LinkFault}
use Rattle.error.specs.declared.LinkFault.TheVariants.{NodeRef, QuestionRef}
use Rattle.link_alone.specs.Alone.{to_line, target_in, link_asked, link_of, link_in, line_link}
use Rattle.link_fits.specs.Fits.{nowhere}
use Rattle.link_fits.specs.declared.Target.{Target}
use Rattle.link_fits.specs.declared.Target.TheVariants.{Line, Leaf, Nowhere}
use Rattle.shown_text.proofs.Words.{name_stands}
use Rattle.shown_accepts.proofs.Seeks.{Seeks, hit, miss, seeks}

-- ---- numbers of the text are small

negated : (n : ℕ) → n ≤ 2 ^ 63 → mag (neg_ℤ (pos n)) < 2 ^ 63
negated zero h = omega arith
negated (suc n) h = omega arith

-- an id that stands in the text
abbrev pub RefSmall : Ref → Type 0
RefSmall (node x) = mag x < 2 ^ 63
RefSmall (pdf n) = Unit {0}

module _ (s : List ℕ) where
  number_small : {i j : ℕ} {x : ℤ} → Number s i j x → mag x < 2 ^ 63
  number_small (plus d h) = h
  number_small (minus {n = n} w d h) = negated n h

  bare_small : {i j : ℕ} {r : Ref} → Bare s i j r → RefSmall r
  bare_small (number x) = number_small x
  bare_small (word n r a b d h) = tt

  reference_small : {i j : ℕ} {r : Ref} → Reference s i j r → RefSmall r
  reference_small (bare b) = bare_small b
  reference_small (quoted p b q) = bare_small b

  -- ---- lines and questions, said and read

  pub record LineSaid (l : said.Line) (c : code.Line) : Type 0 where
    pub id : c.id ≡ l.id
    pub small : mag l.id < 2 ^ 63
    pub yes : c.yes ≡ index_of l.yes
    pub no : c.no ≡ index_of l.no
    pub yes_small : RefSmall l.yes
    pub no_small : RefSmall l.no
    pub name : part_inside s c.start c.len ≡ l.question

  pub record QuestionSaid (q : Question) (w : QuestionPlace) : Type 0 where
    pub name : part_inside s w.name.start w.name.len ≡ q.name

  line_said : {i j : ℕ} {l : said.Line} {w : Span} → LineAt s i j l w → LineSaid l (line_of l w)
  line_said (line x a n b l c r) =
      record { id = refl; small = number_small x; yes = refl; no = refl; yes_small = reference_small r; no_small = reference_small l; name = name_stands s n }

  pub lines_said : {i j : ℕ} {ls : List said.Line} {ws : List Span} → Parted (LineParting s) (LineAt s) i j ls ws → Forall₂ LineSaid ls (zip_with line_of ls ws)
  unfolding zip_with
  lines_said (last t) = Forall₂.cons (line_said t) Forall₂.nil
  lines_said (next t p r) = Forall₂.cons (line_said t) (lines_said r)

  question_said : {i j : ℕ} {q : Question} {w : QuestionPlace} → QuestionAt s i j q w → QuestionSaid q w
  question_said (question q a n b c d ps e f) = record { name = name_stands s n }

  pub questions_said : {i j : ℕ} {qs : List Question} {ws : List QuestionPlace} → Parted (Parting s) (QuestionAt s) i j qs ws → Forall₂ QuestionSaid qs ws
  questions_said (last t) = Forall₂.cons (question_said t) Forall₂.nil
  questions_said (next t p r) = Forall₂.cons (question_said t) (questions_said r)

  -- ---- a line's references and question

  module _ {qs : List Question} {ps : List QuestionPlace} (asks : Forall₂ QuestionSaid qs ps) {ls : List said.Line} {cs : List code.Line} (lines : Forall₂ LineSaid ls cs) where
    -- where a reference leads
    pub data Leads : Ref → Target → Type 0 where
      to_line_lem : {x : ℤ} {k : ℕ} → LastLine ls x k → Leads (node x) (Line k)
      to_leaf : {n : ℕ} → Leads (pdf n) (Leaf n)
      to_none : {x : ℤ} → ((m : ℕ) (l : said.Line) → Nth ls m l → ¬ (l.id ≡ x)) → Leads (node x) Nowhere

    pub leads : (r : Ref) → RefSmall r → Leads r (target_in cs (index_of r))
    leads (pdf n) h = to_leaf
    leads (node x) h =
        go (seeks LineSaid (λ l. l.id ≡ x) (find.bears (id_key x)) bore bear lines 0 None)
      where
        bore : (l : said.Line) (c : code.Line) → LineSaid l c → eqb (id_key c.id) (id_key x) ≡ true → l.id ≡ x
        bore l c t e = eq_z-true l.id x (same_id l.id x t.small h ∙ ap (λ (y : ℤ). eqb (id_key y) (id_key x)) (sym t.id) ∙ e)

        bear : (l : said.Line) (c : code.Line) → LineSaid l c → l.id ≡ x → eqb (id_key c.id) (id_key x) ≡ true
        bear l c t e = eq-eqb (id_key c.id) (id_key x) (ap id_key (t.id ∙ e))

        go : {r : Option ℕ} → Seeks (λ (l : said.Line). l.id ≡ x) ls 0 None r → Leads (node x) (to_line r)
        go (hit m l) = let z : m ≡ 0 + m = omega arith in subst (λ (i : ℕ). Leads (node x) (Line i)) z (to_line_lem l)
        go (miss n) = to_none n

    pub declared : {r : Ref} {t : Target} → Leads r t → nowhere t ≡ false → Declared ls r
    declared (to_line_lem h) e = borne h.stands h.true_of
    declared to_leaf e = a_pdf
    declared (to_none n) e = let z : ◌≡◌ {A = ℕ} 0 1 = cc in absurd (omega arith)

    undeclared : {r : Ref} {t : Target} → Leads r t → nowhere t ≡ true → ¬ Declared ls r
    undeclared (to_line_lem h) e d = let z : ◌≡◌ {A = ℕ} 0 1 = cc in omega arith
    undeclared to_leaf e d = let z : ◌≡◌ {A = ℕ} 0 1 = cc in omega arith
    undeclared (to_none n) e d = missing n d
      where
        missing : {x : ℤ} → ((m : ℕ) (l : said.Line) → Nth ls m l → ¬ (l.id ≡ x)) → Declared ls (node x) → ⊥
        missing n (borne {k = k} {l = l} h q) = n k l h q

    -- the last question of a name, or none
    pub data Asks (name : List ℕ) : Option ℕ → Type 0 where
      of_row : {k : ℕ} → LastQuestion qs name k → Asks name (Some k)
      of_none : ¬ Asked qs name → Asks name None

    pub asks_said : (name w : List ℕ) → w ≡ name → Asks name (find.asked s w ps)
    asks_said name w e = go (seeks QuestionSaid (λ q. q.name ≡ name) (find.named s w) has had asks 0 None)
      where
        has : (q : Question) (p : QuestionPlace) → QuestionSaid q p → same (part_inside s p.name.start p.name.len) w ≡ true → q.name ≡ name
        has q p t h = sym t.name ∙ true_same (part_inside s p.name.start p.name.len) w h ∙ e

        had : (q : Question) (p : QuestionPlace) → QuestionSaid q p → q.name ≡ name → same (part_inside s p.name.start p.name.len) w ≡ true
        had q p t h = ap (λ (x : List ℕ). same x w) (t.name ∙ h ∙ sym e) ∙ same_true w

        go : {r : Option ℕ} → Seeks (λ (q : Question). q.name ≡ name) qs 0 None r → Asks name r
        go (hit m l) = let z : m ≡ 0 + m = omega arith in subst (λ (i : ℕ). Asks name (Some i)) z (of_row l)
        go (miss n) = of_none none
          where
            none : ¬ Asked qs name
            none (asked {k = k} {q = q} h g) = n k q h g

    -- what is wrong with a line, or where it goes
    pub data Links (l : said.Line) : Result LineLink LinkFault → Type 0 where
      goes : {q : ℕ} {y n : Target} → LastQuestion qs l.question q → Leads l.yes y → nowhere y ≡ false → Leads l.no n → nowhere n ≡ false → Links l (Ok (line_link q y n))
      fails : {g : LinkFault} → Fault qs ls l (fault_number g) → Links l (Err g)

    pub line_links : {l : said.Line} {c : code.Line} → LineSaid l c → Links l (link_in s ps cs c)
    unfolding link_in link_of
    line_links {l} {c} t =
        subst (Links l) (sym (ap₂ (λ y n. link_of y n (find.asked s (part_inside s c.start c.len) ps)) (ap (target_in cs) t.yes) (ap (target_in cs) t.no)))
        (go (target_in cs (index_of l.yes)) (leads l.yes t.yes_small) (nowhere (target_in cs (index_of l.yes))) refl
        (target_in cs (index_of l.no)) (leads l.no t.no_small) (nowhere (target_in cs (index_of l.no))) refl (asks_said l.question (part_inside s c.start c.len) t.name))
      where
        by_asked : {y n : Target} {f : Option ℕ} → Leads l.yes y → nowhere y ≡ false → Leads l.no n → nowhere n ≡ false → Asks l.question f → Links l (link_asked y n f)
        by_asked a e b g (of_row q) = goes q a e b g
        by_asked a e b g (of_none n) = fails {g = QuestionRef} (not_asked (declared a e) (declared b g) n)

        go : (y : Target) → Leads l.yes y → (u : Bool) → nowhere y ≡ u → (n : Target) → Leads l.no n → (v : Bool) → nowhere n ≡ v → {f : Option ℕ} → Asks l.question f
            → Links l (cond (nowhere y) (Err NodeRef) (cond (nowhere n) (Err NodeRef) (link_asked y n f)))
        go y a true e n b v g {f} q = subst (λ (x : Bool). Links l (cond x (Err NodeRef) (cond (nowhere n) (Err NodeRef) (link_asked y n f)))) (sym e) (fails {g = NodeRef} (yes_undeclared (undeclared a e)))
        go y a false e n b true g {f} q =
            subst (λ (x : Bool). Links l (cond x (Err NodeRef) (cond (nowhere n) (Err NodeRef) (link_asked y n f)))) (sym e)
            (subst (λ (x : Bool). Links l (cond x (Err NodeRef) (link_asked y n f))) (sym g) (fails {g = NodeRef} (no_undeclared (declared a e) (undeclared b g))))
        go y a false e n b false g {f} q =
            subst (λ (x : Bool). Links l (cond x (Err NodeRef) (cond (nowhere n) (Err NodeRef) (link_asked y n f)))) (sym e)
            (subst (λ (x : Bool). Links l (cond x (Err NodeRef) (link_asked y n f))) (sym g) (by_asked a e b g q))

    -- a line that goes on has no fault
    pub no_fault : {l : said.Line} {q : ℕ} {y n : Target} → LastQuestion qs l.question q → Leads l.yes y → nowhere y ≡ false → Leads l.no n → nowhere n ≡ false → {c : ℕ} → ¬ Fault qs ls l c
    no_fault q a e b g (yes_undeclared u) = u (declared a e)
    no_fault q a e b g (no_undeclared u w) = w (declared b g)
    no_fault q a e b g (not_asked u w z) = z (asked q.stands q.true_of)
