-- The walk over the lines of a tree that links is `written`'s, line by line.
use mathlib.Core.Path.{◌≡◌, refl, sym, ap, ap₂, ◌∙◌, subst}
use mathlib.Core.Bool.{Bool, true, false, cond}
use mathlib.Core.List.{List, Forall₂}
use Prim.Native.Nat.{ℕ, zero, suc, ◌+◌}
use native.Mathlib.Omega.{arith}
use borrow.Author.Tests.{ltb-true, ltb-false}
use lib.Dec.{ltb}
use lib.IntN.{ℤ}
use lib.ListN.{length, get_or}
use Rattle.error.specs.declared.Refusal.{Refusal}
use Rattle.walk.specs.declared.Walked.{Walked}
use Rattle.std.specs.declared.result.Result.{Result}
use Rattle.std.specs.declared.option.Option.{Option}
use Rattle.std.specs.Prelude.{Some, None, Ok, Err}
use Rattle.written.specs.Said as said
use Rattle.written.specs.Said.{Ref, node, pdf, Question, QuestionPlace}
use Rattle.written.specs.Linking.{Nth, Row, LastLine, LastQuestion, LineRow, row, ToLeaf, asked}
use Rattle.written.specs.Walks.{chosen, is_yes, Outcome}
use Rattle.written.specs.Meter.{Metered, at, refused, before, Along}
use Rattle.written.proofs.Walk.{paired, to_node}
use Rattle.written_alone.proofs.Metering.{outcome_of}
use Rattle.error.specs.declared.Refusal.TheVariants.{Steps}
use Rattle.table_rows.proofs.Stand.{nth_at, nth_below}
use Rattle.tree_reference.specs.References.{index_of}
use Rattle.tree_reference.specs.declared.TreeIndex.{TreeIndex}
use Rattle.tree_line.specs.declared.Line as code
use Rattle.link_order.specs.Keys.{id_key}
use Rattle.text_parts.specs.Parts.{part_inside}
use Rattle.link_find.specs.Find as find
use Rattle.link_alone.specs.Alone.{to_line}
use Rattle.walk.specs.Walking.{walk_from, by_met, one_more}
use Rattle.walk.specs.Answer as answer
use Rattle.walk.specs.declared.Met.{Met}
use Rattle.walk.specs.declared.Met.TheVariants as met
use Rattle.walk.proofs.Round.{walk_leaf}
use Rattle.walk_bare.specs.Bare.{reply_in, reply_found, reply_to, line_number, goal_in, met_reply, meets_in}
use Rattle.walk_bare.proofs.Laws.{meets_line, meets_leaf}
use Rattle.shown_accepts.proofs.Lines.{LineSaid, QuestionSaid, RefSmall, Leads, to_line_lem, to_none, leads, Asks, of_row, of_none, asks_said}

-- one question more, of either
more : (n : ℕ) (e : Metered) (w : Result Walked Refusal) → outcome_of e ≡ answer.outcome_of w → outcome_of (before n e) ≡ answer.outcome_of (one_more w)
more n (at p a r) (Ok z) h = let x : p ≡ z.number = cc in let y : a ≡ z.asked = cc in ap₂ (λ (i j : ℕ). Outcome.at i (suc j)) x y
more n (at p a r) (Err c) h = let z : ◌≡◌ {A = ℕ} 0 1 = cc in absurd (omega arith)
more n (refused c) (Ok r) h = let z : ◌≡◌ {A = ℕ} 0 1 = cc in absurd (omega arith)
more n (refused c) (Err d) h = h

-- how the walk ends from line k on
pub record Goes_on (qs : List Question) (bytes : List ℕ) (ls : List said.Line) (k m : ℕ) (w : Result Walked Refusal) : Type 0 where
  pub ending : Metered
  pub along : Along qs bytes ls k m ending
  pub same : outcome_of ending ≡ answer.outcome_of w

module _ (s bytes : List ℕ) {qs : List Question} {ps : List QuestionPlace} (asks : Forall₂ (QuestionSaid s) qs ps) {ls : List said.Line} {cs : List code.Line} (lines : Forall₂ (LineSaid s) ls cs)
    {rows front : List Row} (linked : Forall₂ (LineRow qs (ToLeaf ls rows)) ls front) where
  -- the question of a line, and that its references lead somewhere
  record LinkedLine (l : said.Line) : Type 0 where
    q : ℕ
    asks_q : LastQuestion qs l.question q
    to : (b : Bool) (x : ℤ) → chosen b l.yes l.no ≡ node x → (j : ℕ) × LastLine ls x j

  line_linked : {k : ℕ} {l : said.Line} → Nth ls k l → LinkedLine l
  line_linked {k} {l} h = let p = paired linked h in go p.2
    where
      both : {y n : ℕ} → ToLeaf ls rows l.yes y → ToLeaf ls rows l.no n → (b : Bool) (x : ℤ) → chosen b l.yes l.no ≡ node x → (j : ℕ) × LastLine ls x j
      both {y} {n} u v true x e = (y, to_node u e)
      both {y} {n} u v false x e = (n, to_node v e)

      go : {r : Row} → LineRow qs (ToLeaf ls rows) l r → LinkedLine l
      go (row {q = q} a u v) = record { q = q; asks_q = a; to = both u v }

  -- its question is found in the text
  found : {l : said.Line} {c : code.Line} → LineSaid s l c → LinkedLine l → (q : ℕ) × LastQuestion qs l.question q × (find.asked s (part_inside s c.start c.len) ps ≡ Some q)
  found {l} {c} t w = go (find.asked s (part_inside s c.start c.len) ps) refl (asks_said s asks lines l.question (part_inside s c.start c.len) t.name)
    where
      go : (f : Option ℕ) → find.asked s (part_inside s c.start c.len) ps ≡ f → Asks s asks lines l.question f → (q : ℕ) × LastQuestion qs l.question q × (find.asked s (part_inside s c.start c.len) ps ≡ Some q)
      go (Some k) e (of_row a) = (k, a, e)
      go None e (of_none n) = absurd (n (asked w.asks_q.stands w.asks_q.true_of))

  -- an id leads to the line with its number
  to_number : (x : ℤ) → RefSmall (node x) → {j : ℕ} → LastLine ls x j → (i : ℕ) × LastLine ls x i × (find.bearer (id_key x) cs ≡ Some i)
  to_number x h {j} w = go (find.bearer (id_key x) cs) refl (leads s asks lines (node x) h)
    where
      go : (f : Option ℕ) → find.bearer (id_key x) cs ≡ f → Leads s asks lines (node x) (to_line f) → (i : ℕ) × LastLine ls x i × (find.bearer (id_key x) cs ≡ Some i)
      go (Some i) e (to_line_lem l) = (i, l, e)
      go None e (to_none n) = absurd (n j w.at w.stands w.true_of)

  index_chosen : {l : said.Line} {c : code.Line} → LineSaid s l c → (b : Bool) → chosen b c.yes c.no ≡ index_of (chosen b l.yes l.no)
  index_chosen t true = t.yes
  index_chosen t false = t.no

  small_chosen : {l : said.Line} {c : code.Line} → LineSaid s l c → (b : Bool) → RefSmall (chosen b l.yes l.no)
  small_chosen t true = t.yes_small
  small_chosen t false = t.no_small

  -- what is met at a line
  data Meets (l : said.Line) : Met → Type 0 where
    wrong : {q : ℕ} → LastQuestion qs l.question q → ((b : ℕ) → ¬ Nth bytes q b) → Meets l met.Wrong
    to_pdf : {q b n : ℕ} → LastQuestion qs l.question q → Nth bytes q b → chosen (is_yes b) l.yes l.no ≡ pdf n → Meets l (met.Line (length cs + suc n))
    to_next : {q b j : ℕ} {x : ℤ} → LastQuestion qs l.question q → Nth bytes q b → chosen (is_yes b) l.yes l.no ≡ node x → LastLine ls x j → Meets l (met.Line j)

  reply_met : {l : said.Line} {c : code.Line} → LineSaid s l c → LinkedLine l → {q : ℕ} → LastQuestion qs l.question q → Meets l (met_reply cs (reply_in bytes q c.yes c.no))
  unfolding reply_in
  reply_met {l} {c} t w {q} a = go (ltb q (length bytes)) refl
    where
      led : {b : ℕ} → Nth bytes q b → (r : Ref) → chosen (is_yes b) l.yes l.no ≡ r → RefSmall r → Meets l (met.Line (goal_in cs (index_of r)))
      led {b} n (pdf k) e h = to_pdf a n e
      led {b} n (node x) e h =
          let f = to_number x h (w.to (is_yes b) x e).1 in
          subst (λ (i : Option ℕ). Meets l (met.Line (line_number (length cs) i))) (sym f.2) (to_next a n e f.1)

      go : (y : Bool) → ltb q (length bytes) ≡ y → Meets l (met_reply cs (cond y (Some (chosen (is_yes (get_or bytes q 0)) c.yes c.no)) None))
      go true z =
          subst (λ (x : TreeIndex). Meets l (met.Line (goal_in cs x))) (sym (index_chosen t (is_yes (get_or bytes q 0))))
          (led (nth_at bytes q 0 (ltb-true q (length bytes) z)) (chosen (is_yes (get_or bytes q 0)) l.yes l.no) refl (small_chosen t (is_yes (get_or bytes q 0))))
      go false z = wrong a (λ b g. omega (arith, nth_below g, ltb-false q (length bytes) z))

  line_meets : {k : ℕ} {l : said.Line} → Nth ls k l → Meets l (meets_in s ps bytes cs k)
  unfolding reply_to
  line_meets {k} {l} h =
      let p = paired lines h in
      let w = line_linked h in
      let f = found p.2 w in
      subst (Meets l) (sym (meets_line s ps bytes cs p.1 ∙ ap (λ (x : Option ℕ). met_reply cs (reply_found bytes p.0.yes p.0.no x)) f.2)) (reply_met p.2 w f.1)

  -- from line k on
  pub along_from : (m k : ℕ) {l : said.Line} → Nth ls k l → Goes_on qs bytes ls k m (walk_from (meets_in s ps bytes cs) m k)
  unfolding walk_from
  along_from zero k {l} h = go (line_meets h)
    where
      go : {x : Met} → Meets l x → Goes_on qs bytes ls k zero (by_met (λ j. Err Steps) x)
      go (wrong a n) = record { ending = refused 24; along = Along.unanswered h a n; same = refl }
      go (to_pdf a n e) = record { ending = refused 25; along = Along.met h a n; same = refl }
      go (to_next a n e j) = record { ending = refused 25; along = Along.met h a n; same = refl }
  along_from (suc m) k {l} h = go (line_meets h) (λ j e n. along_from m j n)
    where
      go : {x : Met} → Meets l x → ((j : ℕ) (e : said.Line) → Nth ls j e → Goes_on qs bytes ls j m (walk_from (meets_in s ps bytes cs) m j))
          → Goes_on qs bytes ls k (suc m) (by_met (λ j. one_more (walk_from (meets_in s ps bytes cs) m j)) x)
      go (wrong a n) r = record { ending = refused 24; along = Along.unanswered h a n; same = refl }
      go (to_pdf {n = i} a n e) r =
          record {
            ending = at i 1 0;
            along = Along.ends h a n e;
            same = sym (ap (λ (w : Result Walked Refusal). answer.outcome_of (one_more w)) (walk_leaf (meets_in s ps bytes cs) m (length cs + suc i) i (meets_leaf s ps bytes cs i)));
          }
      go (to_next {j = j} a n e u) r =
          let w = r j u.at u.stands in
          record { ending = before (length ls) w.ending; along = Along.goes h a n e u w.along; same = more (length ls) w.ending (walk_from (meets_in s ps bytes cs) m j) w.same }
