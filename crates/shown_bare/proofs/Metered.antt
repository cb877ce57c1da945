-- What the call tells is what `written` says of the text, the tree, the answers and the limit; the count is `written`'s, up to 2^64 - 1.
use mathlib.Core.Path.{◌≡◌, refl, sym, ap, ap₂, ◌∙◌, subst}
use mathlib.Core.Bool.{Bool, true, false, cond}
use mathlib.Core.List.{List, [], ◌∷◌, Forall₂}
use Prim.Native.Nat.{ℕ, ◌+◌, ◌-◌, ◌*◌, ◌<◌, min}
use native.Mathlib.Omega.{arith}
use lib.ListN.{length}
use Rattle.error.specs.declared.LineFault.{LineFault}
use Rattle.walk.specs.declared.Walked.{Walked}
use Rattle.std.specs.declared.result.Result.{Result}
use Rattle.error.specs.declared.Refusal.{Refusal}
use Rattle.std.specs.Prelude.{Some, None, Ok, Err}
use Rattle.written.specs.Said as said
use Rattle.written.specs.Said.{Ref, pdf, Body, lone, braces, Question, QuestionPlace}
use Rattle.written.specs.Linking.{Nth, here, Single, alone, alike, NotSingle, Row, LineRow, ToLeaf, Records, Refused, Linked}
use Rattle.written.specs.Walks.{Outcome}
use Rattle.written.specs.Meter as meter
use Rattle.written.specs.Meter.{Metered, at, refused, reading, Along, Over, meter_of, meter_refused, MetersText, Meters}
use Rattle.written.proofs.Link.{records_linked}
use Rattle.written_alone.proofs.Metering.{outcome_of, over_exact}
use Rattle.tree_question.specs.Questions.{questions_at}
use Rattle.tree_reference.specs.References.{index_of, same_index}
use Rattle.tree_reference.proofs.Same.{index_same}
use Rattle.tree_line.specs.Lines.{lines_at}
use Rattle.tree_line.specs.declared.Line as code
use Rattle.tree_body.specs.Trees.{head_at}
use Rattle.tree_body.specs.declared.TreeHead.{TreeHead}
use Rattle.tree_survey_lines.proofs.Counting.{lines_some}
use Rattle.error.specs.Numbers.{fault_number, line_fault}
use Rattle.error.specs.declared.LinkFault.{LinkFault}
use Rattle.link_alone.specs.Alone.{single_in}
use Rattle.link_window.proofs.Joined.{fault_of, head_fault}
use Rattle.walk.specs.Walking.{walk_from}
use Rattle.walk.specs.Answer as answer
use Rattle.walk_bare.specs.Bare.{meets_in, read_count, ended_of, alone_of, single_of, ending_of, braces_of, head_of, metered_of, linked_as, meter_at, chosen_of, bare_of}
use Rattle.walk_bare.specs.declared.Meter as told
use Rattle.shown_accepts.proofs.Lines.{LineSaid, QuestionSaid}
use Rattle.shown_accepts.proofs.Verdicts.{Verdict, fits, other, refused, not_alike, not_two, pair_lengths}
use Rattle.shown_accepts.proofs.Texts as texts
use Rattle.shown_accepts.proofs.Texts.{Reads}
use Rattle.shown_accepts.proofs.Accepts.{Chosen, breaks_at, negative, missing, tree, chosen}
use Rattle.shown_bare.proofs.Along.{Goes_on, along_from}

-- six numbers of `written`, the last of them as far as 64 bits go
abbrev pub capped : meter.Meter → told.Meter
capped m = record { number = m.number; place = m.place; line = m.line; pdf = m.pdf; asked = m.asked; read = min m.lines 18446744073709551615 }

-- ---- linking

data Linkage (qs : List Question) (t : Body) : Result Unit LineFault → Type 0 where
  whole : {own : List Row} → Records qs t own → Linkage qs t (Ok tt)
  fault_at : {g : LinkFault} {k : ℕ} → Refused qs t (fault_number g) k → Linkage qs t (Err (line_fault g k))

linkage : {qs : List Question} {R : List ℕ} {t : Body} {j : Result Bool LineFault} → Verdict qs R t j → Linkage qs t (fault_of j)
linkage (fits r l) = whole r
linkage (other r l) = whole r
linkage (refused {g = g} f) = fault_at {g = g} f

-- ---- the walk of a tree that links

-- how it ends, and that the code says so
record Ends (qs : List Question) (bytes : List ℕ) (t : Body) (m : ℕ) (x : told.Meter) : Type 0 where
  ending : Metered
  over : Over qs bytes t m ending
  same : x ≡ capped (meter_of ending)

single_pdf : {qs : List Question} {t : Body} {own : List Row} {r : Ref} → Single t r → Records qs t own → (n : ℕ) × (r ≡ pdf n)
single_pdf s (Records.single {n = n} u) = (n, once s u)
  where
    once : {t : Body} {r u : Ref} → Single t r → Single t u → r ≡ u
    once alone alone = refl
    once (alike a b) (alike c d) = sym a ∙ c
single_pdf {r = r} s (Records.lines leaves o a n f e) = absurd (o r s)

-- what the walk over lines tells
told_so : {qs : List Question} {bytes : List ℕ} {ls : List said.Line} {m n : ℕ} → length ls ≡ n → (e : Metered) → Over qs bytes (braces ls) m (reading 1 e) → (w : Result Walked Refusal) → outcome_of e ≡ answer.outcome_of w
    → metered_of (ended_of n w) ≡ capped (meter_of (reading 1 e))
unfolding read_count
told_so {ls = ls} {n = n} q (at p a r) o (Ok w) h =
    let x : w.number ≡ p = cc in
    let y : w.asked ≡ a = cc in
    let z : 1 + r ≡ 1 + (length ls * a - length ls) = over_exact o refl in
    let v : n * w.asked ≡ length ls * a = ap₂ ◌*◌ (sym q) y in
    let u : min (1 + (n * w.asked - n)) 18446744073709551615 ≡ min (1 + r) 18446744073709551615 = ap (λ (i : ℕ). min i 18446744073709551615) (omega (arith, z, v, q)) in
    λ i. record { number = 0; place = 0; line = 0; pdf = x i; asked = y i; read = u i }
told_so q (at p a r) o (Err c) h = let z : ◌≡◌ {A = ℕ} 0 1 = cc in absurd (omega arith)
told_so q (refused c) o (Ok r) h = let z : ◌≡◌ {A = ℕ} 0 1 = cc in absurd (omega arith)
told_so q (refused c) o (Err d) h = let x : _ ≡ c = told_number h in λ i. record { number = x i; place = 0; line = 0; pdf = 0; asked = 0; read = 0 }
  where
    told_number : {a b : ℕ} → Outcome.refused a ≡ Outcome.refused b → b ≡ a
    told_number e = cc

module _ (s bytes : List ℕ) {qs : List Question} {ps : List QuestionPlace} (asks : Forall₂ (QuestionSaid s) qs ps) (m : ℕ) where
  several : {ls : List said.Line} {cs : List code.Line} → Forall₂ (LineSaid s) ls cs → NotSingle ls → 0 < length ls → {own : List Row} → Linked qs (braces ls) own
      → Ends qs bytes (braces ls) m (metered_of (ended_of (length cs) (walk_from (meets_in s ps bytes cs) m 0)))
  several {ls} {cs} lines o some linked = go ls refl linked
    where
      go : (ks : List said.Line) → ls ≡ ks → {own : List Row} → Linked qs (braces ls) own → Ends qs bytes (braces ls) m (metered_of (ended_of (length cs) (walk_from (meets_in s ps bytes cs) m 0)))
      go [] e l = absurd (omega (arith, ap length e))
      go (k ∷ ks) e l =
          let w = by_links l refl in
          let v = subst (λ (z : List said.Line). Over qs bytes (braces z) m (reading 1 w.ending)) (sym e)
          (Over.lines (subst NotSingle e o) (subst (λ (z : List said.Line). Along qs bytes z 0 m w.ending) e w.along)) in
          record { ending = reading 1 w.ending; over = v; same = told_so (pair_lengths lines) w.ending v (walk_from (meets_in s ps bytes cs) m 0) w.same }
        where
          first : Nth ls 0 k
          first = subst (λ (z : List said.Line). Nth z 0 k) (sym e) here

          by_links : {t : Body} {rows : List Row} → Linked qs t rows → t ≡ braces ls → Goes_on qs bytes ls 0 m (walk_from (meets_in s ps bytes cs) m 0)
          by_links (Linked.single {n = n} u) z = absurd (o (pdf n) (subst (λ (t : Body). Single t (pdf n)) z u))
          by_links Linked.empty z = let y : [] ≡ ls = cc in absurd (omega (arith, ap length y, some))
          by_links (Linked.lines {l = a} {ls = bs} {rows = rows} {front = front} leaves o' f g) z =
              let y : a ∷ bs ≡ ls = cc in
              along_from s bytes asks lines (subst (λ (x : List said.Line). Forall₂ (LineRow qs (ToLeaf x rows)) x front) y f) m 0 first

  one_line : {l : said.Line} {c : code.Line} → LineSaid s l c → {own : List Row} → Records qs (braces (l ∷ [])) own
      → Ends qs bytes (braces (l ∷ [])) m (metered_of (single_of s ps bytes m (c ∷ []) (single_in (c ∷ []))))
  one_line {l} {c} t r = go (same_index c.no c.yes) refl
    where
      as_said : same_index (index_of l.no) (index_of l.yes) ≡ same_index c.no c.yes
      as_said = ap₂ same_index (sym t.no) (sym t.yes)

      go : (b : Bool) → same_index c.no c.yes ≡ b → Ends qs bytes (braces (l ∷ [])) m (metered_of (single_of s ps bytes m (c ∷ []) (cond (same_index c.no c.yes) (Some c.yes) None)))
      go true e =
          let i = index_same l.no l.yes (as_said ∙ e) in
          let p = single_pdf (alike i refl) r in
          record {
            ending = at p.0 0 1;
            over = Over.alike (i ∙ p.1) p.1;
            same = ap (λ (b : Bool). metered_of (single_of s ps bytes m (c ∷ []) (cond b (Some c.yes) None))) e ∙ ap (λ x. metered_of (alone_of 1 x)) (t.yes ∙ ap index_of p.1);
          }
      go false e =
          let w = several (Forall₂.cons t Forall₂.nil) (not_alike (as_said ∙ e)) (omega arith) (records_linked r) in
          record { ending = w.ending; over = w.over; same = ap (λ (b : Bool). metered_of (single_of s ps bytes m (c ∷ []) (cond b (Some c.yes) None))) e ∙ w.same }

  many_lines : {ls : List said.Line} {cs : List code.Line} → Forall₂ (LineSaid s) ls cs → 0 < length ls → {own : List Row} → Records qs (braces ls) own
      → Ends qs bytes (braces ls) m (metered_of (single_of s ps bytes m cs (single_in cs)))
  many_lines Forall₂.nil h r = absurd (omega arith)
  many_lines (Forall₂.cons t Forall₂.nil) h r = one_line t r
  many_lines (Forall₂.cons t (Forall₂.cons u v)) h r = several (Forall₂.cons t (Forall₂.cons u v)) not_two h (records_linked r)

  walked_tree : {t : Body} {h : TreeHead} → Reads s t h → {own : List Row} → Records qs t own → Ends qs bytes t m (metered_of (head_of s ps bytes m h))
  unfolding braces_of
  walked_tree (texts.one {r = r}) w =
      let p = single_pdf alone w in
      record {
        ending = at p.0 0 0;
        over = subst (λ (x : Ref). Over qs bytes (lone x) m (at p.0 0 0)) (sym p.1) Over.alone;
        same = ap (λ (x : Ref). metered_of (alone_of 0 (index_of x))) p.1;
      }
  walked_tree texts.none w = record { ending = refused 24; over = Over.empty; same = refl }
  walked_tree (texts.lines {f = f} {e = e} {ls = ls} d lines) w =
      let v = many_lines lines (omega (arith, lines_some s f e d, pair_lengths lines)) w in
      record { ending = v.ending; over = v.over; same = ap (λ z. metered_of (ending_of s ps bytes m (lines_at s f).items z)) d ∙ v.same }

-- ---- the call

-- what `written` says, and that the code tells it
pub record SaysSo (s : List ℕ) (t : ℕ) (bytes : List ℕ) (m : ℕ) (x : told.Meter) : Type 0 where
  pub meter : meter.Meter
  pub said : Meters s 0 bytes t m meter
  pub tells : x ≡ capped meter

pub bare_says : (s : List ℕ) (t : ℕ) (bytes : List ℕ) (m : ℕ) → SaysSo s t bytes m (bare_of s t bytes m)
unfolding bare_of meter_at
bare_says s t bytes m = go (chosen s t)
  where
    go : {c : Result ℕ Refusal} → Chosen s t c → SaysSo s t bytes m (chosen_of s t bytes m c)
    go (breaks_at {p = p} b) = record { meter = meter_refused 17 p 0; said = Meters.breaks b; tells = refl }
    go (negative h n) = record { meter = meter_refused 18 0 0; said = Meters.says h (MetersText.negative n); tells = refl }
    go (missing h w n) = record { meter = meter_refused 24 0 0; said = Meters.says h (MetersText.missing w n); tells = refl }
    go (tree {x = x} {e = e} {i = i} h w n v q g) = linked (subst (Linkage x.questions e.body) (head_fault s (questions_at s 0).items [] (head_at s i)) (linkage (v [])))
      where
        linked : {l : Result Unit LineFault} → Linkage x.questions e.body l → SaysSo s t bytes m (linked_as t (metered_of (head_of s (questions_at s 0).items bytes m (head_at s i))) l)
        linked (whole r) = let k = walked_tree s bytes q m g r in record { meter = meter_of k.ending; said = Meters.says h (MetersText.walks w n r k.over); tells = k.same }
        linked (fault_at {g = g} {k = k} f) = record { meter = meter_refused (fault_number g) t k; said = Meters.says h (MetersText.unlinked w n f); tells = refl }
