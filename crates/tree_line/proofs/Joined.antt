-- The lines that this crate answers and those of `written`'s grammar are the same, one by one and as a tree's list: what stands there is answered,
-- what is answered stands there.
use mathlib.Core.Path.{◌≡◌, refl, sym, ap, ap₂, ◌∙◌, subst}
use mathlib.Core.Bool.{Bool, true, false, cond}
use mathlib.Core.List.{List, zip_with}
use Prim.Native.Nat.{ℕ, ◌-◌}
use native.Mathlib.Omega.{arith}
use borrow.Author.Tests.{lt-ltb, ltb-true}
use lib.Dec.{ltb}
use lib.ListN.{length}
use lib.IntN.{ℤ}
use Rattle.text_parts.specs.declared.Read.{Read as Found}
use Rattle.text_parts.specs.declared.Span.{Span as Piece}
use Rattle.tree_line.specs.declared.Branches.{Branches}
use Rattle.text_parts.specs.Parts.{read_to}
use Rattle.std.specs.declared.option.Option.{Option}
use Rattle.std.specs.Prelude.{Some, None}
use Rattle.written.specs.Bytes.{blank, between, Span, spanning}
use Rattle.written.specs.Said.{Ref}
use Rattle.written.specs.Said as said
use Rattle.written.specs.TreeText.{Parted, Run₁, Reference, LineParting, LineAt, line}
use Rattle.written.proofs.Once.{lines_fixed}
use Rattle.written.proofs.Decide.{line_le, line_parting_lt}
use Rattle.laws.specs.Runs.{stop}
use Rattle.laws.specs.Steps.{done_at, Step, next, last, broken}
use Rattle.laws.proofs.Parted.{Stood, Reads, Read, parted_read, read_parted}
use Rattle.laws.proofs.Stops.{run₁-stop, run₁_is}
use Rattle.text_spaces.specs.Spaces.{name_at, close_at, line_parting_at}
use Rattle.text_spaces.proofs.Joined.{no_blank, clash, name_found, found_name, line_parting_found, found_line_parting, Closed, close_found, found_close, closed_before, line_parting_inside}
use Rattle.text_numbers.specs.Answers.{signed_at}
use Rattle.text_numbers.proofs.Joined.{number_signed, signed_number}
use Rattle.tree_reference.specs.References.{index_of, reference_at}
use Rattle.tree_reference.specs.declared.TreeIndex.{TreeIndex}
use Rattle.tree_reference.proofs.Joined.{Stands, reference_found, found_reference}
use Rattle.tree_line.specs.Lines.{line_of, yes_read, yes_at, no_read, branches_at, line_branched, line_named, line_numbered, line_at, line_parted, line_closed, after_line, line_found, line_step_at, line_step, lines_at, branches}
use Rattle.tree_line.specs.declared.Line.{Line}

module _ (s : List ℕ) where
  -- ---- the two references

  pub branches_found : {d e f j : ℕ} {n y : Ref} → Reference s d e n → Run₁ s blank e f → Reference s f j y → branches_at s d ≡ Some (read_to (branches (index_of n) (index_of y)) j)
  unfolding branches_at yes_at
  branches_found {d} {e} {f} {j} {n} {y} r b t =
      let k = run₁-stop blank no_blank s b in
      ap (no_read s) (reference_found r) ∙ rw (k.0, lt-ltb e f k.1) (ap (yes_read (index_of n)) (reference_found t))

  -- no from d on, blanks, yes up to j
  pub record Branched (d j : ℕ) (n y : TreeIndex) : Type 0 where
    pub no_ends : ℕ
    pub yes_starts : ℕ
    pub no_ref : Stands (Reference s d no_ends) n
    pub blanks : Run₁ s blank no_ends yes_starts
    pub yes_ref : Stands (Reference s yes_starts j) y

  pub found_branches : (d j : ℕ) (n y : TreeIndex) → branches_at s d ≡ Some (read_to (branches n y) j) → Branched d j n y
  unfolding branches_at yes_at
  found_branches d j n y h = go (reference_at s d) refl h
    where
      go : (t : Option (Found TreeIndex)) → reference_at s d ≡ t → no_read s t ≡ Some (read_to (branches n y) j) → Branched d j n y
      go (Some o) q h = blanked (ltb o.next (stop blank s o.next)) refl (reference_at s (stop blank s o.next)) refl h
        where
          blanked : (b : Bool) → ltb o.next (stop blank s o.next) ≡ b → (t : Option (Found TreeIndex)) → reference_at s (stop blank s o.next) ≡ t → cond b (yes_read o.value t) None ≡ Some (read_to (branches n y) j) → Branched d j n y
          blanked true l (Some r₁) r h =
              let u : o.value ≡ n = grind arith in
              let v : r₁.value ≡ y = grind arith in
              let w : r₁.next ≡ j = grind arith in
              record {
                no_ends = o.next;
                yes_starts = stop blank s o.next;
                no_ref = found_reference s d o.next n (q ∙ ap (λ x. Some (read_to x o.next)) u);
                blanks = run₁_is blank no_blank s o.next (ltb-true o.next (stop blank s o.next) l);
                yes_ref = found_reference s (stop blank s o.next) j y (r ∙ ap₂ (λ v k. Some (read_to v k)) v w);
              }
          blanked true l None r h = clash (cc)
          blanked false l t r h = clash (cc)
      go None q h = clash (cc)

  -- ---- a line

  pub line_found_lem : {i j : ℕ} {l : said.Line} {w : Span} → LineAt s i j l w → line_at s i ≡ Some (read_to (line_of l w) j)
  unfolding line_at
  line_found_lem (line {b = b} {c = c} {x = x} n r m t v u g) =
      ap (line_numbered s) (number_signed n) ∙ ap (line_named s x) (name_found s r m t) ∙ ap (line_branched x b (c - b)) (branches_found v u g)

  -- the line of the text that stands from i up to j, and is z in code
  pub record Lined (i j : ℕ) (z : Line) : Type 0 where
    pub said : said.Line
    pub laid : Span
    pub item : LineAt s i j said laid
    pub is : z ≡ line_of said laid

  pub found_line : (i j : ℕ) (z : Line) → line_at s i ≡ Some (read_to z j) → Lined i j z
  unfolding line_at
  found_line i j z h = go (signed_at s i) refl h
    where
      go : (t : Option (Found ℤ)) → signed_at s i ≡ t → line_numbered s t ≡ Some (read_to z j) → Lined i j z
      go (Some w) p h = named (name_at s w.next) refl h
        where
          named : (t : Option (Found Piece)) → name_at s w.next ≡ t → line_named s w.value t ≡ Some (read_to z j) → Lined i j z
          named (Some x) q h = branched (branches_at s x.next) refl h
            where
              branched : (t : Option (Found Branches)) → branches_at s x.next ≡ t → line_branched w.value x.value.start x.value.len t ≡ Some (read_to z j) → Lined i j z
              branched (Some r₁) r h =
                  let u : (record { id = w.value; start = x.value.start; len = x.value.len; no = r₁.value.no; yes = r₁.value.yes }) ≡ z = grind arith in
                  let v : r₁.next ≡ j = grind arith in
                  let m = found_name s w.next x.value.start x.value.len x.next q in
                  let g = found_branches x.next r₁.next r₁.value.no r₁.value.yes r in
                  let no-r = g.no_ref in
                  let yes-r = g.yes_ref in
                  record {
                    said = record { id = w.value; question = between s x.value.start m.ends; no = no-r.ref; yes = yes-r.ref };
                    laid = spanning x.value.start m.ends;
                    item = subst (λ (e : ℕ). LineAt s i e (record { id = w.value; question = between s x.value.start m.ends; no = no-r.ref; yes = yes-r.ref }) (spanning x.value.start m.ends)) v (line (signed_number s i w.next w.value p) m.before m.name m.behind no-r.says g.blanks yes-r.says);
                    is = sym u ∙ λ t. record { id = w.value; start = x.value.start; len = sym m.long t; no = no-r.is t; yes = yes-r.is t };
                  }
              branched None r h = clash (cc)
          named None q h = clash (cc)
      go None p h = clash (cc)

  -- ---- the lines of a tree

  abbrev pub step : ℕ → Step Line
  step i = line_step i (line_step_at s i)

  open_at : {a b j : ℕ} {l : said.Line} {w : Span} → LineParting s a b → LineAt s b j l w → close_at s a ≡ None
  open_at {a} p t = go (close_at s a) refl
    where
      go : (c : Option ℕ) → close_at s a ≡ c → close_at s a ≡ None
      go (Some k) e = absurd (lines_fixed.no_more (closed_before s (found_close s a k e)) p t)
      go None e = e

  line_step_lem : {i a : ℕ} {l : said.Line} {w : Span} → LineAt s i a l w → step i ≡ line_step i (after_line s (line_of l w) a)
  unfolding line_step_at
  line_step_lem {i} t = ap (λ r. line_step i (line_found s r)) (line_found_lem t)

  -- what a line that was read is followed by
  read_line : (i : ℕ) (z : Step Line) → step i ≡ z → ((p : ℕ) → z ≡ broken p → ⊥)
      → (l : Line) × (e : ℕ) × Lined i e l × (line_step i (after_line s l e) ≡ z)
  unfolding line_step_at
  read_line i z h n = go (line_at s i) refl h
    where
      go : (t : Option (Found Line)) → line_at s i ≡ t → line_step i (line_found s t) ≡ z → (l : Line) × (e : ℕ) × Lined i e l × (line_step i (after_line s l e) ≡ z)
      go (Some r) q h = (r.value, r.next, found_line i r.next r.value q, h)
      go None q h = absurd (n i (sym h))

  pub reads : Reads (LineParting s) (LineAt s) (Closed s) line_of (length s) step
  unfolding after_line
  reads = record { on = on; done = done; was_on = was_on; was_done = was_done; moves = λ t p. (omega (arith, line_le s t, line_parting_lt s p), line_parting_inside s p) }
    where
      on : {i a b j : ℕ} {x x' : said.Line} {y y' : Span} → LineAt s i a x y → LineParting s a b → LineAt s b j x' y' → step i ≡ next (line_of x y) b
      on {i} {a} {x = x} {y = y} t p u =
          line_step_lem t ∙ ap (λ c. line_step i (line_closed s (line_of x y) a c)) (open_at p u) ∙ ap (λ c. line_step i (line_parted (line_of x y) c)) (line_parting_found s p)

      done : {i a e : ℕ} {x : said.Line} {y : Span} → LineAt s i a x y → Closed s a e → step i ≡ last (line_of x y) e
      done {i} {a} {x = x} {y = y} t c = line_step_lem t ∙ ap (λ c. line_step i (line_closed s (line_of x y) a c)) (close_found s c)

      was_on : (i b : ℕ) (z : Line) → step i ≡ next z b → Stood (LineAt s) line_of i z (λ a. LineParting s a b)
      was_on i b z h = let r = read_line i (next z b) h (λ p q. clash (cc)) in go r.0 r.1 r.2 (close_at s r.1) refl (line_parting_at s r.1) refl r.3
        where
          go : (l : Line) (e : ℕ) → Lined i e l → (c : Option ℕ) → close_at s e ≡ c → (d : Option ℕ) → line_parting_at s e ≡ d
              → line_step i (line_closed s l e (close_at s e)) ≡ next z b → Stood (LineAt s) line_of i z (λ a. LineParting s a b)
          go l e t (Some k) p d q h = let u : line_step i (line_closed s l e (Some k)) ≡ next z b = ap (λ c. line_step i (line_closed s l e c)) (sym p) ∙ h in clash (cc)
          go l e t None p (Some k) q h =
              let u : next l k ≡ next z b = ap (λ d. line_step i (line_parted l d)) (sym q) ∙ ap (λ c. line_step i (line_closed s l e c)) (sym p) ∙ h in
              let v : l ≡ z = cc in
              let w : k ≡ b = cc in
              record { ends = e; said = t.said; laid = t.laid; item = t.item; rest = found_line_parting s e b (q ∙ ap Some w); is = sym v ∙ t.is }
          go l e t None p None q h = let u : line_step i (line_parted l None) ≡ next z b = ap (λ d. line_step i (line_parted l d)) (sym q) ∙ ap (λ c. line_step i (line_closed s l e c)) (sym p) ∙ h in clash (cc)

      was_done : (i e : ℕ) (z : Line) → step i ≡ last z e → Stood (LineAt s) line_of i z (λ a. Closed s a e)
      was_done i f z h = let r = read_line i (last z f) h (λ p q. clash (cc)) in go r.0 r.1 r.2 (close_at s r.1) refl (line_parting_at s r.1) refl r.3
        where
          go : (l : Line) (e : ℕ) → Lined i e l → (c : Option ℕ) → close_at s e ≡ c → (d : Option ℕ) → line_parting_at s e ≡ d
              → line_step i (line_closed s l e (close_at s e)) ≡ last z f → Stood (LineAt s) line_of i z (λ a. Closed s a f)
          go l e t (Some k) p d q h =
              let u : last l k ≡ last z f = ap (λ c. line_step i (line_closed s l e c)) (sym p) ∙ h in
              let v : l ≡ z = cc in
              let w : k ≡ f = cc in
              record { ends = e; said = t.said; laid = t.laid; item = t.item; rest = found_close s e f (p ∙ ap Some w); is = sym v ∙ t.is }
          go l e t None p (Some k) q h = let u : next l k ≡ last z f = ap (λ d. line_step i (line_parted l d)) (sym q) ∙ ap (λ c. line_step i (line_closed s l e c)) (sym p) ∙ h in clash (cc)
          go l e t None p None q h = let u : line_step i (line_parted l None) ≡ last z f = ap (λ d. line_step i (line_parted l d)) (sym q) ∙ ap (λ c. line_step i (line_closed s l e c)) (sym p) ∙ h in clash (cc)

  -- the lines that a tree says are read, in order
  pub lines_read : {i j e : ℕ} {ls : List said.Line} {ws : List Span} → Parted (LineParting s) (LineAt s) i j ls ws → Closed s j e → lines_at s i ≡ record { items = zip_with line_of ls ws; ending = done_at e }
  unfolding lines_at
  lines_read p c = parted_read reads p c

  -- the lines that are read are lines that a tree says
  pub read_lines : (i e : ℕ) → (lines_at s i).ending ≡ done_at e → Read reads i e (lines_at s i).items
  unfolding lines_at
  read_lines i e h = read_parted reads i e h
