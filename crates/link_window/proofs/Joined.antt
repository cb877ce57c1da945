-- What is said of a tree's linking here is what `link_alone` judges of it, whatever the rows are.
use mathlib.Core.Path.{◌≡◌, refl, sym, ◌∙◌}
use mathlib.Core.Bool.{Bool, true, false, cond, ◌&&◌, ◌||◌}
use mathlib.Core.List.{List, [], ◌∷◌}
use Prim.Native.Nat.{ℕ, suc, ◌≤◌}
use native.Mathlib.Omega.{arith}
use Rattle.error.specs.Numbers.{line_fault}
use Rattle.error.specs.declared.LineFault.{LineFault}
use Rattle.std.specs.declared.result.Result.{Result}
use Rattle.std.specs.declared.option.Option.{Option}
use Rattle.std.specs.Prelude.{Some, None, Err, Ok}
use Rattle.written.specs.Said.{QuestionPlace}
use Rattle.laws.specs.Steps.{Ending, done_at, broken_at}
use Rattle.tree_reference.specs.declared.TreeIndex.{TreeIndex}
use Rattle.tree_reference.specs.declared.TreeIndex.TheVariants.{Node, Pdf}
use Rattle.tree_line.specs.Lines.{lines_at}
use Rattle.tree_line.specs.declared.Line.{Line}
use Rattle.tree_body.specs.declared.TreeHead.{TreeHead}
use Rattle.tree_body.specs.declared.TreeHead.TheVariants as head
use Rattle.text_parts.specs.Parts.{part_inside}
use Rattle.link_find.specs.Find.{asked}
use Rattle.link_alone.specs.Alone.{target_in, link_asked, link_of, link_in, judged_line, onward, ended, judged_lines, judged_alone, single_in, judged_single, judged_ending, judged_braces, judged_head}
use Rattle.link_fits.specs.Fits.{nowhere, leaves_from}
use Rattle.link_stray.specs.Stray.{first_from, strays}
use Rattle.link_window.specs.Windows.{no_row, unheard, fault_lines, fault_alone, fault_single, fault_ending, fault_braces, fault_head}
use Rattle.error.specs.declared.LinkFault.TheVariants.{NodeRef, QuestionRef}
use Rattle.link_window.proofs.Laws.{lower_question, lower_node}

-- what was judged, without the rows
abbrev pub fault_of : Result Bool LineFault → Result Unit LineFault
fault_of (Ok b) = (Ok tt)
fault_of (Err r) = Err (line_fault r.fault r.line)

-- ---- the first of a list stands at k or behind it

-- nothing, or a line from k on
data From (k : ℕ) : Option ℕ → Type 0 where
  at : {m : ℕ} → k ≤ m → From k (Some m)
  nothing : From k None

further : {k : ℕ} {f : Option ℕ} → From (suc k) f → From k f
further (at {m = m} h) = at {m = m} (omega arith)
further nothing = nothing

first_from_lem : {A : Type 0} (p : A → Bool) (k : ℕ) (xs : List A) → From k (first_from p k xs)
unfolding first_from
first_from_lem p k [] = nothing
first_from_lem p k (x ∷ xs) = go (p x) (first_from_lem p (suc k) xs)
  where
    go : (b : Bool) → From (suc k) (first_from p (suc k) xs) → From k (cond b (Some k) (first_from p (suc k) xs))
    go true f = at {m = k} (omega arith)
    go false f = further f

fault_node : (k : ℕ) {f : Option ℕ} → From k f → fault_lines (Some k) f ≡ Err (line_fault NodeRef k)
fault_node k (at h) = sym (lower_node h)
fault_node k nothing = refl

fault_question : (k : ℕ) {f : Option ℕ} → From (suc k) f → fault_lines f (Some k) ≡ Err (line_fault QuestionRef k)
fault_question k (at h) = sym (lower_question (omega arith))
fault_question k nothing = refl

-- ---- lines

module _ (s : List ℕ) (qs : List QuestionPlace) (ls : List Line) (R : List ℕ) where
  pub lines_fault : (k : ℕ) (b : Bool) (rest : List Line) → fault_of (judged_lines s qs ls R k b rest) ≡ fault_lines (first_from (strays ls) k rest) (first_from (unheard s qs) k rest)
  unfolding judged_lines first_from link_in link_of
  lines_fault k b [] = refl
  lines_fault k b (l ∷ rest) =
      go (nowhere (target_in ls l.yes)) (nowhere (target_in ls l.no)) (asked s (part_inside s l.start l.len) qs) (first_from_lem (strays ls) (suc k) rest) (first_from_lem (unheard s qs) (suc k) rest) (λ x. lines_fault (suc k) (b && x) rest)
    where
      here_first : (u : Bool) → From (suc k) (first_from (unheard s qs) (suc k) rest) → From k (cond u (Some k) (first_from (unheard s qs) (suc k) rest))
      here_first true f = at {m = k} (omega arith)
      here_first false f = further f

      asks : (f : Option ℕ) → From (suc k) (first_from (strays ls) (suc k) rest)
          → ((x : Bool) → fault_of (judged_lines s qs ls R (suc k) (b && x) rest) ≡ fault_lines (first_from (strays ls) (suc k) rest) (first_from (unheard s qs) (suc k) rest))
          → fault_of (onward (λ x. judged_lines s qs ls R (suc k) (b && x) rest) (judged_line R k (link_asked (target_in ls l.yes) (target_in ls l.no) f)))
          ≡ fault_lines (first_from (strays ls) (suc k) rest) (cond (no_row f) (Some k) (first_from (unheard s qs) (suc k) rest))
      asks (Some q) g r = r _
      asks None g r = sym (fault_question k g)

      go : (y n : Bool) (f : Option ℕ) → From (suc k) (first_from (strays ls) (suc k) rest) → From (suc k) (first_from (unheard s qs) (suc k) rest)
          → ((x : Bool) → fault_of (judged_lines s qs ls R (suc k) (b && x) rest) ≡ fault_lines (first_from (strays ls) (suc k) rest) (first_from (unheard s qs) (suc k) rest))
          → fault_of (onward (λ x. judged_lines s qs ls R (suc k) (b && x) rest) (judged_line R k (cond y (Err NodeRef) (cond n (Err NodeRef) (link_asked (target_in ls l.yes) (target_in ls l.no) f)))))
          ≡ fault_lines (cond (y || n) (Some k) (first_from (strays ls) (suc k) rest)) (cond (no_row f) (Some k) (first_from (unheard s qs) (suc k) rest))
      go true n f a u r = sym (fault_node k (here_first (no_row f) u))
      go false true f a u r = sym (fault_node k (here_first (no_row f) u))
      go false false f a u r = asks f a r

  ended_fault : (b : Bool) (j : Result Bool LineFault) → fault_of (ended b j) ≡ fault_of j
  ended_fault b (Ok x) = refl
  ended_fault b (Err r) = refl

-- ---- a tree

module _ (s : List ℕ) (qs : List QuestionPlace) (R : List ℕ) where
  alone_fault : (x : TreeIndex) → fault_of (judged_alone R x) ≡ fault_alone x
  alone_fault (Pdf x) = refl
  alone_fault (Node x) = refl

  single_fault : (ls : List Line) (t : Option TreeIndex) → fault_of (judged_single s qs R ls t) ≡ fault_single s qs ls t
  single_fault ls (Some x) = alone_fault x
  single_fault ls None = ended_fault s qs ls R (leaves_from R _) (judged_lines s qs ls R 0 true ls) ∙ lines_fault s qs ls R 0 true ls

  ending_fault : (ls : List Line) (e : Ending) → fault_of (judged_ending s qs R ls e) ≡ fault_ending s qs ls e
  ending_fault ls (done_at e) = single_fault ls (single_in ls)
  ending_fault ls (broken_at e) = refl

  pub head_fault : (h : TreeHead) → fault_of (judged_head s qs R h) ≡ fault_head s qs h
  unfolding judged_braces fault_braces
  head_fault (head.Lone x r e) = alone_fault r
  head_fault (head.Empty x e) = refl
  head_fault (head.Lines x f) = ending_fault (lines_at s f).items (lines_at s f).ending
  head_fault head.NoTree = refl
