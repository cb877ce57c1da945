-- `link_alone::link_line`: the first of the three tests that fails, or the line's question and targets.
use mathlib.Core.Path.{◌≡◌, sym, ap, ap₂, ◌∙◌}
use mathlib.Core.Bool.{Bool, true, false, cond}
use mathlib.Core.List.{List}
use Prim.Native.Nat.{ℕ}
use Rattle.std.specs.Prelude.{Err}
use Rattle.std.specs.declared.option.Option.{Option}
use Rattle.written.specs.Said.{QuestionPlace}
use Rattle.error.specs.declared.LinkFault.TheVariants.{NodeRef}
use Rattle.tree_line.specs.declared.Line.{Line}
use Rattle.text_parts.specs.Parts.{part_inside}
use Rattle.link_find.specs.Find.{asked}
use Rattle.link_alone.specs.Alone.{target_in, link_asked, link_of, link_in}
use Rattle.link_fits.specs.Fits.{nowhere}
use Rattle.link_fits.specs.declared.Target.{Target}
use Rattle.link_alone.proofs.link_line.Goals as goal

module _ (s : List ℕ) (qs : List QuestionPlace) (ls : List Line) (l : Line) {y : Target} (p : y ≡ target_in ls l.yes) where
  yes_nowhere : {b : Bool} → b ≡ nowhere y → b ≡ true → Err NodeRef ≡ link_in s qs ls l
  unfolding link_in link_of
  yes_nowhere e h = sym (ap (λ (x : Bool). cond x (Err NodeRef) (cond (nowhere (target_in ls l.no)) (Err NodeRef) (link_asked (target_in ls l.yes) (target_in ls l.no) (asked s (part_inside s l.start l.len) qs)))) (ap nowhere (sym p) ∙ sym e ∙ h))

  module _ {n : Target} (q : n ≡ target_in ls l.no) {b : Bool} (e : b ≡ nowhere y) (h : b ≡ false) where
    past_yes : link_in s qs ls l ≡ cond (nowhere n) (Err NodeRef) (link_asked y n (asked s (part_inside s l.start l.len) qs))
    unfolding link_in link_of
    past_yes =
        ap₂ (λ (u v : Target). link_of u v (asked s (part_inside s l.start l.len) qs)) (sym p) (sym q)
        ∙ ap (λ (x : Bool). cond x (Err NodeRef) (cond (nowhere n) (Err NodeRef) (link_asked y n (asked s (part_inside s l.start l.len) qs)))) (sym e ∙ h)

    no_nowhere : {c : Bool} → c ≡ nowhere n → c ≡ true → Err NodeRef ≡ link_in s qs ls l
    no_nowhere f k = sym (past_yes ∙ ap (λ (x : Bool). cond x (Err NodeRef) (link_asked y n (asked s (part_inside s l.start l.len) qs))) (sym f ∙ k))

    then_asked : {c : Bool} → c ≡ nowhere n → c ≡ false → {r : Option ℕ} {w : List ℕ} → w ≡ part_inside s l.start l.len → r ≡ asked s w qs → link_asked y n r ≡ link_in s qs ls l
    then_asked f k w t =
        ap (link_asked y n) (t ∙ ap (λ (x : List ℕ). asked s x qs) w)
        ∙ sym (past_yes ∙ ap (λ (x : Bool). cond x (Err NodeRef) (link_asked y n (asked s (part_inside s l.start l.len) qs))) (sym f ∙ k))

pub returns-then-is_nowhere : goal.returns-then-is_nowhere
returns-then-is_nowhere c = yes_nowhere _ _ _ _ c.target_of-yes.ensures c.is_nowhere.ensures c.if-is_nowhere.true

pub returns-then-is_nowhere-2 : goal.returns-then-is_nowhere-2
returns-then-is_nowhere-2 c = no_nowhere _ _ _ _ c.target_of-yes.ensures c.target_of-no.ensures c.is_nowhere.ensures c.if-is_nowhere.false c.is_nowhere-2.ensures c.if-is_nowhere-2.true

pub returns-in-Some : goal.returns-in-Some
returns-in-Some c = sym (ap (link_asked _ _) c.in-Some.is) ∙ then_asked _ _ _ _ c.target_of-yes.ensures c.target_of-no.ensures c.is_nowhere.ensures c.if-is_nowhere.false c.is_nowhere-2.ensures c.if-is_nowhere-2.false c.part_inside.ensures c.last_question.ensures

pub returns-in-None : goal.returns-in-None
returns-in-None c = sym (ap (link_asked c.target_of-yes.result c.target_of-no.result) c.in-None.is) ∙ then_asked _ _ _ _ c.target_of-yes.ensures c.target_of-no.ensures c.is_nowhere.ensures c.if-is_nowhere.false c.is_nowhere-2.ensures c.if-is_nowhere-2.false c.part_inside.ensures c.last_question.ensures
