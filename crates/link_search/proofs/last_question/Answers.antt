-- `link_search::last_question`: what stands where the index is parted.
use mathlib.Core.Path.{◌≡◌, refl, sym, ap, ◌∙◌}
use mathlib.Core.Bool.{Bool, true, false, cond}
use mathlib.Core.List.{List}
use Prim.Native.Nat.{ℕ}
use native.Mathlib.Omega.{arith}
use borrow.Author.Tests.{ltb-true, ltb-false}
use lib.Dec.{eqb, ltb}
use Rattle.std.specs.declared.cmp.Ordering.TheVariants.{Less, Equal, Greater}
use Rattle.std.specs.declared.cmp.Ordering.{Ordering}
use Rattle.std.specs.declared.option.Option.{Option}
use Rattle.written.specs.Bytes.{same}
use Rattle.link_order.specs.Keys.{name_key, name_at}
use Rattle.link_order.specs.Sides.{side_of}
use Rattle.link_order.proofs.Names.{Small}
use Rattle.link_search.specs.Found.{last_below}
use Rattle.link_search.proofs.Last.{index_falls, index_empty, index_found, index_other, last_ext}
use Rattle.link_search.proofs.Ids.{same_name, name_small}
use Rattle.link_search.proofs.last_question.Goals as goal

-- the answer for the key of a name is that for the name
named :
    (s q name : List ℕ) (n : ℕ) {r : Option ℕ} → Small s → Small name → last_below (λ e. eqb (name_key (name_at s q e)) (name_key name)) n ≡ r
    → r ≡ last_below (λ e. same (name_at s q e) name) n
named s q name n h k e = sym (last_ext (λ e. same (name_at s q e) name) (λ e. eqb (name_key (name_at s q e)) (name_key name)) n (λ m. same_name (name_at s q m) name (name_small s q h m) k) ∙ e)

-- numbers whose side is `Same` are the same, and others are not
abbrev level : Ordering → ℕ
level Less = 0
level Equal = 1
level Greater = 2

alike : (a b : ℕ) → level (side_of a b) ≡ 1 → a ≡ b
unfolding side_of
alike a b e = go (ltb a b) refl (ltb b a) refl e
  where
    go : (x : Bool) → ltb a b ≡ x → (y : Bool) → ltb b a ≡ y → level (cond x Less (cond y Greater Equal)) ≡ 1 → a ≡ b
    go true p y q h = absurd (omega arith)
    go false p true q h = absurd (omega arith)
    go false p false q h = omega (arith, ltb-false a b p, ltb-false b a q)

unlike : (a b : ℕ) → (level (side_of a b) ≡ 1 → ⊥) → a ≡ b → ⊥
unfolding side_of
unlike a b d e = d (go (ltb a b) refl (ltb b a) refl)
  where
    go : (x : Bool) → ltb a b ≡ x → (y : Bool) → ltb b a ≡ y → level (cond x Less (cond y Greater Equal)) ≡ 1
    go true p y q = absurd (omega (arith, ltb-true a b p))
    go false p true q = absurd (omega (arith, ltb-true b a q))
    go false p false q = refl

pub after_name-after-requires : goal.after_name-after-requires
after_name-after-requires c =
    let a = c.args in
    let i = c.requires in
    index_falls (λ e. name_key (name_at a.s.now a.questions.now e)) a.index.now i (omega arith) _

pub returns-then-after-eq0 : goal.returns-then-after-eq0
returns-then-after-eq0 c =
    let a = c.args in
    let i = c.requires in
    named a.s.now a.questions.now a.name.now _ (λ k. (c.shared_slice_known-1.given k).fits) (λ k. (c.shared_slice_known-4-1.given k).fits) (index_empty (λ e. name_key (name_at a.s.now a.questions.now e)) a.index.now i (omega arith) _ _ c.after_name-after.ensures c.if-after-eq0.true)

pub returns-in-Equal : goal.returns-in-Equal
returns-in-Equal c =
    let a = c.args in
    let i = c.requires in
    named a.s.now a.questions.now a.name.now _ (λ k. (c.shared_slice_known-1.given k).fits) (λ k. (c.shared_slice_known-4-1.given k).fits) (index_found (λ e. name_key (name_at a.s.now a.questions.now e)) a.index.now i (omega arith) _ _ c.after_name-after.ensures (omega (arith, c.if-after-eq0.false)) (ap name_key (sym c.name_of.ensures) ∙ alike _ _ (ap level (sym c.compare_names.ensures ∙ c.in-Equal.is))))

pub returns-in-Less : goal.returns-in-Less
returns-in-Less c =
    let a = c.args in
    let i = c.requires in
    named a.s.now a.questions.now a.name.now _ (λ k. (c.shared_slice_known-1.given k).fits) (λ k. (c.shared_slice_known-4-1.given k).fits) (index_other (λ e. name_key (name_at a.s.now a.questions.now e)) a.index.now i (omega arith) _ _ c.after_name-after.ensures (omega (arith, c.if-after-eq0.false)) (λ q. unlike _ _ (λ u. omega (arith, ap level (sym c.compare_names.ensures ∙ c.in-Less.is))) (ap name_key c.name_of.ensures ∙ q)))

pub returns-in-Greater : goal.returns-in-Greater
returns-in-Greater c =
    let a = c.args in
    let i = c.requires in
    named a.s.now a.questions.now a.name.now _ (λ k. (c.shared_slice_known-1.given k).fits) (λ k. (c.shared_slice_known-4-1.given k).fits) (index_other (λ e. name_key (name_at a.s.now a.questions.now e)) a.index.now i (omega arith) _ _ c.after_name-after.ensures (omega (arith, c.if-after-eq0.false)) (λ q. unlike _ _ (λ u. omega (arith, ap level (sym c.compare_names.ensures ∙ c.in-Greater.is))) (ap name_key c.name_of.ensures ∙ q)))
