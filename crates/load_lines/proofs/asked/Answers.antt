-- `load_lines::asked` meets its contract.
use mathlib.Core.Path.{◌≡◌, sym, ap, ◌∙◌}
use mathlib.Core.List.{List}
use Prim.Native.Nat.{ℕ}
use native.Mathlib.Omega.{arith}
use mir.Syntax.{w64}
use mir.ValLaws.{to_z_pos}
use Rattle.std.specs.declared.option.Option.{Option}
use Rattle.written.specs.Bytes.{same}
use Rattle.link_order.specs.Keys.{name_at}
use Rattle.text_parts.specs.Parts.{part_inside}
use Rattle.link_search.specs.Found.{last_below}
use Rattle.link_search.proofs.Last.{last_inside}
use Rattle.load_lines.specs.Words.{asked_of, asked_at}
use Rattle.load_lines.proofs.asked.Goals as goal

-- the answer of the search, for the name that stands in the text
of : (s q : List ℕ) (n start len : ℕ) {name : List ℕ} {r k : Option ℕ} → r ≡ last_below (λ e. same (name_at s q e) name) n → name ≡ part_inside s start len → r ≡ k → asked_of k ≡ asked_at s q n start len
unfolding asked_at
of s q n start len e p t = ap asked_of (sym t ∙ e) ∙ ap (λ (x : List ℕ). asked_of (last_below (λ e. same (name_at s q e) x) n)) p

pub overflow_add-result : goal.overflow_add-result
overflow_add-result c = omega (arith, last_inside _ _ _ (sym c.last_question.ensures ∙ c.in-Some.is), c.requires)

pub overflow_cast-result : goal.overflow_cast-result
overflow_cast-result c = omega (arith, last_inside _ _ _ (sym c.last_question.ensures ∙ c.in-Some.is), c.requires)

pub returns-in-Some : goal.returns-in-Some
returns-in-Some c = to_z_pos w64 _ (omega (arith, last_inside _ _ _ (sym c.last_question.ensures ∙ c.in-Some.is), c.requires.1)) ∙ of _ _ _ _ _ c.last_question.ensures c.part_inside.ensures c.in-Some.is

pub returns-in-None : goal.returns-in-None
returns-in-None c = of _ _ _ _ _ c.last_question.ensures c.part_inside.ensures c.in-None.is
