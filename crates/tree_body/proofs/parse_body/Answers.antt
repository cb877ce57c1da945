-- `tree_body::parse_body`: each way out is an arm of `bodyRead`, `bracesRead` or `loneRead`.
use mathlib.Core.Path.{◌≡◌, refl, sym, ap, ap₂, ◌∙◌}
use Prim.Native.Nat.{ℕ}
use lib.IntN.{ℤ}
use Rattle.tree_reference.specs.declared.TreeIndex.{TreeIndex}
use Rattle.laws.proofs.Signed.{back}
use Rattle.tree_body.specs.Trees.{lone_read, braces_read, body_read, body_at}
use Rattle.tree_body.specs.declared.TreeHead.TheVariants.{Lone, Empty, Lines}
use Rattle.tree_body.proofs.parse_body.Goals as goal

alone : {x z : ℤ} {r : TreeIndex} {e : ℕ} → x ≡ z → Lone x r e ≡ Lone z r e
alone {r} {e} p = ap (λ x. Lone x r e) p

pub returns-in-Some-past_brace : goal.returns-in-Some-past_brace
unfolding body_at
returns-in-Some-past_brace c =
    ap₂ Empty (back _ c.ranges.state.sfits) refl
    ∙ ap (braces_read _ _ _) (sym c.in-Some-past_brace.is ∙ c.past_brace.ensures)
    ∙ ap (body_read _ _ _) (sym c.in-Some.is ∙ c.past_byte.ensures)

pub returns-in-None-past_brace : goal.returns-in-None-past_brace
unfolding body_at
returns-in-None-past_brace c =
    ap₂ Lines (back _ c.ranges.state.sfits) c.blank_end.ensures
    ∙ ap (braces_read _ _ _) (sym c.in-None-past_brace.is ∙ c.past_brace.ensures)
    ∙ ap (body_read _ _ _) (sym c.in-Some.is ∙ c.past_byte.ensures)

pub returns-in-Some-parse_tree_index : goal.returns-in-Some-parse_tree_index
unfolding body_at
returns-in-Some-parse_tree_index c =
    alone (back _ c.ranges.state.sfits)
    ∙ ap (lone_read _) (sym c.in-Some-parse_tree_index.is ∙ c.parse_tree_index.ensures)
    ∙ ap (body_read _ _ _) (sym c.in-None.is ∙ c.past_byte.ensures)

pub returns-in-None-parse_tree_index : goal.returns-in-None-parse_tree_index
unfolding body_at
returns-in-None-parse_tree_index c =
    ap (lone_read _) (sym c.in-None-parse_tree_index.is ∙ c.parse_tree_index.ensures)
    ∙ ap (body_read _ _ _) (sym c.in-None.is ∙ c.past_byte.ensures)
