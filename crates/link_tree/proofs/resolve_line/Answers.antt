-- `link_tree::resolve_line`: each way out is what the line is found to be.
use mathlib.Core.Path.{sym, ap, ◌∙◌}
use Prim.Native.Nat.{◌+◌, ◌*◌}
use lib.IntN.{pos}
use lib.ListN.{get_or, take, drop}
use Rattle.laws.proofs.Signed.{back}
use Rattle.link_targets.specs.Lines.{line_in}
use Rattle.text_parts.specs.Parts.{nat_of}
use Rattle.link_targets.specs.Targets.{target_of}
use Rattle.link_tree.proofs.Laws.{step_unasked, step_goes, step_no, step_yes_lem}
use Rattle.link_tree.proofs.resolve_line.Goals as goal

pub returns-then-natural-eq0 : goal.returns-then-natural-eq0
returns-then-natural-eq0 c =
    let a = c.args in
    step_unasked (target_of a.work.now a.n (take a.leaves (drop (4 * a.n) a.rows.now))) (line_in a.work.now a.line) c.target.ensures c.in-Some.is c.target-in-Some.ensures c.in-Some-target.is (sym (c.natural.ensures ∙ ap nat_of (back (get_or a.work.now (6 * a.line + 5) (pos 0)) c.q-1.given)) ∙ c.if-natural-eq0.true)

pub returns-else-natural-eq0 : goal.returns-else-natural-eq0
returns-else-natural-eq0 c =
    let a = c.args in
    step_goes (target_of a.work.now a.n (take a.leaves (drop (4 * a.n) a.rows.now))) (line_in a.work.now a.line) c.target.ensures c.in-Some.is c.target-in-Some.ensures c.in-Some-target.is (λ z. c.if-natural-eq0.false ((c.natural.ensures ∙ ap nat_of (back (get_or a.work.now (6 * a.line + 5) (pos 0)) c.q-1.given)) ∙ z))

pub returns-in-None-target : goal.returns-in-None-target
returns-in-None-target c =
    let a = c.args in
    step_no (target_of a.work.now a.n (take a.leaves (drop (4 * a.n) a.rows.now))) (line_in a.work.now a.line) c.target.ensures c.in-Some.is c.target-in-Some.ensures c.in-None-target.is

pub returns-in-None : goal.returns-in-None
returns-in-None c =
    let a = c.args in
    step_yes_lem (target_of a.work.now a.n (take a.leaves (drop (4 * a.n) a.rows.now))) (line_in a.work.now a.line) c.target.ensures c.in-None.is
