-- `link_targets::push_pdf`: by the kind.
use mathlib.Core.Path.{sym, ap, ◌∙◌}
use lib.IntN.{pos}
use lib.ListN.{get_or}
use Prim.Native.Nat.{◌+◌}
use Rattle.laws.proofs.Signed.{back}
use Rattle.text_parts.specs.Parts.{nat_of}
use Rattle.link_targets.proofs.Refs.{pushed_none, pushed_one, room_one}
use Rattle.link_targets.proofs.push_pdf.Goals as goal

pub returns-then-natural-eq0 : goal.returns-then-natural-eq0
returns-then-natural-eq0 c =
    let a = c.args in
    let k = c.natural.ensures ∙ ap nat_of (back (get_or a.work.now a.kind (pos 0)) c.k-1.given) in
    pushed_none _ _ _ _ (sym k ∙ c.if-natural-eq0.true)

pub bounds-rows-at : goal.bounds-rows-at
bounds-rows-at c =
    let a = c.args in
    let k = c.natural.ensures ∙ ap nat_of (back (get_or a.work.now a.kind (pos 0)) c.k-1.given) in
    room_one (get_or a.work.now a.kind (pos 0)) (get_or a.work.now (a.kind + 1) (pos 0)) a.rows.now _ (λ q. c.if-natural-eq0.false (k ∙ q)) c.requires.1

pub returns : goal.returns
returns c =
    let a = c.args in
    let k = c.natural.ensures ∙ ap nat_of (back (get_or a.work.now a.kind (pos 0)) c.k-1.given) in
    pushed_one _ _ _ _ (λ q. c.if-natural-eq0.false (k ∙ q)) _ (c.natural-2.ensures ∙ ap nat_of (back (get_or a.work.now (a.kind + 1) (pos 0)) c.v-1.given))
