-- `head_fields::name_index`: the names passed and the number of the key among those left give the answer in each turn.
use mathlib.Core.Path.{sym, ◌∙◌}
use Rattle.head_fields.proofs.Listed.{more_same, more_differs, more_past, seeking_none, seeking_here, seeking_next, seeking_on, seeking_end}
use Rattle.head_fields.proofs.name_index.Goals.{then-b-eq32+else-same-w, else-b-eq32+then-same-w-2+then-b-w, else-b-eq32+else-same-w-2, else-same-w-2-via-then-same-w-2+else-b-w, else-same-w-2-via-else-same-w-2}
use Rattle.head_fields.proofs.name_index.Goals as goal

pub loop-b-init : goal.loop-b-init
loop-b-init c = seeking_none _ _

pub returns-then-same-w : goal.returns-then-same-w
returns-then-same-w c = seeking_here _ _ _ _ _ c.loop-b.invariant c.loop-b-test.true c.if-b-eq32.true c.if-same-w.true

pub loop-b-preserved : goal.loop-b-preserved
loop-b-preserved c =
    let k = c.loop-b.invariant in
    let h = c.loop-b-test.true in
    elim c.if-b-eq32.branch [
      | then-b-eq32+else-same-w v ↦ seeking_next _ _ _ _ _ k h v.if-b-eq32.true v.if-same-w.false _ _ v.name-is v.same-is
      | else-b-eq32+then-same-w-2+then-b-w v ↦ seeking_on _ _ _ _ _ k h v.if-b-eq32.false _ _ v.name-is (v.same-is ∙ sym (more_same _ _ _ v.if-same-w-2.true v.if-b-w.true-raw))
      | else-b-eq32+else-same-w-2 v ↦ elim v.else-same-w-2.branch [
        | else-same-w-2-via-then-same-w-2+else-b-w u ↦ seeking_on _ _ _ _ _ k h v.if-b-eq32.false _ _ v.name-is (v.same-is ∙ sym (more_differs _ _ _ u.if-same-w-2.true u.if-b-w.false-raw))
        | else-same-w-2-via-else-same-w-2 u ↦ seeking_on _ _ _ _ _ k h v.if-b-eq32.false _ _ v.name-is (v.same-is ∙ sym (more_past _ _ _ u.if-same-w-2.false))
      ]
    ]

pub returns : goal.returns
returns c = seeking_end _ _ _ _ _ c.loop-b.invariant c.loop-b-test.false
