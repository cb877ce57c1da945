-- `house_model::judge_model` meets its contract.
use mathlib.Core.Path.{refl}
use borrow.Author.Tests.{not-true, not-false}
use Rattle.house_model.proofs.Laws.{names_room, leaves_room, patterns_back, other_ids, other_names, other_leaves, other_means, other_variances, no_other}
use Rattle.house_model.proofs.judge_model.Goals as goal

pub returns-then-not-ids_run : goal.returns-then-not-ids_run
returns-then-not-ids_run c =
    let a = c.args in
    (other_ids a.d.now a.p a.questions.now a.trees.now a.values.now c.up_to-s.ensures c.ids_run.ensures (not-true _ c.if-not-ids_run.true-raw), refl)

pub names_once-requires : goal.names_once-requires
names_once-requires c = names_room c.requires c.up_to-s.ensures

pub returns-then-not-names_once : goal.returns-then-not-names_once
returns-then-not-names_once c =
    let a = c.args in
    (other_names a.d.now a.p a.questions.now a.trees.now a.values.now c.up_to-s.ensures c.ids_run.ensures (not-false _ c.if-not-ids_run.false-raw) c.names_once.ensures.0 (not-true _ c.if-not-names_once.true-raw), patterns_back c.requires c.up_to-s.ensures c.names_once.ensures.1)

pub leaves_run-requires : goal.leaves_run-requires
leaves_run-requires c = leaves_room c.requires c.up_to-s.ensures c.args.trees.now refl

pub returns-then-not-leaves_run : goal.returns-then-not-leaves_run
returns-then-not-leaves_run c =
    let a = c.args in
    (other_leaves a.d.now a.p a.questions.now a.trees.now a.values.now c.up_to-s.ensures c.ids_run.ensures (not-false _ c.if-not-ids_run.false-raw) c.names_once.ensures.0 (not-false _ c.if-not-names_once.false-raw) c.leaves_run.ensures (not-true _ c.if-not-leaves_run.true-raw), patterns_back c.requires c.up_to-s.ensures c.names_once.ensures.1)

pub returns-then-not-values_good : goal.returns-then-not-values_good
returns-then-not-values_good c =
    let a = c.args in
    (other_means a.d.now a.p a.questions.now a.trees.now a.values.now c.up_to-s.ensures c.ids_run.ensures (not-false _ c.if-not-ids_run.false-raw) c.names_once.ensures.0 (not-false _ c.if-not-names_once.false-raw) c.leaves_run.ensures (not-false _ c.if-not-leaves_run.false-raw) c.values_good.ensures (not-true _ c.if-not-values_good.true-raw), patterns_back c.requires c.up_to-s.ensures c.names_once.ensures.1)

pub returns-then-not-values_good-2 : goal.returns-then-not-values_good-2
returns-then-not-values_good-2 c =
    let a = c.args in
    (other_variances a.d.now a.p a.questions.now a.trees.now a.values.now c.up_to-s.ensures c.ids_run.ensures (not-false _ c.if-not-ids_run.false-raw) c.names_once.ensures.0 (not-false _ c.if-not-names_once.false-raw) c.leaves_run.ensures (not-false _ c.if-not-leaves_run.false-raw) c.values_good.ensures (not-false _ c.if-not-values_good.false-raw) c.values_good-2.ensures (not-true _ c.if-not-values_good-2.true-raw), patterns_back c.requires c.up_to-s.ensures c.names_once.ensures.1)

pub returns : goal.returns
returns c =
    let a = c.args in
    (no_other a.d.now a.p a.questions.now a.trees.now a.values.now c.up_to-s.ensures c.ids_run.ensures (not-false _ c.if-not-ids_run.false-raw) c.names_once.ensures.0 (not-false _ c.if-not-names_once.false-raw) c.leaves_run.ensures (not-false _ c.if-not-leaves_run.false-raw) c.values_good.ensures (not-false _ c.if-not-values_good.false-raw) c.values_good-2.ensures (not-false _ c.if-not-values_good-2.false-raw), patterns_back c.requires c.up_to-s.ensures c.names_once.ensures.1)
