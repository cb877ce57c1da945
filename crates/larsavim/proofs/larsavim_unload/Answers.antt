-- `larsavim::larsavim_unload`: too short, 24, or zeros.
use mathlib.Core.Path.{refl}
use mathlib.Core.Logic.{inl, inr}
use borrow.Author.Tests.{not-true, not-false}
use Rattle.larsavim.specs.Sharing.{UnloadTells}
use Rattle.larsavim.proofs.Sharing.{unload_refused, unload_zeroed}
use Rattle.larsavim.proofs.larsavim_unload.Goals as goal

pub returns-then-held-lt-BOUNDS : goal.returns-then-held-lt-BOUNDS
returns-then-held-lt-BOUNDS c = UnloadTells.no_room (inl c.if-held-lt-BOUNDS.true) refl refl (record { questions = refl; patterns = refl; trees = refl; records = refl; values = refl })

pub returns-then-other-lt-BOUNDS : goal.returns-then-other-lt-BOUNDS
returns-then-other-lt-BOUNDS c = UnloadTells.no_room (inr c.if-other-lt-BOUNDS.true) refl refl (record { questions = refl; patterns = refl; trees = refl; records = refl; values = refl })

pub returns-then-not-unload_said : goal.returns-then-not-unload_said
returns-then-not-unload_said c =
    let a = c.args in
    unload_refused a.side a.held.now a.other.now a.questions.now a.patterns.now a.trees.now a.records.now a.values.now c.if-held-lt-BOUNDS.false c.if-other-lt-BOUNDS.false c.unload_said.ensures (not-true _ c.if-not-unload_said.true-raw)

pub returns : goal.returns
returns c =
    let a = c.args in
    unload_zeroed a.side a.held.now a.other.now a.questions.now a.patterns.now a.trees.now a.records.now a.values.now c.if-held-lt-BOUNDS.false c.if-other-lt-BOUNDS.false c.unload_said.ensures (not-false _ c.if-not-unload_said.false-raw) c.keep_nothing.ensures
