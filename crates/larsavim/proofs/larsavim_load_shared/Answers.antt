-- `larsavim::larsavim_load_shared`: too short, or told.
use mathlib.Core.Path.{refl}
use mathlib.Core.Logic.{inl, inr}
use Rattle.larsavim.specs.Sharing.{LoadShares}
use Rattle.larsavim.proofs.larsavim_load_shared.Goals as goal

pub returns-then-out-lt-LOAD_OUT : goal.returns-then-out-lt-LOAD_OUT
returns-then-out-lt-LOAD_OUT c = LoadShares.no_room (inl c.if-out-lt-LOAD_OUT.true) refl refl refl refl

pub returns-then-held-lt-BOUNDS : goal.returns-then-held-lt-BOUNDS
returns-then-held-lt-BOUNDS c = LoadShares.no_room (inr (inl c.if-held-lt-BOUNDS.true)) refl refl refl refl

pub returns-then-other-lt-BOUNDS : goal.returns-then-other-lt-BOUNDS
returns-then-other-lt-BOUNDS c = LoadShares.no_room (inr (inr c.if-other-lt-BOUNDS.true)) refl refl refl refl

pub returns : goal.returns
returns c = LoadShares.told c.if-out-lt-LOAD_OUT.false c.if-held-lt-BOUNDS.false c.if-other-lt-BOUNDS.false c.shared_said-rows.ensures refl c.keep_rows.ensures c.put_rows.ensures
