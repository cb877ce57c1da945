-- `face_house::house_said`: too short, or told.
use mathlib.Core.Path.{refl}
use mathlib.Core.Logic.{inl, inr}
use Rattle.face_house.specs.Answers.{HouseTells}
use Rattle.face_house.proofs.house_said.Goals as goal

pub returns-then-out-lt-HOUSE_OUT : goal.returns-then-out-lt-HOUSE_OUT
returns-then-out-lt-HOUSE_OUT c = HouseTells.no_room (inl c.if-out-lt-HOUSE_OUT.true) refl refl refl refl refl

pub returns-then-held-lt-BOUNDS : goal.returns-then-held-lt-BOUNDS
returns-then-held-lt-BOUNDS c = HouseTells.no_room (inr (inl c.if-held-lt-BOUNDS.true)) refl refl refl refl refl

pub returns-then-other-lt-BOUNDS : goal.returns-then-other-lt-BOUNDS
returns-then-other-lt-BOUNDS c = HouseTells.no_room (inr (inr c.if-other-lt-BOUNDS.true)) refl refl refl refl refl

pub returns : goal.returns
returns c = HouseTells.told c.if-out-lt-HOUSE_OUT.false c.if-held-lt-BOUNDS.false c.if-other-lt-BOUNDS.false c.judge_file-said.ensures refl c.put4.ensures (λ k. (c.shared_slice_known-1.given k).fits)
