-- `larsavim::larsavim_depth`: too short, or told.
use mathlib.Core.Path.{refl}
use Rattle.larsavim.specs.Depths.{DepthTells}
use Rattle.larsavim.proofs.larsavim_depth.Goals as goal

pub returns-then-out-lt-DEPTH_OUT : goal.returns-then-out-lt-DEPTH_OUT
returns-then-out-lt-DEPTH_OUT c = DepthTells.no_room c.if-out-lt-DEPTH_OUT.true refl refl refl

pub returns : goal.returns
returns c =
    DepthTells.told c.if-out-lt-DEPTH_OUT.false c.depth_said-depth.ensures refl c.put3.ensures
