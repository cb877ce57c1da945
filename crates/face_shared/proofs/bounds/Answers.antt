-- `face_shared::bounds`: number by number.
use mathlib.Core.Path.{refl}
use lib.ListN.{get_or}
use Rattle.face_shared.proofs.Laws.{bounds_are}
use Rattle.face_shared.proofs.bounds.Goals as goal

pub returns : goal.returns
returns c = bounds_are c.args.l.now (record { questions = get_or c.args.l.now 0 0; patterns = get_or c.args.l.now 1 0; trees = get_or c.args.l.now 2 0; records = get_or c.args.l.now 3 0; values = get_or c.args.l.now 4 0 }) refl refl refl refl refl
